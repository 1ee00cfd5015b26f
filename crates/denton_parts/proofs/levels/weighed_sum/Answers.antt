use Rattle.std.proofs.Common.{arith, ◌≡◌, ◌≤◌, ◌*◌, ◌^◌, pos, ◌*ℤ◌, unsigned_abs}
use Rattle.std.proofs.lemmas.Int.{to_z-of_z}
use Rattle.denton_parts.proofs.Machine.{machine}
use Rattle.denton_parts.proofs.levels.weighed_sum.Goals as goal

-- the three products, and how large they are
pub record Products (c : goal.After-sized_product-2) : Type 0 where
  first : c.sized_product-one.result ≡ pos c.args.i1 *ℤ c.args.first
  second : c.sized_product.result ≡ pos c.args.i2 *ℤ c.args.second
  third : c.sized_product-2.result ≡ pos c.args.i3 *ℤ c.args.third
  first_size : unsigned_abs c.sized_product-one.result ≤ 10 ^ 24
  second_size : unsigned_abs c.sized_product.result ≤ 2 * 10 ^ 24
  third_size : unsigned_abs c.sized_product-2.result ≤ 3 * 10 ^ 24

products : (c : goal.After-sized_product-2) → Products c
products c = record {
  first = grind (arith, to_z-of_z);
  second = grind (arith, to_z-of_z);
  third = grind (arith, to_z-of_z);
  first_size = grind (arith, to_z-of_z);
  second_size = grind (arith, to_z-of_z);
  third_size = grind (arith, to_z-of_z);
}

pub overflow_add-result : goal.overflow_add-result
overflow_add-result c = let known = products c in omega (arith, machine)

pub returns-clause-value : goal.returns-clause-value
returns-clause-value c = let known = products c in omega (arith, machine)

pub returns-clause-size : goal.returns-clause-size
returns-clause-size c = let known = products c in omega (arith, machine)
