-- A solver for identities of sums, products and negatives of integers, by reflection: `same_by_ring values left right refl`
-- proves `eval values left ≡ eval values right` wherever the two terms are one polynomial.
use Rattle.std.specs.Prelude.{◌≡◌, ℕ, ℤ, pos, negsuc, ◌+ℤ◌, ◌*ℤ◌, neg_ℤ, Bool, true, false, List, [], ◌∷◌, ◌==◌, nat_lt}
use Rattle.std.proofs.Common.{refl, sym, ◌∙◌, ap, arith, zero, suc}
use Rattle.std.proofs.Math.IntN.{*ℤ_comm}
use Rattle.ratio_arith.proofs.Linear.{linear, literal_product}
use Rattle.ratio_arith.proofs.Products.{*ℤ_assoc, *ℤ-+ℤ, neg_ℤ-*ℤ}

infixl 6 ◌⊕◌ ◌⊖◌
infixl 7 ◌⊗◌
-- a term over numbered variables
pub data Term : Type 0 where
  var : ℕ → Term
  num : ℤ → Term
  ◌⊕◌ : Term → Term → Term
  ◌⊗◌ : Term → Term → Term
  neg : Term → Term

abbrev pub ◌⊖◌ : Term → Term → Term
a ⊖ b = a ⊕ neg b

-- the number that stands for a variable, 0 past the list's end
abbrev pub value_at : List ℤ → ℕ → ℤ
value_at [] i = pos 0
value_at (x ∷ xs) zero = x
value_at (x ∷ xs) (suc i) = value_at xs i

-- what a term is worth
abbrev pub eval : List ℤ → Term → ℤ
eval values (var i) = value_at values i
eval values (num z) = z
eval values (a ⊕ b) = eval values a +ℤ eval values b
eval values (a ⊗ b) = eval values a *ℤ eval values b
eval values (neg a) = neg_ℤ (eval values a)

-- a coefficient times a product of variables, which stand in order
pub record Monomial : Type 0 where
  pub factor : ℤ
  pub variables : List ℕ

-- ---- the polynomial of a term

abbrev place : ℕ → List ℕ → List ℕ
place v [] = v ∷ []
place v (w ∷ ws) = elim (nat_lt w v) [ true ↦ w ∷ place v ws | false ↦ v ∷ w ∷ ws ]

abbrev merge : List ℕ → List ℕ → List ℕ
merge [] ws = ws
merge (v ∷ vs) ws = place v (merge vs ws)

abbrev same_variables : List ℕ → List ℕ → Bool
same_variables [] [] = true
same_variables [] (w ∷ ws) = false
same_variables (v ∷ vs) [] = false
same_variables (v ∷ vs) (w ∷ ws) = elim (v == w) [ true ↦ same_variables vs ws | false ↦ false ]

abbrev add_monomial : Monomial → List Monomial → List Monomial
add_monomial m [] = m ∷ []
add_monomial m (n ∷ p) = elim (same_variables m.variables n.variables) [ true ↦ record { factor = m.factor +ℤ n.factor; variables = n.variables } ∷ p | false ↦ n ∷ add_monomial m p ]

abbrev add_all : List Monomial → List Monomial → List Monomial
add_all [] q = q
add_all (m ∷ p) q = add_monomial m (add_all p q)

abbrev times_monomial : Monomial → List Monomial → List Monomial
times_monomial m [] = []
times_monomial m (n ∷ p) = record { factor = m.factor *ℤ n.factor; variables = merge m.variables n.variables } ∷ times_monomial m p

abbrev times_all : List Monomial → List Monomial → List Monomial
times_all [] q = []
times_all (m ∷ p) q = add_all (times_monomial m q) (times_all p q)

abbrev negate_all : List Monomial → List Monomial
negate_all [] = []
negate_all (m ∷ p) = record { factor = neg_ℤ m.factor; variables = m.variables } ∷ negate_all p

abbrev polynomial : Term → List Monomial
polynomial (var i) = record { factor = pos 1; variables = i ∷ [] } ∷ []
polynomial (num z) = record { factor = z; variables = [] } ∷ []
polynomial (a ⊕ b) = add_all (polynomial a) (polynomial b)
polynomial (a ⊗ b) = times_all (polynomial a) (polynomial b)
polynomial (neg a) = negate_all (polynomial a)

abbrev is_nothing : ℤ → Bool
is_nothing (pos zero) = true
is_nothing (pos (suc n)) = false
is_nothing (negsuc n) = false

abbrev all_nothing : List Monomial → Bool
all_nothing [] = true
all_nothing (m ∷ p) = elim (is_nothing m.factor) [ true ↦ all_nothing p | false ↦ false ]

-- the two terms are one polynomial
abbrev pub is_same : Term → Term → Bool
is_same left right = all_nothing (polynomial (left ⊖ right))

-- ---- what a polynomial is worth

abbrev product_of : List ℤ → List ℕ → ℤ
product_of values [] = pos 1
product_of values (v ∷ vs) = value_at values v *ℤ product_of values vs

abbrev worth : List ℤ → Monomial → ℤ
worth values m = m.factor *ℤ product_of values m.variables

abbrev total : List ℤ → List Monomial → ℤ
total values [] = pos 0
total values (m ∷ p) = worth values m +ℤ total values p

-- two factors may change places within a product of three
swap_factors : (a b c : ℤ) → a *ℤ (b *ℤ c) ≡ b *ℤ (a *ℤ c)
swap_factors a b c = sym (*ℤ_assoc a b c) ∙ ap (λ u. u *ℤ c) (*ℤ_comm a b) ∙ *ℤ_assoc b a c

-- the product of two products, regrouped
regroup : (a b c d : ℤ) → (a *ℤ b) *ℤ (c *ℤ d) ≡ (a *ℤ c) *ℤ (b *ℤ d)
regroup a b c d = *ℤ_assoc a b (c *ℤ d) ∙ ap (λ u. a *ℤ u) (swap_factors b c d) ∙ sym (*ℤ_assoc a c (b *ℤ d))

-- a sum times a number
sum-*ℤ : (a b c : ℤ) → (a +ℤ b) *ℤ c ≡ a *ℤ c +ℤ b *ℤ c
sum-*ℤ a b c = omega (arith, linear, *ℤ_comm (a +ℤ b) c, *ℤ_comm a c, *ℤ_comm b c, *ℤ-+ℤ c a b)

product_of-place : (values : List ℤ) (v : ℕ) (ws : List ℕ) → product_of values (place v ws) ≡ value_at values v *ℤ product_of values ws
product_of-place values v [] = refl
product_of-place values v (w ∷ ws) = by (nat_lt w v) (product_of-place values v ws)
  where
    by : (t : Bool) → product_of values (place v ws) ≡ value_at values v *ℤ product_of values ws → product_of values (elim t [ true ↦ w ∷ place v ws | false ↦ v ∷ w ∷ ws ]) ≡ value_at values v *ℤ (value_at values w *ℤ product_of values ws)
    by true e = ap (λ u. value_at values w *ℤ u) e ∙ swap_factors (value_at values w) (value_at values v) (product_of values ws)
    by false e = refl

one-*ℤ : (a : ℤ) → pos 1 *ℤ a ≡ a
one-*ℤ a = omega (arith, linear, literal_product 1 a)

product_of-merge : (values : List ℤ) (vs ws : List ℕ) → product_of values (merge vs ws) ≡ product_of values vs *ℤ product_of values ws
product_of-merge values [] ws = sym (one-*ℤ (product_of values ws))
product_of-merge values (v ∷ vs) ws = product_of-place values v (merge vs ws) ∙ ap (λ u. value_at values v *ℤ u) (product_of-merge values vs ws) ∙ sym (*ℤ_assoc (value_at values v) (product_of values vs) (product_of values ws))

same_variables-true : (vs ws : List ℕ) → same_variables vs ws ≡ true → vs ≡ ws
same_variables-true [] [] e = refl
same_variables-true [] (w ∷ ws) e = cc
same_variables-true (v ∷ vs) [] e = cc
same_variables-true (v ∷ vs) (w ∷ ws) e = by (v == w) refl e (same_variables-true vs ws)
  where
    by : (t : Bool) → (v == w) ≡ t → elim t [ true ↦ same_variables vs ws | false ↦ false ] ≡ true → (same_variables vs ws ≡ true → vs ≡ ws) → (v ∷ vs) ≡ (w ∷ ws)
    by true same rest more = let head : v ≡ w = grind (arith, same) in let tail : vs ≡ ws = more rest in cc
    by false same rest more = cc

total-add_monomial : (values : List ℤ) (m : Monomial) (p : List Monomial) → total values (add_monomial m p) ≡ worth values m +ℤ total values p
total-add_monomial values m [] = refl
total-add_monomial values m (n ∷ p) = by (same_variables m.variables n.variables) refl (total-add_monomial values m p)
  where
    by : (t : Bool) → same_variables m.variables n.variables ≡ t → total values (add_monomial m p) ≡ worth values m +ℤ total values p → total values (elim t [ true ↦ record { factor = m.factor +ℤ n.factor; variables = n.variables } ∷ p | false ↦ n ∷ add_monomial m p ]) ≡ worth values m +ℤ (worth values n +ℤ total values p)
    by true same more =
        let variables = same_variables-true m.variables n.variables same in
        let left : m.factor *ℤ product_of values m.variables ≡ m.factor *ℤ product_of values n.variables = ap (λ u. m.factor *ℤ product_of values u) variables in
        omega (arith, linear, left, sum-*ℤ m.factor n.factor (product_of values n.variables))
    by false same more = omega (arith, linear, more)

total-add_all : (values : List ℤ) (p q : List Monomial) → total values (add_all p q) ≡ total values p +ℤ total values q
total-add_all values [] q = omega (arith, linear)
total-add_all values (m ∷ p) q = omega (arith, linear, total-add_monomial values m (add_all p q), total-add_all values p q)

total-times_monomial : (values : List ℤ) (m : Monomial) (p : List Monomial) → total values (times_monomial m p) ≡ worth values m *ℤ total values p
total-times_monomial values m [] = omega (arith, linear, literal_product 0 (worth values m), *ℤ_comm (worth values m) (pos 0))
total-times_monomial values m (n ∷ p) =
    let merged = ap (λ u. (m.factor *ℤ n.factor) *ℤ u) (product_of-merge values m.variables n.variables) in
    let apart = regroup m.factor n.factor (product_of values m.variables) (product_of values n.variables) in
    omega (arith, linear, merged, apart, total-times_monomial values m p, *ℤ-+ℤ (worth values m) (worth values n) (total values p))

total-times_all : (values : List ℤ) (p q : List Monomial) → total values (times_all p q) ≡ total values p *ℤ total values q
total-times_all values [] q = omega (arith, linear, literal_product 0 (total values q))
total-times_all values (m ∷ p) q = omega (arith, linear, total-add_all values (times_monomial m q) (times_all p q), total-times_monomial values m q, total-times_all values p q, sum-*ℤ (worth values m) (total values p) (total values q))

total-negate_all : (values : List ℤ) (p : List Monomial) → total values (negate_all p) ≡ neg_ℤ (total values p)
total-negate_all values [] = refl
total-negate_all values (m ∷ p) = omega (arith, linear, neg_ℤ-*ℤ m.factor (product_of values m.variables), total-negate_all values p)

-- the polynomial of a term is worth what the term is
total-polynomial : (values : List ℤ) (t : Term) → total values (polynomial t) ≡ eval values t
total-polynomial values (var i) = omega (arith, linear, one-*ℤ (value_at values i *ℤ pos 1), *ℤ_comm (value_at values i) (pos 1), one-*ℤ (value_at values i))
total-polynomial values (num z) = omega (arith, linear, *ℤ_comm z (pos 1), one-*ℤ z)
total-polynomial values (a ⊕ b) = omega (arith, linear, total-add_all values (polynomial a) (polynomial b), total-polynomial values a, total-polynomial values b)
total-polynomial values (a ⊗ b) =
    let left = total-polynomial values a in
    let right = total-polynomial values b in
    total-times_all values (polynomial a) (polynomial b) ∙ ap (λ u. u *ℤ total values (polynomial b)) left ∙ ap (λ u. eval values a *ℤ u) right
total-polynomial values (neg a) = total-negate_all values (polynomial a) ∙ ap neg_ℤ (total-polynomial values a)

is_nothing-true : (z : ℤ) → is_nothing z ≡ true → z ≡ pos 0
is_nothing-true (pos zero) e = refl
is_nothing-true (pos (suc n)) e = cc
is_nothing-true (negsuc n) e = cc

total-nothing : (values : List ℤ) (p : List Monomial) → all_nothing p ≡ true → total values p ≡ pos 0
total-nothing values [] e = refl
total-nothing values (m ∷ p) e = by (is_nothing m.factor) refl e (total-nothing values p)
  where
    by : (t : Bool) → is_nothing m.factor ≡ t → elim t [ true ↦ all_nothing p | false ↦ false ] ≡ true → (all_nothing p ≡ true → total values p ≡ pos 0) → worth values m +ℤ total values p ≡ pos 0
    by true none rest more =
        let left : m.factor *ℤ product_of values m.variables ≡ pos 0 *ℤ product_of values m.variables = ap (λ u. u *ℤ product_of values m.variables) (is_nothing-true m.factor none) in
        omega (arith, linear, left, literal_product 0 (product_of values m.variables), more rest)
    by false none rest more = cc

-- an identity of integers: two terms that are one polynomial are worth the same
pub same_by_ring : (values : List ℤ) (left right : Term) → is_same left right ≡ true → eval values left ≡ eval values right
same_by_ring values left right e =
    let nothing = total-nothing values (polynomial (left ⊖ right)) e in
    omega (arith, linear, nothing, total-polynomial values (left ⊖ right))
