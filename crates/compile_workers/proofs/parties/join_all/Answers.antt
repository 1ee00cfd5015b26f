use Rattle.std.proofs.Common.{◌++◌, ◌∷◌, ◌<◌, [], arith, rules, vec_len}
use Rattle.compile_workers.proofs.Placing.{joining_done, joining_first, joining_more, rest_open}
use Rattle.compile_workers.proofs.parties.join_all.Goals as goal

pub joining-init : goal.joining-init
joining-init c = (
  c.remove-pass.result ∷ [],
  joining_first c.args.office.now c.args.passes.items c.remove-pass.new.self.items c.remove-pass.result c.requires
      c.remove-pass.ensures.value c.remove-pass.ensures.items,
)

pub joining-preserved : goal.joining-preserved
joining-preserved c = (
  c.joining.invariant.0 ++ c.remove-other.result ∷ [],
  joining_more c.args.office.now c.args.passes.items c.joining.invariant.0 c.joining.rest.items c.remove-other.new.self.items
      c.joining.pass c.remove-other.result c.join-pass.result (search rules) c.joining.invariant.1 c.remove-other.ensures.value
      c.remove-other.ensures.items c.join-pass.ensures.joined c.join-pass.ensures.begins.0 c.join-pass.ensures.begins.1
      c.join-pass.ensures.own,
)

pub returns : goal.returns
returns c =
    joining_done c.args.office.now c.args.passes.items c.joining.invariant.0 c.joining.rest.items c.joining.pass (search rules)
    c.joining.invariant.1

pub join-pass-requires-clause-first : goal.join-pass-requires-clause-first
join-pass-requires-clause-first c = c.joining.invariant.1.of_lock

pub join-pass-requires-clause-second : goal.join-pass-requires-clause-second
join-pass-requires-clause-second c =
    rest_open c.args.office.now c.joining.rest.items c.remove-other.result (search rules) c.remove-other.ensures.value
    c.joining.invariant.1.rest_open

pub joining-smaller : goal.joining-smaller
joining-smaller c =
    let some : 0 < vec_len c.joining.rest = search rules in
    let less : vec_len c.remove-other.new.self < vec_len c.joining.rest =
    omega (arith, some, c.remove-other.ensures.len) in less
