use Rattle.std.proofs.Common.{◌≡◌, ◌≤◌, arith, length, refl, rules}
use Rattle.compile_workers.proofs.Placing.{mapped_few, mapped_last, mapped_same, placed_desk, placed_none, placed_worker}
use Rattle.compile_workers.proofs.Placing.{popped_one, put_passes, put_places}
use Rattle.compile_workers.proofs.parties.place_all.Goals as goal

pub workers-init : goal.workers-init
workers-init g c = (rw c.requires.empty (placed_none c.args.passes.items _), search rules, search rules, refl)

-- one more worker
pub workers-preserved : goal.workers-preserved
workers-preserved g c =
    let passes = put_passes c.workers.passes.items c.put_party.new.passes.items _ _ _ c.put_party.ensures.put in
    let places = put_places _ _ _ c.workers.parties.items c.put_party.new.parties.items c.put_party.ensures.put in
    let few : length c.args.desks.now.items ≤ length c.put_party.new.passes.items =
    omega (
      arith,
      passes,
      c.workers-test.true,
      c.len.ensures,
      c.len-in-workers.ensures,
      c.args.desks.now.ok,
      c.workers.passes.ok,
    ) in (
      placed_worker c.workers.passes.items c.put_party.new.passes.items _ c.workers.parties.items
          c.put_party.new.parties.items _ c.put_party.ensures.put (mapped_few _ c.args.desks.now.items _ few)
          c.workers.invariant.0,
      omega (arith, few, c.args.desks.now.ok, c.put_party.new.passes.ok),
      omega (
        arith,
        passes,
        places,
        c.workers.invariant.2,
        c.put_party.ensures.room,
        c.workers.passes.ok,
        c.workers.parties.ok,
        c.put_party.new.passes.ok,
        c.put_party.new.parties.ok,
      ),
      c.workers.invariant.3,
    )

-- one more desk, the last of those that are left
pub desks-preserved : goal.desks-preserved
desks-preserved g c =
    let puts = c.put_party-in-Some.ensures.put in
    let passes = put_passes c.desks.passes.items c.put_party-in-Some.new.passes.items _ _ _ puts in
    let places = put_places _ _ _ c.desks.parties.items c.put_party-in-Some.new.parties.items puts in
    let one = popped_one c.desks.desks.items c.pop.new.self.items c.pop.result c.in-Some.ends c.pop.ensures.items
    c.in-Some.is in
    let same : length c.pop.new.self.items ≡ length c.put_party-in-Some.new.passes.items =
    omega (arith, passes, one, c.desks.invariant.1, c.desks.desks.ok, c.desks.passes.ok) in (
      placed_desk c.desks.passes.items c.put_party-in-Some.new.passes.items _ _ _ c.desks.parties.items
          c.put_party-in-Some.new.parties.items _
          (mapped_last _ c.desks.desks.items c.pop.new.self.items c.pop.result c.in-Some.ends c.pop.ensures.items
          c.in-Some.is)
          puts (mapped_same _ c.pop.new.self.items _ same) c.desks.invariant.0,
      omega (arith, same, c.pop.new.self.ok, c.put_party-in-Some.new.passes.ok),
      omega (
        arith,
        passes,
        places,
        c.desks.invariant.2,
        c.put_party-in-Some.ensures.room,
        c.desks.passes.ok,
        c.desks.parties.ok,
        c.put_party-in-Some.new.passes.ok,
        c.put_party-in-Some.new.parties.ok,
      ),
      search rules,
    )
