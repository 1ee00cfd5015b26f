use Rattle.std.proofs.Common.{◌≡◌, ◌<◌, ◌-◌, suc, refl, arith, subst, sym, length}
use Rattle.std.specs.Prelude.{All}
use Rattle.series_tables.specs.declared.input.Input.{Input}
use Rattle.accounts_history.specs.History.{inputs_of}
use Rattle.accounts_history.proofs.Marking.{entry_fits, marked_all, marked_more, not_first}
use Rattle.accounts_history.proofs.naming.mark_last.Goals as goal

pub mark-left-requires : goal.mark-left-requires
mark-left-requires c =
    let marked = c.loop-left.invariant in
    let some = not_first c.args.history.now c.args.count (length c.args.flags.now) c.loop-left.place c.loop-left.left c.loop-left.flags marked c.loop-left-test.true in
    let all : All (λ (input : Input). input.leaf < length c.loop-left.flags) (inputs_of c.args.history.now) =
    subst (λ n. All (λ (input : Input). input.leaf < n) (inputs_of c.args.history.now)) (sym marked.all) c.requires.leaves in
    record { leaf = entry_fits (λ (input : Input). input.leaf < length c.loop-left.flags) c.args.history.now (c.loop-left.place - 1) _ _ (omega (arith, marked.within, some)) refl all }

pub loop-left-preserved : goal.loop-left-preserved
loop-left-preserved c =
    let marked = c.loop-left.invariant in
    let some = not_first c.args.history.now c.args.count (length c.args.flags.now) c.loop-left.place c.loop-left.left c.loop-left.flags marked c.loop-left-test.true in
    let following : c.loop-left.place ≡ suc (c.loop-left.place - 1) = omega (arith, some) in
    marked_more c.args.history.now c.args.count (length c.args.flags.now) c.loop-left.place (c.loop-left.place - 1) c.loop-left.left c.mark-left.result
    c.loop-left.flags c.mark-left.new.flags _ _ marked c.loop-left-test.true following refl c.mark-left.ensures.count c.mark-left.ensures.all c.mark-left.ensures.named

pub returns-clause-named : goal.returns-clause-named
returns-clause-named c = λ front whole.
    marked_all c.args.history.now c.args.count (length c.args.flags.now) c.loop-left.place c.loop-left.left front c.loop-left.flags
    c.loop-left.invariant (omega (arith, c.loop-left-test.false)) whole
