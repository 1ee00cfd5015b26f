-- What a worker has seen after each turn.
use Rattle.std.proofs.Common.{◌≡◌, ◌∙◌, ap, sym}
use mathlib.Core.List.{IsPrefix}
use Rattle.accounts_history.specs.History.{party_of}
use Rattle.desk_lock.specs.Passes.{IsSameButSeen, entries_by, own}
use Rattle.office.specs.Calls.{Helps}
use Rattle.office.specs.Holds.{Known}
use Rattle.office.specs.Seen.{MadeNothing, SentNothing}
use Rattle.office.specs.declared.replies.Helped.{Helped}
use Rattle.office.proofs.Holding.{helps_sent}
use Rattle.office.proofs.Seen.{made_nothing, made_sent, then_sent}

-- a pass that looked at the history has made nothing since
pub looked : (before after : Known) → IsSameButSeen before after → IsPrefix before.seen after.seen
    → own party_of after ≡ own party_of before → MadeNothing before.party before.seen after.seen
looked before after same begins mine =
    made_nothing before.party before.seen after.seen begins
    (sym (ap (λ p. entries_by party_of p after.seen) same.3) ∙ mine)

-- one turn: a look at the history, and help
pub helped_after : (first before looking after : Known) (reply : Helped) → IsSameButSeen first before
    → SentNothing first.party first.seen before.seen → IsSameButSeen before looking
    → IsPrefix before.seen looking.seen → own party_of looking ≡ own party_of before → Helps reply looking after
    → SentNothing first.party first.seen after.seen
helped_after first before looking after reply same sent alike begins mine helps =
    then_sent first.party looking.party first.seen looking.seen after.seen (alike.3 ∙ same.3)
    (then_sent first.party before.party first.seen before.seen looking.seen same.3 sent
    (made_sent before.party before.seen looking.seen (looked before looking alike begins mine)))
    (helps_sent looking after reply helps)

-- and more looks
pub looked_after : (first before after : Known) → SentNothing first.party first.seen before.seen
    → before.party ≡ first.party → MadeNothing before.party before.seen after.seen
    → SentNothing first.party first.seen after.seen
looked_after first before after sent same made =
    then_sent first.party before.party first.seen before.seen after.seen same sent
    (made_sent before.party before.seen after.seen made)
