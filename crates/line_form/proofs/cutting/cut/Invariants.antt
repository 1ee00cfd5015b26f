use Rattle.std.proofs.Common.{◌≡◌, ◌++◌, ◌∷◌, [], length, take}
use Rattle.line_form.specs.Lines.{lines_view, ended_from, rest_from, numbered, number_after, unmarked}
use Rattle.line_form.proofs.cutting.cut.Given as goal

abbrev pub invariant-lines : goal.invariant-lines
invariant-lines l =
    (lines_view l.waiting.items ++ numbered l.number (ended_from [] l.rest) ≡ lines_view l.fn.waiting.items ++ numbered l.before (unmarked l.before l.first ∷ ended_from [] l.after))
    × (number_after l.number (ended_from [] l.rest) ≡ number_after l.before (l.first ∷ ended_from [] l.after))
    × (rest_from [] l.rest ≡ rest_from [] l.after)
    × (take (length l.fn.waiting.items) l.waiting.items ≡ l.fn.waiting.items)

abbrev pub decreases-lines : goal.decreases-lines
decreases-lines l = length l.rest
