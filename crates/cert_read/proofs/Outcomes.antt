-- What one more line makes of the outcome.
use Rattle.std.proofs.Common.{◌≡◌, ℕ, Bool, true, false, cond, List, ◌∷◌, map, Option, Some, None, option_map, Result, Ok, Err, refl, sym, ap, ◌∙◌}
use Rattle.std.specs.Prelude.{IfOk, IfErr}
use Rattle.line_form.specs.Lines.{TextLine, next_number}
use Rattle.cert_read.specs.declared.fault.CertFault.{CertFault}
use Rattle.cert_read.specs.declared.fault.CertFault.TheVariants as fault
use Rattle.cert_read.specs.Statement.{Statement}
use Rattle.cert_read.specs.Cutting.{cut_line, cut_placed}
use Rattle.cert_read.specs.Content.{follows, with_line, is_in_range}
use Rattle.cert_read.specs.Progress.{Progress, first_noted, outcome, with_statement, IsEntryFault}
use Rattle.line_form.specs.Lines.{is_passed_over}
use Rattle.cert_read.specs.Reading.{said, kept, last_number, whole_from, out_from, judged, Fails}

-- a line that is passed over counts alone
pub outcome_past : (p : Progress) (line : TextLine) (rest : List TextLine) → is_passed_over line ≡ true → outcome p (line ∷ rest) ≡ outcome (record p { last = line.number }) rest
unfolding outcome
outcome_past p line rest e = rw e refl

-- the first line out of range, whether it is noted at once or later
noted : (late : Option ℕ) (number : ℕ) (within : Bool) (later : Option ℕ) → first_noted late (cond within later (Some number)) ≡ first_noted (first_noted late (cond within None (Some number))) later
noted (Some n) number within later = refl
noted None number true later = refl
noted None number false later = refl

-- a line that follows is taken
pub outcome_taken : (p : Progress) (line : TextLine) (s : Statement) (rest : List TextLine) → is_passed_over line ≡ false → option_map cut_line (said line) ≡ Some s → follows p.content s ≡ true
    → outcome p (line ∷ rest) ≡ outcome (with_statement p s line.number) rest
unfolding outcome
outcome_taken p line s rest e says may =
    rw (e, says, may) (ap (judged (whole_from (next_number (last_number line.number rest)) (with_line p.content s) (map cut_placed (kept rest)))) (noted p.late line.number (is_in_range p.content s) (out_from (with_line p.content s) (map cut_placed (kept rest)))))

-- a line that doesn't follow ends the reading
pub outcome_misplaced : (p : Progress) (line : TextLine) (s : Statement) (rest : List TextLine) → is_passed_over line ≡ false → option_map cut_line (said line) ≡ Some s → follows p.content s ≡ false
    → outcome p (line ∷ rest) ≡ Err (fault.Shape line.number)
unfolding outcome
outcome_misplaced p line s rest e says may = rw (e, says, may) refl

-- and so does a line that says nothing
pub outcome_strange : (p : Progress) (line : TextLine) (rest : List TextLine) → is_passed_over line ≡ false → option_map cut_line (said line) ≡ None → outcome p (line ∷ rest) ≡ Err (fault.Shape line.number)
unfolding outcome
outcome_strange p line rest e says = rw (e, says) refl

-- the fault of an entry is that of its line
pub fault_of_entry : (e : CertFault) (p : Progress) (line : TextLine) (s : Statement) (rest : List TextLine) → is_passed_over line ≡ false → option_map cut_line (said line) ≡ Some s → IsEntryFault e (follows p.content s) line.number
    → Fails e (outcome p (line ∷ rest))
fault_of_entry fault.Memory p line s rest e says h = tt
fault_of_entry (fault.Shape n) p line s rest e says h = outcome_misplaced p line s rest e says h.0 ∙ ap (λ (k : ℕ). Err (fault.Shape k)) (sym h.1)
fault_of_entry (fault.Range n) p line s rest e says h = absurd h

-- what is made of an entry goes on as its line does
pub outcome_on : (r : Result Progress CertFault) (p : Progress) (line : TextLine) (s : Statement) (rest : List TextLine) → is_passed_over line ≡ false → option_map cut_line (said line) ≡ Some s
    → IfOk r (λ q. (follows p.content s ≡ true) × (q ≡ with_statement p s line.number)) → IfOk r (λ q. outcome p (line ∷ rest) ≡ outcome q rest)
outcome_on (Ok q) p line s rest e says h = outcome_taken p line s rest e says h.0 ∙ ap (λ (t : Progress). outcome t rest) (sym h.1)
outcome_on (Err d) p line s rest e says h = tt

-- and where it is a fault, so is its line
pub outcome_off : (r : Result Progress CertFault) (p : Progress) (line : TextLine) (s : Statement) (rest : List TextLine) →
    is_passed_over line ≡ false → option_map cut_line (said line) ≡ Some s →
    IfErr r (λ e. IsEntryFault e (follows p.content s) line.number) → IfErr r (λ e. Fails e (outcome p (line ∷ rest)))
outcome_off (Ok q) p line s rest e says h = tt
outcome_off (Err d) p line s rest e says h = fault_of_entry d p line s rest e says h
