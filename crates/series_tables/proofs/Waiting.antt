-- Lines handed out one after another, and the lines of a text fed in pieces.
use Rattle.std.proofs.Common.{◌≡◌, ℕ, ◌+◌, ◌-◌, ◌≤◌, true, false, List, [], ◌∷◌, ◌++◌, take, drop, refl, sym, ap, subst, ◌∙◌, arith, append_assoc}
use Rattle.std.proofs.lemmas.List.{append-nil}
use Rattle.std.proofs.Math.Seq.{take-add}
use Rattle.line_form.specs.Lines.{TextLine, Cutting, IsCutOf, lines_of, ended_lines, ended_from, rest_from, numbered, number_after, last_piece, unmarked}
use Rattle.line_form.proofs.Streams.{ended_from-append}
use Rattle.line_form.proofs.CutLines.{cut_lines, raw_lines, whole_lines, cut_lines-more}
use Rattle.series_tables.specs.declared.cause.PlanError.{PlanError}
use Rattle.series_tables.specs.PlanError.{Refuses}
use Rattle.series_tables.specs.PlanReading.{Progress, outcome}

-- what comes of lines of which the first was taken
pub taken_front : (p q r : Progress) (all waiting more : List TextLine) (line : TextLine) (rest : List TextLine) → outcome p (all ++ rest) ≡ outcome q (waiting ++ rest) → waiting ≡ line ∷ more
    → outcome q (line ∷ (more ++ rest)) ≡ outcome r (more ++ rest) → outcome p (all ++ rest) ≡ outcome r (more ++ rest)
taken_front p q r all waiting more line rest came first h = came ∙ ap (λ (ws : List TextLine). outcome q (ws ++ rest)) first ∙ h

-- and of which the first is refused
pub refused_front : (e : PlanError) (p q : Progress) (all waiting more : List TextLine) (line : TextLine) (rest : List TextLine) → outcome p (all ++ rest) ≡ outcome q (waiting ++ rest)
    → waiting ≡ line ∷ more → Refuses (outcome q (line ∷ (more ++ rest))) e → Refuses (outcome p (all ++ rest)) e
refused_front e p q all waiting more line rest came first h =
    subst (λ r. Refuses r e) (sym (came ∙ ap (λ (ws : List TextLine). outcome q (ws ++ rest)) first)) h

-- the lines of more pieces begin with those of fewer
front_of_pieces : (es fs : List (List ℕ)) → (more : List TextLine) × (cut_lines 0 (es ++ fs) ≡ cut_lines 0 es ++ more)
front_of_pieces es [] = ([], ap (cut_lines 0) (append-nil es) ∙ sym (append-nil (cut_lines 0 es)))
front_of_pieces es (q ∷ qs) = (numbered (number_after 0 es) (unmarked (number_after 0 es) q ∷ qs), cut_lines-more es q qs)

-- the lines of a stream begin with the ended lines of each front of it
front_of_lines : (xs ys : List ℕ) → (more : List TextLine) × (lines_of (xs ++ ys) ≡ ended_lines xs ++ more)
front_of_lines xs ys =
    let s : List ℕ = xs ++ ys in
    let last : List TextLine = numbered (number_after 0 (ended_from [] s)) (last_piece (unmarked (number_after 0 (ended_from [] s)) (rest_from [] s))) in
    let front = front_of_pieces (ended_from [] xs) (ended_from (rest_from [] xs) ys) in
    let ended : ended_lines s ≡ ended_lines xs ++ front.0 =
    raw_lines s ∙ ap (cut_lines 0) (ended_from-append [] xs ys) ∙ front.1 ∙ ap (λ (ls : List TextLine). ls ++ front.0) (sym (raw_lines xs)) in
    (front.0 ++ last, whole_lines s ∙ ap (λ (ls : List TextLine). ls ++ last) ended ∙ append_assoc (ended_lines xs) front.0 last)

-- of a stream that isn't ended the lines handed out and those that wait are the ended ones
pub ended_so_far : (s : Cutting) (stream : List ℕ) (handed : List TextLine) → IsCutOf s stream handed → s.ended ≡ false → handed ++ s.waiting ≡ ended_lines stream
ended_so_far s stream handed h e = h.lines ∙ rw e refl

-- of one that is ended they are all
pub all_so_far : (s : Cutting) (stream : List ℕ) (handed : List TextLine) → IsCutOf s stream handed → s.ended ≡ true → handed ++ s.waiting ≡ lines_of stream
all_so_far s stream handed h e = h.lines ∙ rw e refl

-- a stream of which nothing has come has no ended line
pub no_lines : ended_lines [] ≡ []
unfolding ended_from
no_lines = raw_lines []

-- a piece more of a text
pub one_piece : (text : List ℕ) (done end : ℕ) → done ≤ end → take done text ++ take (end - done) (drop done text) ≡ take end text
one_piece text done end h =
    let whole : done + (end - done) ≡ end = omega arith in
    sym (take-add done (end - done) text) ∙ ap (λ (n : ℕ). take n text) whole

-- what comes of the ended lines with those of one piece more
pub piece_taken : (p q r : Progress) (before waiting now : List TextLine) (rest : List TextLine) → before ++ waiting ≡ now
    → outcome p (before ++ (waiting ++ rest)) ≡ outcome q (waiting ++ rest) → outcome q (waiting ++ rest) ≡ outcome r rest → outcome p (now ++ rest) ≡ outcome r rest
piece_taken p q r before waiting now rest grew came taken =
    ap (λ (ls : List TextLine). outcome p (ls ++ rest)) (sym grew) ∙ ap (outcome p) (append_assoc before waiting rest) ∙ came ∙ taken

-- what is refused in the lines of a front is refused of the whole text
pub piece_refused : (e : PlanError) (p q : Progress) (text front rest : List ℕ) (before waiting : List TextLine) → text ≡ front ++ rest → before ++ waiting ≡ ended_lines front
    → ((more : List TextLine) → outcome p (before ++ more) ≡ outcome q more) → ((more : List TextLine) → Refuses (outcome q (waiting ++ more)) e) → Refuses (outcome p (lines_of text)) e
piece_refused e p q text front rest before waiting whole grew came refused =
    let f = front_of_lines front rest in
    let lines : lines_of text ≡ before ++ (waiting ++ f.0) =
    ap lines_of whole ∙ f.1 ∙ ap (λ (ls : List TextLine). ls ++ f.0) (sym grew) ∙ append_assoc before waiting f.0 in
    subst (λ r. Refuses r e) (sym (ap (outcome p) lines ∙ came (waiting ++ f.0))) (refused f.0)

-- what comes of all lines is what comes of the last ones
pub all_taken : (p q : Progress) (text : List ℕ) (before waiting : List TextLine) → before ++ waiting ≡ lines_of text → outcome p (before ++ waiting) ≡ outcome q waiting
    → outcome p (lines_of text) ≡ outcome q (waiting ++ [])
all_taken p q text before waiting whole came = ap (outcome p) (sym whole) ∙ came ∙ ap (outcome q) (sym (append-nil waiting))
