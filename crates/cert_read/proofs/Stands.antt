-- Cutting the numbers of lines changes nothing of what is read.
use Rattle.std.proofs.Common.{◌≡◌, ℕ, zero, suc, ◌^◌, ◌≤◌, ℤ, pos, Bool, true, false, cond, eqb, ltb, List, [], ◌∷◌, ◌++◌, length, map, unsigned_abs, Option, Some, None, Result, Ok, Err, refl, sym, ap, subst, ◌∙◌, arith}
use Rattle.std.specs.Prelude.{option_map}
use Rattle.std.proofs.lemmas.List.{length-map, map-append}
use Rattle.std.proofs.Math.Dec.{lit≤}
use Rattle.cert_read.specs.Statement.{Statement, certificate_line, scale_line, start_line, indicator_line, benchmark_line, value_line, multiplier_line, gap_line, end_line}
use Rattle.cert_read.specs.Cutting.{cut_number, cut_line}
use Rattle.cert_read.specs.Content.{Content, nothing, is_between, follows, with_line, is_in_range}
use Rattle.line_form.specs.Lines.{lines_of, next_number}
use Rattle.cert_read.specs.Reading.{Placed, fits, grown, is_kept, kept, last_number, whole_from, out_from, judged, read_lines, reading}
use Rattle.cert_read.specs.Progress.{outcome}
use Rattle.cert_read.specs.Cutting.{cut_placed, read_placed}
use Rattle.cert_read.proofs.Ranges.{both_hold, between}
use Rattle.cert_read.proofs.Cuts.{AreSmall, size_at_most, abs_same, within_cut, within_same}

-- the content with each number cut
abbrev cut_content : Content → Content
cut_content d = record d { front = cut_number d.front; scale = cut_number d.scale; ind = map cut_number d.ind; bench = map cut_number d.bench; x = map cut_number d.x; u = map cut_number d.u; gap = cut_number d.gap }

abbrev cut_result : Result Content ℕ → Result Content ℕ
cut_result (Ok d) = Ok (cut_content d)
cut_result (Err line) = Err line

-- which line may follow doesn't depend on numbers
follows_cut : (d : Content) (s : Statement) → follows (cut_content d) (cut_line s) ≡ follows d s
follows_cut d (certificate_line name front) = refl
follows_cut d (scale_line k) = refl
follows_cut d (start_line year) = refl
follows_cut d (indicator_line q v) = simp length-map
follows_cut d (benchmark_line y v) = simp length-map
follows_cut d (value_line q v) = simp length-map
follows_cut d (multiplier_line y v) = simp length-map
follows_cut d (gap_line v) = simp length-map
follows_cut d end_line = refl

-- a cut line makes a cut content
with_cut : (d : Content) (s : Statement) → with_line (cut_content d) (cut_line s) ≡ cut_content (with_line d s)
with_cut d (certificate_line name front) = refl
with_cut d (scale_line k) = refl
with_cut d (start_line year) = refl
with_cut d (indicator_line q v) = simp map-append
with_cut d (benchmark_line y v) = simp map-append
with_cut d (value_line q v) = simp map-append
with_cut d (multiplier_line y v) = simp map-append
with_cut d (gap_line v) = refl
with_cut d end_line = refl

fits_cut : (d : Content) (o : Option Statement) → fits (cut_content d) (option_map cut_line o) ≡ fits d o
fits_cut d None = refl
fits_cut d (Some s) = follows_cut d s

grown_cut : (d : Content) (o : Option Statement) → grown (cut_content d) (option_map cut_line o) ≡ cut_content (grown d o)
grown_cut d None = refl
grown_cut d (Some s) = with_cut d s

-- one line more, where the tests are the same
step_cut : (b c : Bool) (r q : Result Content ℕ) (n : ℕ) → c ≡ b → r ≡ cut_result q → cond c r (Err n) ≡ cut_result (cond b q (Err n))
step_cut true true r q n e h = h
step_cut false false r q n e h = refl
step_cut true false r q n e h = absurd cc
step_cut false true r q n e h = absurd cc

ended_cut : (b : Bool) (d : Content) (n : ℕ) → cond b (Ok (cut_content d)) (Err n) ≡ cut_result (cond b (Ok d) (Err n))
ended_cut true d n = refl
ended_cut false d n = refl

-- so cut lines make the cut content, or are misplaced where the lines are
whole_cut : (missing : ℕ) (d : Content) (lines : List Placed) → whole_from missing (cut_content d) (map cut_placed lines) ≡ cut_result (whole_from missing d lines)
whole_cut missing d [] = ended_cut (eqb d.tail 2) d missing
whole_cut missing d (p ∷ lines) =
    step_cut (fits d p.says) (fits (cut_content d) (option_map cut_line p.says)) (whole_from missing (grown (cut_content d) (option_map cut_line p.says)) (map cut_placed lines)) (whole_from missing (grown d p.says) lines) p.number
    (fits_cut d p.says) (ap (λ (e : Content). whole_from missing e (map cut_placed lines)) (grown_cut d p.says) ∙ whole_cut missing (grown d p.says) lines)

-- a number out of range is named whatever the content
late_same : (r : Result Content ℕ) (n : ℕ) → judged (cut_result r) (Some n) ≡ judged r (Some n)
late_same (Ok d) n = refl
late_same (Err line) n = refl

-- one line more: misplaced, in range or out of range
judged_more : (b c i j : Bool) (r q : Result Content ℕ) (o w : Option ℕ) (n : ℕ) → c ≡ b → j ≡ i → q ≡ cut_result r → (i ≡ true → judged q w ≡ judged r o)
    → judged (cond c q (Err n)) (cond j w (Some n)) ≡ judged (cond b r (Err n)) (cond i o (Some n))
judged_more true true true true r q o w n e f g h = h refl
judged_more true true false false r q o w n e f g h = ap (λ (t : Result Content ℕ). judged t (Some n)) g ∙ late_same r n
judged_more false false i j r q o w n e f g h = refl
judged_more true false i j r q o w n e f g h = absurd cc
judged_more false true i j r q o w n e f g h = absurd cc
judged_more true true true false r q o w n e f g h = absurd cc
judged_more true true false true r q o w n e f g h = absurd cc

-- one indicator more
small_more : (xs : List ℤ) (v : ℤ) → AreSmall xs → unsigned_abs v ≤ 10 ^ 9 → AreSmall (xs ++ v ∷ [])
small_more [] v small few zero = few
small_more [] v small few (suc t) = omega arith
small_more (x ∷ xs) v small few zero = small zero
small_more (x ∷ xs) v small few (suc t) = small_more xs v (λ k. small (suc k)) few t

small_with : (d : Content) (s : Statement) → AreSmall d.ind → is_in_range d s ≡ true → AreSmall (with_line d s).ind
small_with d (certificate_line name front) small e = small
small_with d (scale_line k) small e = small
small_with d (start_line year) small e = small
small_with d (indicator_line q v) small e =
    let b = between (pos 1) v (pos (10 ^ 9)) (both_hold (is_between (pos 1) v (pos (10 ^ 9))) (ltb (length d.ind) 256) e).0 in
    small_more d.ind v small (size_at_most v b.0 b.1)
small_with d (benchmark_line y v) small e = small
small_with d (value_line q v) small e = small
small_with d (multiplier_line y v) small e = small
small_with d (gap_line v) small e = small
small_with d end_line small e = small

small_grown : (d : Content) (o : Option Statement) → AreSmall d.ind → is_kept d o ≡ true → AreSmall (grown d o).ind
small_grown d None small e = small
small_grown d (Some s) small e = small_with d s small e

kept_cut : (d : Content) (o : Option Statement) → AreSmall d.ind → is_kept d (option_map cut_line o) ≡ is_kept d o
kept_cut d None small = refl
kept_cut d (Some s) small = within_cut d s small

kept_same : (d : Content) (o : Option Statement) → AreSmall d.ind → is_kept d o ≡ true → option_map cut_line o ≡ o
kept_same d None small e = refl
kept_same d (Some s) small e = ap (λ (t : Statement). Some t) (within_same d s small e)

-- from a content that cutting leaves as it is, with its indicators in range, the lines are read like the cut ones
read_from : (missing : ℕ) (d : Content) (lines : List Placed) → cut_content d ≡ d → AreSmall d.ind
    → judged (whole_from missing d (map cut_placed lines)) (out_from d (map cut_placed lines)) ≡ judged (whole_from missing d lines) (out_from d lines)
read_from missing d [] still small = refl
read_from missing d (p ∷ lines) still small =
    let o : Option Statement = p.says in
    let cut : Option Statement = option_map cut_line p.says in
    let may : fits d (option_map cut_line p.says) ≡ fits d p.says = subst (λ (e : Content). fits e (option_map cut_line p.says) ≡ fits d p.says) still (fits_cut d p.says) in
    let after : grown d (option_map cut_line p.says) ≡ cut_content (grown d p.says) = subst (λ (e : Content). grown e (option_map cut_line p.says) ≡ cut_content (grown d p.says)) still (grown_cut d p.says) in
    judged_more (fits d p.says) (fits d (option_map cut_line p.says)) (is_kept d p.says) (is_kept d (option_map cut_line p.says)) (whole_from missing (grown d p.says) lines)
    (whole_from missing (grown d (option_map cut_line p.says)) (map cut_placed lines)) (out_from (grown d p.says) lines) (out_from (grown d (option_map cut_line p.says)) (map cut_placed lines)) p.number
    may (kept_cut d p.says small) (ap (λ (e : Content). whole_from missing e (map cut_placed lines)) after ∙ whole_cut missing (grown d p.says) lines)
    (λ within.
    let same : grown d (option_map cut_line p.says) ≡ grown d p.says = ap (grown d) (kept_same d p.says small within) in
    let stays : cut_content (grown d p.says) ≡ grown d p.says = sym after ∙ same in
    ap (λ (e : Content). judged (whole_from missing e (map cut_placed lines)) (out_from e (map cut_placed lines))) same
    ∙ read_from missing (grown d p.says) lines stays (small_grown d p.says small within))

-- whatever the lines say, cutting their numbers changes nothing of what is read
pub cut_lines_read : (missing : ℕ) (lines : List Placed) → read_placed missing (map cut_placed lines) ≡ read_placed missing lines
cut_lines_read missing lines =
    let none : cut_number (pos 0) ≡ pos 0 = abs_same (10 ^ 37) 0 (pos 0) (lit≤ tt) (omega arith) in
    read_from missing nothing lines (ap (λ (z : ℤ). record nothing { front = z; scale = z; gap = z }) none) (λ t. omega arith)

-- what comes of the cut lines of a text is what is read of it
pub outcome_is_reading : (text : List ℕ) → outcome (record { content = nothing; late = None; last = 0 }) (lines_of text) ≡ reading text
unfolding outcome reading read_lines
outcome_is_reading text = cut_lines_read (next_number (last_number 0 (lines_of text))) (kept (lines_of text))
