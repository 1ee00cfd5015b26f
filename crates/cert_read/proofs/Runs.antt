-- What spells a document is read as it: each of its lines follows those before it, with its number in range.
use Rattle.std.proofs.Common.{◌≡◌, ℕ, ◌+◌, ◌-◌, ◌*◌, ◌/◌, ◌%◌, ◌^◌, ◌<◌, ◌≤◌, ℤ, pos, ◌≤ℤ◌, Bool, true, ◌&&◌, eqb, leb, ltb, List, [], ◌∷◌, ◌++◌, length, map, get_or, unsigned_abs, Some, None, Ok, EachIndex, refl, sym, ap, subst, ◌∙◌, append_assoc, arith}
use Rattle.std.proofs.lemmas.Bool.{eq-eqb, le-leb, lt-ltb}
use Rattle.std.proofs.lemmas.Int.{ints}
use Rattle.std.proofs.lemmas.List.{append-nil, length-append}
use Rattle.std.proofs.Math.Seq.{get_or-append_seam}
use Rattle.line_form.specs.Name.{is_name}
use Rattle.dual_cert.specs.Document.{IsQuarterValue}
use Rattle.denton_parts.specs.Year.{IsBenchmark, IsMultiplier}
use Rattle.denton_parts.specs.Years.{ArePlaces}
use Rattle.std.specs.List.Sorted.{IsStrictlyIncreasing}
use Rattle.cert_read.specs.Statement.{Statement, certificate_line, scale_line, start_line, indicator_line, benchmark_line, value_line, multiplier_line, gap_line, end_line}
use Rattle.cert_read.specs.Content.{Content, nothing, quarter_from, is_quarter, is_between, is_in_range, follows, with_line, quarterly, yearly, place_behind, is_year_behind}
use Rattle.cert_read.specs.Reading.{Placed, whole_from, out_from}
use Rattle.cert_read.proofs.Places.{behind_each}

-- each line follows those before it with its number in range, and the last makes a content
abbrev pub Run : Content → List Statement → Content → Type 0
Run d [] e = d ≡ e
Run d (s ∷ ss) e = (follows d s ≡ true) × (is_in_range d s ≡ true) × Run (with_line d s) ss e

run_on : (d e f : Content) (ss ts : List Statement) → Run d ss e → Run e ts f → Run d (ss ++ ts) f
run_on d e f [] ts r q = subst (λ (c : Content). Run c ts f) (sym r) q
run_on d e f (s ∷ ss) ts r q = (r.0, r.1, run_on (with_line d s) e f ss ts r.2 q)

-- such lines are read
pub run_read : (m : ℕ) (d e : Content) (ss : List Statement) (ps : List Placed) → Run d ss e → map (λ p. p.says) ps ≡ map Some ss → e.tail ≡ 2 → (whole_from m d ps ≡ Ok e) × (out_from d ps ≡ None)
run_read m d e [] [] r says whole =
    let ended : eqb d.tail 2 ≡ true = eq-eqb _ _ (ap (λ (c : Content). c.tail) r ∙ whole) in
    (rw ended (ap (λ (c : Content). Ok c) r), refl)
run_read m d e [] (p ∷ ps) r says whole = absurd cc
run_read m d e (s ∷ ss) [] r says whole = absurd cc
run_read m d e (s ∷ ss) (p ∷ ps) r says whole =
    let here : p.says ≡ Some s = cc in
    let rest : map (λ (o : Placed). o.says) ps ≡ map Some ss = cc in
    let more = run_read m (with_line d s) e ss ps r.2 rest whole in
    (rw (here, r.0) more.0, rw (here, r.1) more.1)

-- a number between two passes the test
is_in : (least v most : ℤ) → least ≤ℤ v → v ≤ℤ most → is_between least v most ≡ true
is_in least v most low high = grind (arith, ints)

both_true : (a b : Bool) → a ≡ true → b ≡ true → (a && b) ≡ true
both_true a b e f = rw (e, f) refl

-- the quarter at a place passes the test
quarter_at : (start t : ℕ) → is_quarter start t (quarter_from start t) ≡ true
quarter_at start t = both_true (eqb (start + t / 4) (start + t / 4)) (eqb (t % 4 + 1) (t % 4 + 1)) (eq-eqb _ _ refl) (eq-eqb _ _ refl)

-- what holds of a document's content
pub record IsWhole (d : Content) : Type 0 where
  pub named : is_name d.name ≡ true
  pub front_low : pos 0 ≤ℤ d.front
  pub front_high : d.front ≤ℤ pos 262144
  pub scale_low : pos 0 ≤ℤ d.scale
  pub scale_high : d.scale ≤ℤ pos 15
  pub first_start : 1900 ≤ d.start
  pub last_start : d.start ≤ 2200
  pub most : length d.ind ≤ 256
  pub some_year : 1 ≤ length d.bench
  pub placed : length d.places ≡ length d.bench
  pub whole_years : ArePlaces (length d.ind) d.places
  pub same_length : length d.x ≡ length d.ind
  pub joints : length d.u + 1 ≡ length d.bench
  pub ind_low : EachIndex d.ind (λ t. pos 1 ≤ℤ get_or d.ind t (pos 0))
  pub ind_high : EachIndex d.ind (λ t. get_or d.ind t (pos 0) ≤ℤ pos (10 ^ 9))
  pub benchmarks : EachIndex d.bench (λ y. IsBenchmark (get_or d.bench y (pos 0)))
  pub values : EachIndex d.x (λ t. IsQuarterValue (unsigned_abs d.scale) (unsigned_abs (get_or d.ind t (pos 0))) (get_or d.x t (pos 0)))
  pub multipliers : EachIndex d.u (λ y. IsMultiplier (get_or d.u y (pos 0)))
  pub gap_low : pos 0 ≤ℤ d.gap
  pub gap_high : d.gap ≤ℤ pos (10 ^ 36)

-- the content before its first quarter, and with its numbers up to some
abbrev upto : Content → List ℤ → List ℕ → List ℤ → List ℤ → List ℤ → Content
upto d i p b x u = record d { heads = 3; ind = i; places = p; bench = b; x = x; u = u; gap = pos 0; tail = 0 }

-- the number behind the first ones of a list
at_seam : (xs ws bs : List ℤ) (v : ℤ) → ws ++ v ∷ bs ≡ xs → get_or xs (length ws) (pos 0) ≡ v
at_seam xs ws bs v e = ap (λ (zs : List ℤ). get_or zs (length ws) (pos 0)) (sym e) ∙ get_or-append_seam ws v bs (pos 0)

inside_seam : (xs ws bs : List ℤ) (v : ℤ) → ws ++ v ∷ bs ≡ xs → length ws < length xs
inside_seam xs ws bs v e = omega (arith, ap length e, length-append ws (v ∷ bs))

one_longer : (ws : List ℤ) (v : ℤ) → length (ws ++ v ∷ []) ≡ length ws + 1
one_longer ws v = omega (arith, length-append ws (v ∷ []))

run_head : (d : Content) → IsWhole d → Run nothing (certificate_line d.name d.front ∷ scale_line d.scale ∷ start_line d.start ∷ []) (upto d [] [] [] [] [])
run_head d w = (w.named, is_in _ _ _ w.front_low w.front_high, (refl, is_in _ _ _ w.scale_low w.scale_high, (refl, both_true _ _ (le-leb _ _ w.first_start) (le-leb _ _ w.last_start), refl)))

run_indicators : (d : Content) (ws bs : List ℤ) → IsWhole d → ws ++ bs ≡ d.ind → Run (upto d ws [] [] [] []) (quarterly indicator_line d.start (length ws) bs) (upto d d.ind [] [] [] [])
run_indicators d ws [] w e = ap (λ (xs : List ℤ). upto d xs [] [] [] []) (sym (append-nil ws) ∙ e)
run_indicators d ws (v ∷ bs) w e =
    let here = at_seam d.ind ws bs v e in
    let inside = inside_seam d.ind ws bs v e in
    let low : pos 1 ≤ℤ v = subst (λ (z : ℤ). pos 1 ≤ℤ z) here (w.ind_low (length ws) inside) in
    let high : v ≤ℤ pos (10 ^ 9) = subst (λ (z : ℤ). z ≤ℤ pos (10 ^ 9)) here (w.ind_high (length ws) inside) in
    let few : length ws < 256 = omega (arith, w.most) in (
      quarter_at d.start (length ws),
      both_true _ _ (is_in _ _ _ low high) (lt-ltb _ _ few),
      subst (λ (n : ℕ). Run (upto d (ws ++ v ∷ []) [] [] [] []) (quarterly indicator_line d.start n bs) (upto d d.ind [] [] [] [])) (one_longer ws v)
          (run_indicators d (ws ++ v ∷ []) bs w (append_assoc ws (v ∷ []) bs ∙ e)),
    )

-- the place behind the first ones of a list
at_place : (places before later : List ℕ) (place : ℕ) → before ++ place ∷ later ≡ places →
    get_or places (length before) 0 ≡ place
at_place places before later place e =
    ap (λ (ps : List ℕ). get_or ps (length before) 0) (sym e) ∙ get_or-append_seam before place later 0

inside_places : (places before later : List ℕ) (place : ℕ) → before ++ place ∷ later ≡ places →
    length before < length places
inside_places places before later place e = omega (arith, ap length e, length-append before (place ∷ later))

-- a place whose year is behind those before it passes the test
year_at_place : (d : Content) (before later : List ℕ) (place : ℕ) → IsWhole d → before ++ place ∷ later ≡ d.places →
    is_year_behind d.start before (length d.ind) (d.start + place) ≡ true
year_at_place d before later place w e =
    let rising : IsStrictlyIncreasing (before ++ place ∷ later) =
    subst IsStrictlyIncreasing (sym e) w.whole_years.rising in
    let behind = behind_each 0 before place later rising (omega arith) in
    let whole : 4 * get_or d.places (length before) 0 + 4 ≤ length d.ind =
    w.whole_years.whole_years (length before) 0 (inside_places d.places before later place e) in
    let here = at_place d.places before later place e in
    both_true (leb (d.start + place_behind 0 before) (d.start + place))
    (leb (4 * (d.start + place - d.start) + 4) (length d.ind))
    (le-leb _ _ (omega arith)) (le-leb _ _ (omega arith))

run_benchmarks : (d : Content) (ps qs : List ℕ) (ws bs : List ℤ) → IsWhole d → ps ++ qs ≡ d.places → ws ++ bs ≡ d.bench →
    length ps ≡ length ws →
    Run (upto d d.ind ps ws [] []) (yearly benchmark_line d.start qs bs) (upto d d.ind d.places d.bench [] [])
run_benchmarks d ps [] ws [] w p e same =
    ap (λ (xs : List ℕ). upto d d.ind xs ws [] []) (sym (append-nil ps) ∙ p)
    ∙ ap (λ (xs : List ℤ). upto d d.ind d.places xs [] []) (sym (append-nil ws) ∙ e)
run_benchmarks d ps [] ws (v ∷ bs) w p e same =
    let placed = w.placed in
    absurd (omega (arith, ap length p, ap length e, length-append ps [], length-append ws (v ∷ bs)))
run_benchmarks d ps (place ∷ qs) ws [] w p e same =
    let placed = w.placed in
    absurd (omega (arith, ap length p, ap length e, length-append ps (place ∷ qs), length-append ws []))
run_benchmarks d ps (place ∷ qs) ws (v ∷ bs) w p e same =
    let here = at_seam d.bench ws bs v e in
    let inside = inside_seam d.bench ws bs v e in
    let size : unsigned_abs v ≤ 10 ^ 12 = subst (λ (z : ℤ). IsBenchmark z) here (w.benchmarks (length ws) inside) in
    let back : place ≡ d.start + place - d.start = omega arith in
    let longer : length (ps ++ place ∷ []) ≡ length (ws ++ v ∷ []) =
    omega (arith, length-append ps (place ∷ []), length-append ws (v ∷ [])) in (
      year_at_place d ps qs place w p,
      le-leb _ _ size,
      subst (λ (n : ℕ). Run (upto d d.ind (ps ++ n ∷ []) (ws ++ v ∷ []) [] []) (yearly benchmark_line d.start qs bs)
          (upto d d.ind d.places d.bench [] [])) back
          (run_benchmarks d (ps ++ place ∷ []) qs (ws ++ v ∷ []) bs w (append_assoc ps (place ∷ []) qs ∙ p)
          (append_assoc ws (v ∷ []) bs ∙ e) longer),
    )

run_values : (d : Content) (ws bs : List ℤ) → IsWhole d → ws ++ bs ≡ d.x → Run (upto d d.ind d.places d.bench ws []) (quarterly value_line d.start (length ws) bs) (upto d d.ind d.places d.bench d.x [])
run_values d ws [] w e = ap (λ (xs : List ℤ). upto d d.ind d.places d.bench xs []) (sym (append-nil ws) ∙ e)
run_values d ws (v ∷ bs) w e =
    let here = at_seam d.x ws bs v e in
    let inside = inside_seam d.x ws bs v e in
    let size : IsQuarterValue (unsigned_abs d.scale) (unsigned_abs (get_or d.ind (length ws) (pos 0))) v = subst (λ (z : ℤ). IsQuarterValue (unsigned_abs d.scale) (unsigned_abs (get_or d.ind (length ws) (pos 0))) z) here (w.values (length ws) inside) in
    let room : length ws < length d.ind = omega (arith, w.same_length) in (
      both_true (leb 1 (length d.bench) && ltb (length ws) (length d.ind)) (is_quarter d.start (length ws) (quarter_from d.start (length ws))) (both_true (leb 1 (length d.bench)) (ltb (length ws) (length d.ind)) (le-leb _ _ w.some_year) (lt-ltb _ _ room)) (quarter_at d.start (length ws)),
      le-leb _ _ size,
      subst (λ (n : ℕ). Run (upto d d.ind d.places d.bench (ws ++ v ∷ []) []) (quarterly value_line d.start n bs) (upto d d.ind d.places d.bench d.x [])) (one_longer ws v)
          (run_values d (ws ++ v ∷ []) bs w (append_assoc ws (v ∷ []) bs ∙ e)),
    )

run_multipliers : (d : Content) (ps qs : List ℕ) (ws bs : List ℤ) → IsWhole d → ps ++ qs ≡ d.places → ws ++ bs ≡ d.u →
    length ps ≡ length ws →
    Run (upto d d.ind d.places d.bench d.x ws) (yearly multiplier_line d.start qs bs)
    (upto d d.ind d.places d.bench d.x d.u)
run_multipliers d ps [] ws [] w p e same =
    ap (λ (xs : List ℤ). upto d d.ind d.places d.bench d.x xs) (sym (append-nil ws) ∙ e)
run_multipliers d ps (place ∷ qs) ws [] w p e same =
    ap (λ (xs : List ℤ). upto d d.ind d.places d.bench d.x xs) (sym (append-nil ws) ∙ e)
run_multipliers d ps [] ws (v ∷ bs) w p e same =
    let placed = w.placed in
    let joints = w.joints in
    absurd (omega (arith, ap length p, ap length e, length-append ps [], length-append ws (v ∷ bs)))
run_multipliers d ps (place ∷ qs) ws (v ∷ bs) w p e same =
    let here = at_seam d.u ws bs v e in
    let inside = inside_seam d.u ws bs v e in
    let size : unsigned_abs v ≤ 10 ^ 15 = subst (λ (z : ℤ). IsMultiplier z) here (w.multipliers (length ws) inside) in
    let room : length ws + 1 < length d.bench = omega (arith, w.joints) in
    let stands : get_or d.places (length ps) 0 ≡ place = at_place d.places ps qs place p in
    let year : d.start + place ≡ d.start + get_or d.places (length ws) 0 =
    ap (λ (n : ℕ). d.start + n) (sym stands) ∙ ap (λ (k : ℕ). d.start + get_or d.places k 0) same in
    let longer : length (ps ++ place ∷ []) ≡ length (ws ++ v ∷ []) =
    omega (arith, length-append ps (place ∷ []), length-append ws (v ∷ [])) in (
      both_true (eqb (length d.x) (length d.ind) && ltb (length ws + 1) (length d.bench))
          (eqb (d.start + place) (d.start + get_or d.places (length ws) 0))
          (both_true (eqb (length d.x) (length d.ind)) (ltb (length ws + 1) (length d.bench)) (eq-eqb _ _ w.same_length)
          (lt-ltb _ _ room)) (eq-eqb (d.start + place) (d.start + get_or d.places (length ws) 0) year),
      le-leb _ _ size,
      run_multipliers d (ps ++ place ∷ []) qs (ws ++ v ∷ []) bs w (append_assoc ps (place ∷ []) qs ∙ p)
          (append_assoc ws (v ∷ []) bs ∙ e) longer,
    )

run_end : (d : Content) → IsWhole d → Run (upto d d.ind d.places d.bench d.x d.u) (gap_line d.gap ∷ end_line ∷ []) (record d { heads = 3; tail = 2 })
run_end d w = (both_true _ _ (eq-eqb _ _ w.same_length) (eq-eqb _ _ w.joints), is_in _ _ _ w.gap_low w.gap_high, (refl, refl, refl))

-- the lines of a document's content, all of them
abbrev pub all_lines : Content → List Statement
all_lines d = (certificate_line d.name d.front ∷ scale_line d.scale ∷ start_line d.start ∷ []) ++ (quarterly indicator_line d.start 0 d.ind ++ (yearly benchmark_line d.start d.places d.bench
    ++ (quarterly value_line d.start 0 d.x ++ (yearly multiplier_line d.start d.places d.u ++ (gap_line d.gap ∷ end_line ∷ [])))))

pub run_all : (d : Content) → IsWhole d → Run nothing (all_lines d) (record d { heads = 3; tail = 2 })
run_all d w =
    let last = run_end d w in
    let us = run_multipliers d [] d.places [] d.u w refl refl refl in
    let xs = run_values d [] d.x w refl in
    let bs = run_benchmarks d [] d.places [] d.bench w refl refl refl in
    let inds = run_indicators d [] d.ind w refl in
    let whole : Content = record d { heads = 3; tail = 2 } in
    let closing : List Statement = gap_line d.gap ∷ end_line ∷ [] in
    let from_u : List Statement = yearly multiplier_line d.start d.places d.u ++ closing in
    let from_x : List Statement = quarterly value_line d.start 0 d.x ++ from_u in
    let from_b : List Statement = yearly benchmark_line d.start d.places d.bench ++ from_x in
    let from_i : List Statement = quarterly indicator_line d.start 0 d.ind ++ from_b in
    let r_u = run_on (upto d d.ind d.places d.bench d.x []) (upto d d.ind d.places d.bench d.x d.u) whole (yearly multiplier_line d.start d.places d.u) closing us last in
    let r_x = run_on (upto d d.ind d.places d.bench [] []) (upto d d.ind d.places d.bench d.x []) whole (quarterly value_line d.start 0 d.x) from_u xs r_u in
    let r_b = run_on (upto d d.ind [] [] [] []) (upto d d.ind d.places d.bench [] []) whole (yearly benchmark_line d.start d.places d.bench) from_x bs r_x in
    let r_i = run_on (upto d [] [] [] [] []) (upto d d.ind [] [] [] []) whole (quarterly indicator_line d.start 0 d.ind) from_b inds r_b in
    run_on nothing (upto d [] [] [] [] []) whole (certificate_line d.name d.front ∷ scale_line d.scale ∷ start_line d.start ∷ []) from_i (run_head d w) r_i
