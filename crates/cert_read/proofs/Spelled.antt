-- One more line is one more line of the spelling: so nothing but what spells a content is read as it.
use Rattle.std.proofs.Common.{◌≡◌, ℕ, ◌+◌, ◌-◌, ◌*◌, ◌/◌, ◌%◌, ◌<◌, ◌≤◌, ℤ, Bool, true, false, ◌&&◌, cond, eqb, leb, ltb, List, [], ◌∷◌, ◌++◌, length, map, take, get_or, Option, Some, None, Result, Ok, Err, refl, sym, ap, ◌∙◌, append_assoc, zero-add, arith}
use Rattle.std.proofs.lemmas.Bool.{eqb-true, leb-true, ltb-true}
use Rattle.std.proofs.lemmas.List.{append-nil, nil_from_length, length-append, map-append}
use Rattle.period_keys.specs.Period.{Named}
use Rattle.line_form.specs.Name.{is_name}
use Rattle.cert_read.specs.Statement.{Statement, certificate_line, scale_line, start_line, indicator_line, benchmark_line, value_line, multiplier_line, gap_line, end_line}
use Rattle.cert_read.specs.Content.{Content, nothing, IsInOrder, quarter_from, is_quarter, follows, with_line, quarterly, yearly, spelled, place_behind, is_year_behind}
use Rattle.line_form.specs.Lines.{next_number, lines_of}
use Rattle.cert_read.specs.Reading.{Placed, fits, grown, whole_from, out_from, judged, kept, last_number, read_lines, reading}
use Rattle.cert_read.proofs.Places.{places_more, places_kept, none_placed, year_back}
use Rattle.cert_read.proofs.Ranges.{both_hold, no_indicators, no_benchmarks, no_places, no_values, no_multipliers, no_tail, multipliers_later, tail_later, tail_last}

quarterly-append : (line : Named → ℤ → Statement) (start t : ℕ) (vs : List ℤ) (v : ℤ) → quarterly line start t (vs ++ v ∷ []) ≡ quarterly line start t vs ++ line (quarter_from start (t + length vs)) v ∷ []
quarterly-append line start t [] v = ap (λ (k : ℕ). line (quarter_from start k) v ∷ []) (omega arith)
quarterly-append line start t (w ∷ vs) v =
    ap (λ (rest : List Statement). line (quarter_from start t) w ∷ rest) (quarterly-append line start (t + 1) vs v ∙ ap (λ (k : ℕ). quarterly line start (t + 1) vs ++ line (quarter_from start k) v ∷ []) (omega arith))

yearly-append : (line : ℕ → ℤ → Statement) (start : ℕ) (places : List ℕ) (vs : List ℤ) (place : ℕ) (v : ℤ) →
    length places ≡ length vs →
    yearly line start (places ++ place ∷ []) (vs ++ v ∷ []) ≡ yearly line start places vs ++ line (start + place) v ∷ []
yearly-append line start [] [] place v same = refl
yearly-append line start [] (w ∷ vs) place v same = absurd (omega arith)
yearly-append line start (first ∷ places) [] place v same = absurd (omega arith)
yearly-append line start (first ∷ places) (w ∷ vs) place v same =
    ap (λ (rest : List Statement). line (start + first) w ∷ rest)
    (yearly-append line start places vs place v (omega arith))

-- a number more stands at the next place
yearly-next : (line : ℕ → ℤ → Statement) (start : ℕ) (places : List ℕ) (vs : List ℤ) (v : ℤ) →
    length vs < length places →
    yearly line start places (vs ++ v ∷ [])
    ≡ yearly line start places vs ++ line (start + get_or places (length vs) 0) v ∷ []
yearly-next line start [] vs v more = absurd (omega arith)
yearly-next line start (place ∷ []) [] v more = refl
yearly-next line start (place ∷ next ∷ places) [] v more = refl
yearly-next line start (place ∷ places) (w ∷ vs) v more =
    ap (λ (rest : List Statement). line (start + place) w ∷ rest) (yearly-next line start places vs v (omega arith))

-- no number, no line
yearly-none : (line : ℕ → ℤ → Statement) (start : ℕ) (places : List ℕ) → yearly line start places [] ≡ []
yearly-none line start [] = refl
yearly-none line start (place ∷ places) = refl

-- the spelling by its parts
abbrev parts : List Statement → List Statement → List Statement → List Statement → List Statement → List Statement → List Statement
parts h i b x u t = h ++ (i ++ (b ++ (x ++ (u ++ t))))

-- the quarter that passes the test is the one at the place
quarter_is : (start t : ℕ) (q : Named) → is_quarter start t q ≡ true → quarter_from start t ≡ q
quarter_is start t q e =
    let b = both_hold (eqb q.year (start + t / 4)) (eqb q.number (t % 4 + 1)) e in
    let y : q.year ≡ start + t / 4 = eqb-true _ _ b.0 in
    let n : q.number ≡ t % 4 + 1 = eqb-true _ _ b.1 in
    (rw (← y, ← n) refl)

-- the parts of a spelling but the lines at the end
abbrev heads_of : Content → List Statement
heads_of d = take d.heads (certificate_line d.name d.front ∷ scale_line d.scale ∷ start_line d.start ∷ [])

abbrev indicators_of : Content → List Statement
indicators_of d = quarterly indicator_line d.start 0 d.ind

abbrev benchmarks_of : Content → List Statement
benchmarks_of d = yearly benchmark_line d.start d.places d.bench

abbrev values_of : Content → List Statement
values_of d = quarterly value_line d.start 0 d.x

abbrev multipliers_of : Content → List Statement
multipliers_of d = yearly multiplier_line d.start d.places d.u

-- one more line at the end of a part, where no part behind it has one
in_indicators : (h i : List Statement) (s : Statement) → parts h (i ++ s ∷ []) [] [] [] [] ≡ parts h i [] [] [] [] ++ s ∷ []
in_indicators h i s = simp (append_assoc, append-nil)

in_benchmarks : (h i b : List Statement) (s : Statement) → parts h i (b ++ s ∷ []) [] [] [] ≡ parts h i b [] [] [] ++ s ∷ []
in_benchmarks h i b s = simp (append_assoc, append-nil)

in_values : (h i b x : List Statement) (s : Statement) → parts h i b (x ++ s ∷ []) [] [] ≡ parts h i b x [] [] ++ s ∷ []
in_values h i b x s = simp (append_assoc, append-nil)

in_multipliers : (h i b x u : List Statement) (s : Statement) → parts h i b x (u ++ s ∷ []) [] ≡ parts h i b x u [] ++ s ∷ []
in_multipliers h i b x u s = simp (append_assoc, append-nil)

in_tail : (h i b x u t : List Statement) (s : Statement) → parts h i b x u (t ++ s ∷ []) ≡ parts h i b x u t ++ s ∷ []
in_tail h i b x u t s = simp append_assoc

-- a year that passes the test is behind the others and has its four quarters
year_behind : (start : ℕ) (places : List ℕ) (quarters year : ℕ) → is_year_behind start places quarters year ≡ true →
    (start + place_behind 0 places ≤ year) × (4 * (year - start) + 4 ≤ quarters)
year_behind start places quarters year may =
    let m = both_hold (leb (start + place_behind 0 places) year) (leb (4 * (year - start) + 4) quarters) may in
    (leb-true _ _ m.0, leb-true _ _ m.1)

pub spelled_more : (d : Content) (s : Statement) → IsInOrder d → follows d s ≡ true → spelled (with_line d s) ≡ spelled d ++ s ∷ []
unfolding spelled
spelled_more d (certificate_line name front) order may =
    let first : d.heads ≡ 0 = eqb-true _ _ (both_hold (eqb d.heads 0) (is_name name) may).0 in
    let no_i : length d.ind ≡ 0 = no_indicators d order (omega arith) in
    let no_b : length d.bench ≡ 0 = no_benchmarks d order no_i in
    let i : d.ind ≡ [] = nil_from_length d.ind no_i in
    let p : d.places ≡ [] = no_places d order no_b in
    let x : d.x ≡ [] = nil_from_length d.x (no_values d order no_b) in
    let t : d.tail ≡ 0 = no_tail d order no_b in
    rw (first, i, p, x, t) refl
spelled_more d (scale_line k) order may =
    let second : d.heads ≡ 1 = eqb-true _ _ may in
    let no_i : length d.ind ≡ 0 = no_indicators d order (omega arith) in
    let no_b : length d.bench ≡ 0 = no_benchmarks d order no_i in
    let i : d.ind ≡ [] = nil_from_length d.ind no_i in
    let p : d.places ≡ [] = no_places d order no_b in
    let x : d.x ≡ [] = nil_from_length d.x (no_values d order no_b) in
    let t : d.tail ≡ 0 = no_tail d order no_b in
    rw (second, i, p, x, t) refl
spelled_more d (start_line year) order may =
    let third : d.heads ≡ 2 = eqb-true _ _ may in
    let no_i : length d.ind ≡ 0 = no_indicators d order (omega arith) in
    let no_b : length d.bench ≡ 0 = no_benchmarks d order no_i in
    let i : d.ind ≡ [] = nil_from_length d.ind no_i in
    let p : d.places ≡ [] = no_places d order no_b in
    let x : d.x ≡ [] = nil_from_length d.x (no_values d order no_b) in
    let t : d.tail ≡ 0 = no_tail d order no_b in
    rw (third, i, p, x, t) refl
spelled_more d (indicator_line q v) order may =
    let m = both_hold (eqb d.heads 3 && eqb (length d.bench) 0) (is_quarter d.start (length d.ind) q) may in
    let none : length d.bench ≡ 0 = eqb-true _ _ (both_hold (eqb d.heads 3) (eqb (length d.bench) 0) m.0).1 in
    let p : d.places ≡ [] = no_places d order none in
    let x : d.x ≡ [] = nil_from_length d.x (no_values d order none) in
    let t : d.tail ≡ 0 = no_tail d order none in
    rw (p, x, t, quarterly-append indicator_line d.start 0 d.ind v, zero-add (length d.ind), quarter_is d.start (length d.ind) q m.1) (in_indicators (heads_of d) (indicators_of d) (indicator_line q v))
spelled_more d (benchmark_line y v) order may =
    let m = both_hold (eqb (length d.x) 0) (is_year_behind d.start d.places (length d.ind) y) may in
    let none : length d.x ≡ 0 = eqb-true _ _ m.0 in
    let year = year_behind d.start d.places (length d.ind) y m.1 in
    let before : length d.x < length d.ind = omega arith in
    let no_u : length d.u ≡ 0 = multipliers_later d order before in
    let no_t : d.tail ≡ 0 = tail_later d order before in
    let back : d.start + (y - d.start) ≡ y = year_back d.start (place_behind 0 d.places) y year.0 in
    let x : d.x ≡ [] = nil_from_length d.x none in
    let u : d.u ≡ [] = nil_from_length d.u no_u in
    rw (
      x,
      u,
      no_t,
      yearly-append benchmark_line d.start d.places d.bench (y - d.start) v order.placed,
      back,
      yearly-none multiplier_line d.start (d.places ++ (y - d.start) ∷ []),
      yearly-none multiplier_line d.start d.places,
    )
    (in_benchmarks (heads_of d) (indicators_of d) (benchmarks_of d) (benchmark_line y v))
spelled_more d (value_line q v) order may =
    let m = both_hold (leb 1 (length d.bench) && ltb (length d.x) (length d.ind)) (is_quarter d.start (length d.x) q) may in
    let n = both_hold (leb 1 (length d.bench)) (ltb (length d.x) (length d.ind)) m.0 in
    let room : length d.x < length d.ind = ltb-true _ _ n.1 in
    let u : d.u ≡ [] = nil_from_length d.u (multipliers_later d order room) in
    let t : d.tail ≡ 0 = tail_later d order room in
    rw (u, t, yearly-none multiplier_line d.start d.places, quarterly-append value_line d.start 0 d.x v, zero-add (length d.x), quarter_is d.start (length d.x) q m.1) (in_values (heads_of d) (indicators_of d) (benchmarks_of d) (values_of d) (value_line q v))
spelled_more d (multiplier_line y v) order may =
    let m = both_hold (eqb (length d.x) (length d.ind) && ltb (length d.u + 1) (length d.bench))
    (eqb y (d.start + get_or d.places (length d.u) 0)) may in
    let n = both_hold (eqb (length d.x) (length d.ind)) (ltb (length d.u + 1) (length d.bench)) m.0 in
    let room : length d.u + 1 < length d.bench = ltb-true _ _ n.1 in
    let here : y ≡ d.start + get_or d.places (length d.u) 0 = eqb-true _ _ m.1 in
    let t : d.tail ≡ 0 = tail_last d order room in
    let more : length d.u < length d.places = omega (arith, order.placed) in
    rw (t, yearly-next multiplier_line d.start d.places d.u v more, ← here)
    (in_multipliers (heads_of d) (indicators_of d) (benchmarks_of d) (values_of d) (multipliers_of d)
    (multiplier_line y v))
spelled_more d (gap_line v) order may =
    let open_yet : d.tail ≡ 0 = eqb-true _ _ (both_hold (eqb d.tail 0) (eqb (length d.x) (length d.ind)) (both_hold (eqb d.tail 0 && eqb (length d.x) (length d.ind)) (eqb (length d.u + 1) (length d.bench)) may).0).0 in
    rw open_yet (in_tail (heads_of d) (indicators_of d) (benchmarks_of d) (values_of d) (multipliers_of d) [] (gap_line v))
spelled_more d end_line order may =
    let last : d.tail ≡ 1 = eqb-true _ _ may in
    rw last (in_tail (heads_of d) (indicators_of d) (benchmarks_of d) (values_of d) (multipliers_of d) (gap_line d.gap ∷ []) end_line)

-- a line that follows keeps the order
pub order_more : (d : Content) (s : Statement) → IsInOrder d → follows d s ≡ true → IsInOrder (with_line d s)
order_more d (certificate_line name front) order may =
    let m = both_hold (eqb d.heads 0) (is_name name) may in
    let first : d.heads ≡ 0 = eqb-true _ _ m.0 in
    let no_i : length d.ind ≡ 0 = no_indicators d order (omega arith) in
    record { heads = omega arith; named = λ one. m.1; indicators = λ some. absurd (omega arith); placed = order.placed; benchmarks = order.benchmarks; values = order.values; valued = order.valued; multiplied = order.multiplied; multipliers = order.multipliers; closed = order.closed; joined = order.joined; tail = order.tail }
order_more d (scale_line k) order may =
    let second : d.heads ≡ 1 = eqb-true _ _ may in
    let no_i : length d.ind ≡ 0 = no_indicators d order (omega arith) in
    record { heads = omega arith; named = λ one. order.named (omega arith); indicators = λ some. absurd (omega arith); placed = order.placed; benchmarks = order.benchmarks; values = order.values; valued = order.valued; multiplied = order.multiplied; multipliers = order.multipliers; closed = order.closed; joined = order.joined; tail = order.tail }
order_more d (start_line year) order may =
    let third : d.heads ≡ 2 = eqb-true _ _ may in
    record { heads = omega arith; named = λ one. order.named (omega arith); indicators = λ some. omega arith; placed = order.placed; benchmarks = order.benchmarks; values = order.values; valued = order.valued; multiplied = order.multiplied; multipliers = order.multipliers; closed = order.closed; joined = order.joined; tail = order.tail }
order_more d (indicator_line q v) order may =
    let m = both_hold (eqb d.heads 3 && eqb (length d.bench) 0) (is_quarter d.start (length d.ind) q) may in
    let p = both_hold (eqb d.heads 3) (eqb (length d.bench) 0) m.0 in
    let headed : d.heads ≡ 3 = eqb-true _ _ p.0 in
    let none : length d.bench ≡ 0 = eqb-true _ _ p.1 in
    let no_u : length d.u ≡ 0 = no_multipliers d order none in
    let no_t : d.tail ≡ 0 = no_tail d order none in
    let longer : length (d.ind ++ v ∷ []) ≡ length d.ind + 1 = omega (arith, length-append d.ind (v ∷ [])) in
    record { heads = order.heads; named = order.named; indicators = λ some. omega arith; placed = order.placed; benchmarks = places_kept (length d.ind) (length (d.ind ++ v ∷ [])) d.places (omega arith) order.benchmarks; values = omega (arith, order.values); valued = order.valued; multiplied = λ some. absurd (omega arith); multipliers = order.multipliers; closed = λ some. absurd (omega arith); joined = order.joined; tail = order.tail }
order_more d (benchmark_line y v) order may =
    let m = both_hold (eqb (length d.x) 0) (is_year_behind d.start d.places (length d.ind) y) may in
    let none : length d.x ≡ 0 = eqb-true _ _ m.0 in
    let year = year_behind d.start d.places (length d.ind) y m.1 in
    let before : length d.x < length d.ind = omega arith in
    let no_u : length d.u ≡ 0 = multipliers_later d order before in
    let no_t : d.tail ≡ 0 = tail_later d order before in
    let longer : length (d.bench ++ v ∷ []) ≡ length d.bench + 1 = omega (arith, length-append d.bench (v ∷ [])) in
    let further : length (d.places ++ (y - d.start) ∷ []) ≡ length d.places + 1 =
    omega (arith, length-append d.places ((y - d.start) ∷ [])) in
    record {
      heads = order.heads;
      named = order.named;
      indicators = order.indicators;
      placed = omega (arith, order.placed);
      benchmarks = places_more (length d.ind) d.places (y - d.start) order.benchmarks (omega arith) year.1;
      values = order.values;
      valued = λ some. omega arith;
      multiplied = order.multiplied;
      multipliers = λ some. absurd (omega arith);
      closed = order.closed;
      joined = λ some. absurd (omega arith);
      tail = order.tail;
    }
order_more d (value_line q v) order may =
    let m = both_hold (leb 1 (length d.bench) && ltb (length d.x) (length d.ind)) (is_quarter d.start (length d.x) q) may in
    let n = both_hold (leb 1 (length d.bench)) (ltb (length d.x) (length d.ind)) m.0 in
    let some_year : 1 ≤ length d.bench = leb-true _ _ n.0 in
    let room : length d.x < length d.ind = ltb-true _ _ n.1 in
    let no_u : length d.u ≡ 0 = multipliers_later d order room in
    let no_t : d.tail ≡ 0 = tail_later d order room in
    let longer : length (d.x ++ v ∷ []) ≡ length d.x + 1 = omega (arith, length-append d.x (v ∷ [])) in
    record { heads = order.heads; named = order.named; indicators = order.indicators; placed = order.placed; benchmarks = order.benchmarks; values = omega arith; valued = λ some. some_year; multiplied = λ some. absurd (omega arith); multipliers = order.multipliers; closed = λ some. absurd (omega arith); joined = order.joined; tail = order.tail }
order_more d (multiplier_line y v) order may =
    let m = both_hold (eqb (length d.x) (length d.ind) && ltb (length d.u + 1) (length d.bench))
    (eqb y (d.start + get_or d.places (length d.u) 0)) may in
    let n = both_hold (eqb (length d.x) (length d.ind)) (ltb (length d.u + 1) (length d.bench)) m.0 in
    let all : length d.x ≡ length d.ind = eqb-true _ _ n.0 in
    let room : length d.u + 1 < length d.bench = ltb-true _ _ n.1 in
    let no_t : d.tail ≡ 0 = tail_last d order room in
    let longer : length (d.u ++ v ∷ []) ≡ length d.u + 1 = omega (arith, length-append d.u (v ∷ [])) in
    record { heads = order.heads; named = order.named; indicators = order.indicators; placed = order.placed; benchmarks = order.benchmarks; values = order.values; valued = order.valued; multiplied = λ some. omega arith; multipliers = λ some. omega arith; closed = order.closed; joined = λ some. absurd (omega arith); tail = order.tail }
order_more d (gap_line v) order may =
    let m = both_hold (eqb d.tail 0 && eqb (length d.x) (length d.ind)) (eqb (length d.u + 1) (length d.bench)) may in
    let n = both_hold (eqb d.tail 0) (eqb (length d.x) (length d.ind)) m.0 in
    let open_yet : d.tail ≡ 0 = eqb-true _ _ n.0 in
    let all : length d.x ≡ length d.ind = eqb-true _ _ n.1 in
    let joints : length d.u + 1 ≡ length d.bench = eqb-true _ _ m.1 in
    record { heads = order.heads; named = order.named; indicators = order.indicators; placed = order.placed; benchmarks = order.benchmarks; values = order.values; valued = order.valued; multiplied = order.multiplied; multipliers = order.multipliers; closed = λ some. omega arith; joined = λ some. joints; tail = omega arith }
order_more d end_line order may =
    let last : d.tail ≡ 1 = eqb-true _ _ may in
    record { heads = order.heads; named = order.named; indicators = order.indicators; placed = order.placed; benchmarks = order.benchmarks; values = order.values; valued = order.valued; multiplied = order.multiplied; multipliers = order.multipliers; closed = λ some. order.closed (omega arith); joined = λ some. order.joined (omega arith); tail = omega arith }

guard : (b : Bool) (r : Result Content ℕ) (n : ℕ) (e : Content) → cond b r (Err n) ≡ Ok e → (b ≡ true) × (r ≡ Ok e)
guard true r n e h = (refl, h)
guard false r n e h = absurd cc

-- a line that is taken says something that follows
taken_by : (m : ℕ) (d e : Content) (says : Option Statement) (ps : List Placed) (n : ℕ) → cond (fits d says) (whole_from m (grown d says) ps) (Err n) ≡ Ok e
    → (s : Statement) × (says ≡ Some s) × (follows d s ≡ true) × (whole_from m (with_line d s) ps ≡ Ok e)
taken_by m d e None ps n h = absurd cc
taken_by m d e (Some s) ps n h = let g = guard (follows d s) (whole_from m (with_line d s) ps) n e h in (s, refl, g.0, g.1)

-- the lines so far and those still to come spell what is read
only_from : (m : ℕ) (d e : Content) (ps : List Placed) → IsInOrder d → whole_from m d ps ≡ Ok e → map Some (spelled d) ++ map (λ p. p.says) ps ≡ map Some (spelled e)
only_from m d e [] order h =
    let g = guard (eqb d.tail 2) (Ok d) m e h in
    let same : d ≡ e = cc in
    append-nil (map Some (spelled d)) ∙ ap (λ (c : Content). map Some (spelled c)) same
only_from m d e (p ∷ ps) order h =
    let t = taken_by m d e p.says ps p.number h in
    let rest : List (Option Statement) = map (λ (o : Placed). o.says) ps in
    ap (λ (o : Option Statement). map Some (spelled d) ++ (o ∷ rest)) t.1
    ∙ sym (append_assoc (map Some (spelled d)) (Some t.0 ∷ []) rest)
    ∙ ap (λ (l : List (Option Statement)). l ++ rest) (sym (map-append Some (spelled d) (t.0 ∷ [])))
    ∙ ap (λ (l : List Statement). map Some l ++ rest) (sym (spelled_more d t.0 order t.2))
    ∙ only_from m (with_line d t.0) e ps (order_more d t.0 order t.2) t.3

no_order : IsInOrder nothing
no_order = record { heads = omega arith; named = λ one. absurd (omega arith); indicators = λ some. absurd (omega arith); placed = refl; benchmarks = none_placed 0; values = omega arith; valued = λ some. absurd (omega arith); multiplied = λ some. absurd (omega arith); multipliers = λ some. absurd (omega arith); closed = λ some. absurd (omega arith); joined = λ some. absurd (omega arith); tail = omega arith }

judged_ok : (r : Result Content ℕ) (out : Option ℕ) (e : Content) → judged r out ≡ Ok e → r ≡ Ok e
judged_ok (Err n) out e h = absurd cc
judged_ok (Ok d) (Some n) e h = absurd cc
judged_ok (Ok d) None e h = let same : d ≡ e = cc in ap (λ (c : Content). Ok c) same

nothing_spelled : spelled nothing ≡ []
unfolding spelled
nothing_spelled = refl

-- what is read of a text is what its lines spell
pub read_spelled : (text : List ℕ) (e : Content) → reading text ≡ Ok e → map (λ p. p.says) (kept (lines_of text)) ≡ map Some (spelled e)
unfolding reading read_lines
read_spelled text e h =
    let lines = lines_of text in
    let r = judged_ok (whole_from (next_number (last_number 0 lines)) nothing (kept lines)) (out_from nothing (kept lines)) e h in
    let none : spelled nothing ≡ [] = nothing_spelled in
    ap (λ (l : List Statement). map Some l ++ map (λ (o : Placed). o.says) (kept lines)) (sym none) ∙ only_from (next_number (last_number 0 lines)) nothing e (kept lines) no_order r
