-- Inputs that are drawn one after another.
use Rattle.std.proofs.Common.{◌≡◌, ◌∙◌, ℕ, zero, suc, ◌+◌, ◌*◌, true, false, List, [], ◌∷◌, ◌++◌, cond, length, sym, ap, ap₂, arith, add-one, append_assoc, length-append}
use Rattle.std.specs.List.{filter, flat_map, range_with_len}
use Rattle.std.proofs.lemmas.List.{append-nil, flat_map_more}
use Rattle.std.proofs.lemmas.List.Elements.{filter-append}
use Rattle.std.specs.Int.{w64, from_le_bytes, to_le_bytes}
use Rattle.rand_core.specs.Stream.{Stream}
use Rattle.rand_core.specs.Steps.{stream_of}
use Rattle.rand_xoshiro.specs.SplitMix64.{splitmix_steps}
use Rattle.series_tables.specs.Plan.{PlanShape, is_leaf}
use Rattle.series_tables.specs.declared.input.Input.{Input}
use Rattle.trial_gen.specs.TrialInputs.{behind, quarter_inputs, benchmark_input, year_inputs, leaf_inputs, inputs_from, words_of_seed, inputs_of_trial}
use Rattle.trial_gen.proofs.Words.{behind_behind, behind_more, behind_none}

-- one number more
range_suc : (a n j : ℕ) → a + n ≡ j → range_with_len a (suc n) ≡ range_with_len a n ++ j ∷ []
range_suc a zero j at = ap (λ (x : ℕ). x ∷ []) (omega arith)
range_suc a (suc n) j at = ap (λ (xs : List ℕ). a ∷ xs) (range_suc (a + 1) n j (omega arith))

pub range_more : (n : ℕ) → range_with_len 0 (n + 1) ≡ range_with_len 0 n ++ n ∷ []
range_more n = ap (range_with_len 0) (add-one n) ∙ range_suc 0 n n (omega arith)

-- those of one place more, whose words are behind those of the places before
pub drawn_more : {X : Type 0} (draw : Stream → ℕ → List X) (words mid : Stream) (few place : ℕ) (before now later : List X) → mid ≡ behind (few * place) words
    → now ≡ before ++ flat_map (λ p. draw (behind (few * p) words) p) (range_with_len 0 place) → later ≡ now ++ draw mid place
    → later ≡ before ++ flat_map (λ p. draw (behind (few * p) words) p) (range_with_len 0 (place + 1))
drawn_more {X} draw words mid few place before now later left is then =
    then ∙ ap₂ (λ (xs : List X) (w : Stream). xs ++ draw w place) is left
    ∙ flat_map_more (λ p. draw (behind (few * p) words) p) before (range_with_len 0 place) place
    ∙ ap (λ (ps : List ℕ). before ++ flat_map (λ p. draw (behind (few * p) words) p) ps) (sym (range_more place))

-- those of a year are those of its quarters, and its benchmark
pub year_drawn : (words mid : Stream) (leaf year : ℕ) (before now later : List Input) → mid ≡ behind 8 words
    → now ≡ before ++ flat_map (λ p. quarter_inputs (behind (2 * p) words) leaf (4 * year + p)) (range_with_len 0 4)
    → later ≡ now ++ benchmark_input mid leaf year ∷ [] → later ≡ before ++ year_inputs words leaf year
unfolding year_inputs
year_drawn words mid leaf year before now later left is then =
    then ∙ ap₂ (λ (xs : List Input) (w : Stream). xs ++ benchmark_input w leaf year ∷ []) is left ∙ append_assoc before _ _

-- those of a leaf are those of its years
pub leaf_drawn : (words : Stream) (leaf years : ℕ) (before now : List Input)
    → now ≡ before ++ flat_map (λ year. year_inputs (behind (9 * year) words) leaf year) (range_with_len 0 years) → now ≡ before ++ leaf_inputs words leaf years
unfolding leaf_inputs
leaf_drawn words leaf years before now is = is

-- those of one leaf more
pub leaves_drawn : (words : Stream) (years leaf : ℕ) (leaves : List ℕ) → inputs_from words years (leaves ++ leaf ∷ []) ≡ inputs_from words years leaves ++ leaf_inputs (behind (9 * years * length leaves) words) leaf years
unfolding inputs_from
leaves_drawn words years leaf [] =
    let none : 0 ≡ 9 * years * 0 = omega arith in
    append-nil (leaf_inputs words leaf years) ∙ ap (λ (w : Stream). leaf_inputs w leaf years) (behind_none words ∙ ap (λ (n : ℕ). behind n words) none)
leaves_drawn words years leaf (first ∷ leaves) =
    let sum : 9 * years + 9 * years * length leaves ≡ 9 * years * suc (length leaves) = grind arith in
    ap (λ (xs : List Input). leaf_inputs words first years ++ xs)
    (leaves_drawn (behind (9 * years) words) years leaf leaves
    ∙ ap (λ (w : Stream). inputs_from (behind (9 * years) words) years leaves ++ leaf_inputs w leaf years)
    (behind_behind (9 * years * length leaves) (9 * years) words ∙ ap (λ (n : ℕ). behind n words) sum))
    ∙ sym (append_assoc (leaf_inputs words first years) _ _)

-- the leaves among one item more
pub leaf_more : (plan : PlanShape) (item : ℕ) → is_leaf plan item ≡ true → filter (is_leaf plan) (range_with_len 0 (item + 1)) ≡ filter (is_leaf plan) (range_with_len 0 item) ++ item ∷ []
leaf_more plan item is =
    ap (filter (is_leaf plan)) (range_more item) ∙ filter-append (is_leaf plan) (range_with_len 0 item) (item ∷ [])
    ∙ ap (λ b. filter (is_leaf plan) (range_with_len 0 item) ++ cond b (item ∷ []) []) is

pub inner_more : (plan : PlanShape) (item : ℕ) → is_leaf plan item ≡ false → filter (is_leaf plan) (range_with_len 0 (item + 1)) ≡ filter (is_leaf plan) (range_with_len 0 item)
inner_more plan item is =
    ap (filter (is_leaf plan)) (range_more item) ∙ filter-append (is_leaf plan) (range_with_len 0 item) (item ∷ [])
    ∙ ap (λ b. filter (is_leaf plan) (range_with_len 0 item) ++ cond b (item ∷ []) []) is ∙ append-nil _

-- a record of how far the leaves are drawn
pub record AreDrawn (plan : PlanShape) (words left : Stream) (years item : ℕ) (inputs : List Input) : Type 0 where
  pub behind_all : left ≡ behind (9 * years * length (filter (is_leaf plan) (range_with_len 0 item))) words
  pub drawn : inputs ≡ inputs_from words years (filter (is_leaf plan) (range_with_len 0 item))

-- an item that is a leaf
pub leaf_added : (plan : PlanShape) (words left later : Stream) (years item : ℕ) (now more : List Input) → AreDrawn plan words left years item now → is_leaf plan item ≡ true
    → more ≡ now ++ leaf_inputs left item years → later ≡ behind (9 * years) left → AreDrawn plan words later years (item + 1) more
leaf_added plan words left later years item now more are is then rest =
    let more_leaves = leaf_more plan item is in
    let one : length (filter (is_leaf plan) (range_with_len 0 item) ++ item ∷ []) ≡ length (filter (is_leaf plan) (range_with_len 0 item)) + 1 = length-append _ _ in
    let sum : 9 * years * length (filter (is_leaf plan) (range_with_len 0 item)) + 9 * years ≡ 9 * years * (length (filter (is_leaf plan) (range_with_len 0 item)) + 1) = grind arith in
    record {
      behind_all = behind_more (9 * years) (9 * years * length (filter (is_leaf plan) (range_with_len 0 item))) _ words left later are.behind_all rest
          (sum ∙ ap (λ (n : ℕ). 9 * years * n) (sym one) ∙ ap (λ (ls : List ℕ). 9 * years * length ls) (sym more_leaves));
      drawn = then ∙ ap₂ (λ (xs : List Input) (w : Stream). xs ++ leaf_inputs w item years) are.drawn are.behind_all
          ∙ sym (leaves_drawn words years item (filter (is_leaf plan) (range_with_len 0 item))) ∙ ap (inputs_from words years) (sym more_leaves);
    }

-- an item that is none
pub inner_stays : (plan : PlanShape) (words left : Stream) (years item : ℕ) (now : List Input) → AreDrawn plan words left years item now → is_leaf plan item ≡ false
    → AreDrawn plan words left years (item + 1) now
inner_stays plan words left years item now are is =
    let same = inner_more plan item is in
    record {
      behind_all = are.behind_all ∙ ap (λ (ls : List ℕ). behind (9 * years * length ls) words) (sym same);
      drawn = are.drawn ∙ ap (inputs_from words years) (sym same);
    }

-- before the first item
pub none_added : (plan : PlanShape) (seed years : ℕ) (left : Stream) (now : List Input) → left ≡ words_of_seed seed → now ≡ [] → AreDrawn plan (words_of_seed seed) left years 0 now
unfolding inputs_from
none_added plan seed years left now is none =
    let zeros : 0 ≡ 9 * years * 0 = omega arith in
    record { behind_all = is ∙ behind_none (words_of_seed seed) ∙ ap (λ (n : ℕ). behind n (words_of_seed seed)) zeros; drawn = none }

-- behind the last one
pub all_drawn : (plan : PlanShape) (seed years item : ℕ) (left : Stream) (now : List Input) → AreDrawn plan (words_of_seed seed) left years item now → item ≡ length plan.names
    → now ≡ inputs_of_trial plan seed years
unfolding inputs_of_trial
all_drawn plan seed years item left now are last =
    are.drawn ∙ ap (λ (n : ℕ). inputs_from (words_of_seed seed) years (filter (is_leaf plan) (range_with_len 0 n))) last

-- the words of a generator with the seed's bytes
pub seed_words : (seed state : ℕ) (bytes : List ℕ) → state ≡ from_le_bytes w64 bytes → bytes ≡ to_le_bytes w64 seed → stream_of splitmix_steps state ≡ words_of_seed seed
unfolding words_of_seed
seed_words seed state bytes is spelled = ap (stream_of splitmix_steps) (is ∙ ap (from_le_bytes w64) spelled)
