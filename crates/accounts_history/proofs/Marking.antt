-- The flags of the leaves that are named, while the entries of a history are gone through from the last one back.
use Rattle.std.proofs.Common.{◌≡◌, ◌∙◌, ap, sym, refl, subst, ℕ, suc, zero, ◌+◌, ◌-◌, ◌<◌, ◌≤◌, Bool, false, ◌||◌, List, [], ◌∷◌, ◌++◌, length, take, drop, get_or, arith, length-append}
use Rattle.std.specs.Prelude.{All, ◌==◌}
use Rattle.std.proofs.Math.Seq.{take-suc, drop-cons, take-length, drop-length}
use Rattle.std.proofs.lemmas.List.{take-append-drop, drop_at}
use Rattle.std.proofs.lemmas.List.Elements.{All-cons, All-head, All-nil, All-tail, All-weaker}
use Rattle.std.proofs.lemmas.List.Folds.{list_any-append}
use Rattle.series_tables.specs.Fits.{FitsPlan}
use Rattle.series_tables.specs.Plan.{PlanShape}
use Rattle.series_tables.specs.declared.input.Input.{Input}
use Rattle.dirty_plan.specs.Round.{has_flag}
use Rattle.dirty_plan.specs.Touched.{inputs_between, names_leaf}
use Rattle.accounts_history.specs.History.{IsLawful, inputs_of}
use Rattle.accounts_history.specs.Naming.{AreNamed}
use Rattle.accounts_history.specs.declared.entry.Entry.{Entry}
use Rattle.accounts_history.specs.declared.entry.Entry.TheVariants.{Accept, Publish}
use Rattle.accounts_history.proofs.Histories.{inputs_of-append}
use Rattle.accounts_history.proofs.Lawful.{within_bounds}

-- the leaves that the inputs from a place on name have their flags, and so many inputs are left of those that were asked for
pub record AreMarkedFrom (history : List Entry) (count items place left : ℕ) (flags : List Bool) : Type 0 where
  pub within : place ≤ length history
  pub enough : left ≤ length (inputs_of (take place history))
  pub marked : length (inputs_of (drop place history)) + left ≡ count
  pub all : length flags ≡ items
  pub named : AreNamed flags (inputs_of (drop place history))

-- nothing is marked yet
pub marked_none : (history : List Entry) (count items : ℕ) (flags : List Bool) → count ≤ length (inputs_of history) → length flags ≡ items → AreNamed flags []
    → AreMarkedFrom history count items (length history) count flags
marked_none history count items flags enough all none = record {
  within = omega arith;
  enough = subst (λ (h : List Entry). count ≤ length (inputs_of h)) (sym (take-length history)) enough;
  marked = omega (arith, ap (λ (h : List Entry). length (inputs_of h)) (drop-length history));
  all = all;
  named = subst (λ (h : List Entry). AreNamed flags (inputs_of h)) (sym (drop-length history)) none;
}

-- the inputs before a place and from it on are all
split_at : (history : List Entry) (place : ℕ) → inputs_of history ≡ inputs_of (take place history) ++ inputs_of (drop place history)
split_at history place =
    ap (λ (h : List Entry). inputs_of h) (sym (take-append-drop place history)) ∙ inputs_of-append (take place history) (drop place history)

-- the place isn't the first while inputs are left
pub not_first : (history : List Entry) (count items place left : ℕ) (flags : List Bool) → AreMarkedFrom history count items place left flags → 0 < left → 0 < place
not_first history count items zero left flags marked some = omega (arith, marked.enough, some)
not_first history count items (suc place) left flags marked some = omega arith

-- an entry has one input at most
at_most_one : (entry : Entry) → length (inputs_of (entry ∷ [])) ≤ 1
at_most_one (Accept party input) = omega arith
at_most_one (Publish party front jobs) = omega arith

-- one entry further back
pub marked_more : (history : List Entry) (count items place before left used : ℕ) (flags next : List Bool) (d entry : Entry) → AreMarkedFrom history count items place left flags
    → 0 < left → place ≡ suc before → entry ≡ get_or history before d → used ≡ length (inputs_of (entry ∷ [])) → length next ≡ length flags
    → ((leaf : ℕ) → has_flag next leaf ≡ (names_leaf (inputs_of (entry ∷ [])) leaf || has_flag flags leaf)) → AreMarkedFrom history count items before (left - used) next
marked_more history count items place before left used flags next d entry marked some following at counted as_long mark = record {
  within = omega arith;
  enough = omega (arith, split, marked.enough, counted, at_most_one entry, some);
  marked = omega (arith, more, counted, at_most_one entry, some, marked.marked);
  all = as_long ∙ marked.all;
  named = λ leaf. mark leaf ∙ ap (λ (b : Bool). names_leaf (inputs_of (entry ∷ [])) leaf || b) (marked.named leaf)
      ∙ sym (list_any-append (λ (input : Input). input.leaf == leaf) (inputs_of (entry ∷ [])) (inputs_of (drop place history)))
      ∙ ap (λ (inputs : List Input). names_leaf inputs leaf) (sym from);
}
  where
    inside : before < length history
    inside = omega (arith, marked.within, following)

    earlier : take place history ≡ take before history ++ entry ∷ []
    earlier = ap (λ (n : ℕ). take n history) following ∙ take-suc history before d inside ∙ ap (λ (e : Entry). take before history ++ e ∷ []) (sym at)

    later : drop before history ≡ entry ∷ drop place history
    later =
        drop-cons history before d inside ∙ ap (λ (e : Entry). e ∷ drop (suc before) history) (sym at)
        ∙ ap (λ (n : ℕ). entry ∷ drop n history) (sym following)

    from : inputs_of (drop before history) ≡ inputs_of (entry ∷ []) ++ inputs_of (drop place history)
    from = ap (λ (h : List Entry). inputs_of h) later ∙ inputs_of-append (entry ∷ []) (drop place history)

    more : length (inputs_of (drop before history)) ≡ length (inputs_of (entry ∷ [])) + length (inputs_of (drop place history))
    more = ap (λ (inputs : List Input). length inputs) from ∙ length-append (inputs_of (entry ∷ [])) (inputs_of (drop place history))

    split : length (inputs_of (take place history)) ≡ length (inputs_of (take before history)) + length (inputs_of (entry ∷ []))
    split =
        ap (λ (h : List Entry). length (inputs_of h)) earlier ∙ ap (λ (inputs : List Input). length inputs) (inputs_of-append (take before history) (entry ∷ []))
        ∙ length-append (inputs_of (take before history)) (inputs_of (entry ∷ []))

-- the entry that is marked next is one of the history
pub entry_fits : (P : Input → Type 0) (history : List Entry) (place : ℕ) (d entry : Entry) → place < length history → entry ≡ get_or history place d → All P (inputs_of history) → All P (inputs_of (entry ∷ []))
entry_fits P [] place d entry inside at all = absurd (omega arith)
entry_fits P (Accept party input ∷ history) zero d entry inside at all =
    subst (λ (e : Entry). All P (inputs_of (e ∷ []))) (sym at) (All-cons P input [] (All-head P input (inputs_of history) all) (All-nil P))
entry_fits P (Publish party front jobs ∷ history) zero d entry inside at all = subst (λ (e : Entry). All P (inputs_of (e ∷ []))) (sym at) (All-nil P)
entry_fits P (Accept party input ∷ history) (suc place) d entry inside at all =
    entry_fits P history place d entry (omega arith) at (All-tail P input (inputs_of history) all)
entry_fits P (Publish party front jobs ∷ history) (suc place) d entry inside at all = entry_fits P history place d entry (omega arith) at all

-- no input is left: the leaves that the last so many name have their flags
pub marked_all : (history : List Entry) (count items place left front : ℕ) (flags : List Bool) → AreMarkedFrom history count items place left flags → left ≡ 0 → front + count ≡ length (inputs_of history)
    → AreNamed flags (drop front (inputs_of history))
marked_all history count items place left front flags marked none whole =
    subst (AreNamed flags) (sym last) marked.named
  where
    long : length (inputs_of history) ≡ length (inputs_of (take place history)) + length (inputs_of (drop place history))
    long = ap (λ (inputs : List Input). length inputs) (split_at history place) ∙ length-append (inputs_of (take place history)) (inputs_of (drop place history))

    last : drop front (inputs_of history) ≡ inputs_of (drop place history)
    last =
        ap (drop front) (split_at history place)
        ∙ drop_at (inputs_of (take place history)) (inputs_of (drop place history)) front (omega (arith, long, marked.marked, none, whole))

-- the inputs of a lawful history name items of the plan
pub leaves_within : (plan : PlanShape) (history : List Entry) (items : ℕ) → IsLawful plan history → items ≡ length plan.names → All (λ input. input.leaf < items) (inputs_of history)
leaves_within plan history items lawful same =
    All-weaker (FitsPlan plan) (λ input. input.leaf < items) (λ input fits. omega (arith, fits.room.item, same)) (inputs_of history) (within_bounds plan history lawful).fit
