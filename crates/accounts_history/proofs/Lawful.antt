-- Lawful histories, one entry after another.
use Rattle.std.proofs.Common.{◌≡◌, ◌∙◌, ap, sym, refl, subst, inl, inr, ◌⊎◌, ℕ, ◌+◌, ◌≤◌, List, [], ◌∷◌, ◌++◌, length, map, arith, append_assoc, append-nil, length-append}
use Rattle.std.specs.Prelude.{All}
use Rattle.std.proofs.lemmas.List.Elements.{All-nil, All-push}
use Rattle.series_tables.specs.Fits.{FitsPlan}
use Rattle.series_tables.specs.Plan.{PlanShape}
use Rattle.series_tables.specs.declared.input.Input.{Input}
use Rattle.accounts_history.specs.History.{Sent, journal, inputs_of, front_of, MayFollow, IsLawful, most_inputs, most_ahead}
use Rattle.accounts_history.specs.Laws.{IsWithinBounds}
use Rattle.accounts_history.specs.declared.entry.Entry.{Entry}
use Rattle.accounts_history.specs.declared.entry.Entry.TheVariants.{Accept, Publish}
use Rattle.accounts_history.proofs.Histories.{journal-accept, journal-publish, inputs_of-accept, inputs_of-publish, length-journal-accept, front_of-accept, front_of-publish}

-- an element of a list with one more at its end is the last, or one of the list
pub split_last : {X : Type 0} (before after entries : List X) (x last : X) → before ++ x ∷ after ≡ entries ++ last ∷ []
    → ((before ≡ entries) × (x ≡ last)) ⊎ ((rest : List X) × (before ++ x ∷ rest ≡ entries))
split_last [] after [] x last same = inl (refl, cc)
split_last {X} [] after (y ∷ ys) x last same = inr (ys, ap (λ (z : X). z ∷ ys) (let head : x ≡ y = cc in head))
split_last (b ∷ []) after [] x last same = absurd (cc)
split_last (b ∷ c ∷ bs) after [] x last same = absurd (cc)
split_last {X} (b ∷ bs) after (y ∷ ys) x last same = by (split_last bs after ys x last (let tail : bs ++ x ∷ after ≡ ys ++ last ∷ [] = cc in tail))
  where
    head : b ≡ y
    head = cc

    by : ((bs ≡ ys) × (x ≡ last)) ⊎ ((rest : List X) × (bs ++ x ∷ rest ≡ ys)) → ((b ∷ bs ≡ y ∷ ys) × (x ≡ last)) ⊎ ((rest : List X) × (b ∷ (bs ++ x ∷ rest) ≡ y ∷ ys))
    by (inl both) = let tail : bs ≡ ys = both.0 in inl (ap (λ (z : X). z ∷ bs) head ∙ ap (λ (zs : List X). y ∷ zs) tail, both.1)
    by (inr more) = inr (more.0, ap (λ (z : X). z ∷ (bs ++ x ∷ more.0)) head ∙ ap (λ (zs : List X). y ∷ zs) more.1)

-- no entry stands in an empty history
pub lawful_none : (plan : PlanShape) → IsLawful plan []
lawful_none plan [] after entry same = absurd (cc)
lawful_none plan (b ∷ before) after entry same = absurd (cc)

-- one entry more that may follow
pub lawful_more : (plan : PlanShape) (history : List Entry) (entry : Entry) → IsLawful plan history → MayFollow plan history entry → IsLawful plan (history ++ entry ∷ [])
lawful_more plan history entry lawful may before after x same = by (split_last before after history x entry same)
  where
    by : ((before ≡ history) × (x ≡ entry)) ⊎ ((rest : List Entry) × (before ++ x ∷ rest ≡ history)) → MayFollow plan before x
    by (inl both) = subst (λ (b : List Entry). MayFollow plan b x) (sym both.0) (subst (λ (y : Entry). MayFollow plan history y) (sym both.1) may)
    by (inr more) = lawful before more.0 x more.1

-- what a lawful history begins with
pub lawful_before : (plan : PlanShape) (before after : List Entry) → IsLawful plan (before ++ after) → IsLawful plan before
lawful_before plan before after lawful first rest x same =
    lawful first (rest ++ after) x (sym (append_assoc first (x ∷ rest) after) ∙ ap (λ (b : List Entry). b ++ after) same)

-- one entry more that may follow is within the bounds
within_more : (plan : PlanShape) (history : List Entry) (entry : Entry) → MayFollow plan history entry → IsWithinBounds plan history → IsWithinBounds plan (history ++ entry ∷ [])
within_more plan history (Accept party input) may within = record {
  fit = subst (λ (inputs : List Input). All (FitsPlan plan) inputs) (sym (inputs_of-accept history party input)) (All-push (FitsPlan plan) (inputs_of history) input within.fit may.fits);
  few = omega (arith, length-journal-accept history party input, may.room);
  accepted = omega (arith, length-journal-accept history party input, front_of-accept history party input, within.accepted);
  near = omega (arith, length-journal-accept history party input, front_of-accept history party input, may.near);
  short = omega (arith, length-append history (Accept party input ∷ []), length-journal-accept history party input, front_of-accept history party input, within.short);
}
within_more plan history (Publish party front jobs) may within =
    let same : length (journal (history ++ Publish party front jobs ∷ [])) ≡ length (journal history) = ap (λ (sent : List Sent). length sent) (journal-publish history party front jobs) in
    record {
      fit = subst (λ (inputs : List Input). All (FitsPlan plan) inputs) (sym (inputs_of-publish history party front jobs)) within.fit;
      few = omega (arith, same, within.few);
      accepted = omega (arith, same, front_of-publish history party front jobs, may.accepted);
      near = omega (arith, same, front_of-publish history party front jobs, may.later, within.near);
      short = omega (arith, length-append history (Publish party front jobs ∷ []), same, front_of-publish history party front jobs, may.later, within.short);
    }

within_none : (plan : PlanShape) → IsWithinBounds plan []
within_none plan = record { fit = All-nil (FitsPlan plan); few = omega arith; accepted = omega arith; near = omega arith; short = omega arith }

-- a history within the bounds goes on to one within the bounds
within_on : (plan : PlanShape) (before after : List Entry) → IsWithinBounds plan before → IsLawful plan (before ++ after) → IsWithinBounds plan (before ++ after)
within_on plan before [] within lawful = subst (IsWithinBounds plan) (sym (append-nil before)) within
within_on plan before (entry ∷ after) within lawful =
    let same : (before ++ entry ∷ []) ++ after ≡ before ++ entry ∷ after = append_assoc before (entry ∷ []) after in
    subst (IsWithinBounds plan) same
    (within_on plan (before ++ entry ∷ []) after (within_more plan before entry (lawful before after entry refl) within) (subst (IsLawful plan) (sym same) lawful))

pub within_bounds : (plan : PlanShape) (history : List Entry) → IsLawful plan history → IsWithinBounds plan history
within_bounds plan history lawful = within_on plan [] history (within_none plan) lawful
