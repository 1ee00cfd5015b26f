-- The beginnings of a journal are journals, and what is compiled of them is worth what every release is.
use Rattle.std.proofs.Common.{◌≡◌, ◌∙◌, ap, sym, refl, subst, ℕ, zero, suc, ◌≤◌, List, [], ◌∷◌, ◌++◌, take, Ok}
use Rattle.std.specs.Prelude.{All}
use Rattle.std.proofs.lemmas.List.Elements.{All-head, All-nil, All-cons, All-tail, filter_map-append}
use Rattle.series_tables.specs.Plan.{PlanShape, plan_of}
use Rattle.series_tables.specs.IsPlan.{IsPlan}
use Rattle.series_tables.specs.declared.input.Input.{Input}
use Rattle.accounts_history.specs.History.{IsLawful, Sent, inputs_of, journal, sent_in}
use Rattle.accounts_history.specs.declared.entry.Entry.{Entry}
use Rattle.accounts_history.specs.declared.entry.Entry.TheVariants.{Accept, Publish}
use Rattle.accounts_history.proofs.Lawful.{lawful_before}
use Rattle.release_print.specs.Journal.{journal_text}
use Rattle.qna_laws.specs.Journals.{AreJournalsRead, IsOfDesks}
use Rattle.qna_laws.specs.Releases.{ReleasesAreCertified}
use Rattle.qna_live.specs.Certified.{IsWorth, JournalsAreCertified}

-- a history parted behind the input with a number
pub record IsParted (history : List Entry) (front : ℕ) : Type 0 where
  pub before : List Entry
  pub after : List Entry
  pub parts : history ≡ before ++ after
  pub inputs : inputs_of before ≡ take front (inputs_of history)

-- every history can be parted so
parted : (history : List Entry) (front : ℕ) → IsParted history front
parted [] front = record { before = []; after = []; parts = refl; inputs = sym (none front) }
  where
    none : (n : ℕ) → take {A = Input} n [] ≡ []
    none zero = refl
    none (suc n) = refl
parted (Accept party input ∷ entries) zero =
    record { before = []; after = Accept party input ∷ entries; parts = refl; inputs = refl }
parted (Accept party input ∷ entries) (suc front) =
    let rest = parted entries front in record {
      before = Accept party input ∷ rest.before;
      after = rest.after;
      parts = ap (λ (w : List Entry). Accept party input ∷ w) rest.parts;
      inputs = ap (λ (w : List Input). input ∷ w) rest.inputs;
    }
parted (Publish party published jobs ∷ entries) front =
    let rest = parted entries front in record {
      before = Publish party published jobs ∷ rest.before;
      after = rest.after;
      parts = ap (λ (w : List Entry). Publish party published jobs ∷ w) rest.parts;
      inputs = rest.inputs;
    }

-- of all that are in a list, those in front are
front_of_all : {A : Type 0} (P : A → Type 0) (some more : List A) → All P (some ++ more) → All P some
front_of_all P [] more all = All-nil P
front_of_all P (one ∷ some) more all =
    All-cons P one some (All-head P one (some ++ more) all)
    (front_of_all P some more (All-tail P one (some ++ more) all))

-- a journal's beginning came from desks too
desks_before : (before after : List Entry) → IsOfDesks (before ++ after) → IsOfDesks before
desks_before before after desks =
    front_of_all (λ (sent : Sent). (1 ≤ sent.party) × (sent.party ≤ 16)) (journal before) (journal after)
    (subst (λ (w : List Sent). All (λ (sent : Sent). (1 ≤ sent.party) × (sent.party ≤ 16)) w)
    (filter_map-append sent_in before after) desks)

pub journals_certified : AreJournalsRead → ((text : List ℕ) (plan : PlanShape) → plan_of text ≡ Ok plan → IsPlan plan)
    → ReleasesAreCertified → JournalsAreCertified
unfolding ReleasesAreCertified JournalsAreCertified
journals_certified read planned certified spelled plan history front is lawful desks =
    let at = parted history front in
    let lawful_part : IsLawful plan (at.before ++ at.after) =
    subst (λ (h : List Entry). IsLawful plan h) at.parts lawful in
    let desks_part : IsOfDesks (at.before ++ at.after) = subst (λ (h : List Entry). IsOfDesks h) at.parts desks in
    let found = read plan at.before (planned spelled plan is) (lawful_before plan at.before at.after lawful_part)
    (desks_before at.before at.after desks_part) in
    record {
      text = journal_text plan at.before;
      sent = found.0 ∙ at.inputs;
      certified = certified plan (journal_text plan at.before);
    }
