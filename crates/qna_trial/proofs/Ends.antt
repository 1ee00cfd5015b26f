-- How `trial` ends.
use Rattle.std.proofs.Common.{◌≡◌, ◌∙◌, ℕ, List, Some, None, inl, inr, refl, sym, ap}
use Rattle.std.specs.Prelude.{Ok, Err}
use Rattle.command_words.specs.TrialWords.{TrialForm, trial_form}
use Rattle.qna_edges.specs.Paper.{Paper, Prints, grown}
use Rattle.qna_edges.specs.declared.refused.Refused.{Refused}
use Rattle.qna_edges.specs.declared.refused.Refused.TheVariants as refused
use Rattle.qna_edges.specs.declared.status.Status.{Status}
use Rattle.qna_edges.specs.declared.status.Status.TheVariants.{CheckNo, Done, Memory, OpenFault, PlanFault, ReadFault, TooMuch, Usage, WriteFault}
use Rattle.qna_trial.specs.Trial.{trial_text}
use Rattle.qna_trial.specs.TrialEnd.{IsTrialEnd, OnTrial, TrialsComplete}

-- the whole report was written
pub told_whole : {T : Type 0} (value : T) (before after : Paper) (said : TrialForm) (text : List ℕ) → text ≡ trial_text said → Prints before after text (Ok value) → IsTrialEnd before after said Done
told_whole value before after said text is prints = record {
  whole = λ done. prints.ok ∙ ap (grown before) is;
  cut = λ other. absurd (cc);
  memory = λ other. absurd (cc);
  stands = λ other. absurd (cc);
  ends = refl;
}

-- it was broken off, and the status says why
pub told_off : {T : Type 0} (why : Refused) (status : Status) (before after : Paper) (said : TrialForm) (text : List ℕ) → text ≡ trial_text said → Prints {T = T} before after text (Err why)
    → (why ≡ refused.Failed → status ≡ WriteFault) → (why ≡ refused.Memory → status ≡ Memory) → IsTrialEnd before after said status
told_off refused.Failed status before after said text is prints failed memory = rw (failed refl) (record {
  whole = λ other. absurd (cc);
  cut = λ same. (prints.failed refl, rw is at prints.cut);
  memory = λ other. absurd (cc);
  stands = λ other. absurd (cc);
  ends = refl;
})
told_off refused.Memory status before after said text is prints failed memory = rw (memory refl) (record {
  whole = λ other. absurd (cc);
  cut = λ other. absurd (cc);
  memory = λ same. inr (prints.memory refl, rw is at prints.cut);
  stands = λ same. prints.stands (λ other. let never = other in cc);
  ends = refl;
})

-- memory was wanting before a line was written
pub told_none : (paper : Paper) (said : TrialForm) → IsTrialEnd paper paper said Memory
told_none paper said = record {
  whole = λ other. absurd (cc);
  cut = λ other. absurd (cc);
  memory = λ same. inl refl;
  stands = λ same. refl;
  ends = refl;
}

-- no end of a trial is that of words without its form
pub not_usage : (before after : Paper) (said : TrialForm) (status : Status) → IsTrialEnd before after said status → ¬ (status ≡ Usage)
not_usage before after said status end is = let never = rw is at end.ends in cc

-- words that have no form say nothing
pub formless : (words : List (List ℕ)) (P : TrialForm → Type 0) → trial_form words ≡ None → OnTrial words P
formless words P none = λ form some. absurd (let never = sym none ∙ some in cc)

-- words that have a form have no other
pub on_said : (words : List (List ℕ)) (said : TrialForm) (P : TrialForm → Type 0) → trial_form words ≡ Some said → P said → OnTrial words P
on_said words said P is holds = λ form some.
    let same : Some said ≡ Some form = sym is ∙ some in
    let here : said ≡ form = cc in
    rw here at holds

-- where the report's count of faults didn't rise, an end is whole or for want of memory
pub trials_complete : TrialsComplete
trials_complete before after said Done end stood = inl refl
trials_complete before after said Memory end stood = inr refl
trials_complete before after said WriteFault end stood = absurd (stood (end.cut refl).0)
trials_complete before after said Usage end stood = absurd (let never = end.ends in cc)
trials_complete before after said PlanFault end stood = absurd (let never = end.ends in cc)
trials_complete before after said OpenFault end stood = absurd (let never = end.ends in cc)
trials_complete before after said ReadFault end stood = absurd (let never = end.ends in cc)
trials_complete before after said CheckNo end stood = absurd (let never = end.ends in cc)
trials_complete before after said TooMuch end stood = absurd (let never = end.ends in cc)
