-- Papers that grow by parts of a text.
use Rattle.std.proofs.Common.{◌≡◌, ◌≤◌, ◌∙◌, ℕ, ◌+◌, ◌-◌, List, [], ◌++◌, length, take, drop, arith, refl, sym, ap, append_assoc, length-append, length-drop, Some, None, inl, inr, ◌⊎◌}
use Rattle.std.specs.Prelude.{Result, IsErrOf, ◌<◌}
use Rattle.std.proofs.lemmas.List.{take_all, take-append-le, append-nil}
use Rattle.std.proofs.Math.Seq.{take-add, take-append-add}
use Rattle.qna_edges.specs.Count.{Rose}
use Rattle.std.specs.Option.{option_map}
use Rattle.std.specs.declared.option.Option.{Option}
use Rattle.std.specs.declared.result.Result.TheVariants.{Ok, Err}
use Rattle.qna_edges.specs.declared.refused.Refused.{Refused}
use Rattle.qna_edges.specs.declared.refused.Refused.TheVariants.{Failed, Memory}
use Rattle.qna_edges.specs.Paper.{Paper, grown, Fails, Wants, WasRefused, BreaksOff, Prints, Writes, WasWritten}

-- a text and then another were added
pub grown-grown : (paper : Paper) (text more : List ℕ) → grown (grown paper text) more ≡ grown paper (text ++ more)
grown-grown paper text more = ap (λ (held : Option (List ℕ)). record paper { held = held }) (by_held paper.held)
  where
    by_held : (held : Option (List ℕ)) → option_map (λ bytes. bytes ++ more) (option_map (λ bytes. bytes ++ text) held) ≡ option_map (λ bytes. bytes ++ (text ++ more)) held
    by_held None = refl
    by_held (Some bytes) = ap (λ (xs : List ℕ). Some xs) (append_assoc bytes text more)

-- the first part of a text, and then the first bytes of what is left of it
take-rest : (text : List ℕ) (done k : ℕ) → take done text ++ take k (take (length text - done) (drop done text)) ≡ take (done + k) text
take-rest text done k =
    let whole : take (length text - done) (drop done text) ≡ drop done text = take_all _ _ (omega (arith, length-drop done text)) in
    rw (whole, take-add done k text) refl

-- the same of papers
pub grown-more : (old mid new : Paper) (text : List ℕ) (done k : ℕ) → mid ≡ grown old (take done text) → new ≡ grown mid (take k (take (length text - done) (drop done text))) → new ≡ grown old (take (done + k) text)
grown-more old mid new text done k first then =
    then ∙ ap (λ (p : Paper). grown p (take k (take (length text - done) (drop done text)))) first ∙ grown-grown old (take done text) (take k (take (length text - done) (drop done text)))
    ∙ ap (grown old) (take-rest text done k)

-- a write that was refused within a text
pub refused_within : {T : Type 0} (refused : Refused) (old mid new : Paper) (text : List ℕ) (done : ℕ) → mid ≡ grown old (take done text) → done < length text →
    (IsErrOf {T = ℕ} (Err refused) Failed → Fails mid new) → (IsErrOf {T = ℕ} (Err refused) Memory → Wants mid new) → Prints {T = T} old new text (Err refused)
refused_within Failed old mid new text done first within failed wants =
    let end = failed refl in
    let counted : mid.faults ≡ old.faults = ap (λ (p : Paper). p.faults) first in
    let other : new.wants ≡ old.wants = ap (λ (p : Paper). p.wants) end.same ∙ ap (λ (p : Paper). p.wants) first in
    let rose : Rose old.faults new.faults = rw counted at end.rose in
    record {
      ok = tt;
      cut = record { part = (done, within, end.same ∙ ap (λ (p : Paper). record p { faults = new.faults }) first ∙ ap (λ (n : ℕ). record (grown old (take done text)) { faults = new.faults; wants = n }) (sym other)); faults = omega (arith, end.later, counted); wants = omega (arith, other) };
      failed = λ is. rose;
      memory = λ is. absurd (let never = is in cc);
      stands = λ no. absurd (no refl);
    }
refused_within Memory old mid new text done first within failed wants =
    let end = wants refl in
    let counted : mid.wants ≡ old.wants = ap (λ (p : Paper). p.wants) first in
    let other : new.faults ≡ old.faults = ap (λ (p : Paper). p.faults) end.same ∙ ap (λ (p : Paper). p.faults) first in
    let rose : Rose old.wants new.wants = rw counted at end.rose in
    record {
      ok = tt;
      cut = record { part = (done, within, end.same ∙ ap (λ (p : Paper). record p { wants = new.wants }) first ∙ ap (λ (n : ℕ). record (grown old (take done text)) { faults = n; wants = new.wants }) (sym other)); faults = omega (arith, other); wants = omega (arith, end.later, counted) };
      failed = λ is. absurd (let never = is in cc);
      memory = λ is. rose;
      stands = λ no. other;
    }

-- all of a text was written
pub whole_written : {T : Type 0} (value : T) (old new : Paper) (text : List ℕ) (done : ℕ) → new ≡ grown old (take done text) → done ≤ length text → length text ≤ done → Prints old new text (Ok value)
whole_written value old new text done first within all = record {
  ok = first ∙ ap (grown old) (take_all done text all);
  cut = tt;
  failed = λ is. absurd (let never = is in cc);
  memory = λ is. absurd (let never = is in cc);
  stands = λ no. ap (λ (p : Paper). p.faults) first;
}

-- whatever was answered, a text was written whole, or one of the counts rose
pub written_or_refused : {T : Type 0} (result : Result T Refused) (old new : Paper) (text : List ℕ) → Prints old new text result → Writes old new text
written_or_refused (Ok value) old new text done = inl done.ok
written_or_refused (Err Failed) old new text done = inr (inl (done.failed refl), done.cut)
written_or_refused (Err Memory) old new text done = inr (inr (done.memory refl), done.cut)

-- what was broken off within the first of two texts, or within the second once the first was written
pub broken_first : (old new : Paper) (text more : List ℕ) → BreaksOff old new text → BreaksOff old new (text ++ more)
broken_first old new text more off = record {
  part = (off.part.0, omega (arith, length-append text more, off.part.1), rw (take-append-le off.part.0 text more (omega (arith, off.part.1))) off.part.2);
  faults = off.faults;
  wants = off.wants;
}

pub broken_second : (old mid new : Paper) (text more : List ℕ) → mid ≡ grown old text → BreaksOff mid new more → BreaksOff old new (text ++ more)
broken_second old mid new text more first off =
    let counted : mid.faults ≡ old.faults = ap (λ (p : Paper). p.faults) first in
    let other : mid.wants ≡ old.wants = ap (λ (p : Paper). p.wants) first in
    let k : ℕ = off.part.0 in
    record {
      part = (
        length text + k,
        omega (arith, length-append text more, off.part.1),
        off.part.2 ∙ ap (λ (p : Paper). record (grown p (take k more)) { faults = new.faults; wants = new.wants }) first
            ∙ ap (λ (p : Paper). record p { faults = new.faults; wants = new.wants }) (grown-grown old text (take k more) ∙ ap (grown old) (sym (take-append-add text more k))),
      );
      faults = omega (arith, off.faults, counted);
      wants = omega (arith, off.wants, other);
    }

-- two texts, one after the other
pub prints_both : {T : Type 0} (result : Result T Refused) (old mid new : Paper) (text more : List ℕ) → mid ≡ grown old text → Prints mid new more result → Prints old new (text ++ more) result
prints_both (Ok value) old mid new text more first then = record {
  ok = then.ok ∙ ap (λ (p : Paper). grown p more) first ∙ grown-grown old text more;
  cut = tt;
  failed = λ is. absurd (let never = is in cc);
  memory = λ is. absurd (let never = is in cc);
  stands = λ no. ap (λ (p : Paper). p.faults) then.ok ∙ ap (λ (p : Paper). p.faults) first;
}
prints_both (Err refused) old mid new text more first then =
    let counted : mid.faults ≡ old.faults = ap (λ (p : Paper). p.faults) first in
    let other : mid.wants ≡ old.wants = ap (λ (p : Paper). p.wants) first in
    record {
      ok = tt;
      cut = broken_second old mid new text more first then.cut;
      failed = λ is. rw counted at then.failed is;
      memory = λ is. rw other at then.memory is;
      stands = λ no. then.stands no ∙ counted;
    }

pub prints_first : {T U : Type 0} (refused : Refused) (old new : Paper) (text more : List ℕ) → Prints {T = T} old new text (Err refused) → Prints {T = U} old new (text ++ more) (Err refused)
prints_first Failed old new text more then = record {
  ok = tt;
  cut = broken_first old new text more then.cut;
  failed = λ is. then.failed refl;
  memory = λ is. absurd (let never = is in cc);
  stands = λ no. absurd (no refl);
}
prints_first Memory old new text more then = record {
  ok = tt;
  cut = broken_first old new text more then.cut;
  failed = λ is. absurd (let never = is in cc);
  memory = λ is. then.memory refl;
  stands = λ no. then.stands (λ is. let never = is in cc);
}

pub ruleset printed = (prints_both, prints_first, written_or_refused)

-- a paper that grew counted nothing
pub faults_grown : (old new : Paper) (text : List ℕ) → new ≡ grown old text → old.faults ≤ new.faults
faults_grown old new text is = let same : new.faults ≡ old.faults = ap (λ (p : Paper). p.faults) is in omega (arith, same)

-- a sink to which a text was to be written was only written
pub written_grown : (old new : Paper) (text : List ℕ) → new ≡ grown old text → WasWritten old new
written_grown old new text is = record {
  later = faults_grown old new text is;
  same_name = ap (λ (p : Paper). p.name) is;
}

pub written_broken : (old new : Paper) (text : List ℕ) → BreaksOff old new text → WasWritten old new
written_broken old new text off = record {
  later = off.faults;
  same_name = ap (λ (p : Paper). p.name) off.part.2;
}

pub written_printed : {T : Type 0} (result : Result T Refused) (old new : Paper) (text : List ℕ) → Prints old new text result → WasWritten old new
written_printed (Ok value) old new text done = written_grown old new text done.ok
written_printed (Err refused) old new text done = written_broken old new text done.cut

pub ruleset told_of = (faults_grown, written_printed)

-- the same of a text that the two make up
pub prints_two : {T : Type 0} (result : Result T Refused) (old mid new : Paper) (text more whole : List ℕ) → mid ≡ grown old text → Prints mid new more result → whole ≡ text ++ more → Prints old new whole result
prints_two result old mid new text more whole first then is = rw is (prints_both result old mid new text more first then)

-- a text of nothing
pub grown_nothing : (paper : Paper) → paper ≡ grown paper []
grown_nothing paper = ap (λ (held : Option (List ℕ)). record paper { held = held }) (by_held paper.held)
  where
    by_held : (held : Option (List ℕ)) → held ≡ option_map (λ bytes. bytes ++ []) held
    by_held None = refl
    by_held (Some bytes) = ap (λ (xs : List ℕ). Some xs) (sym (append-nil bytes))

-- a text and then another were added
pub grown_after : (old mid new : Paper) (text more : List ℕ) → mid ≡ grown old text → new ≡ grown mid more → new ≡ grown old (text ++ more)
grown_after old mid new text more first then = then ∙ ap (λ (p : Paper). grown p more) first ∙ grown-grown old text more

-- a count that rose after a text rose from before it
pub refuses_from : (old mid new : Paper) (text : List ℕ) → mid ≡ grown old text → WasRefused mid new → WasRefused old new
refuses_from old mid new text first rose =
    let counted : mid.faults ≡ old.faults = ap (λ (p : Paper). p.faults) first in
    let other : mid.wants ≡ old.wants = ap (λ (p : Paper). p.wants) first in
    rw (counted, other) at rose

-- nothing was written
pub stopped_none : (old new : Paper) (text : List ℕ) → new ≡ old → (new ≡ grown old []) ⊎ (WasRefused old new × BreaksOff old new text)
stopped_none old new text same = inl (same ∙ grown_nothing old)

-- a write was refused
pub stopped_off : {T : Type 0} (refused : Refused) (old new : Paper) (text : List ℕ) → Prints {T = T} old new text (Err refused) → (new ≡ grown old []) ⊎ (WasRefused old new × BreaksOff old new text)
stopped_off Failed old new text then = inr (inl (then.failed refl), then.cut)
stopped_off Memory old new text then = inr (inr (then.memory refl), then.cut)

pub ruleset stopping = (stopped_none, stopped_off)
