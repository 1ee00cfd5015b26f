-- What the texts behind `trial` say, and which words are none of it.
use Rattle.std.proofs.Common.{◌≡◌, ◌∙◌, ◌<◌, ◌≤◌, ◌+◌, ◌-◌, ◌*◌, ◌^◌, ◌&&◌, ◌||◌, ℕ, Bool, true, false, refl, sym, ap, arith, List, [], ◌∷◌, length, codes, nat_le, nat_lt, Option, Some, None, is_some}
use Rattle.std.specs.Prelude.{if◌then◌else◌}
use Rattle.std.specs.List.{list_any, slice_index_or}
use Rattle.std.specs.Str.{bytes_eq}
use Rattle.std.specs.Borrow.{Bor}
use Rattle.std.proofs.lemmas.Bool.Decides.{nat_tests}
use Rattle.command_words.specs.Command.{words_in}
use Rattle.command_words.specs.LiveWords.{digits_value, number_within}
use Rattle.command_words.specs.TrialWords.{TrialForm, count_within, form_of_numbers, form_of_texts, one_at_least, trial_form}
use Rattle.command_words.specs.Words.{Plain, begins_by, begins_live, begins_with_dash, plain_is, plain_of, texts_between}
use Rattle.command_words.proofs.Forms.{texts_are}
use Rattle.command_words.proofs.Plain.{dash_word, form_plain, live_word}
use Rattle.command_words.proofs.Callers.{plain_whole}

-- ---- what is read

-- words that don't begin with `trial` are none of it
pub trial_unnamed : (words : List (List ℕ)) → begins_by (codes "trial") words ≡ false → trial_form words ≡ None
unfolding trial_form
trial_unnamed [] h = refl
trial_unnamed (word ∷ []) h = refl
trial_unnamed (word ∷ seed ∷ []) h = refl
trial_unnamed (word ∷ seed ∷ items ∷ []) h = refl
trial_unnamed (word ∷ seed ∷ items ∷ years ∷ []) h = refl
trial_unnamed (word ∷ seed ∷ items ∷ years ∷ workers ∷ []) h = ap (λ (b : Bool). if b then form_of_texts seed items years workers else None) h
trial_unnamed (word ∷ seed ∷ items ∷ years ∷ workers ∷ other ∷ words) h = refl

-- nor are those with fewer or more than four texts behind the first
pub trial_outside : (words : List (List ℕ)) → None ≡ texts_between 4 4 words → None ≡ trial_form words
unfolding trial_form
trial_outside [] h = refl
trial_outside (word ∷ []) h = refl
trial_outside (word ∷ seed ∷ []) h = refl
trial_outside (word ∷ seed ∷ items ∷ []) h = refl
trial_outside (word ∷ seed ∷ items ∷ years ∷ []) h = refl
trial_outside (word ∷ seed ∷ items ∷ years ∷ workers ∷ []) h = absurd (cc)
trial_outside (word ∷ seed ∷ items ∷ years ∷ workers ∷ other ∷ words) h = refl

-- four texts behind `trial` have the form of their numbers
pub trial_read : (words : List (List ℕ)) (texts : List (Bor (List ℕ))) (none : Bor (List ℕ)) → Some (words_in texts) ≡ texts_between 4 4 words → 4 ≤ length texts → length texts < 5
    → begins_by (codes "trial") words ≡ true
    → form_of_texts (slice_index_or texts 0 none).now (slice_index_or texts 1 none).now (slice_index_or texts 2 none).now (slice_index_or texts 3 none).now ≡ trial_form words
unfolding trial_form
trial_read [] texts none is some few named = absurd (cc)
trial_read (word ∷ words) [] none is some few named = absurd (omega arith)
trial_read (word ∷ words) (seed ∷ []) none is some few named = absurd (omega arith)
trial_read (word ∷ words) (seed ∷ items ∷ []) none is some few named = absurd (omega arith)
trial_read (word ∷ words) (seed ∷ items ∷ years ∷ []) none is some few named = absurd (omega arith)
trial_read (word ∷ words) (seed ∷ items ∷ years ∷ workers ∷ []) none is some few named =
    let same : seed.now ∷ items.now ∷ years.now ∷ workers.now ∷ [] ≡ words = texts_are 4 4 word words _ is in
    ap (λ (b : Bool). if b then form_of_texts seed.now items.now years.now workers.now else None) (sym named) ∙ ap (λ ws. trial_form (word ∷ ws)) same
trial_read (word ∷ words) (seed ∷ items ∷ years ∷ workers ∷ other ∷ texts) none is some few named = absurd (omega arith)

-- ---- words with a dash

-- a word with a dash spells no number
dash_number : (most : ℕ) (word : List ℕ) → begins_with_dash word ≡ true → number_within most word ≡ None
dash_number most [] h = absurd (cc)
dash_number most (byte ∷ bytes) h = ap (λ o. elim o [ None ↦ None | Some number ↦ if nat_le number most then Some number else None ]) (spelled (nat_lt 0 (length (byte ∷ bytes)) && nat_le (length (byte ∷ bytes)) 20))
  where
    is : nat_le 48 byte ≡ false
    is = grind (arith, nat_tests)

    spelled : (b : Bool) → (if b then digits_value 0 (byte ∷ bytes) else None) ≡ None
    spelled true = ap (λ (d : Bool). if d && nat_le byte 57 then digits_value (10 * 0 + (byte - 48)) bytes else None) is
    spelled false = refl

dash_count : (most : ℕ) (word : List ℕ) → begins_with_dash word ≡ true → count_within most word ≡ None
dash_count most word h = ap one_at_least (dash_number most word h)

-- without one of its numbers a trial has no form
no_items : (seed years workers : Option ℕ) → form_of_numbers seed None years workers ≡ None
no_items None years workers = refl
no_items (Some seed) years workers = refl

no_years : (seed items workers : Option ℕ) → form_of_numbers seed items None workers ≡ None
no_years None items workers = refl
no_years (Some seed) None workers = refl
no_years (Some seed) (Some items) workers = refl

no_workers : (seed items years : Option ℕ) → form_of_numbers seed items years None ≡ None
no_workers None items years = refl
no_workers (Some seed) None years = refl
no_workers (Some seed) (Some items) None = refl
no_workers (Some seed) (Some items) (Some years) = refl

-- a text with a dash leaves no form
texts_dashed : (seed items years workers : List ℕ) → list_any begins_with_dash (seed ∷ items ∷ years ∷ workers ∷ []) ≡ true → form_of_texts seed items years workers ≡ None
texts_dashed seed items years workers h = go (begins_with_dash seed) (begins_with_dash items) (begins_with_dash years) (begins_with_dash workers) refl refl refl refl h
  where
    go : (s i y w : Bool) → begins_with_dash seed ≡ s → begins_with_dash items ≡ i → begins_with_dash years ≡ y → begins_with_dash workers ≡ w → (s || (i || (y || (w || false)))) ≡ true
        → form_of_texts seed items years workers ≡ None
    go true i y w es ei ey ew t = ap (λ o. form_of_numbers o (count_within 512 items) (count_within 64 years) (count_within 16 workers)) (dash_number (2 ^ 64 - 1) seed es)
    go false true y w es ei ey ew t = ap (λ o. form_of_numbers (number_within (2 ^ 64 - 1) seed) o (count_within 64 years) (count_within 16 workers)) (dash_count 512 items ei) ∙ no_items _ _ _
    go false false true w es ei ey ew t = ap (λ o. form_of_numbers (number_within (2 ^ 64 - 1) seed) (count_within 512 items) o (count_within 16 workers)) (dash_count 64 years ey) ∙ no_years _ _ _
    go false false false true es ei ey ew t = ap (λ o. form_of_numbers (number_within (2 ^ 64 - 1) seed) (count_within 512 items) (count_within 64 years) o) (dash_count 16 workers ew) ∙ no_workers _ _ _
    go false false false false es ei ey ew t = absurd (cc)

-- words with a dash are none of `trial`
trial_dashed : (words : List (List ℕ)) → list_any begins_with_dash words ≡ true → trial_form words ≡ None
unfolding trial_form
trial_dashed [] h = refl
trial_dashed (word ∷ []) h = refl
trial_dashed (word ∷ seed ∷ []) h = refl
trial_dashed (word ∷ seed ∷ items ∷ []) h = refl
trial_dashed (word ∷ seed ∷ items ∷ years ∷ []) h = refl
trial_dashed (word ∷ seed ∷ items ∷ years ∷ workers ∷ []) h = go (begins_with_dash word) refl h
  where
    none : (b : Bool) → (if◌then◌else◌ {A = Option TrialForm} b None None) ≡ None
    none true = refl
    none false = refl

    go : (b : Bool) → begins_with_dash word ≡ b → (b || list_any begins_with_dash (seed ∷ items ∷ years ∷ workers ∷ [])) ≡ true
        → (if bytes_eq word (codes "trial") then form_of_texts seed items years workers else None) ≡ None
    go true e t = ap (λ (b : Bool). if b then form_of_texts seed items years workers else None) (dash_word (codes "trial") word refl e)
    go false e t = ap (λ o. if bytes_eq word (codes "trial") then o else None) (texts_dashed seed items years workers t) ∙ none (bytes_eq word (codes "trial"))
trial_dashed (word ∷ seed ∷ items ∷ years ∷ workers ∷ other ∷ words) h = refl

-- ---- all words of a command

-- whether words have the form
abbrev is_trial : List (List ℕ) → Bool
is_trial words = is_some (trial_form words)

-- words that begin with `live` are none of `trial`
pub trial_lived : (words : List (List ℕ)) → begins_live words ≡ true → trial_form words ≡ None
trial_lived [] h = trial_unnamed [] refl
trial_lived (word ∷ words) h = trial_unnamed (word ∷ words) (live_word (codes "trial") word refl h)

-- words have the form where their plain words have it
trial_plain : (words : List (List ℕ)) → is_trial words ≡ plain_is is_trial (plain_of words)
trial_plain words = form_plain is_trial (λ ws h. ap is_some (trial_dashed ws h)) (λ ws h. ap is_some (trial_lived ws h)) words

-- what isn't there is none
none_is : (form : Option TrialForm) → is_some form ≡ false → form ≡ None
none_is None h = refl
none_is (Some form) h = absurd (cc)

-- a caller of `plain_words` and `trial_words` has read the form of its words
pub trial_form_is : (words : List (List ℕ)) (said : Plain) → Some said ≡ plain_of words → trial_form words ≡ trial_form said.plain
trial_form_is words said is = go (list_any begins_with_dash words) refl
  where
    go : (b : Bool) → list_any begins_with_dash words ≡ b → trial_form words ≡ trial_form said.plain
    go false h = ap trial_form (sym (plain_whole words said h is))
    go true h =
        let none = trial_dashed words h in
        none ∙ sym (none_is (trial_form said.plain) (ap (plain_is is_trial) is ∙ sym (trial_plain words) ∙ ap is_some none))

-- words that break a rule for `-` have no form of `trial`
pub trial_form_none : (words : List (List ℕ)) → None ≡ plain_of words → trial_form words ≡ None
trial_form_none words is = none_is (trial_form words) (trial_plain words ∙ ap (plain_is is_trial) (sym is))
