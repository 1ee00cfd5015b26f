-- What the answers of `plain_words`, `batch_words`, `check_words` and `live_words` say of all words of a command.
use Rattle.std.proofs.Common.{◌≡◌, ◌∙◌, ◌&&◌, ◌||◌, ℕ, Bool, true, false, not, refl, sym, ap, ap₂, subst, List, [], ◌∷◌, ◌++◌, codes, Option, Some, None}
use Rattle.std.specs.Prelude.{if◌then◌else◌}
use Rattle.std.specs.List.{list_any}
use Rattle.command_words.specs.BatchWords.{BatchForm, batch_form, check_form}
use Rattle.command_words.specs.Command.{OnBatch, OnCheck, begins_check, is_batch, is_check}
use Rattle.command_words.specs.LiveWords.{LiveForm, are_different_names, desks_in, form_of_plain, form_with, live_form, workers_in}
use Rattle.command_words.specs.Words.{Plain, begins_live, begins_with_dash, from_dash, is_workers, plain_front, plain_of, plain_with}
use Rattle.command_words.proofs.Plain.{batch_dashed, check_dashed, live_word, plain_of_is}

-- ---- words without a dash are plain

-- all words without a dash stand before the first one with a dash
all_front : (words : List (List ℕ)) → list_any begins_with_dash words ≡ false → plain_front words ≡ words
all_front [] h = refl
all_front (word ∷ words) h = go (begins_with_dash word) h (all_front words)
  where
    go : (b : Bool) → (b || list_any begins_with_dash words) ≡ false → (list_any begins_with_dash words ≡ false → plain_front words ≡ words)
        → (if b then [] else word ∷ plain_front words) ≡ word ∷ words
    go true e rest = absurd (cc)
    go false e rest = ap (λ ws. word ∷ ws) (rest e)

-- and none from it on
none_left : (words : List (List ℕ)) → list_any begins_with_dash words ≡ false → from_dash words ≡ []
none_left [] h = refl
none_left (word ∷ words) h = go (begins_with_dash word) h (none_left words)
  where
    go : (b : Bool) → (b || list_any begins_with_dash words) ≡ false → (list_any begins_with_dash words ≡ false → from_dash words ≡ [])
        → (if b then word ∷ words else from_dash words) ≡ []
    go true e rest = absurd (cc)
    go false e rest = rest e

-- the plain words of such words are themselves
pub plain_whole : (words : List (List ℕ)) (said : Plain) → list_any begins_with_dash words ≡ false → Some said ≡ plain_of words → said.plain ≡ words
plain_whole words said h is =
    let whole : Plain = record { plain = words; workers = None } in
    let same : Some said ≡ Some whole = is ∙ sym (plain_of_is words) ∙ ap₂ plain_with (all_front words h) (none_left words h) in
    let here : said ≡ whole = cc in
    ap (λ (s : Plain). s.plain) here

-- a form that no words with a dash have is that of words without one
formed_plain : (is_form : List (List ℕ) → Bool) → ((words : List (List ℕ)) → list_any begins_with_dash words ≡ true → is_form words ≡ false)
    → (words : List (List ℕ)) → is_form words ≡ true → list_any begins_with_dash words ≡ false
formed_plain is_form dashed words h = go (list_any begins_with_dash words) (dashed words)
  where
    go : (b : Bool) → (b ≡ true → is_form words ≡ false) → b ≡ false
    go true e = let fails = e refl in absurd (cc)
    go false e = refl

-- ---- `batch` and `check`

-- what holds of the names that were read holds of those in the words
batch_names : (P : List ℕ → List ℕ → List ℕ → Type 0) (words : List (List ℕ)) (form : BatchForm) → Some form ≡ batch_form words → P form.plan form.input form.output → OnBatch words P
batch_names P [] form is holds = λ h. tt
batch_names P (word ∷ []) form is holds = λ h. tt
batch_names P (word ∷ plan ∷ []) form is holds = λ h. tt
batch_names P (word ∷ plan ∷ input ∷ []) form is holds = λ h. tt
batch_names P (word ∷ plan ∷ input ∷ output ∷ []) form is holds = λ h.
    let said : BatchForm = record { plan = plan; input = input; output = output } in
    let same : Some form ≡ Some said = is ∙ ap (λ (b : Bool). if b then Some said else None) h in
    let here : form ≡ said = cc in
    subst (λ (f : BatchForm). P f.plan f.input f.output) here holds
batch_names P (word ∷ plan ∷ input ∷ output ∷ other ∷ words) form is holds = λ h. tt

-- a caller of `plain_words` and `batch_words` has read the names of its words
pub on_batch : (P : List ℕ → List ℕ → List ℕ → Type 0) (words : List (List ℕ)) (said : Plain) (form : BatchForm) → Some said ≡ plain_of words → Some form ≡ batch_form said.plain
    → P form.plan form.input form.output → OnBatch words P
on_batch P words said form plain is holds = λ h.
    let whole = plain_whole words said (formed_plain is_batch batch_dashed words h) plain in
    batch_names P words form (is ∙ ap batch_form whole) holds h

-- the same of the name of `check`
check_name : (P : List ℕ → Type 0) (words : List (List ℕ)) (name : List ℕ) → Some name ≡ check_form words → P name → OnCheck words P
check_name P [] name is holds = λ h. tt
check_name P (word ∷ []) name is holds = λ h. tt
check_name P (word ∷ said ∷ []) name is holds = λ h.
    let same : Some name ≡ Some said = is ∙ ap (λ (b : Bool). if b then Some said else None) h in
    let here : name ≡ said = cc in
    subst P here holds
check_name P (word ∷ said ∷ other ∷ words) name is holds = λ h. tt

-- a caller of `plain_words` and `check_words` has read the name of its words
pub on_check : (P : List ℕ → Type 0) (words : List (List ℕ)) (said : Plain) (name : List ℕ) → Some said ≡ plain_of words → Some name ≡ check_form said.plain → P name
    → OnCheck words P
on_check P words said name plain is holds = λ h.
    let whole = plain_whole words said (formed_plain is_check check_dashed words h) plain in
    check_name P words name (is ∙ ap check_form whole) holds h

-- ---- `live`

-- the form that plain words have, if there are any
abbrev form_in : Option Plain → Option LiveForm
form_in None = None
form_in (Some plain) = form_of_plain plain.plain plain.workers

-- it is the form of the words
form_is : (words : List (List ℕ)) → live_form words ≡ form_in (plain_of words)
unfolding live_form
form_is words = go (plain_of words)
  where
    go : (o : Option Plain) → elim o [ None ↦ None | Some plain ↦ form_of_plain plain.plain plain.workers ] ≡ form_in o
    go None = refl
    go (Some plain) = refl

-- a caller of `plain_words` and `live_words` has read the form of its words
pub live_form_is : (words : List (List ℕ)) (said : Plain) → Some said ≡ plain_of words → live_form words ≡ form_of_plain said.plain said.workers
live_form_is words said is = form_is words ∙ ap form_in (sym is)

-- words that break a rule for `-` have no form of `live`
pub live_form_none : (words : List (List ℕ)) → None ≡ plain_of words → live_form words ≡ None
live_form_none words is = form_is words ∙ ap form_in (sym is)

-- words that don't begin with `live` have no form of it
unnamed : (words : List (List ℕ)) (workers : Option (List ℕ)) → begins_live words ≡ false → form_of_plain words workers ≡ None
unnamed [] workers h = refl
unnamed (word ∷ []) workers h = refl
unnamed (word ∷ plan ∷ []) workers h = refl
unnamed (word ∷ plan ∷ journal ∷ names) workers h =
    ap (λ (b : Bool). if b && are_different_names (plan ∷ journal ∷ names) then form_with plan journal (desks_in names) (workers_in workers) else None) h

-- the front of the words begins with `live` only where they do
front_first : (words : List (List ℕ)) → begins_live words ≡ false → begins_live (plain_front words) ≡ false
front_first [] h = refl
front_first (word ∷ words) h = go (begins_with_dash word)
  where
    go : (b : Bool) → begins_live (if b then [] else word ∷ plain_front words) ≡ false
    go true = refl
    go false = h

-- nor have the plain words of such words
parts_unnamed : (before rest : List (List ℕ)) → begins_live before ≡ false → form_in (plain_with before rest) ≡ None
parts_unnamed before [] h = unnamed before None h
parts_unnamed before (option ∷ []) h = refl
parts_unnamed before (option ∷ workers ∷ later) h =
    let said : Plain = record { plain = before ++ later; workers = Some workers } in
    ap (λ (b : Bool). form_in (if is_workers option && b && not (list_any begins_with_dash (workers ∷ later)) then Some said else None)) h ∙ go (is_workers option) said
  where
    go : (b : Bool) (said : Plain) → form_in (if b && false && not (list_any begins_with_dash (workers ∷ later)) then Some said else None) ≡ None
    go true said = refl
    go false said = refl

-- words that do not begin with `live` are none of it
pub live_unnamed : (words : List (List ℕ)) → begins_live words ≡ false → live_form words ≡ None
live_unnamed words h =
    form_is words ∙ ap form_in (sym (plain_of_is words)) ∙ parts_unnamed (plain_front words) (from_dash words) (front_first words h)

-- words that begin with `check` don't begin with `live`
pub check_unlike_live : (words : List (List ℕ)) → begins_check words ≡ true → begins_live words ≡ false
check_unlike_live [] h = refl
check_unlike_live (word ∷ words) h = go (begins_live (word ∷ words)) refl
  where
    go : (b : Bool) → begins_live (word ∷ words) ≡ b → b ≡ false
    go true e = let other = live_word (codes "check") word refl e in absurd (cc)
    go false e = refl
