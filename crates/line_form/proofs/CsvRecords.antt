-- What `csv` reads from the bytes of a line.
use Rattle.std.proofs.Common.{◌≡◌, ◌≢◌, ◌≤◌, ◌<◌, ◌∙◌, ◌⊎◌, inl, inr, ℕ, suc, Bool, true, false, ◌||◌, cond, nat_eq, List, [], ◌∷◌, ◌++◌, length, get_or, refl, sym, ap, arith, append_assoc, Option, Some, None, option_map}
use Rattle.std.specs.Option.{is_some}
use Rattle.std.specs.List.{list_any, list_all}
use Rattle.std.proofs.lemmas.Bool.{cases_Bool, or_parts, and_parts, eqb-true, false_from_ne_true}
use Rattle.csv.specs.Machine.{Read, next_record, step, in_field, is_end, fields_after, field_after, ends_at_end}
use Rattle.csv.specs.Reading.{default_config, strip_bom}
use Rattle.csv.specs.declared.parser.State.{State}
use Rattle.csv.specs.declared.parser.State.TheVariants as st
use Rattle.csv.specs.declared.parser.Action.{Action}
use Rattle.csv.specs.declared.parser.Action.TheVariants as act
use Rattle.line_form.specs.Fields.{csv_record, record_of, parts_from, is_special}
use Rattle.line_form.proofs.CutLines.{mark_cases}

-- one byte that ends a field, one that joins it, one that is passed over and one that ends the record
next_ends : (s t : State) (fs : List (List ℕ)) (f : List ℕ) (c : ℕ) (xs : List ℕ) → step default_config s c ≡ (t, act.EndField)
    → next_record default_config s fs f (c ∷ xs) ≡ next_record default_config t (fs ++ f ∷ []) [] xs
unfolding next_record
next_ends s t fs f c xs h = rw h refl

next_copies : (s t : State) (fs : List (List ℕ)) (f : List ℕ) (c : ℕ) (xs : List ℕ) → step default_config s c ≡ (t, act.Copy)
    → next_record default_config s fs f (c ∷ xs) ≡ next_record default_config t fs (f ++ c ∷ []) xs
unfolding next_record
next_copies s t fs f c xs h = rw h refl

next_skips : (s t : State) (fs : List (List ℕ)) (f : List ℕ) (c : ℕ) (xs : List ℕ) → step default_config s c ≡ (t, act.Skip)
    → next_record default_config s fs f (c ∷ xs) ≡ next_record default_config t fs f xs
unfolding next_record
next_skips s t fs f c xs h = rw h refl

-- the state inside a field or at its start
abbrev field_state : Bool → State
field_state true = st.InField
field_state false = st.StartField

-- no byte of a plain text is special
record IsPlainByte (c : ℕ) : Type 0 where
  quote : nat_eq c 34 ≡ false
  feed : nat_eq c 10 ≡ false
  back : nat_eq c 13 ≡ false

plain_first : (c : ℕ) (xs : List ℕ) → list_any is_special (c ∷ xs) ≡ false → IsPlainByte c
plain_first c xs h =
    let all = or_parts (is_special c) (list_any is_special xs) h in
    let three = or_parts (nat_eq c 34 || nat_eq c 10) (nat_eq c 13) all.0 in
    let two = or_parts (nat_eq c 34) (nat_eq c 10) three.0 in
    record { quote = two.0; feed = two.1; back = three.1 }

plain_later : (c : ℕ) (xs : List ℕ) → list_any is_special (c ∷ xs) ≡ false → list_any is_special xs ≡ false
plain_later c xs h = (or_parts (is_special c) (list_any is_special xs) h).1

step_comma : (b : Bool) → step default_config (field_state b) 44 ≡ (st.StartField, act.EndField)
step_comma true = refl
step_comma false = refl

step_plain : (b : Bool) (c : ℕ) → IsPlainByte c → nat_eq c 44 ≡ false → step default_config (field_state b) c ≡ (st.InField, act.Copy)
step_plain true c p h = rw (h, p.back, p.feed) refl
step_plain false c p h = rw (p.quote, h, p.back, p.feed) refl

parts_comma : (f xs : List ℕ) → parts_from f (44 ∷ xs) ≡ f ∷ parts_from [] xs
unfolding parts_from
parts_comma f xs = refl

parts_other : (f : List ℕ) (c : ℕ) (xs : List ℕ) → nat_eq c 44 ≡ false → parts_from f (c ∷ xs) ≡ parts_from (f ++ c ∷ []) xs
unfolding parts_from
parts_other f c xs h = rw h refl

-- the rest of a record, from inside a field
abbrev plain_read : List (List ℕ) → Option Read
plain_read fields = Some (fields, st.StartRecord, [])

plain_end : (b : Bool) (fs : List (List ℕ)) (f : List ℕ) → next_record default_config (field_state b) fs f [] ≡ plain_read (fs ++ parts_from f [])
unfolding next_record parts_from
plain_end true fs f = refl
plain_end false fs f = refl

pub plain_from : (b : Bool) (xs : List ℕ) (fs : List (List ℕ)) (f : List ℕ) → list_any is_special xs ≡ false
    → next_record default_config (field_state b) fs f xs ≡ plain_read (fs ++ parts_from f xs)
plain_from b [] fs f h = plain_end b fs f
plain_from b (c ∷ xs) fs f h =
    elim (cases_Bool (nat_eq c 44)) [
      | inl e ↦
          let is : c ≡ 44 = eqb-true c 44 e in
          let now : step default_config (field_state b) c ≡ (st.StartField, act.EndField) = rw is (step_comma b) in
          let parts : parts_from f (c ∷ xs) ≡ f ∷ parts_from [] xs = rw is (parts_comma f xs) in
          next_ends (field_state b) st.StartField fs f c xs now ∙ plain_from false xs (fs ++ f ∷ []) [] (plain_later c xs h)
          ∙ ap plain_read (append_assoc fs (f ∷ []) (parts_from [] xs) ∙ ap (λ z. fs ++ z) (sym parts))
      | inr e ↦
          next_copies (field_state b) st.InField fs f c xs (step_plain b c (plain_first c xs h) e) ∙ plain_from true xs fs (f ++ c ∷ []) (plain_later c xs h)
          ∙ ap (λ z. plain_read (fs ++ z)) (sym (parts_other f c xs e))
    ]

-- a first byte of a plain text begins a field
next_same : (s t : State) (c : ℕ) (xs : List ℕ) → step default_config s c ≡ step default_config t c
    → next_record default_config s [] [] (c ∷ xs) ≡ next_record default_config t [] [] (c ∷ xs)
unfolding next_record
next_same s t c xs h = rw h refl

start_same : (c : ℕ) → IsPlainByte c → step default_config st.StartRecord c ≡ step default_config st.StartField c
start_same c p = rw (p.back, p.feed) refl

-- the record of a text with no quote and no line end is its parts between commas
pub plain_record : (c : ℕ) (xs : List ℕ) → list_any is_special (c ∷ xs) ≡ false
    → next_record default_config st.StartRecord [] [] (c ∷ xs) ≡ plain_read (parts_from [] (c ∷ xs))
plain_record c xs h = next_same st.StartRecord st.StartField c xs (start_same c (plain_first c xs h)) ∙ plain_from false (c ∷ xs) [] [] h

unmarked_first : (c : ℕ) (xs : List ℕ) → (c ≡ 239 → ⊥) → strip_bom (c ∷ xs) ≡ c ∷ xs
unmarked_first c xs other = elim (mark_cases (c ∷ xs)) [
  | inl m ↦ absurd (other (let same = m.1 in cc))
  | inr e ↦ e
]

no_return : (xs : List ℕ) → list_any is_special xs ≡ false → list_any (λ b. nat_eq b 13) xs ≡ false
no_return [] h = refl
no_return (c ∷ xs) h = rw ((plain_first c xs h).back) (no_return xs (plain_later c xs h))

pub plain_line : (text : List ℕ) → 0 < length text → (get_or text 0 0 ≡ 239 → ⊥) → list_any is_special text ≡ false → record_of text ≡ Some (parts_from [] text)
unfolding record_of
plain_line [] some other h = absurd (omega arith)
plain_line (c ∷ xs) some other h = rw (no_return (c ∷ xs) h, unmarked_first c xs other) (ap (option_map (λ (p : Read). p.0)) (plain_record c xs h))

pub plain_csv : (text : List ℕ) → text ≢ [] → list_any is_special text ≡ false → strip_bom text ≡ text → csv_record text ≡ Some (parts_from [] text)
plain_csv [] some h e = absurd (some refl)
plain_csv (c ∷ xs) some h e = rw e (ap (option_map (λ (p : Read). p.0)) (plain_record c xs h))

-- a test that no byte passes
pub none_passes : (p : ℕ → Bool) (xs : List ℕ) → ((k : ℕ) → 0 ≤ k → k < length xs → p (get_or xs k 0) ≡ true → ⊥) → list_any p xs ≡ false
none_passes p [] h = refl
none_passes p (x ∷ xs) h =
    let missed : p x ≡ false = false_from_ne_true (p x) (h 0 (omega arith) (omega arith)) in
    rw missed (none_passes p xs (λ k low lt. h (suc k) (omega arith) (omega arith)))

-- states inside a record, from which each text gives one
abbrev going : State → Bool
going st.StartRecord = false
going st.AfterCr = false
going st.InComment = false
going st.InEscape = false
going st.StartField = true
going st.InField = true
going st.InQuoted = true
going st.AfterQuote = true

abbrev GoesOn : State × Action → Type 0
GoesOn p = (is_end p.1 ≡ true) ⊎ (going p.0 ≡ true)

field_goes_on : (c : ℕ) → GoesOn (in_field default_config c)
field_goes_on c =
    elim (nat_eq c 44) as (λ t. GoesOn (cond t (st.StartField, act.EndField) (cond (nat_eq c 13 || nat_eq c 10) (cond (nat_eq c 13) st.AfterCr st.StartRecord, act.EndRecord) (st.InField, act.Copy)))) [
      | true ↦ inr refl
      | false ↦ elim (nat_eq c 13 || nat_eq c 10) as (λ t. GoesOn (cond t (cond (nat_eq c 13) st.AfterCr st.StartRecord, act.EndRecord) (st.InField, act.Copy))) [
        | true ↦ inl refl
        | false ↦ inr refl
      ]
    ]

quote_goes_on : (c : ℕ) (p q : State × Action) → GoesOn p → GoesOn q → GoesOn (cond (nat_eq c 34) p q)
quote_goes_on c p q h k = elim (nat_eq c 34) as (λ t. GoesOn (cond t p q)) [ true ↦ h | false ↦ k ]

step_goes_on : (s : State) (c : ℕ) → going s ≡ true → GoesOn (step default_config s c)
step_goes_on st.StartRecord c h = cc
step_goes_on st.AfterCr c h = cc
step_goes_on st.InComment c h = cc
step_goes_on st.InEscape c h = cc
step_goes_on st.StartField c h = quote_goes_on c (st.InQuoted, act.Skip) (in_field default_config c) (inr refl) (field_goes_on c)
step_goes_on st.InField c h = field_goes_on c
step_goes_on st.InQuoted c h = quote_goes_on c (st.AfterQuote, act.Skip) (st.InQuoted, act.Copy) (inr refl) (inr refl)
step_goes_on st.AfterQuote c h = quote_goes_on c (st.InQuoted, act.Copy) (in_field default_config c) (inr refl) (field_goes_on c)

end_gives : (s : State) → going s ≡ true → ends_at_end s ≡ true
end_gives st.StartRecord h = cc
end_gives st.AfterCr h = cc
end_gives st.InComment h = cc
end_gives st.InEscape h = cc
end_gives st.StartField h = refl
end_gives st.InField h = refl
end_gives st.InQuoted h = refl
end_gives st.AfterQuote h = refl

pub record_from : (xs : List ℕ) (s : State) (fs : List (List ℕ)) (f : List ℕ) → going s ≡ true → is_some (next_record default_config s fs f xs) ≡ true
unfolding next_record
record_from [] s fs f h = rw (end_gives s h) refl
record_from (c ∷ xs) s fs f h = elim (step_goes_on s c h) [
  | inl e ↦ rw e refl
  | inr g ↦ elim (is_end (step default_config s c).1) as (λ t. is_some (cond t (Some (fields_after (step default_config s c).1 fs f, (step default_config s c).0, xs))
      (next_record default_config (step default_config s c).0 (fields_after (step default_config s c).1 fs f) (field_after (step default_config s c).1 c f) xs)) ≡ true) [
        | true ↦ refl
        | false ↦ record_from xs (step default_config s c).0 (fields_after (step default_config s c).1 fs f) (field_after (step default_config s c).1 c f) g
      ]
]

-- a text of line feeds gives no record, and each other with no carriage return does
feed_skips : step default_config st.StartRecord 10 ≡ (st.StartRecord, act.Skip)
feed_skips = refl

feeds_empty : next_record default_config st.StartRecord [] [] [] ≡ None
unfolding next_record
feeds_empty = refl

pub feeds_none : (xs : List ℕ) → list_all (λ b. nat_eq b 10) xs ≡ true → next_record default_config st.StartRecord [] [] xs ≡ None
feeds_none [] h = feeds_empty
feeds_none (c ∷ xs) h =
    let both = and_parts (nat_eq c 10) (list_all (λ b. nat_eq b 10) xs) h in
    let is : c ≡ 10 = eqb-true c 10 both.0 in
    let now : step default_config st.StartRecord c ≡ (st.StartRecord, act.Skip) = rw is feed_skips in
    next_skips st.StartRecord st.StartRecord [] [] c xs now ∙ feeds_none xs both.1

next_like : (c : ℕ) (xs : List ℕ) → nat_eq c 10 ≡ false → nat_eq c 13 ≡ false
    → next_record default_config st.StartRecord [] [] (c ∷ xs) ≡ next_record default_config st.StartField [] [] (c ∷ xs)
next_like c xs feed back =
    let same : step default_config st.StartRecord c ≡ step default_config st.StartField c = rw (back, feed) refl in
    next_same st.StartRecord st.StartField c xs same

pub some_record : (xs : List ℕ) → list_any (λ b. nat_eq b 13) xs ≡ false → list_all (λ b. nat_eq b 10) xs ≡ false
    → is_some (next_record default_config st.StartRecord [] [] xs) ≡ true
some_record [] none all = cc
some_record (c ∷ xs) none all =
    let parts = or_parts (nat_eq c 13) (list_any (λ b. nat_eq b 13) xs) none in
    elim (cases_Bool (nat_eq c 10)) [
      | inl feed ↦
          let is : c ≡ 10 = eqb-true c 10 feed in
          let now : step default_config st.StartRecord c ≡ (st.StartRecord, act.Skip) = rw is feed_skips in
          let rest : list_all (λ b. nat_eq b 10) xs ≡ false = rw feed at all in
          ap is_some (next_skips st.StartRecord st.StartRecord [] [] c xs now) ∙ some_record xs parts.1 rest
      | inr other ↦ ap is_some (next_like c xs other parts.0) ∙ record_from (c ∷ xs) st.StartField [] [] refl
    ]

-- a carriage return is left
pub return_refused : (text : List ℕ) → list_any (λ b. nat_eq b 13) text ≡ true → record_of text ≡ None
unfolding record_of
return_refused text h = rw h refl

pub record_is_csv : (text : List ℕ) → list_any (λ b. nat_eq b 13) text ≡ false → record_of text ≡ csv_record text
unfolding record_of
record_is_csv text h = rw h refl

pub feeds_refused : (text : List ℕ) → list_all (λ b. nat_eq b 10) (strip_bom text) ≡ true → csv_record text ≡ None
feeds_refused text h = ap (option_map (λ (p : Read). p.0)) (feeds_none (strip_bom text) h)

marked_strip : (t : List ℕ) → strip_bom (239 ∷ 187 ∷ 191 ∷ t) ≡ t
unfolding strip_bom
marked_strip t = refl

marked_clean : (text t : List ℕ) → text ≡ 239 ∷ 187 ∷ 191 ∷ t → list_any (λ b. nat_eq b 13) text ≡ false → list_any (λ b. nat_eq b 13) (strip_bom text) ≡ false
marked_clean text t e h =
    let clean : list_any (λ b. nat_eq b 13) t ≡ false = rw e at h in
    rw (e, marked_strip t) clean

stripped_clean : (text : List ℕ) → list_any (λ b. nat_eq b 13) text ≡ false → list_any (λ b. nat_eq b 13) (strip_bom text) ≡ false
stripped_clean text h = elim (mark_cases text) [
  | inl m ↦ marked_clean text m.0 m.1 h
  | inr e ↦ rw e h
]

some_mapped : (o : Option Read) → is_some o ≡ true → is_some (option_map (λ (p : Read). p.0) o) ≡ true
some_mapped None h = h
some_mapped (Some p) h = refl

pub csv_gives : (text : List ℕ) → list_any (λ b. nat_eq b 13) text ≡ false → list_all (λ b. nat_eq b 10) (strip_bom text) ≡ false → is_some (csv_record text) ≡ true
csv_gives text none all = some_mapped (next_record default_config st.StartRecord [] [] (strip_bom text)) (some_record (strip_bom text) (stripped_clean text none) all)
