-- The words before the first that begins with a dash, those from it on, and what is no form of a command.
use Rattle.std.proofs.Common.{◌≡◌, ◌∙◌, ◌+◌, ◌&&◌, ◌||◌, ℕ, suc, Bool, cond, true, false, not, refl, sym, ap, arith, List, [], ◌∷◌, ◌++◌, take, drop, length, codes, ltb, ◌≤◌, Option, Some, None, append-nil}
use Rattle.std.specs.Option.{unwrap_or}
use Rattle.std.proofs.lemmas.Bool.Decides.{nat_tests}
use Rattle.std.specs.List.{list_any, position_or_len}
use Rattle.std.specs.Bool.{Decides}
use Rattle.std.specs.Prelude.{if◌then◌else◌}
use Rattle.std.specs.Str.{bytes_eq}
use Rattle.std.specs.Borrow.{Bor}
use Rattle.std.proofs.lemmas.List.{drop-map, take-map}
use Rattle.std.proofs.lemmas.List.Folds.{list_any-append}
use Rattle.std.proofs.lemmas.List.Sums.{prefix_len-le-length}
use Rattle.std.proofs.lemmas.Slice.Eq.{bytes_eq-Decides}
use Rattle.command_words.specs.Command.{are_file_names, is_batch, is_check, is_file_name, words_in}
use Rattle.command_words.specs.Words.{begins_live, begins_with_dash, from_dash, is_workers, plain_front, plain_is, plain_of, plain_with}

abbrev Words : Type 0
Words = List (List ℕ)

-- the place in a list of references is that in the words
place_in : (words : List (Bor (List ℕ))) → position_or_len (λ (word : Bor (List ℕ)). begins_with_dash word.now) words ≡ position_or_len begins_with_dash (words_in words)
place_in [] = refl
place_in (word ∷ words) = ap (λ n. cond (not (begins_with_dash word.now)) (1 + n) 0) (place_in words)

-- a place that is found, and the length where none is
or_length : (n most result : ℕ) → n ≤ most → result ≡ unwrap_or (cond (ltb n most) (Some n) None) most → result ≡ n
or_length n most result within is = grind (arith, nat_tests)

-- the search in a list of references tells the place in the words
pub place_or_len : (words : List (Bor (List ℕ))) (found : Option ℕ) (result : ℕ)
    → found ≡ cond (ltb (position_or_len (λ (word : Bor (List ℕ)). begins_with_dash word.now) words) (length words)) (Some (position_or_len (λ (word : Bor (List ℕ)). begins_with_dash word.now) words)) None
    → result ≡ unwrap_or found (length words) → result ≡ position_or_len begins_with_dash (words_in words)
place_or_len words found result is or =
    or_length _ (length words) result (prefix_len-le-length (λ (word : Bor (List ℕ)). not (begins_with_dash word.now)) words) (or ∙ ap (λ o. unwrap_or o (length words)) is) ∙ place_in words

-- the place cuts the words where the definitions do
front_is : (words : Words) → plain_front words ≡ take (position_or_len begins_with_dash words) words
front_is [] = refl
front_is (word ∷ words) = go (begins_with_dash word) (front_is words)
  where
    go : (b : Bool) → plain_front words ≡ take (position_or_len begins_with_dash words) words → (if b then [] else word ∷ plain_front words) ≡ take (cond (not b) (1 + position_or_len begins_with_dash words) 0) (word ∷ words)
    go true rest = refl
    go false rest =
        let next : 1 + position_or_len begins_with_dash words ≡ suc (position_or_len begins_with_dash words) = omega arith in
        rw next (ap (λ ws. word ∷ ws) rest)

-- the words from the place on
from_is : (words : Words) → from_dash words ≡ drop (position_or_len begins_with_dash words) words
from_is [] = refl
from_is (word ∷ words) = go (begins_with_dash word) (from_is words)
  where
    go : (b : Bool) → from_dash words ≡ drop (position_or_len begins_with_dash words) words → (if b then word ∷ words else from_dash words) ≡ drop (cond (not b) (1 + position_or_len begins_with_dash words) 0) (word ∷ words)
    go true rest = refl
    go false rest =
        let next : 1 + position_or_len begins_with_dash words ≡ suc (position_or_len begins_with_dash words) = omega arith in
        rw next rest

-- the part before the place is the front
pub cut_front : (words front : List (Bor (List ℕ))) (place : ℕ) → front ≡ take place words → place ≡ position_or_len begins_with_dash (words_in words)
    → words_in front ≡ plain_front (words_in words)
cut_front words front place cut is =
    ap words_in cut ∙ sym (take-map (λ word. word.now) place words) ∙ ap (λ (n : ℕ). take n (words_in words)) is ∙ sym (front_is (words_in words))

-- the part behind it is the rest
pub cut_back : (words back : List (Bor (List ℕ))) (place : ℕ) → back ≡ drop place words → place ≡ position_or_len begins_with_dash (words_in words)
    → words_in back ≡ from_dash (words_in words)
cut_back words back place cut is =
    ap words_in cut ∙ sym (drop-map (λ word. word.now) place words) ∙ ap (λ (n : ℕ). drop n (words_in words)) is ∙ sym (from_is (words_in words))

-- no word of the front begins with a dash
pub front_plain : (words : Words) → list_any begins_with_dash (plain_front words) ≡ false
front_plain [] = refl
front_plain (word ∷ words) = go (begins_with_dash word) refl (front_plain words)
  where
    go : (b : Bool) → begins_with_dash word ≡ b → list_any begins_with_dash (plain_front words) ≡ false → list_any begins_with_dash (if b then [] else word ∷ plain_front words) ≡ false
    go true e rest = refl
    go false e rest = ap (λ b. b || list_any begins_with_dash (plain_front words)) e ∙ rest

-- the front and the rest are the words, and the rest is empty or begins with a word with a dash
parts_are : (words : Words) → words ≡ plain_front words ++ from_dash words
parts_are [] = refl
parts_are (word ∷ words) = go (begins_with_dash word) (parts_are words)
  where
    go : (b : Bool) → words ≡ plain_front words ++ from_dash words → word ∷ words ≡ (if b then [] else word ∷ plain_front words) ++ (if b then word ∷ words else from_dash words)
    go true rest = refl
    go false rest = ap (λ ws. word ∷ ws) rest

-- the words are empty or begin with one with a dash
abbrev begins_dashed : Words → Type 0
begins_dashed [] = Unit {0}
begins_dashed (word ∷ words) = begins_with_dash word ≡ true

-- so does the rest
rest_dashed : (words : Words) → begins_dashed (from_dash words)
rest_dashed [] = tt
rest_dashed (word ∷ words) = go (begins_with_dash word) refl (rest_dashed words)
  where
    go : (b : Bool) → begins_with_dash word ≡ b → begins_dashed (from_dash words) → begins_dashed (if b then word ∷ words else from_dash words)
    go true e rest = e
    go false e rest = rest

-- the plain words are those of the front and the rest
pub plain_of_is : (words : Words) → plain_with (plain_front words) (from_dash words) ≡ plain_of words
unfolding plain_of
plain_of_is words = refl

-- ---- a form that no word with a dash has, nor words that begin with `live`

-- a test or one that holds holds
or_true : (a b : Bool) → b ≡ true → (a || b) ≡ true
or_true true b e = refl
or_true false b e = e

-- both of two tests hold
and_true : (a b : Bool) → (a && b) ≡ true → (a ≡ true) × (b ≡ true)
and_true true b e = (refl, e)
and_true false b e = absurd (cc)

-- words that begin with `live` do so with more words behind them
live_more : (before later : Words) → begins_live before ≡ true → begins_live (before ++ later) ≡ true
live_more [] later h = absurd (cc)
live_more (word ∷ before) later h = h

module _ (is_form : Words → Bool) (dashed : (words : Words) → list_any begins_with_dash words ≡ true → is_form words ≡ false)
    (lived : (words : Words) → begins_live words ≡ true → is_form words ≡ false) where
  -- a word with a dash among them leaves no form
  no_form : (before rest : Words) (word : List ℕ) → begins_with_dash word ≡ true → is_form (before ++ word ∷ rest) ≡ false
  no_form before rest word h =
      dashed (before ++ word ∷ rest) (list_any-append begins_with_dash before (word ∷ rest)
      ∙ or_true (list_any begins_with_dash before) (list_any begins_with_dash (word ∷ rest)) (ap (λ b. b || list_any begins_with_dash rest) h))

  -- the front and the rest have the form where their plain words have it
  parts_form : (before rest : Words) → begins_dashed rest → is_form (before ++ rest) ≡ plain_is is_form (plain_with before rest)
  parts_form before [] h = ap is_form (append-nil before)
  parts_form before (option ∷ []) h = no_form before [] option h
  parts_form before (option ∷ workers ∷ later) h =
      no_form before (workers ∷ later) option h ∙ go (is_workers option && begins_live before && not (list_any begins_with_dash (workers ∷ later))) refl
    where
      go : (b : Bool) → (is_workers option && begins_live before && not (list_any begins_with_dash (workers ∷ later))) ≡ b
          → false ≡ plain_is is_form (if b then Some (record { plain = before ++ later; workers = Some workers }) else None)
      go true e =
          let live = and_true (is_workers option) (begins_live before) (and_true (is_workers option && begins_live before) _ e).0 in
          sym (lived (before ++ later) (live_more before later live.1))
      go false e = refl

  -- words have the form where their plain words have it
  pub form_plain : (words : Words) → is_form words ≡ plain_is is_form (plain_of words)
  form_plain words =
      ap is_form (parts_are words) ∙ parts_form (plain_front words) (from_dash words) (rest_dashed words) ∙ ap (plain_is is_form) (plain_of_is words)

-- ---- the forms of `batch` and `check`

-- a word with a dash names no file
dash_name : (word : List ℕ) → begins_with_dash word ≡ true → is_file_name word ≡ false
dash_name [] h = refl
dash_name (byte ∷ bytes) h = ap not h

-- a word that begins with a dash, and the word `live`, aren't another word
pub dash_word : (name : List ℕ) (word : List ℕ) → begins_with_dash name ≡ false → begins_with_dash word ≡ true → bytes_eq word name ≡ false
dash_word name word plain h = go (bytes_eq word name) (bytes_eq-Decides word name)
  where
    go : (b : Bool) → Decides b (word ≡ name) → b ≡ false
    go true e = let same = ap begins_with_dash (e.0 refl) in absurd (cc)
    go false e = refl

-- the word `live` is no other word
pub live_word : (name : List ℕ) (word : List ℕ) → bytes_eq (codes "live") name ≡ false → bytes_eq word (codes "live") ≡ true → bytes_eq word name ≡ false
live_word name word other h = go (bytes_eq word (codes "live")) (bytes_eq-Decides word (codes "live")) h
  where
    go : (b : Bool) → Decides b (word ≡ codes "live") → b ≡ true → bytes_eq word name ≡ false
    go true e t = ap (λ w. bytes_eq w name) (e.0 refl) ∙ other
    go false e t = absurd (cc)

-- a test and one that fails fail
and_false : (a b : Bool) → b ≡ false → (a && b) ≡ false
and_false true b e = e
and_false false b e = refl

-- words that do not begin with `batch` are none of it
not_batch : (word : List ℕ) (words : Words) → bytes_eq word (codes "batch") ≡ false → is_batch (word ∷ words) ≡ false
not_batch word [] h = refl
not_batch word (plan ∷ []) h = refl
not_batch word (plan ∷ input ∷ []) h = refl
not_batch word (plan ∷ input ∷ output ∷ []) h = ap (λ b. b && are_file_names plan input output) h
not_batch word (plan ∷ input ∷ output ∷ other ∷ words) h = refl

-- words that do not begin with `check` are none of it
not_check : (word : List ℕ) (words : Words) → bytes_eq word (codes "check") ≡ false → is_check (word ∷ words) ≡ false
not_check word [] h = refl
not_check word (name ∷ []) h = ap (λ b. b && is_file_name name) h
not_check word (name ∷ other ∷ words) h = refl

-- one of several words begins with a dash
one_dashed : (p i o fp fi fo n1 n2 n3 : Bool) → (p ≡ true → fp ≡ false) → (i ≡ true → fi ≡ false) → (o ≡ true → fo ≡ false) → (p || (i || (o || false))) ≡ true
    → (fp && fi && fo && n1 && n2 && n3) ≡ false
one_dashed true i o fp fi fo n1 n2 n3 hp hi ho h = rw (hp refl) refl
one_dashed false true o fp fi fo n1 n2 n3 hp hi ho h = rw (hi refl, and_false fp false refl) refl
one_dashed false false true fp fi fo n1 n2 n3 hp hi ho h = rw (ho refl, and_false (fp && fi) false refl) refl
one_dashed false false false fp fi fo n1 n2 n3 hp hi ho h = absurd (cc)

-- words with a dash are none of `batch`
pub batch_dashed : (words : Words) → list_any begins_with_dash words ≡ true → is_batch words ≡ false
batch_dashed [] h = refl
batch_dashed (word ∷ []) h = refl
batch_dashed (word ∷ plan ∷ []) h = refl
batch_dashed (word ∷ plan ∷ input ∷ []) h = refl
batch_dashed (word ∷ plan ∷ input ∷ output ∷ []) h = go (begins_with_dash word) refl h
  where
    go : (b : Bool) → begins_with_dash word ≡ b → (b || list_any begins_with_dash (plan ∷ input ∷ output ∷ [])) ≡ true → is_batch (word ∷ plan ∷ input ∷ output ∷ []) ≡ false
    go true e t = not_batch word (plan ∷ input ∷ output ∷ []) (dash_word (codes "batch") word refl e)
    go false e t = and_false (bytes_eq word (codes "batch")) _ (one_dashed _ _ _ (is_file_name plan) (is_file_name input) (is_file_name output) _ _ _
        (dash_name plan) (dash_name input) (dash_name output) t)
batch_dashed (word ∷ plan ∷ input ∷ output ∷ other ∷ words) h = refl

-- words with a dash are none of `check`
pub check_dashed : (words : Words) → list_any begins_with_dash words ≡ true → is_check words ≡ false
check_dashed [] h = refl
check_dashed (word ∷ []) h = refl
check_dashed (word ∷ name ∷ []) h = go (begins_with_dash word) refl h
  where
    go : (b : Bool) → begins_with_dash word ≡ b → (b || list_any begins_with_dash (name ∷ [])) ≡ true → is_check (word ∷ name ∷ []) ≡ false
    go true e t = not_check word (name ∷ []) (dash_word (codes "check") word refl e)
    go false e t = and_false (bytes_eq word (codes "check")) _ (dash_name name (only (begins_with_dash name) t))
      where
        only : (a : Bool) → (a || false) ≡ true → a ≡ true
        only true t = refl
        only false t = t
check_dashed (word ∷ name ∷ other ∷ words) h = refl

-- words that begin with `live` are none of `batch`
pub batch_lived : (words : Words) → begins_live words ≡ true → is_batch words ≡ false
batch_lived [] h = refl
batch_lived (word ∷ words) h = not_batch word words (live_word (codes "batch") word refl h)

-- nor of `check`
pub check_lived : (words : Words) → begins_live words ≡ true → is_check words ≡ false
check_lived [] h = refl
check_lived (word ∷ words) h = not_check word words (live_word (codes "check") word refl h)

-- words are those of `batch` where their plain words are
pub batch_plain : (words : Words) → is_batch words ≡ plain_is is_batch (plain_of words)
batch_plain words = form_plain is_batch batch_dashed batch_lived words

-- words are those of `check` where their plain words are
pub check_plain : (words : Words) → is_check words ≡ plain_is is_check (plain_of words)
check_plain words = form_plain is_check check_dashed check_lived words
