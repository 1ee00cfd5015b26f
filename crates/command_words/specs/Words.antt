-- The words of a command, without those that say how many workers there are.
use Rattle.std.specs.Prelude.{ℕ, Bool, false, not, ◌&&◌, ◌==◌, List, [], ◌∷◌, ◌++◌, length, codes, nat_le}
use Rattle.std.specs.Prelude.{Option, Some, None, if◌then◌else◌}
use Rattle.std.specs.List.{list_any}
use Rattle.std.specs.Option.{option_map}
use Rattle.std.specs.Str.{bytes_eq}
use Rattle.command_words.specs.Command.{words_in}
use Rattle.command_words.specs.declared.words.PlainWords.{PlainWords}

-- the plain words, and the word that says how many workers there are
pub record Plain : Type 0 where
  pub plain : List (List ℕ)
  pub workers : Option (List ℕ)

abbrev pub plain_view : PlainWords → Plain
plain_view words = record { plain = words_in words.plain.items; workers = option_map (λ word. word.now) words.workers }

-- whether a word begins with `-`
abbrev pub begins_with_dash : List ℕ → Bool
begins_with_dash [] = false
begins_with_dash (byte ∷ bytes) = byte == 45

-- whether the first word is this one
abbrev pub begins_by : List ℕ → List (List ℕ) → Bool
begins_by name [] = false
begins_by name (word ∷ words) = bytes_eq word name

-- whether the first word is `live`
abbrev pub begins_live : List (List ℕ) → Bool
begins_live words = begins_by (codes "live") words

-- whether the word is `--workers`
abbrev pub is_workers : List ℕ → Bool
is_workers word = bytes_eq word (codes "--workers")

-- the words before the first one that begins with `-`, and the words from it on
abbrev pub plain_front : List (List ℕ) → List (List ℕ)
plain_front [] = []
plain_front (word ∷ words) = if begins_with_dash word then [] else word ∷ plain_front words

abbrev pub from_dash : List (List ℕ) → List (List ℕ)
from_dash [] = []
from_dash (word ∷ words) = if begins_with_dash word then word ∷ words else from_dash words

-- the plain words, where these stand before the first one that begins with `-`, and those from it on: that one is
-- `--workers`, behind `live`, a word follows it, and no other begins with `-`
abbrev pub plain_with : List (List ℕ) → List (List ℕ) → Option Plain
plain_with before [] = Some (record { plain = before; workers = None })
plain_with before (option ∷ []) = None
plain_with before (option ∷ workers ∷ later) =
    if is_workers option && begins_live before && not (list_any begins_with_dash (workers ∷ later))
    then Some (record { plain = before ++ later; workers = Some workers }) else None

-- the plain words of a command, where its words keep the rules for `-`
unfoldable pub plain_of : List (List ℕ) → Option Plain
plain_of words = plain_with (plain_front words) (from_dash words)

-- the texts behind the first word, where there are so many
abbrev pub texts_between : ℕ → ℕ → List (List ℕ) → Option (List (List ℕ))
texts_between least most [] = None
texts_between least most (word ∷ texts) =
    if nat_le least (length texts) && nat_le (length texts) most then Some texts else None

-- whether plain words have a form; words that break a rule for `-` have none
abbrev pub plain_is : (List (List ℕ) → Bool) → Option Plain → Bool
plain_is is_form None = false
plain_is is_form (Some plain) = is_form plain.plain
