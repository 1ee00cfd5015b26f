-- The words of a command.
use Rattle.std.specs.Prelude.{◌≡◌, ℕ, Bool, true, false, not, ◌&&◌, ◌==◌, List, [], ◌∷◌, map, codes}
use Rattle.std.specs.Str.{bytes_eq}
use Rattle.std.specs.Borrow.{Bor}

-- the words as lists of bytes
abbrev pub words_in : List (Bor (List ℕ)) → List (List ℕ)
words_in words = map (λ word. word.now) words

-- whether a word may name a file: it isn't empty and doesn't begin with `-`
abbrev pub is_file_name : List ℕ → Bool
is_file_name [] = false
is_file_name (byte ∷ bytes) = not (byte == 45)

-- whether three words are different names of files
abbrev pub are_file_names : List ℕ → List ℕ → List ℕ → Bool
are_file_names plan input output =
    is_file_name plan && is_file_name input && is_file_name output
    && not (bytes_eq plan input) && not (bytes_eq plan output) && not (bytes_eq input output)

-- whether the words are `batch PLAN INPUT OUTPUT`, with three different names of files
abbrev pub is_batch : List (List ℕ) → Bool
is_batch (word ∷ plan ∷ input ∷ output ∷ []) = bytes_eq word (codes "batch") && are_file_names plan input output
is_batch words = false

-- P holds of the last three of four words
abbrev pub OnNames : List (List ℕ) → (List ℕ → List ℕ → List ℕ → Type 0) → Type 0
OnNames (word ∷ plan ∷ input ∷ output ∷ []) P = P plan input output
OnNames words P = Unit {0}

-- P holds of the names, where the words are `batch PLAN INPUT OUTPUT`
abbrev pub OnBatch : List (List ℕ) → (List ℕ → List ℕ → List ℕ → Type 0) → Type 0
OnBatch words P = is_batch words ≡ true → OnNames words P

-- whether the first word is `check`
abbrev pub begins_check : List (List ℕ) → Bool
begins_check [] = false
begins_check (word ∷ words) = bytes_eq word (codes "check")

-- whether the words are `check CERT`, with a file's name
abbrev pub is_check : List (List ℕ) → Bool
is_check (word ∷ name ∷ []) = bytes_eq word (codes "check") && is_file_name name
is_check words = false

-- P holds of the last of two words
abbrev pub OnName : List (List ℕ) → (List ℕ → Type 0) → Type 0
OnName (word ∷ name ∷ []) P = P name
OnName words P = Unit {0}

-- P holds of the name, where the words are `check CERT`
abbrev pub OnCheck : List (List ℕ) → (List ℕ → Type 0) → Type 0
OnCheck words P = is_check words ≡ true → OnName words P
