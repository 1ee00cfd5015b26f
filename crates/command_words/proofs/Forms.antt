-- What the texts behind the first word say, by the forms of the commands.
use Rattle.std.proofs.Common.{◌≡◌, ◌∙◌, ◌<◌, ◌≤◌, ◌&&◌, ℕ, Bool, true, false, refl, sym, ap, ap₂, arith, List, [], ◌∷◌, length, codes, nat_le, Some, None, is_some}
use Rattle.std.specs.Prelude.{if◌then◌else◌}
use Rattle.std.specs.List.{slice_index_or}
use Rattle.std.specs.Str.{bytes_eq}
use Rattle.std.specs.Borrow.{Bor}
use Rattle.command_words.specs.BatchWords.{BatchForm, batch_form}
use Rattle.command_words.specs.Command.{are_file_names, is_batch, words_in}
use Rattle.command_words.specs.Words.{begins_by, texts_between}

-- the texts that there are
pub texts_are : (least most : ℕ) (word : List ℕ) (words texts : List (List ℕ)) → Some texts ≡ texts_between least most (word ∷ words) → texts ≡ words
texts_are least most word words texts h = go (nat_le least (length words) && nat_le (length words) most) h
  where
    go : (b : Bool) → Some texts ≡ (if b then Some words else None) → texts ≡ words
    go true e = cc
    go false e = absurd (cc)

-- three texts behind `batch`, with the names of files
pub batch_read : (words : List (List ℕ)) (texts : List (Bor (List ℕ))) (none : Bor (List ℕ)) → Some (words_in texts) ≡ texts_between 3 3 words → 3 ≤ length texts → length texts < 4
    → begins_by (codes "batch") words ≡ true
    → are_file_names (slice_index_or texts 0 none).now (slice_index_or texts 1 none).now (slice_index_or texts 2 none).now ≡ true
    → Some (record { plan = (slice_index_or texts 0 none).now; input = (slice_index_or texts 1 none).now; output = (slice_index_or texts 2 none).now }) ≡ batch_form words
batch_read [] texts none is some few named right = absurd (cc)
batch_read (word ∷ words) [] none is some few named right = absurd (omega arith)
batch_read (word ∷ words) (plan ∷ []) none is some few named right = absurd (omega arith)
batch_read (word ∷ words) (plan ∷ input ∷ []) none is some few named right = absurd (omega arith)
batch_read (word ∷ words) (plan ∷ input ∷ output ∷ []) none is some few named right =
    let same : plan.now ∷ input.now ∷ output.now ∷ [] ≡ words = texts_are 3 3 word words _ is in
    ap (λ (b : Bool). if b then Some (record { plan = plan.now; input = input.now; output = output.now }) else None) (sym (ap₂ (λ a b. a && b) named right))
    ∙ ap (λ ws. batch_form (word ∷ ws)) same
batch_read (word ∷ words) (plan ∷ input ∷ output ∷ other ∷ texts) none is some few named right = absurd (omega arith)

-- a value under a test is there where the test holds
some_if : {X : Type 0} (b : Bool) (x : X) → is_some (if b then Some x else None) ≡ b
some_if true x = refl
some_if false x = refl

-- words that have the form
pub batch_is : (words : List (List ℕ)) → is_some (batch_form words) ≡ is_batch words
batch_is [] = refl
batch_is (word ∷ []) = refl
batch_is (word ∷ plan ∷ []) = refl
batch_is (word ∷ plan ∷ input ∷ []) = refl
batch_is (word ∷ plan ∷ input ∷ output ∷ []) =
    let form : BatchForm = record { plan = plan; input = input; output = output } in
    some_if (bytes_eq word (codes "batch") && are_file_names plan input output) form
batch_is (word ∷ plan ∷ input ∷ output ∷ other ∷ words) = refl
