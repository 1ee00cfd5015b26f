-- A command that wanted memory before it touched anything.
use Rattle.std.proofs.Common.{◌≡◌, ◌≢◌, arith, inl, refl, List, [], ◌∷◌, ℕ}
use Rattle.qna_edges.specs.Paper.{Paper}
use Rattle.qna_edges.specs.Shelves.{OnlyRead, Shelves}
use Rattle.qna_edges.specs.declared.status.Status.TheVariants.{Memory}
use Rattle.qna_parts.specs.Command.{StopsAtPlan, plan_limit}
use Rattle.qna_parts.specs.Trace.{EndsUnread, trace_of}
use Rattle.command_words.specs.Command.{OnBatch, OnCheck, OnName, OnNames}
use Rattle.qna_cli.specs.Batch.{IsBatchEnd}
use Rattle.qna_cli.specs.CheckEnd.{IsCheckEnd, certificate_limit}

unread_wanting : (limit : ℕ) (shelves : Shelves) (paper : Paper) (name : List ℕ)
    → EndsUnread limit (trace_of shelves shelves name) paper paper Memory
unread_wanting limit shelves paper name = record {
  unopened = λ is. absurd (let never = is in cc);
  unread = λ is. absurd (let never = is in cc);
  within = λ is. absurd (let never = is in cc);
  too_long = λ is. absurd (let never = is in cc);
  passed = λ is. absurd (let never = is in cc);
}

only_nothing : (shelves : Shelves) (name : List ℕ) → OnlyRead shelves shelves name
only_nothing shelves name = record {
  here = record { only = refl; opens = omega arith; reads = omega arith; sources = omega arith; once = omega arith };
  others = λ n other. refl;
  tells = refl;
  out = refl;
}

batch_ends : (shelves : Shelves) (paper : Paper) (plan input output : List ℕ)
    → IsBatchEnd shelves shelves paper paper plan input output Memory
batch_ends shelves paper plan input output = inl (record {
  unread = unread_wanting plan_limit shelves paper plan;
  refused = λ is. absurd (let never = is in cc);
  read = λ is. absurd (let never = is in cc);
  memory = λ is. (refl, record { opens = refl; creates = refl; reads = refl; writes = refl });
  ends = refl;
  only = only_nothing shelves plan;
})

all_names : (P : List ℕ → List ℕ → List ℕ → Type 0) → ((plan input output : List ℕ) → P plan input output)
    → (words : List (List ℕ)) → OnNames words P
all_names P each [] = tt
all_names P each (word ∷ []) = tt
all_names P each (word ∷ plan ∷ []) = tt
all_names P each (word ∷ plan ∷ input ∷ []) = tt
all_names P each (word ∷ plan ∷ input ∷ output ∷ []) = each plan input output
all_names P each (word ∷ plan ∷ input ∷ output ∷ more ∷ words) = tt

-- `batch` touched nothing
pub batch_wanting : (words : List (List ℕ)) (shelves : Shelves) (paper : Paper)
    → OnBatch words (λ plan input output. IsBatchEnd shelves shelves paper paper plan input output Memory)
batch_wanting words shelves paper h =
    all_names (λ plan input output. IsBatchEnd shelves shelves paper paper plan input output Memory)
    (batch_ends shelves paper) words

check_ends : (shelves : Shelves) (paper : Paper) (name : List ℕ) → IsCheckEnd shelves shelves paper paper name Memory
check_ends shelves paper name = record {
  yes = λ is. absurd (let never = is in cc);
  told_yes = λ is. absurd (let never = is in cc);
  cut_yes = λ is. absurd (let never = is in cc);
  no = λ is. absurd (let never = is in cc);
  memory = λ is. inl refl;
  unfailed = λ is. (record { opens = refl; creates = refl; reads = refl; writes = refl }, refl);
  read = λ is. absurd (let never = is in cc);
  unread = unread_wanting certificate_limit shelves paper name;
  ends = refl;
  only = only_nothing shelves name;
}

all_name : (P : List ℕ → Type 0) → ((name : List ℕ) → P name) → (words : List (List ℕ)) → OnName words P
all_name P each [] = tt
all_name P each (word ∷ []) = tt
all_name P each (word ∷ name ∷ []) = each name
all_name P each (word ∷ name ∷ more ∷ words) = tt

-- `check` touched nothing
pub check_wanting : (words : List (List ℕ)) (shelves : Shelves) (paper : Paper)
    → OnCheck words (λ name. IsCheckEnd shelves shelves paper paper name Memory)
check_wanting words shelves paper h =
    all_name (λ name. IsCheckEnd shelves shelves paper paper name Memory) (check_ends shelves paper) words
