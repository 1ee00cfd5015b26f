-- Words that are left behind others.
use Rattle.std.proofs.Common.{◌≡◌, ◌∙◌, ℕ, zero, suc, ◌+◌, refl, sym, ap, arith}
use Rattle.rand_core.specs.Stream.{Stream, next_u64}
use Rattle.trial_gen.specs.TrialInputs.{behind, first_word}

-- the words behind some that are behind others
pub behind_behind : (few more : ℕ) (words : Stream) → behind few (behind more words) ≡ behind (more + few) words
unfolding behind
behind_behind zero more words = ap (λ (n : ℕ). behind n words) (omega arith)
behind_behind (suc few) more words =
    let same : more + suc few ≡ suc (more + few) = omega arith in
    ap (λ (w : Stream). (next_u64 w).1) (behind_behind few more words) ∙ ap (λ (n : ℕ). behind n words) (sym same)

-- words behind words that are behind the first ones
pub behind_more : (few more all : ℕ) (words mid later : Stream) → mid ≡ behind more words → later ≡ behind few mid → more + few ≡ all → later ≡ behind all words
behind_more few more all words mid later first then sum =
    then ∙ ap (behind few) first ∙ behind_behind few more words ∙ ap (λ (n : ℕ). behind n words) sum

-- none are before all words
pub behind_none : (words : Stream) → words ≡ behind 0 words
unfolding behind
behind_none words = refl

-- a call of the generator draws the first word, and leaves those behind it
pub drawn_word : (word : ℕ) (words rest : Stream) → (word, rest) ≡ next_u64 words → word ≡ first_word words
unfolding first_word
drawn_word word words rest is = ap (λ (p : ℕ × Stream). p.0) is

pub drawn_rest : (word : ℕ) (words rest : Stream) → (word, rest) ≡ next_u64 words → rest ≡ behind 1 words
unfolding behind
drawn_rest word words rest is = ap (λ (p : ℕ × Stream). p.1) is
