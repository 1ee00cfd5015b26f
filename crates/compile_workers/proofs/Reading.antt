-- What holds of the bytes that were read so far of a source.
use Rattle.std.proofs.Common.{◌≡◌, ◌∙◌, ap, sym, refl, subst, ℕ, ◌+◌, ◌-◌, ◌<◌, ◌≤◌, List, [], ◌++◌, length, take}
use Rattle.std.proofs.Common.{drop}
use Rattle.std.proofs.Common.{Option, Some, None, arith, length-append, length-drop}
use Rattle.std.specs.Prelude.{IfSome}
use Rattle.std.specs.Io.KnownBytes.{Consumes, IsAtEnd, Keeps}
use Rattle.std.proofs.lemmas.List.{drop-drop, length-take-le, take-append-le, take-take, take_all}
use Rattle.std.proofs.Math.Seq.{drop-append_seam, take-add}
use Rattle.qna_parts.specs.Trace.{Passes}

-- so many bytes of an input were read, and what is said of them holds
abbrev pub IsReadTo : (List ℕ → Type 0) → Option (List ℕ) → Option (List ℕ) → ℕ → Type 0
IsReadTo At all left size =
    IfSome all (λ text. (left ≡ Some (drop size text)) × (size ≤ length text) × At (take size text))

-- nothing was read yet
pub read_begun : (At : List ℕ → Type 0) (all : Option (List ℕ)) → At [] → IsReadTo At all all 0
read_begun At None here = tt
read_begun At (Some text) here = (refl, omega arith, here)

-- what a read took of the rest of a text
rest_read : (text : List ℕ) (size n : ℕ) (got rest : List ℕ) → size ≤ length text → length got ≡ n
    → drop size text ≡ got ++ rest → (rest ≡ drop (size + n) text) × (size + n ≤ length text)
rest_read text size n got rest within long parted =
    let all : length (drop size text) ≡ n + length rest =
    ap length parted ∙ length-append got rest ∙ ap (λ (z : ℕ). z + length rest) long in
    let left : length (drop size text) ≡ length text - size = length-drop size text in
    (sym (behind got rest n long) ∙ sym (ap (drop n) parted) ∙ drop-drop n size text, omega arith)
  where
    behind : (xs ys : List ℕ) (k : ℕ) → length xs ≡ k → drop k (xs ++ ys) ≡ ys
    behind xs ys k same = rw (← same) (drop-append_seam xs ys)

module _ (At : List ℕ → Type 0) where
  -- where nothing is left, all was read
  pub at_end : (all left new : Option (List ℕ)) (size n : ℕ) (buffer : List ℕ) (P : List ℕ → Type 0)
      → IsReadTo At all left size → n ≡ 0 → 0 < length buffer → Consumes left new (take n buffer)
      → (n ≡ 0 → 0 < length buffer → IsAtEnd new) → ((text : List ℕ) → size ≡ length text → At text → P text)
      → IfSome all P
  at_end None left new size n buffer P read none room taken ended then = tt
  at_end (Some text) left new size n buffer P read none room taken ended then =
      let nothing : Consumes left new [] = rw none at taken in
      let rest : drop size text ≡ [] =
      by_new new (subst (λ (o : Option (List ℕ)). Consumes o new []) read.0 nothing) (ended none room) in
      let short : length text - size ≡ 0 = sym (length-drop size text) ∙ ap length rest in
      let whole : take size text ≡ text = take_all size text (omega arith) in
      then text (omega (arith, short, read.1)) (subst At whole read.2)
    where
      by_new : (o : Option (List ℕ)) → Consumes (Some (drop size text)) o [] → IsAtEnd o → drop size text ≡ []
      by_new None consumed end = absurd consumed
      by_new (Some ys) consumed end = consumed ∙ end

  -- what follows where a read gave a piece
  pub with_piece : (all left new : Option (List ℕ)) (size n fits : ℕ) (buffer : List ℕ) (P : List ℕ → Type 0)
      → IsReadTo At all left size → Consumes left new (take n buffer) → n ≤ length buffer → fits ≤ n
      → ((text : List ℕ) → new ≡ Some (drop (size + n) text) → size + n ≤ length text
      → take size text ++ take fits buffer ≡ take (size + fits) text → At (take size text) → P text)
      → IfSome all P
  with_piece None left new size n fits buffer P read taken room some then = tt
  with_piece (Some text) left new size n fits buffer P read taken room some then =
      by_new new refl (subst (λ (o : Option (List ℕ)). Consumes o new (take n buffer)) read.0 taken)
    where
      by_new : (o : Option (List ℕ)) → new ≡ o → Consumes (Some (drop size text)) o (take n buffer) → P text
      by_new None is consumed = absurd consumed
      by_new (Some rest) is consumed =
          let long : length (take n buffer) ≡ n = length-take-le n buffer room in
          let moved = rest_read text size n (take n buffer) rest read.1 long consumed in
          let got : take fits (drop size text) ≡ take fits buffer =
          ap (take fits) consumed ∙ take-append-le fits (take n buffer) rest (omega (arith, long))
          ∙ take-take fits n buffer some in
          then text (is ∙ ap (λ (xs : List ℕ). Some xs) moved.0) moved.1
          (ap (λ (xs : List ℕ). take size text ++ xs) (sym got) ∙ sym (take-add size fits text)) read.2

  -- what a failed read leaves: as much as was taken before
  pub read_failed : (all left new : Option (List ℕ)) (size : ℕ) (P : List ℕ → List ℕ → Type 0)
      → IsReadTo At all left size → Keeps left new
      → ((text rest : List ℕ) → length text - length rest ≡ size → length text ≡ size + length rest
      → At (take size text) → P text rest)
      → IfSome all (λ text. IfSome new (λ rest. P text rest))
  read_failed None left new size P read kept then = tt
  read_failed (Some text) left new size P read kept then =
      by_new new (subst (λ (o : Option (List ℕ)). Keeps o new) read.0 kept)
    where
      by_new : (o : Option (List ℕ)) → Keeps (Some (drop size text)) o → IfSome o (λ rest. P text rest)
      by_new None same = tt
      by_new (Some rest) same =
          let left_over : length rest ≡ length text - size = ap length same ∙ length-drop size text in
          then text rest (omega (arith, left_over, read.1)) (omega (arith, left_over, read.1)) read.2

  -- what holds of the bytes that were read so far
  pub so_far : (all left : Option (List ℕ)) (size : ℕ) (P : List ℕ → Type 0) → IsReadTo At all left size
      → ((text : List ℕ) → At (take size text) → P text) → IfSome all P
  so_far None left size P read then = tt
  so_far (Some text) left size P read then = then text read.2

  -- where all was read, as many as the limit at most, nothing is left
  pub nothing_left : (all left new : Option (List ℕ)) (size limit n : ℕ) (buffer : List ℕ) → IsReadTo At all left size
      → size ≤ limit → n ≡ 0 → 0 < length buffer → Consumes left new (take n buffer)
      → (n ≡ 0 → 0 < length buffer → IsAtEnd new) → IfSome all (λ text. (length text ≤ limit) × (new ≡ Some []))
  nothing_left None left new size limit n buffer read few none room taken ended = tt
  nothing_left (Some text) left new size limit n buffer read few none room taken ended =
      let nothing : Consumes left new [] = rw none at taken in
      let gone : Consumes (Some (drop size text)) new [] =
      subst (λ (o : Option (List ℕ)). Consumes o new []) read.0 nothing in
      let rest : drop size text ≡ [] = by_rest new gone (ended none room) in
      let short : length text - size ≡ 0 = sym (length-drop size text) ∙ ap length rest in
      (omega (arith, short, few), by_new new gone (ended none room))
    where
      by_new : (o : Option (List ℕ)) → Consumes (Some (drop size text)) o [] → IsAtEnd o → o ≡ Some []
      by_new None consumed end = absurd consumed
      by_new (Some ys) consumed end = ap (λ (zs : List ℕ). Some zs) end

      by_rest : (o : Option (List ℕ)) → Consumes (Some (drop size text)) o [] → IsAtEnd o → drop size text ≡ []
      by_rest None consumed end = absurd consumed
      by_rest (Some ys) consumed end = consumed ∙ end

-- more bytes than a limit, but no more than a piece beyond it, where so many are left
pub past_limit : (new : Option (List ℕ)) (limit piece taken : ℕ) (text : List ℕ) → new ≡ Some (drop taken text)
    → limit < taken → taken ≤ limit + piece → taken ≤ length text
    → IfSome new (λ rest. Passes limit piece (length text) (length rest))
past_limit new limit piece taken text is over near within =
    subst (λ (o : Option (List ℕ)). IfSome o (λ rest. Passes limit piece (length text) (length rest))) (sym is)
    (omega (arith, length-drop taken text, over, within), omega (arith, length-drop taken text, near, within))

-- no more bytes than a limit, where so many were taken
pub within_limit : (new : Option (List ℕ)) (limit taken : ℕ) (text : List ℕ) → new ≡ Some (drop taken text)
    → taken ≤ limit → taken ≤ length text → IfSome new (λ rest. length text ≤ limit + length rest)
within_limit new limit taken text is few within =
    subst (λ (o : Option (List ℕ)). IfSome o (λ rest. length text ≤ limit + length rest)) (sym is)
    (omega (arith, length-drop taken text, few, within))

-- the same bytes, of which more is said
pub read_as : (At To : List ℕ → Type 0) (all left : Option (List ℕ)) (size : ℕ) → ((xs : List ℕ) → At xs → To xs)
    → IsReadTo At all left size → IsReadTo To all left size
read_as At To None left size then read = tt
read_as At To (Some text) left size then read = (read.0, read.1, then (take size text) read.2)
