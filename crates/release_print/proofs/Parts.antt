-- A text that is written part by part: what stands there so far, and what is to come.
use Rattle.std.proofs.Common.{◌≡◌, ℕ, ◌+◌, ◌<◌, List, [], ◌∷◌, ◌++◌, length, refl, sym, append_assoc, append-nil, drop, get_or, add-one, drop-cons, arith}
use Rattle.std.specs.declared.result.Result.{Result}
use Rattle.std.proofs.Common.{Ok, Err, true, false}
use Rattle.std.specs.Prelude.{IsErr}
use Rattle.release_print.specs.Line.{fields_text}
use Rattle.release_print.specs.Part.{AppendsPart, Appends}

-- a part of a text stands behind the bytes from before, and the rest of it is to come
pub record Wrote (old new rest whole : List ℕ) : Type 0 where
  pub written : List ℕ
  pub behind : new ≡ old ++ written
  pub begins : whole ≡ written ++ rest

-- at first all of it is to come
pub wrote_none : (old whole : List ℕ) → Wrote old old whole whole
wrote_none old whole = record { written = []; behind = sym (append-nil old); begins = refl }

-- the next part is written
pub wrote_more : (old mid new next rest after whole : List ℕ) → Wrote old mid rest whole → rest ≡ next ++ after → new ≡ mid ++ next → Wrote old new after whole
wrote_more old mid new next rest after whole w e grown = record { written = w.written ++ next; behind = rw (grown, w.behind, append_assoc) refl; begins = rw (w.begins, e, append_assoc) refl }

-- all of it is written
pub wrote_all : (old new rest whole : List ℕ) → Wrote old new rest whole → rest ≡ [] → new ≡ old ++ whole
wrote_all old new rest whole w none = rw (w.behind, w.begins, none, append-nil) refl

-- what is written is a part of the text
pub wrote_part : (old new rest whole : List ℕ) → Wrote old new rest whole → AppendsPart old new whole
wrote_part old new rest whole w = record { written = w.written; rest = rest; behind = w.behind; begins = w.begins }

-- where a part of the next part is written, a part of the text is
pub wrote_some : (old mid new next rest after whole : List ℕ) → Wrote old mid rest whole → rest ≡ next ++ after → AppendsPart mid new next → AppendsPart old new whole
wrote_some old mid new next rest after whole w e some = record { written = w.written ++ some.written; rest = some.rest ++ after; behind = rw (some.behind, w.behind, append_assoc) refl; begins = rw (w.begins, e, some.begins, append_assoc, append_assoc) refl }

-- bytes that stayed as they were while the next part was refused
pub wrote_kept : (old mid new rest whole : List ℕ) → Wrote old mid rest whole → new ≡ mid → AppendsPart old new whole
wrote_kept old mid new rest whole w kept = record { written = w.written; rest = rest; behind = rw (kept, w.behind) refl; begins = w.begins }

-- behind the word of a line with fields to come stands a comma
pub comma_next : (fields : List (List ℕ)) → 0 < length fields → (after : List ℕ) × (fields_text fields ≡ 44 ∷ after)
comma_next [] some = absurd (omega arith)
comma_next (field ∷ fields) some = (field ++ fields_text fields, refl)

-- a part of a text's first piece is a part of the text
pub first_part : (old new piece more whole : List ℕ) → AppendsPart old new piece → whole ≡ piece ++ more → AppendsPart old new whole
first_part old new piece more whole p e = record { written = p.written; rest = p.rest ++ more; behind = p.behind; begins = rw (e, p.begins, append_assoc) refl }

-- behind a text's first piece, a part of the rest is a part of the text
pub later_part : (old mid new piece more whole : List ℕ) → mid ≡ old ++ piece → AppendsPart mid new more → whole ≡ piece ++ more → AppendsPart old new whole
later_part old mid new piece more whole grown p e = record { written = piece ++ p.written; rest = p.rest; behind = rw (p.behind, grown, append_assoc) refl; begins = rw (e, p.begins, append_assoc) refl }

-- the numbers from a place on are the one there and those behind it
pub from_place : {A : Type 0} (xs : List A) (i : ℕ) (d : A) → i < length xs → drop i xs ≡ get_or xs i d ∷ drop (i + 1) xs
from_place xs i d inside = rw (add-one, drop-cons xs i d) refl

-- behind a text's first piece, what a printer of the rest leaves is what one of the text leaves
pub appends_behind : {T E : Type 0} (result : Result T E) (old mid new piece more whole : List ℕ) → mid ≡ old ++ piece → whole ≡ piece ++ more → Appends result mid new more → Appends result old new whole
appends_behind (Ok done) old mid new piece more whole grown e all = rw (all, grown, e, append_assoc) refl
appends_behind (Err error) old mid new piece more whole grown e part = later_part old mid new piece more whole grown part e

-- a printer that wants memory leaves a part of its text
pub appends_part : {T E : Type 0} (result : Result T E) (old new text : List ℕ) → IsErr result → AppendsPart old new text → Appends result old new text
appends_part (Ok done) old new text wants part = absurd (let never : false ≡ true = wants in cc)
appends_part (Err error) old new text wants part = part
