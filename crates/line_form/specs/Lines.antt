-- The lines of a stream of bytes, and how far a cutting of it has come.
use Rattle.std.specs.Prelude.{ℕ, ◌+◌, ◌-◌, ◌^◌, ◌≡◌, Bool, true, false, not, ◌&&◌, ◌==◌, min, nat_le, if◌then◌else◌}
use Rattle.std.specs.Prelude.{List, [], ◌∷◌, ◌++◌, length, take, map}
use Rattle.csv.specs.Machine.{line_feed, carriage_return}
use Rattle.csv.specs.Reading.{strip_bom}
use Rattle.line_form.specs.declared.cutting.Line.{Line}

-- the bytes that a line may have
abbrev pub longest : ℕ
longest = 256

-- a line as a reader of the stream sees it: its number, whether it is long, and its bytes
pub record TextLine : Type 0 where
  pub number : ℕ
  pub long : Bool
  pub text : List ℕ

abbrev pub line_view : Line → TextLine
line_view l = record { number = l.number; long = l.long; text = l.text.items }

abbrev pub lines_view : List Line → List TextLine
lines_view = map line_view

-- whether a line's bytes are none, or begin with a number sign
abbrev pub is_comment : List ℕ → Bool
is_comment [] = true
is_comment (b ∷ bs) = b == 35

-- whether a line is passed over: an empty one and a comment are, a long one never
abbrev pub is_passed_over : TextLine → Bool
is_passed_over line = not line.long && is_comment line.text

-- the pieces of a stream that a line feed ends, where `piece` stands before the stream
unfoldable pub ended_from : List ℕ → List ℕ → List (List ℕ)
ended_from piece [] = []
ended_from piece (b ∷ bs) = if b == line_feed then piece ∷ ended_from [] bs else ended_from (piece ++ b ∷ []) bs

-- the bytes after the last line feed, where `piece` stands before the stream
unfoldable pub rest_from : List ℕ → List ℕ → List ℕ
rest_from piece [] = piece
rest_from piece (b ∷ bs) = if b == line_feed then rest_from [] bs else rest_from (piece ++ b ∷ []) bs

-- a piece without one carriage return at its end
unfoldable pub without_return : List ℕ → List ℕ
without_return [] = []
without_return (b ∷ []) = if b == carriage_return then [] else b ∷ []
without_return (b ∷ c ∷ bs) = b ∷ without_return (c ∷ bs)

-- the line of some text: a long one keeps no text
abbrev pub line_with : ℕ → List ℕ → TextLine
line_with number text =
    if nat_le (length text) longest then record { number = number; long = false; text = text }
    else record { number = number; long = true; text = [] }

-- the line that a piece makes
unfoldable pub line_at : ℕ → List ℕ → TextLine
line_at number piece = line_with number (without_return piece)

-- the number after a number; numbers stand still at the end of their type
abbrev pub next_number : ℕ → ℕ
next_number n = min (n + 1) (2 ^ 64 - 1)

-- the piece that comes after so many lines: a byte order mark at the first one's start is no part of it
abbrev pub unmarked : ℕ → List ℕ → List ℕ
unmarked before piece = if before == 0 then strip_bom piece else piece

-- the lines that pieces make, numbered on from a number
unfoldable pub numbered : ℕ → List (List ℕ) → List TextLine
numbered before [] = []
numbered before (p ∷ ps) = line_at (next_number before) p ∷ numbered (next_number before) ps

-- a last piece, which is a line where it has one byte at least
abbrev pub last_piece : List ℕ → List (List ℕ)
last_piece [] = []
last_piece (b ∷ bs) = (b ∷ bs) ∷ []

-- the lines of a stream that a line feed ends; a byte order mark at the stream's start is no part of it
unfoldable pub ended_lines : List ℕ → List TextLine
ended_lines stream = numbered 0 (ended_from [] (strip_bom stream))

-- the lines of a whole stream
unfoldable pub lines_of : List ℕ → List TextLine
lines_of stream = numbered 0 (ended_from [] (strip_bom stream) ++ last_piece (rest_from [] (strip_bom stream)))

-- the number of the last of these pieces, numbered on from a number
unfoldable pub number_after : ℕ → List (List ℕ) → ℕ
number_after n [] = n
number_after n (p ∷ ps) = number_after (next_number n) ps

-- the bytes that are kept of a line that isn't ended: three of a mark, a line's, a carriage return's, and one more,
-- which makes it long
abbrev pub kept_most : ℕ
kept_most = 261

-- how far a stream is cut: the lines that wait, the number of the last line, the bytes kept of the line that isn't
-- ended, and whether the stream is
pub record Cutting : Type 0 where
  pub waiting : List TextLine
  pub count : ℕ
  pub rest : List ℕ
  pub ended : Bool

-- the lines handed out, followed by the waiting ones, are the lines of the stream so far
pub record IsCutOf (state : Cutting) (stream : List ℕ) (handed : List TextLine) : Type 0 where
  pub lines : handed ++ state.waiting ≡ (if state.ended then lines_of stream else ended_lines stream)
  pub count : state.count ≡ number_after 0 (ended_from [] stream)
  pub rest : state.rest ≡ take kept_most (rest_from [] stream)
