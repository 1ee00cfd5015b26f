use Rattle.std.proofs.Common.{map, drop}
use Rattle.release_print.specs.Line.{fields_text, line_text}
use Rattle.release_print.proofs.Parts.{Wrote}
use Rattle.release_print.proofs.line.push_line.Given as goal

-- the word and the fields so far are written, and the other fields are to come
abbrev pub invariant-loop-field : goal.invariant-loop-field
invariant-loop-field l = Wrote l.fn.out.items l.out.items (fields_text (map (λ field. field.now) (drop l.field-index l.fields))) (line_text l.word (map (λ field. field.now) l.fields))
