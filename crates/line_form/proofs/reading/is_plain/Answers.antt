-- No special byte was found.
use Rattle.std.proofs.Common.{◌≡◌, ◌<◌, ◌∙◌, ℕ, List, Option, Some, None, false, not, length, ap, arith}
use Rattle.std.specs.Option.{is_some}
use Rattle.std.specs.List.{list_any}
use Rattle.std.proofs.lemmas.Bool.{OnTrue_from}
use Rattle.memchr.specs.Find.{IsFirstByte, is_byte3}
use Rattle.line_form.specs.Fields.{is_special}
use Rattle.line_form.proofs.CsvRecords.{plain_line, none_passes}
use Rattle.line_form.proofs.reading.is_plain.Goals as goal

none_found : (text : List ℕ) (r : Option ℕ) → IsFirstByte (is_byte3 34 10 13) text r → is_some r ≡ false → list_any is_special text ≡ false
none_found text None h e = none_passes is_special text h
none_found text (Some k) h e = cc

pub returns-then-text : goal.returns-then-text
returns-then-text c =
    let some : 0 < length c.args.text.now = grind (arith, c.if-is_empty.ensures) in
    OnTrue_from c.is_none.result _ (λ e.
    plain_line c.args.text.now some c.if-text.true (none_found c.args.text.now c.memchr3.result c.memchr3.ensures (c.is_none.ensures ∙ ap not e)))
