-- The record of a plain text.
use Rattle.line_form.proofs.CsvRecords.{plain_csv}
use Rattle.line_form.proofs.reading.plain_text_is_its_parts.Goals as goal

pub returns : goal.returns
returns c = plain_csv
