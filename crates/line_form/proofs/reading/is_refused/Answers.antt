-- A carriage return is left, or the bytes are line feeds alone.
use Rattle.std.proofs.Common.{◌≡◌, ◌∙◌, Bool, true, false, nat_eq, refl, sym, ap}
use Rattle.std.specs.Bool.{OnFalse}
use Rattle.std.specs.List.{list_any, list_all}
use Rattle.std.proofs.lemmas.Bool.{OnTrue_from}
use Rattle.csv.specs.Reading.{strip_bom}
use Rattle.line_form.proofs.CsvRecords.{return_refused, record_is_csv, feeds_refused, csv_gives}
use Rattle.line_form.proofs.reading.is_refused.Goals as goal

on_false : (b : Bool) (P : Type 0) → (b ≡ false → P) → OnFalse b P
on_false true P f = tt
on_false false P f = f refl

pub returns-then-has_return-clause-yes : goal.returns-then-has_return-clause-yes
returns-then-has_return-clause-yes c = OnTrue_from c.has_return.result _ (λ e. return_refused c.args.text.now (sym c.has_return.ensures ∙ e))

pub returns-else-has_return-clause-yes : goal.returns-else-has_return-clause-yes
returns-else-has_return-clause-yes c = OnTrue_from c.is_feeds.result _ (λ e.
    let none : list_any (λ b. nat_eq b 13) c.args.text.now ≡ false = sym c.has_return.ensures ∙ c.if-has_return.false in
    let feeds : list_all (λ b. nat_eq b 10) (strip_bom c.args.text.now) ≡ true = sym (ap (list_all (λ b. nat_eq b 10)) c.first_piece.ensures) ∙ sym c.is_feeds.ensures ∙ e in
    record_is_csv c.args.text.now none ∙ feeds_refused c.args.text.now feeds)

pub returns-else-has_return-clause-no : goal.returns-else-has_return-clause-no
returns-else-has_return-clause-no c = on_false c.is_feeds.result _ (λ e.
    let none : list_any (λ b. nat_eq b 13) c.args.text.now ≡ false = sym c.has_return.ensures ∙ c.if-has_return.false in
    record_is_csv c.args.text.now none)

pub returns-else-has_return-clause-some : goal.returns-else-has_return-clause-some
returns-else-has_return-clause-some c = on_false c.is_feeds.result _ (λ e.
    let none : list_any (λ b. nat_eq b 13) c.args.text.now ≡ false = sym c.has_return.ensures ∙ c.if-has_return.false in
    let feeds : list_all (λ b. nat_eq b 10) (strip_bom c.args.text.now) ≡ false = sym (ap (list_all (λ b. nat_eq b 10)) c.first_piece.ensures) ∙ sym c.is_feeds.ensures ∙ e in
    csv_gives c.args.text.now none feeds)
