-- A certificate's text is that of its head, its numbers and its end.
use Rattle.std.proofs.Common.{◌≡◌, ℕ, pos, map, List, [], ◌∷◌, ◌++◌, refl, append_assoc, append-nil}
use Rattle.price_base.specs.declared.Cell.{Cell}
use Rattle.cert_read.specs.Statement.{Statement, certificate_line, scale_line, start_line, indicator_line, benchmark_line, value_line, multiplier_line, gap_line, end_line}
use Rattle.cert_read.specs.Content.{quarterly, yearly, spelled}
use Rattle.node_compile.specs.Laws.{numbers_in}
use Rattle.node_compile.specs.Table.{Certificate}
use Rattle.release_print.specs.Certificate.{statement_text, statements_text, head_text, numbers_text, end_text, content_of}

-- the text of two runs of statements is that of the one and then of the other
pub statements_append : (first second : List Statement) → statements_text (first ++ second) ≡ statements_text first ++ statements_text second
statements_append [] second = refl
statements_append (statement ∷ first) second = rw (statements_append first second, append_assoc) refl

-- the text of three statements, four runs of them and two more
pub runs_text : (name scale start gap end : Statement) (indicators benchmarks values multipliers : List Statement) → statements_text ((name ∷ scale ∷ start ∷ []) ++ (indicators ++ (benchmarks ++ (values ++ (multipliers ++ (gap ∷ end ∷ [])))))) ≡ (statement_text name ++ (statement_text scale ++ statement_text start)) ++ ((statements_text indicators ++ (statements_text benchmarks ++ (statements_text values ++ statements_text multipliers))) ++ (statement_text gap ++ statement_text end))
runs_text name scale start gap end indicators benchmarks values multipliers = simp (statements_append, append_assoc, append-nil)

pub certificate_is : (start : ℕ) (name : List ℕ) (front : ℕ) (certificate : Certificate) (values : List Cell) → statements_text (spelled (content_of start name front certificate values)) ≡ head_text name front certificate.scale start ++ (numbers_text start certificate values ++ end_text certificate.gap)
unfolding spelled
certificate_is start name front certificate values =
    runs_text (certificate_line name (pos front)) (scale_line (pos certificate.scale)) (start_line start)
    (gap_line certificate.gap) end_line (quarterly indicator_line start 0 (map pos certificate.indicators))
    (yearly benchmark_line start certificate.places certificate.benchmarks)
    (quarterly value_line start 0 (numbers_in values))
    (yearly multiplier_line start certificate.places certificate.multipliers)
