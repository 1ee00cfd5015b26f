use Rattle.std.proofs.Common.{◌≡◌, ◌≤◌, ◌+◌, ◌++◌, take, arith, refl, rules}
use Rattle.qna_parts.specs.Intake.{most_bytes}
use Rattle.qna_parts.specs.declared.intake.Untaken.TheVariants as untaken
use Rattle.qna_edges.proofs.Stock.{faults_given, name_given}
use Rattle.qna_parts.proofs.Success.{on_error, on_success}
use Rattle.qna_parts.proofs.Reading.{report_begun, read_begun, at_end, with_piece, read_failed, taken_of, grown_of, stopped_piece, stopped_end, broken_piece, passed_piece, within_limit, past_limit, below_limit, at_end_within, at_end_left, to_place}
use Rattle.qna_parts.proofs.intake.take_input.Goals as goal

pub reading-init : goal.reading-init
reading-init g c = (
  c.in_ok-intake.ensures.ready,
  omega arith,
  read_begun c.args.plan.now _ _ c.in_ok-intake.intake.lines c.in_ok-intake.intake.tables c.in_ok-intake.intake.accepted c.in_ok-intake.ensures.taken,
  search rules,
  refl,
  refl,
)

pub returns-in_err-intake-clause-memory : goal.returns-in_err-intake-clause-memory
returns-in_err-intake-clause-memory g c = λ is. report_begun c.args.plan.now (g.S.Source.stock c.args.source.now).left (g.R.Sink.paper c.args.report.now)

pub returns-in_err-take_end-in-Ok-eq0-clause-report : goal.returns-in_err-take_end-in-Ok-eq0-clause-report
returns-in_err-take_end-in-Ok-eq0-clause-report g c = λ is.
    at_end c.args.plan.now _ _ _ _ _ c.reading.size c.reading.intake.lines c.reading.intake.tables c.reading.intake.accepted c.in-Ok-eq0.field-0 c.read.new.buf _ c.reading.invariant.2 (search rules) (search rules) c.in-Ok-eq0.ensures.bytes.0 c.in-Ok-eq0.ensures.bytes.1
    (λ text size taken grown. (c.take_end.ensures.report text _ taken grown (search rules)).1)

pub returns-in_err-take_end-in-Ok-eq0-clause-within : goal.returns-in_err-take_end-in-Ok-eq0-clause-within
returns-in_err-take_end-in-Ok-eq0-clause-within g c = λ is.
    at_end_within c.args.plan.now _ _ _ _ _ c.reading.size most_bytes c.reading.intake.lines c.reading.intake.tables c.reading.intake.accepted c.in-Ok-eq0.field-0 c.read.new.buf c.reading.invariant.2 c.reading.invariant.1 (search rules) (search rules) c.in-Ok-eq0.ensures.bytes.0 c.in-Ok-eq0.ensures.bytes.1

pub returns-in_err-take_end-in-Ok-eq0-clause-memory : goal.returns-in_err-take_end-in-Ok-eq0-clause-memory
returns-in_err-take_end-in-Ok-eq0-clause-memory g c = λ is.
    at_end c.args.plan.now _ _ _ _ _ c.reading.size c.reading.intake.lines c.reading.intake.tables c.reading.intake.accepted c.in-Ok-eq0.field-0 c.read.new.buf _ c.reading.invariant.2 (search rules) (search rules) c.in-Ok-eq0.ensures.bytes.0 c.in-Ok-eq0.ensures.bytes.1
    (λ text size taken grown. stopped_end c.args.plan.now _ _ text (c.in_err-take_end-in-Ok-eq0.ensures.stops text _ taken grown))

pub returns-in-Ok-eq0-clause-taken : goal.returns-in-Ok-eq0-clause-taken
returns-in-Ok-eq0-clause-taken g c =
    at_end c.args.plan.now _ _ _ _ _ c.reading.size c.reading.intake.lines c.reading.intake.tables c.reading.intake.accepted c.in-Ok-eq0.field-0 c.read.new.buf _ c.reading.invariant.2 (search rules) (search rules) c.in-Ok-eq0.ensures.bytes.0 c.in-Ok-eq0.ensures.bytes.1
    (λ text size taken grown. c.in_ok-take_end-in-Ok-eq0.ensures.taken text taken)

pub returns-in-Ok-eq0-clause-reported : goal.returns-in-Ok-eq0-clause-reported
returns-in-Ok-eq0-clause-reported g c =
    at_end c.args.plan.now _ _ _ _ _ c.reading.size c.reading.intake.lines c.reading.intake.tables c.reading.intake.accepted c.in-Ok-eq0.field-0 c.read.new.buf _ c.reading.invariant.2 (search rules) (search rules) c.in-Ok-eq0.ensures.bytes.0 c.in-Ok-eq0.ensures.bytes.1
    (λ text size taken grown. c.in_ok-take_end-in-Ok-eq0.ensures.reported text _ taken grown)

pub returns-in-Ok-eq0-clause-ended : goal.returns-in-Ok-eq0-clause-ended
returns-in-Ok-eq0-clause-ended g c = (
  search (rules, faults_given),
  at_end_left c.args.plan.now _ _ _ _ _ c.reading.size most_bytes c.reading.intake.lines c.reading.intake.tables c.reading.intake.accepted c.in-Ok-eq0.field-0 c.read.new.buf c.reading.invariant.2 c.reading.invariant.1 (search rules) (search rules) c.in-Ok-eq0.ensures.bytes.0 c.in-Ok-eq0.ensures.bytes.1,
)

pub returns-then-fits-count-clause-passed : goal.returns-then-fits-count-clause-passed
returns-then-fits-count-clause-passed g c = λ is.
    with_piece c.args.plan.now _ _ _ _ _ c.reading.size c.in-Ok.count c.min-fits.result c.read.new.buf c.reading.intake.lines c.reading.intake.tables c.reading.intake.accepted _ c.reading.invariant.2 c.in-Ok.ensures.bytes.0 (search rules) (omega (arith, c.min-fits.ensures))
    (λ text new within joined taken grown. past_limit _ most_bytes 65536 (c.reading.size + c.in-Ok.count) text new (omega (arith, c.min-fits.ensures, c.if-fits-count.true, c.reading.invariant.1)) (let few : c.in-Ok.count ≤ 65536 = search rules in omega (arith, few, c.reading.invariant.1)) within)

pub returns-then-fits-count-clause-passed_reported : goal.returns-then-fits-count-clause-passed_reported
returns-then-fits-count-clause-passed_reported g c = λ is.
    let full : c.reading.size + c.min-fits.result ≡ most_bytes = omega (arith, c.min-fits.ensures, c.if-fits-count.true, c.reading.invariant.1) in
    with_piece c.args.plan.now _ _ _ _ _ c.reading.size c.in-Ok.count c.min-fits.result c.read.new.buf c.reading.intake.lines c.reading.intake.tables c.reading.intake.accepted _ c.reading.invariant.2 c.in-Ok.ensures.bytes.0 (search rules) (omega (arith, c.min-fits.ensures))
    (λ text new within joined taken grown.
    passed_piece c.take_piece-taken.result c.args.plan.now (g.R.Sink.paper c.args.report.now) (g.R.Sink.paper c.take_piece-taken.new.report) (take c.reading.size text ++ take c.min-fits.result c.read.new.buf) (take most_bytes text) (to_place _ text (c.reading.size + c.min-fits.result) most_bytes full joined)
    (c.passed_limit.ensures.size (cc)) c.take_piece-taken.ensures.others (c.take_piece-taken.ensures.reported (take c.reading.size text) (g.R.Sink.paper c.args.report.now) taken grown) (c.take_piece-taken.ensures.report (take c.reading.size text) (g.R.Sink.paper c.args.report.now) taken grown))

pub returns-then-fits-count-clause-memory : goal.returns-then-fits-count-clause-memory
returns-then-fits-count-clause-memory g c = λ is.
    with_piece c.args.plan.now _ _ _ _ _ c.reading.size c.in-Ok.count c.min-fits.result c.read.new.buf c.reading.intake.lines c.reading.intake.tables c.reading.intake.accepted _ c.reading.invariant.2 c.in-Ok.ensures.bytes.0 (search rules) (omega (arith, c.min-fits.ensures))
    (λ text new within joined taken grown. stopped_piece c.args.plan.now _ _ c.reading.size _ (c.reading.size + c.min-fits.result) text joined (on_error {error = untaken.Memory} c.take_piece-taken.result (c.passed_limit.ensures.memory (cc)) (c.take_piece-taken.ensures.stops (take c.reading.size text) _ taken grown)))

pub returns-in_err-taken-in-Ok-clause-report : goal.returns-in_err-taken-in-Ok-clause-report
returns-in_err-taken-in-Ok-clause-report g c = λ is.
    with_piece c.args.plan.now _ _ _ _ _ c.reading.size c.in-Ok.count c.min-fits.result c.read.new.buf c.reading.intake.lines c.reading.intake.tables c.reading.intake.accepted _ c.reading.invariant.2 c.in-Ok.ensures.bytes.0 (search rules) (omega (arith, c.min-fits.ensures))
    (λ text new within joined taken grown. broken_piece c.args.plan.now _ _ _ (c.reading.size + c.min-fits.result) text joined (c.take_piece-taken.ensures.report (take c.reading.size text) _ taken grown (search rules)))

pub returns-in_err-taken-in-Ok-clause-within : goal.returns-in_err-taken-in-Ok-clause-within
returns-in_err-taken-in-Ok-clause-within g c = λ is.
    let few : c.reading.size + c.in-Ok.count ≤ most_bytes = omega (arith, c.min-fits.ensures, c.if-fits-count.false, c.reading.invariant.1) in
    with_piece c.args.plan.now _ _ _ _ _ c.reading.size c.in-Ok.count c.min-fits.result c.read.new.buf c.reading.intake.lines c.reading.intake.tables c.reading.intake.accepted _ c.reading.invariant.2 c.in-Ok.ensures.bytes.0 (search rules) (omega (arith, c.min-fits.ensures))
    (λ text new within joined taken grown. below_limit _ most_bytes (c.reading.size + c.in-Ok.count) text new few within)

pub returns-in_err-taken-in-Ok-clause-memory : goal.returns-in_err-taken-in-Ok-clause-memory
returns-in_err-taken-in-Ok-clause-memory g c = λ is.
    with_piece c.args.plan.now _ _ _ _ _ c.reading.size c.in-Ok.count c.min-fits.result c.read.new.buf c.reading.intake.lines c.reading.intake.tables c.reading.intake.accepted _ c.reading.invariant.2 c.in-Ok.ensures.bytes.0 (search rules) (omega (arith, c.min-fits.ensures))
    (λ text new within joined taken grown. stopped_piece c.args.plan.now _ _ c.reading.size _ (c.reading.size + c.min-fits.result) text joined (on_error {error = untaken.Memory} c.take_piece-taken.result (search rules) (c.take_piece-taken.ensures.stops (take c.reading.size text) _ taken grown)))

pub reading-preserved : goal.reading-preserved
reading-preserved g c =
    let whole : c.reading.size + c.min-fits.result ≡ c.reading.size + c.in-Ok.count = omega (arith, c.min-fits.ensures, c.if-fits-count.false) in (
      search rules,
      omega (arith, c.min-fits.ensures, whole, c.reading.invariant.1),
      with_piece c.args.plan.now _ _ _ _ _ c.reading.size c.in-Ok.count c.min-fits.result c.read.new.buf c.reading.intake.lines c.reading.intake.tables c.reading.intake.accepted _ c.reading.invariant.2 c.in-Ok.ensures.bytes.0 (search rules) (omega (arith, c.min-fits.ensures))
          (λ text new within joined taken grown.
          let here = to_place _ text (c.reading.size + c.min-fits.result) (c.reading.size + c.in-Ok.count) whole joined in (
            new,
            within,
            taken_of c.args.plan.now _ _ _ _ (take (c.reading.size + c.in-Ok.count) text) here (on_success c.take_piece-taken.result (search rules) (c.take_piece-taken.ensures.taken (take c.reading.size text) taken)),
            grown_of c.args.plan.now _ _ _ (take (c.reading.size + c.in-Ok.count) text) here (on_success c.take_piece-taken.result (search rules) (c.take_piece-taken.ensures.reported (take c.reading.size text) _ taken grown)),
          )),
      search (rules, faults_given, name_given),
      search rules,
      search (rules, faults_given),
    )

pub returns-in-Err-clause-read : goal.returns-in-Err-clause-read
returns-in-Err-clause-read g c = λ is. read_failed c.args.plan.now _ _ _ _ _ c.reading.size c.reading.intake.lines c.reading.intake.tables c.reading.intake.accepted c.reading.invariant.2 c.in-Err.ensures.bytes

pub returns-in-Err-clause-within : goal.returns-in-Err-clause-within
returns-in-Err-clause-within g c = λ is. within_limit _ _ _ c.args.plan.now _ _ c.reading.size most_bytes c.reading.intake.lines c.reading.intake.tables c.reading.intake.accepted c.reading.invariant.2 c.reading.invariant.1 c.in-Err.ensures.bytes
