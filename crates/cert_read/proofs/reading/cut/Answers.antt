use Rattle.std.proofs.Common.{◌≡◌, ℕ, List, [], true, refl, ◌∙◌}
use Rattle.line_form.specs.Lines.{Cutting, IsCutOf, lines_of}
use Rattle.cert_read.proofs.reading.cut.Goals as goal

-- of a stream that is ended and of which nothing was handed out all lines wait
all_wait : (s : Cutting) (text : List ℕ) → IsCutOf s text [] → s.ended ≡ true → s.waiting ≡ lines_of text
all_wait s text h e = h.lines ∙ rw e refl

pub returns : goal.returns
returns c = all_wait _ c.args.text.now (c.in_ok-finish.ensures.lines c.args.text.now [] (c.in_ok-feed.ensures.lines [] [] c.in_ok-lines.ensures.0)) c.in_ok-finish.ensures.ended
