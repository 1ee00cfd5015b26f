-- There is room for all that is kept.
use Rattle.std.proofs.Common.{◌≡◌, ◌≤◌, ◌-◌, ◌++◌, min, true, take, length, arith}
use Rattle.std.specs.Result.{is_ok}
use Rattle.std.proofs.lemmas.List.{length-take}
use Rattle.line_form.proofs.Streams.{kept_take}
use Rattle.line_form.proofs.cutting.keep.Goals as goal

pub returns-clause-items : goal.returns-clause-items
returns-clause-items c =
    let few : length c.args.kept.now.items ≤ 261 = omega (arith, c.args.kept.now.ok) in
    let more : c.min-more.result ≡ min (length c.args.bytes.now) (261 - length c.args.kept.now.items) = grind (arith, c.min-more.ensures, c.len.ensures) in
    let whole : c.args.kept.now.items ++ take c.min-more.result c.args.bytes.now ≡ take 261 (c.args.kept.now.items ++ c.args.bytes.now)
    = kept_take c.args.kept.now.items c.args.bytes.now 261 c.min-more.result few more in
    let size : length (take c.min-more.result c.args.bytes.now) ≡ min c.min-more.result (length c.args.bytes.now) = length-take c.min-more.result c.args.bytes.now in
    let fits : is_ok c.extend_from_slice.result ≡ true = c.extend_from_slice.ensures.succeeds (omega arith) in
    rw (c.extend_from_slice.ensures.items, fits) whole
