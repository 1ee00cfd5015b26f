use Rattle.std.proofs.lemmas.List.{length-map}
use Rattle.std.proofs.lemmas.List.FromFn.{length-range_with_len}
use Rattle.std.proofs.lemmas.Result.{IfOk-weaker}
use Rattle.node_compile.specs.declared.release.Release.{Release}
use Rattle.release_print.proofs.tests.compiled.Goals as goal

pub returns : goal.returns
returns g c = IfOk-weaker c.compile_all.result _ _ (λ (release : Release) e. rw e (simp (length-map, length-range_with_len))) c.compile_all.ensures.nodes
