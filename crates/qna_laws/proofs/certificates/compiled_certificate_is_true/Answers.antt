use Rattle.std.proofs.lemmas.Option.{IfSome_then}
use Rattle.node_compile.specs.Leaf.{leaf_table}
use Rattle.qna_laws.proofs.Compiled.{leaf_sound}
use Rattle.qna_laws.proofs.certificates.compiled_certificate_is_true.Goals as goal

pub returns : goal.returns
returns c = λ indicators prices benchmarks reference name start front each_indicator each_benchmark years few named first last fronts.
    IfSome_then (leaf_table indicators prices benchmarks reference).leaf (leaf_sound name front start indicators prices benchmarks reference named fronts first last each_indicator each_benchmark years few)
    (λ certificate sound. (
      c.printed_certificate_is_read.ensures start front name certificate (leaf_table indicators prices benchmarks reference).value sound.document,
      λ doc same. c.printed_certificate_is_true.ensures doc start front name certificate (leaf_table indicators prices benchmarks reference).value same sound.meets sound.gap,
    ))
