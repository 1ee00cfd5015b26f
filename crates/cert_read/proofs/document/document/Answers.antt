use Rattle.std.proofs.Common.{rules, ◌≡◌, FitsSigned, ◌∙◌, subst, ap, sym, map, length}
use Rattle.std.specs.Int.{w128}
use Rattle.std.proofs.lemmas.Int.{to_z-of_z}
use Rattle.cert_read.specs.Content.{Content, HasRanges}
use Rattle.cert_read.proofs.Documents.{kept_of, natural_of, small_places, small_benchmarks, all_heads, content_is}
use Rattle.cert_read.proofs.document.document.Goals as goal
use Rattle.cert_read.proofs.document.document.Goals.{After-deref}

-- what the draft says
abbrev said : (c : After-deref) → Content
said c = record {
  heads = c.draft.inside.heads;
  name = c.draft.inside.name.items;
  front = c.draft.inside.front;
  scale = c.draft.inside.scale;
  start = c.draft.inside.start;
  ind = c.draft.inside.ind.items;
  places = map (λ b. b.place) c.draft.inside.bench.items;
  bench = map (λ b. b.value) c.draft.inside.bench.items;
  x = c.draft.inside.x.items;
  u = c.draft.inside.u.items;
  gap = c.draft.inside.gap;
  tail = c.draft.inside.tail;
}

-- its numbers are in range
ranged : (c : After-deref) → HasRanges (said c)
ranged c =
    let same : c.args.draft ≡ said c = cc in
    subst HasRanges same c.requires.ranges

pub years-requires : goal.years-requires
years-requires c =
    let ranges = ranged (goal.at.years-requires c).After-deref in
    rw c.deref-2.ensures.value
    (small_places (λ b. b.place) (length c.draft.inside.ind.items) c.draft.inside.bench.items ranges.indicators.most
    c.draft.invariant.benchmarks)

pub benchmarks-requires : goal.benchmarks-requires
benchmarks-requires c =
    let ranges = ranged (goal.at.benchmarks-requires c).After-deref in
    rw c.deref-3.ensures.value (small_benchmarks (λ b. b.value) c.draft.inside.bench.items ranges.benchmarks)

pub invariant_of-result : goal.invariant_of-result
invariant_of-result c =
    let e : Content = said (goal.at.invariant_of-result c).After-deref in
    let same : c.args.draft ≡ said (goal.at.invariant_of-result c).After-deref = cc in
    let ranges = ranged (goal.at.invariant_of-result c).After-deref in
    let f : FitsSigned w128 c.draft.inside.front = search rules in
    let k : FitsSigned w128 c.draft.inside.scale = search rules in
    let g : FitsSigned w128 c.draft.inside.gap = search rules in
    record {
      kept = kept_of c.args.draft (said (goal.at.invariant_of-result c).After-deref) c.in_ok-years.years.items
          c.in_ok-ind.ind.items c.in_ok-bench.bench.items _ _ _ c.draft.invariant c.requires.ranges c.requires.whole same
          (c.in_ok-ind.ensures ∙ c.deref.ensures.value)
          (c.in_ok-years.ensures ∙ ap (map (λ b. b.place)) c.deref-2.ensures.value)
          (c.in_ok-bench.ensures ∙ ap (map (λ b. b.value)) c.deref-3.ensures.value)
          (natural_of _ f ranges.head.least_front) (natural_of _ k ranges.head.least_scale) (to_z-of_z w128 _ g);
    }

pub returns : goal.returns
returns c =
    let same : c.args.draft ≡ said (goal.at.returns c).After-deref = cc in
    let ranges = ranged (goal.at.returns c).After-deref in
    let two : c.draft.inside.tail ≡ 2 = ap (λ (d : Content). d.tail) (sym same) ∙ c.requires.whole in
    let f : FitsSigned w128 c.draft.inside.front = search rules in
    let k : FitsSigned w128 c.draft.inside.scale = search rules in
    let g : FitsSigned w128 c.draft.inside.gap = search rules in
    same
    ∙ content_is (said (goal.at.returns c).After-deref) c.in_ok-years.years.items c.in_ok-ind.ind.items
    c.in_ok-bench.bench.items _ _ _ (all_heads (said (goal.at.returns c).After-deref) c.draft.invariant two) two
    (c.in_ok-ind.ensures ∙ c.deref.ensures.value)
    (c.in_ok-years.ensures ∙ ap (map (λ b. b.place)) c.deref-2.ensures.value)
    (c.in_ok-bench.ensures ∙ ap (map (λ b. b.value)) c.deref-3.ensures.value)
    (natural_of _ f ranges.head.least_front) (natural_of _ k ranges.head.least_scale) (to_z-of_z w128 _ g)
