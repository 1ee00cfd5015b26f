use Rattle.std.proofs.Common.{◌≡◌, ◌∙◌, ◌+◌, ◌-◌, ◌<◌, ◌≤◌, ℕ, List, length, ap, sym, subst, arith, get_or, suc}
use Rattle.std.proofs.lemmas.List.{length_push}
use Rattle.std.proofs.lemmas.List.Elements.{All-push}
use Rattle.denton_parts.specs.Years.{places_apart}
use Rattle.denton_solve.specs.Conditions.{AreFew}
use Rattle.node_compile.proofs.Places.{apart_next}
use Rattle.node_compile.proofs.years.missing_between.Goals as goal

pub loop-y-preserved : goal.loop-y-preserved
loop-y-preserved c =
    let h = c.loop-y.invariant in
    let items = c.in_ok-push.ensures.items in
    let years : List ℕ = c.args.years.now in
    let y : ℕ = c.loop-y.y in
    let between : ℕ = get_or years y 0 - get_or years (y - 1) 0 - 1 in
    let next : y - 1 + 1 ≡ y = omega arith in
    let rising : get_or years (y - 1) 0 < get_or years y 0 = rw next at (c.requires.rising (y - 1) (omega arith)) in
    let most : get_or years y 0 ≤ 127 = c.requires.most y (omega arith) in
    record {
      count = ap (λ (l : List ℕ). length l + 1) items
          ∙ ap (λ (n : ℕ). n + 1) (length_push c.loop-y.miss.items between ∙ h.count);
      apart = ap (λ (l : List ℕ). places_apart (get_or years 0 0) l) items
          ∙ apart_next years c.loop-y.miss.items y between c.loop-y.auto.y (omega arith) h.count (omega arith) h.apart;
      few = subst AreFew (sym items)
          (All-push (λ (n : ℕ). n ≤ 126) c.loop-y.miss.items between h.few (omega arith));
    }
