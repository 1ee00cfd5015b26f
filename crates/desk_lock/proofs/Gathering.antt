-- Passes that were made and joined again, for the callers of a lock.
use Rattle.std.proofs.Common.{◌≡◌, ℕ, ◌==◌, true, false, cond, ◌||◌, ◌&&◌, List, [], ◌∷◌, ◌++◌, refl, sym, ap, ◌∙◌, subst, ⊎_elim, inl, inr, eq-eqb, eqb-true}
use Rattle.desk_lock.specs.Passes.{LockName, Knowledge, Account, first_pass, IsSameButSeen, IsSameButGiven, IsNewcomer, IsJoined, IsLastPass, IsRegathered, account, is_in, is_named, all_named}
use Rattle.desk_lock.proofs.Lists.{or_left, or_right, or_either, named-append, each_named}

-- where each number of a list is named, all are
pub all_named_from : {E : Type 0} (ps : List ℕ) (xs : Account E) → ((p : ℕ) → is_in p ps ≡ true → is_named p xs ≡ true) → all_named ps xs ≡ true
all_named_from [] xs each = refl
all_named_from (p ∷ ps) xs each = ap (λ b. b && all_named ps xs) (each p (or_left (p == p) (is_in p ps) (eq-eqb p p refl))) ∙ all_named_from ps xs (λ q here. each q (or_right (p == q) (is_in q ps) here))

module _ {E L : Type 0} (party : E → ℕ) where
  -- one pass that is split off, used and joined again, beside others that were
  pub regathers : (k left other rest used r : Knowledge E L) (n : ℕ) → k.gives ≡ true → IsSameButGiven n k left → IsNewcomer n k other → IsRegathered left rest → IsSameButSeen other used → IsJoined party rest used r → IsRegathered k r
  regathers k left other rest used r n gives l o g u j =
      let ended : r.ended ≡ rest.ended ++ account party used = j.5 in
      let kept : (p : ℕ) → is_named p rest.ended ≡ true → is_named p r.ended ≡ true = λ p named.
      ap (is_named p) ended ∙ (named-append p rest.ended (account party used) ∙ or_left (is_named p rest.ended) (is_named p (account party used)) named) in
      let party_is : used.party ≡ n = u.3 ∙ o.3 in
      let new : (p : ℕ) → n ≡ p → is_named p r.ended ≡ true = λ p is. ap (is_named p) ended ∙ (named-append p rest.ended (account party used)
      ∙ or_right (is_named p rest.ended) (is_named p (account party used)) (or_left (used.party == p) (is_named p used.ended) (eq-eqb used.party p (party_is ∙ is)))) in
      let given : r.given ≡ rest.given = j.7 ∙ ap (λ b. cond b rest.given used.given) g.4 in (
        j.0 ∙ (g.0 ∙ l.0),
        j.1,
        j.2 ∙ (g.2 ∙ l.2),
        j.3 ∙ (g.3 ∙ l.3),
        j.6 ∙ ap (λ b. b || used.gives) g.4,
        (λ p there. ⊎_elim (λ before. ⊎_elim (λ is. inr (new p (eqb-true n p is))) (λ old. inl old.1) (or_either (n == p) (is_in p k.given) (sym (ap (is_in p) l.7) ∙ before))) (λ named. inr (kept p named)) (g.5 p (sym (ap (is_in p) given) ∙ there))),
        λ p named. kept p (g.6 p (ap (is_named p) l.5 ∙ named)),
      )

  -- where all passes had been joined, and those made since then were joined again, all are
  pub regathered_last : (k r : Knowledge E L) → IsLastPass party k → IsRegathered k r → IsLastPass party r
  regathered_last k r last g = (
    g.4,
    all_named_from r.given (account party r) (λ p there. ⊎_elim
        (λ before. ⊎_elim (λ is. or_left (r.party == p) (is_named p r.ended) (ap (λ q. q == p) g.3 ∙ is)) (λ later. or_right (r.party == p) (is_named p r.ended) (g.6 p later.1))
        (or_either (k.party == p) (is_named p k.ended) (each_named p k.given (account party k) last.1 before)))
        (λ named. or_right (r.party == p) (is_named p r.ended) named) (g.5 p there)),
  )

  -- the first pass of a lock is the last one too
  pub first_is_last : (lock : LockName) (l : L) (p : ℕ) (k : Knowledge E L) → k ≡ first_pass lock l p → IsLastPass party k
  first_is_last lock l p k is = subst (IsLastPass party) (sym is) (refl, ap (λ b. (b || false) && true) (eq-eqb p p refl))
