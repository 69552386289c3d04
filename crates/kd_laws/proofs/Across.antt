-- What follows from the law across configurations.
use Rattle.std.proofs.Common.{◌≡◌, ℕ, zero, suc, ◌+◌, ◌<◌, ◌≤◌, ◌⊎◌, List, [], ◌∷◌, Some, inl, inr, ⊎_elim, ap, sym, subst, ◌∙◌, arith}
use Rattle.std.proofs.lemmas.Option.{none-some, same_Some}
use Rattle.std.specs.List.{AllByRecursion, slice_get}
use Rattle.kd_config.specs.Configuration.{Configuration}
use Rattle.kd_config.specs.declared.times.Times.{Times}
use Rattle.kd_lease.specs.Change.{asked_for}
use Rattle.kd_lease.specs.Rules.{granted_times}
use Rattle.kd_rows.specs.declared.row.Row.{Row}
use Rattle.kd_laws.specs.Granted.{AreGranted, HasLeast, HasOneLifetime, LeasesLastAlike, NoneIsShorter}
use Rattle.kd_laws.specs.NoOverlap.{GivesUpBetween, Happens, LastsFor, LeaseHistory, LeaseStep, LeasesLast, NoOverlap, NoOverlapAcross, NoOverlapForShortest, NoOverlapWhereNoneIsShorter, Renews, ShortenedBetween, now_of}

-- what happens in a step of a history
happens_there : (rows : List Row) (es : List LeaseStep) (i : ℕ) (e : LeaseStep) → LeaseHistory rows es → slice_get es i ≡ Some e → Happens e e.outcome
happens_there rows [] i e history there = absurd (none-some e there)
happens_there rows (x ∷ es) zero e history there = subst (λ (g : LeaseStep). Happens g g.outcome) (same_Some x e there) history.1
happens_there rows (x ∷ es) (suc i) e history there = happens_there x.after es i e history.2 there

-- how long a lease lasts is no less than the least lifetime of the configuration
lasts_least : NoneIsShorter → (e : LeaseStep) (a seconds least : ℕ) → LastsFor e a seconds → HasLeast least e.config → least ≤ seconds
lasts_least none_shorter e a seconds least lasts has =
    let g = lasts.granted in
    let q = asked_for e.config e.before g.names e.message (now_of e) g.client in
    let bound : least ≤ (granted_times q a).lifetime = none_shorter q a least has in
    let same : lasts.times.lifetime ≡ (granted_times q a).lifetime = ap (λ (times : Times). times.lifetime) g.are in
    omega (arith, bound, same, lasts.is)

-- and it is the lifetime of a configuration that has one
lasts_alike : LeasesLastAlike → (e : LeaseStep) (a seconds : ℕ) (config : Configuration) → LastsFor e a seconds → e.config ≡ config → HasOneLifetime config → seconds ≡ config.times.lifetime
lasts_alike alike e a seconds config lasts same one =
    let g = lasts.granted in
    let q = asked_for e.config e.before g.names e.message (now_of e) g.client in
    lasts.is ∙ ap (λ (times : Times). times.lifetime) (g.are ∙ alike q a (subst HasOneLifetime (sym same) one))
    ∙ ap (λ (c : Configuration). c.times.lifetime) same

module _ (law : NoOverlapAcross) where
  -- no lifetime is shorter if none is shorter
  pub where_none_is_shorter : NoOverlapWhereNoneIsShorter
  where_none_is_shorter rows es history i j e f client a seconds lasts none g = ⊎_elim inl loosened (law rows es history i j e f client a seconds lasts g) where
    loosened : GivesUpBetween es i j client a ⊎ ShortenedBetween es i j e client a seconds (now_of f) → (now_of e + seconds ≤ now_of f) ⊎ GivesUpBetween es i j client a
    loosened (inl up) = inr up
    loosened (inr s) =
        let long : seconds ≤ s.fewer = none s.place s.step s.fewer s.after s.before s.there s.renews in
        let less = s.shorter in
        absurd (omega arith)

  module _ (last : LeasesLast) where
    -- a shorter lifetime is no shorter than the shortest
    pub for_shortest : NoneIsShorter → NoOverlapForShortest
    for_shortest none_shorter rows es history i j e f client a shortest least g = ⊎_elim late loosened (law rows es history i j e f client a seconds lasts g) where
      first : (seconds : ℕ) × LastsFor e a seconds
      first = last e client a (happens_there rows es i e history g.first) g.leases

      seconds : ℕ
      seconds = first.0

      lasts : LastsFor e a seconds
      lasts = first.1

      late : now_of e + seconds ≤ now_of f → (now_of e + shortest ≤ now_of f) ⊎ GivesUpBetween es i j client a
      late past = let l : shortest ≤ seconds = lasts_least none_shorter e a seconds shortest lasts (least i e (omega arith) g.before g.first) in inl (omega arith)

      loosened : GivesUpBetween es i j client a ⊎ ShortenedBetween es i j e client a seconds (now_of f) → (now_of e + shortest ≤ now_of f) ⊎ GivesUpBetween es i j client a
      loosened (inl up) = inr up
      loosened (inr s) =
          let after = s.after in
          let l : shortest ≤ s.fewer = lasts_least none_shorter s.step a s.fewer shortest s.renews.lasts (least s.place s.step (omega arith) s.before s.there) in
          let later = s.later in
          let past = s.past in
          inl (omega arith)

    -- one configuration with one lifetime
    pub of_one : LeasesLastAlike → NoOverlap
    of_one alike config rows es history one single i j e f client a g =
        ⊎_elim late inr (where_none_is_shorter rows es history i j e f client a first.0 first.1 same g) where
          first : (seconds : ℕ) × LastsFor e a seconds
          first = last e client a (happens_there rows es i e history g.first) g.leases

          time : first.0 ≡ config.times.lifetime
          time = lasts_alike alike e a first.0 config first.1 (one i e g.first) single

          same : (k : ℕ) (x : LeaseStep) (others : ℕ) → i < k → k < j → slice_get es k ≡ Some x → Renews x client a others → first.0 ≤ others
          same k x others after before there renews =
              let other : others ≡ config.times.lifetime = lasts_alike alike x a others config renews.lasts (one k x there) single in
              omega (arith, time, other)

          late : now_of e + first.0 ≤ now_of f → (now_of e + config.times.lifetime ≤ now_of f) ⊎ GivesUpBetween es i j client a
          late past = inl (omega (arith, time))
