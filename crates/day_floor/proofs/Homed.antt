-- carriages that go out and come home
use Rattle.std.proofs.Common.{◌≡◌, ℕ, ◌<◌, ⊎_elim, Bool, true, false, List, ◌++◌, length, slice_get, slice_set, Option}
use Rattle.std.proofs.Common.{Some, None, sym, ap, ◌∙◌, subst}
use Rattle.std.proofs.lemmas.Bool.{cases_eq}
use Rattle.road_time.specs.declared.road.Tuple.{Tuple}
use Rattle.road_time.specs.Rates.{Tariffs}
use Rattle.ways_expressway.specs.Kept.{KeptWays}
use Rattle.ways_expressway.specs.Stands.{StandsFor as CarriageStandsFor}
use Rattle.day_floor.specs.Shares.{Share, is_empty, can_give}
use Rattle.day_floor.specs.Steps.{at_worker, fed_to, given_out, taken_back}
use Rattle.day_floor.specs.Floors.{IsHome, HomeAt}
use Rattle.day_floor.proofs.Workers.{at_own, at_other, some_wait, nothing_out}
use Rattle.day_floor.proofs.Inbox.{set_same, set_other}

module _ (tariffs : Tariffs) where
  home_changed : (homes : List (Option KeptWays)) (k : ℕ) (new : Option KeptWays) (share after : ℕ → Share) →
      k < length homes → ((w : ℕ) → HomeAt tariffs homes w (share w)) → IsHome tariffs new (after k) →
      ((w : ℕ) → (w ≡ k → ⊥) → after w ≡ share w) → (w : ℕ) → HomeAt tariffs (slice_set homes k new) w (after w)
  home_changed homes k new share after high old here there w home at =
      ⊎_elim
      (λ e.
      let now : new ≡ home =
      cc (set_same homes k new high, subst (λ i. slice_get (slice_set homes k new) i ≡ Some home) e at) in
      subst (λ i. IsHome tariffs home (after i)) (sym e) (subst (λ h. IsHome tariffs h (after k)) now here))
      (λ e. subst (IsHome tariffs home) (sym (there w e)) (old w home (sym (set_other homes k w new e) ∙ at)))
      (cases_eq w k)

  -- a job goes out
  pub homes_given : (homes : List (Option KeptWays)) (worker number : ℕ) (share : ℕ → Share) → worker < length homes →
      ((w : ℕ) → HomeAt tariffs homes w (share w)) → can_give (share worker) ≡ true →
      (w : ℕ) → HomeAt tariffs (slice_set homes worker None) w (at_worker worker (given_out number) share w)
  homes_given homes worker number share high old can =
      home_changed homes worker None share (at_worker worker (given_out number) share) high old
      (ap (λ sh. is_empty sh.out) (at_own worker (given_out number) share) ∙ some_wait (share worker) can)
      (λ w e. at_other worker w (given_out number) share e)

  -- and comes home
  pub homes_back : (homes : List (Option KeptWays)) (worker : ℕ) (c : KeptWays) (share : ℕ → Share) →
      worker < length homes → ((w : ℕ) → HomeAt tariffs homes w (share w)) →
      CarriageStandsFor c ((share worker).back ++ (share worker).out) → c.tariffs ≡ tariffs →
      (w : ℕ) → HomeAt tariffs (slice_set homes worker (Some c)) w (at_worker worker taken_back share w)
  homes_back homes worker c share high old stands same =
      home_changed homes worker (Some c) share (at_worker worker taken_back share) high old (
        ap (λ sh. is_empty sh.out) (at_own worker taken_back share),
        subst (λ sh. CarriageStandsFor c sh.back)
            (sym (at_own worker taken_back share)) stands,
        same,
      )
      (λ w e. at_other worker w taken_back share e)

  -- who may be given a job has its carriage at home
  pub not_out : (homes : List (Option KeptWays)) (worker : ℕ) (share : Share) → slice_get homes worker ≡ Some None →
      HomeAt tariffs homes worker share → can_give share ≡ true → ⊥
  not_out homes worker share at old can = clash (is_empty share.out) (ap is_empty (nothing_out share can)) (old None at)
    where
      clash : (b : Bool) → b ≡ true → b ≡ false → ⊥
      clash true e f = cc
      clash false e f = cc

  pub is_home : (homes : List (Option KeptWays)) (worker : ℕ) (share : Share) (c : KeptWays) →
      slice_get homes worker ≡ Some (Some c) → HomeAt tariffs homes worker share → CarriageStandsFor c share.back
      × (c.tariffs ≡ tariffs)
  is_home homes worker share c at old = let home = old (Some c) at in (home.1, home.2)

  -- events that come to wait change nothing at home
  pub home_fed : (home : Option KeptWays) (w width : ℕ) (fed : List Tuple) (x : Tuple) (share : Share) →
      IsHome tariffs home share → IsHome tariffs home (fed_to w width fed x share)
  home_fed None w width fed x share h = h
  home_fed (Some c) w width fed x share h = h
