use Rattle.std.proofs.Common.{◌≡◌, ◌+◌, ◌++◌, ◌∷◌, [], get_or, take, sym, ap, subst, ◌∙◌}
use Rattle.std.specs.HashMap.{get}
use Rattle.std.specs.Map.{lookup}
use Rattle.std.proofs.lemmas.List.{take_all, take_more}
use Rattle.road_time.specs.Stops.{Stop, has_accident}
use Rattle.road_time.specs.Tuples.{same_place, same_stretch}
use Rattle.road_rules.proofs.MeetLaws.{AreFirsts, among_all, among_at, is_in, firsts_none, firsts_elsewhere, firsts_more, firsts_meet, firsts_alone}
use Rattle.road_rules.proofs.blocked.has_meeting.Goals as goal
use Rattle.road_rules.proofs.blocked.has_meeting.Goals.{then-eq+in_ok-meets+else-branch, else-eq}

abbrev nowhere : Stop
nowhere = (0, record { xway = 0; dir = 0; lane = 0; seg = 0; pos = 0 })

pub loop-stop-init : goal.loop-stop-init
loop-stop-init c = firsts_none c.args.stretch (get same_place c.new-firsts.result) (λ p. ap (lookup (same_place p)) c.new-firsts.ensures.empty)

pub loop-stop-preserved : goal.loop-stop-preserved
loop-stop-preserved c =
    let k = c.args.stretch in
    let stops = c.args.stops.now in
    let i = c.loop-stop.stop-index in
    let stop = get_or stops i nowhere in
    let kept = get same_place c.loop-stop.firsts in
    let more : take (i + 1) stops ≡ take i stops ++ stop ∷ [] = take_more stops i nowhere c.loop-stop-test.true in
    let here : c.eq.result ≡ is_in k stop = c.eq.ensures ∙ ap (λ s. same_stretch s k) c.stretch.ensures in
    subst (AreFirsts k (get same_place c.if-eq.firsts)) (sym more)
    (elim c.if-eq.branch [
      | then-eq+in_ok-meets+else-branch w ↦ subst (λ m. AreFirsts k (get same_place m) (take i stops ++ stop ∷ [])) (sym w.firsts-is)
          (firsts_more k kept (take i stops) c.loop-stop.invariant stop (get same_place w.meets.new.firsts)
          (w.in_ok-meets.ensures.fits w.if-branch.false) (w.in_ok-meets.ensures.kept w.if-branch.false))
      | else-eq w ↦ subst (λ m. AreFirsts k (get same_place m) (take i stops ++ stop ∷ [])) (sym w.firsts-is)
          (firsts_elsewhere k kept (take i stops) c.loop-stop.invariant stop (sym here ∙ w.if-eq.false))
    ])

pub returns-then-branch : goal.returns-then-branch
returns-then-branch c =
    let k = c.args.stretch in
    let stops = c.args.stops.now in
    let i = c.loop-stop.stop-index in
    let stop = get_or stops i nowhere in
    let here : c.eq.result ≡ is_in k stop = c.eq.ensures ∙ ap (λ s. same_stretch s k) c.stretch.ensures in
    let (v, kept, other) = c.in_ok-meets.ensures.met c.if-branch.true in
    sym (firsts_meet k (get same_place c.loop-stop.firsts) (take i stops) stops stop v c.loop-stop.invariant (among_all stops i)
    (among_at stops i nowhere c.loop-stop-test.true) (sym here ∙ c.if-eq.true) kept other)

pub returns : goal.returns
returns c =
    let k = c.args.stretch in
    let stops = c.args.stops.now in
    let i = c.loop-stop.stop-index in
    let all : take i stops ≡ stops = take_all i stops c.loop-stop-test.false in
    sym (ap (λ ss. has_accident ss k) (sym all) ∙ firsts_alone k (get same_place c.loop-stop.firsts) (take i stops) c.loop-stop.invariant)
