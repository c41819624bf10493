use Rattle.std.proofs.Common.{◌≡◌, ℕ, ◌+◌, ◌≤◌, ◌<◌, ◌++◌, List, Option, length, map, take, drop, rules, sym, ◌∙◌}
use Rattle.std.proofs.Common.{subst}
use Rattle.std.specs.List.{All, AllByRecursion}
use Rattle.std.specs.VecDeque.{deque_len}
use Rattle.std.proofs.lemmas.List.{length-take-le}
use Rattle.std.proofs.lemmas.List.Elements.{All-from_recursion}
use Rattle.road_time.specs.Day.{given}
use Rattle.ways_expressway.specs.declared.finding.Finding.{Finding}
use Rattle.ways_expressway.specs.Kept.{KeptWays}
use Rattle.ways_expressway.specs.Findings.{shown}
use Rattle.day_floor.specs.Steps.{after_back}
use Rattle.day_floor.specs.Sound.{AreFresh, ReportAt, SoundState}
use Rattle.day_floor.specs.Slots.{slots_of}
use Rattle.day_floor.specs.Terms.{AreTerms}
use Rattle.day_floor.specs.Floors.{HomeAt}
use Rattle.day_floor.proofs.Sound.{sound_back}
use Rattle.day_floor.proofs.Ones.{awaited, fresh_back}
use Rattle.day_floor.proofs.StayLaws.{stands_by}
use Rattle.day_floor.proofs.Texts.{same_told, not_settled, long_first}
use Rattle.day_floor.proofs.Homed.{homes_back}
use Rattle.day_floor.proofs.Floors.{count, awaited_within, awaited_reports}
use Rattle.day_floor.proofs.floor.Floor.back.Goals as goal

pub fill-requires : goal.fill-requires
fill-requires c =
    let f = c.args.self.now in
    let s = c.requires.1 in
    let st = c.requires.2 in
    let can = c.requires.3.can in
    let held : deque_len f.slots ≡ length f.slots.items = search rules in
    let items : c.items.result.now ≡ c.args.done.findings = search rules in
    let P = λ (x : Finding). (f.settled ≤ x.position) × (x.position < f.settled + deque_len f.slots) in
    subst (λ xs. All P xs) (sym items)
    (All-from_recursion P c.args.done.findings
    (awaited_within s f.settled (deque_len f.slots) c.args.done.findings st.settled (count c.requires.0 f s st held)
    (awaited f.inboxes.width f.limits s st.sound c.args.done.worker c.args.done.number (map shown c.args.done.findings)
    can)))

pub returns-clause-back : goal.returns-clause-back
returns-clause-back c = λ g s st may.
    let f = c.args.self.now in
    let worker = c.args.done.worker in
    let fs = map shown c.args.done.findings in
    let width = c.back.ensures.width in
    let items : c.items.result.now ≡ c.args.done.findings = search rules in
    let waits = awaited f.inboxes.width f.limits s st.sound worker c.args.done.number fs may.can in
    let fresh = fresh_back f.inboxes.width f.limits s worker c.args.done.number fs st.sound may.can in
    let long : length (take s.settled s.fed) ≡ f.settled = length-take-le s.settled s.fed st.sound.settled
    ∙ sym st.settled in
    let back : List (Option KeptWays) = c.bring_home.new.homes.items in
    record {
      terms = subst (λ n. AreTerms n f.limits) (sym width) st.terms;
      sound = subst (λ n. SoundState n f.limits (after_back s worker fs)) (sym width)
          (sound_back f.inboxes.width f.limits s worker c.args.done.number fs st.sound may.can);
      inboxes = c.back.ensures.back s.fed s.share st.inboxes;
      slots = subst
          (λ (xs : List Finding). c.fill.new.slots.items ≡ slots_of (given (s.found ++ map shown xs))
          (take s.settled s.fed) (drop s.settled s.fed)) items
          (c.fill.ensures.filled s.found (take s.settled s.fed) (drop s.settled s.fed) st.slots long
          (subst (λ (xs : List Finding). AreFresh s.found (map shown xs)) (sym items) fresh)
          (subst (λ (xs : List Finding). AllByRecursion
          (λ g. ReportAt (take s.settled s.fed ++ drop s.settled s.fed) g.0) (map shown xs)) (sym items)
          (awaited_reports s fs waits)));
      homes_width = c.bring_home.ensures.len ∙ st.homes_width ∙ sym width;
      homes = subst (λ xs. (w : ℕ) → HomeAt g.tariffs xs w ((after_back s worker fs).share w))
          (sym c.bring_home.ensures.brought)
          (homes_back g.tariffs f.homes.items worker c.args.done.carriage s.share (search rules) st.homes may.stands
          may.tariffs_are);
      settler = stands_by f.settler (given s.found) (given (s.found ++ fs)) g.number g.history (take s.settled s.fed)
          (same_told s.found fs s.settled
          (not_settled f.inboxes.width f.limits s worker c.args.done.number fs st.sound may.can)
          (take s.settled s.fed) (long_first f.inboxes.width f.limits s st.sound)) st.settler;
      settled = st.settled;
      given_is = st.given_is;
      digested = st.digested;
    }
