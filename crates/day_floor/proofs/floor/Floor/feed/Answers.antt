use Rattle.std.proofs.Common.{◌≡◌, ◌∷◌, [], ◌++◌, length, rules, sym, ◌∙◌, subst}
use Rattle.day_floor.specs.declared.floor.Floor.{Floor}
use Rattle.day_floor.specs.declared.due_slot.Slot.{Slot}
use Rattle.day_floor.specs.Shares.{State}
use Rattle.day_floor.specs.Steps.{after_feed}
use Rattle.day_floor.specs.Sound.{SoundState}
use Rattle.day_floor.specs.Terms.{AreTerms}
use Rattle.day_floor.specs.Floors.{Setting, StandsFor}
use Rattle.road_time.specs.Day.{given}
use Rattle.day_floor.specs.SettlingRuns.{StandsFor as SettlerStandsFor}
use Rattle.day_floor.proofs.Texts.{first_stay}
use Rattle.ways_expressway.proofs.RunSteps.{on_refusal}
use Rattle.day_floor.proofs.Sound.{sound_feed}
use Rattle.day_floor.proofs.Filled.{slots_fed}
use Rattle.day_floor.proofs.Homed.{home_fed}
use Rattle.day_floor.proofs.floor.Floor.feed.Goals as goal

-- only the room of the slots has changed
roomier : (f n : Floor) (g : Setting) (s : State) → n.slots.items ≡ f.slots.items → StandsFor g f s →
    StandsFor g (record f { slots = n.slots }) s
roomier f n g s items st =
    record {
      terms = st.terms;
      sound = st.sound;
      inboxes = st.inboxes;
      slots = items ∙ st.slots;
      homes_width =
          st.homes_width;
      homes = st.homes;
      settler = st.settler;
      settled = st.settled;
      given_is = st.given_is;
      digested = st.digested;
    }

pub feed-requires : goal.feed-requires
feed-requires c = record {
  day = c.requires.1.fed;
  share = c.requires.1.share;
  limits = c.args.self.now.limits;
  stand = c.requires.2.inboxes;
  fit = c.requires.3.fit;
  position_is =
      sym (c.fed-position.ensures c.requires.0 c.requires.1
      (roomier c.args.self.now (record c.args.self.now { slots = c.reserve.new.self }) c.requires.0 c.requires.1
      c.reserve.ensures.items c.requires.2));
}

pub returns-in_err-due-clause-refused : goal.returns-in_err-due-clause-refused
returns-in_err-due-clause-refused c =
    let f = c.args.self.now in
    let g : Floor = record f { inboxes = c.feed.new.self; slots = c.reserve.new.self } in
    let width = c.in_err-due.ensures.width in
    on_refusal {P = (e : Setting) (s : State) → StandsFor e f s → StandsFor e g s} c.from_residual-in_err-due.result
    (λ e s st. record {
      terms = subst (λ n. AreTerms n f.limits) (sym width) st.terms;
      sound = subst (λ n. SoundState n f.limits s) (sym width) st.sound;
      inboxes = c.in_err-due.ensures.refused s.fed s.share st.inboxes;
      slots = c.reserve.ensures.items ∙ st.slots;
      homes_width = st.homes_width ∙ sym width;
      homes = st.homes;
      settler = st.settler;
      settled = st.settled;
      given_is = st.given_is;
      digested = st.digested;
    })

pub returns-else-is_err-clause-fed : goal.returns-else-is_err-clause-fed
returns-else-is_err-clause-fed c = λ g s st can.
    let f = c.args.self.now in
    let x = c.args.tuple in
    let width = c.in_ok-due.ensures.width in
    let at : length s.fed ≡ c.fed-position.result =
    sym (c.fed-position.ensures g s
    (roomier f (record f { slots = c.reserve.new.self }) g s c.reserve.ensures.items st)) in
    let new : Slot = record { due = c.in_ok-due.due; found = c.none_yet.result } in
    let items : c.push_back.new.self.items ≡ f.slots.items ++ new ∷ [] = search rules in
    record {
      terms = subst (λ n. AreTerms n f.limits) (sym width) st.terms;
      sound = subst (λ n. SoundState n f.limits (after_feed f.inboxes.width s x)) (sym width)
          (sound_feed f.inboxes.width f.limits s x st.sound can);
      inboxes = c.in_ok-due.ensures.fed s.fed s.share st.inboxes at;
      slots = items ∙ slots_fed f.inboxes.width f.limits s x f.slots.items new st.sound st.slots
          (c.in_ok-due.ensures.due s.fed s.share st.inboxes) c.none_yet.ensures;
      homes_width = st.homes_width ∙ sym width;
      homes = λ w home is. home_fed g.tariffs home w f.inboxes.width s.fed x (s.share w) (st.homes w home is);
      settler =
          subst (SettlerStandsFor f.settler (given s.found) g.number g.history)
          (sym (first_stay s.settled s.fed x st.sound.settled)) st.settler;
      settled = st.settled;
      given_is = st.given_is;
      digested = st.digested;
    }
