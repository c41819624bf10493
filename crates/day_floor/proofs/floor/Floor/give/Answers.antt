use Rattle.std.proofs.Common.{ℕ, ◌+◌, List, Option, refl, rules, ap, sym, ◌∙◌, subst}
use Rattle.ways_expressway.specs.Kept.{KeptWays}
use Rattle.day_floor.specs.Steps.{after_give}
use Rattle.day_floor.specs.Sound.{SoundState}
use Rattle.day_floor.specs.Terms.{AreTerms}
use Rattle.day_floor.specs.Floors.{HomeAt}
use Rattle.day_floor.proofs.Sound.{sound_give}
use Rattle.day_floor.proofs.Homed.{homes_given, not_out, is_home}
use Rattle.day_floor.proofs.floor.Floor.give.Goals as goal

pub returns-in_default-clause-none : goal.returns-in_default-clause-none
returns-in_default-clause-none c = λ g s st.
    let none = c.in_default.ensures.none s.fed s.share st.inboxes in
    let width = c.in_default.ensures.width in (
      none.0,
      record {
        terms = subst (λ n. AreTerms n c.args.self.now.limits) (sym width) st.terms;
        sound = subst (λ n. SoundState n c.args.self.now.limits s) (sym width) st.sound;
        inboxes = none.1;
        slots = st.slots;
        homes_width = st.homes_width ∙ sym width;
        homes = st.homes;
        settler = st.settler;
        settled = st.settled;
        given_is = st.given_is;
        digested = st.digested;
      },
    )

pub returns-in-None-clause-none : goal.returns-in-None-clause-none
returns-in-None-clause-none c = λ g s st.
    let job = c.in-Some.ensures.some s.fed s.share 0 st.inboxes in
    absurd (not_out g.tariffs c.args.self.now.homes.items c.args.worker (s.share c.args.worker) c.in-None.ensures.taken
    (st.homes c.args.worker) job.0)

pub returns-in-Some-take_home-clause-some : goal.returns-in-Some-take_home-clause-some
returns-in-Some-take_home-clause-some c = λ g s st.
    let f = c.args.self.now in
    let worker = c.args.worker in
    let width = c.in-Some.ensures.width in
    let job = c.in-Some.ensures.some s.fed s.share s.given st.inboxes in
    let home =
    is_home g.tariffs f.homes.items worker (s.share worker) c.in-Some-take_home.carriage
    c.in-Some-take_home.ensures.taken (st.homes worker) in
    let taken : List (Option KeptWays) = c.take_home.new.homes.items in (
      record {
        may = job.0;
        worker_is = refl;
        number = st.given_is;
        tariffs_are = home.1;
        stands = home.0;
        events =
            c.from_vec.ensures ∙ job.1;
      },
      record {
        terms = subst (λ n. AreTerms n f.limits) (sym width) st.terms;
        sound = subst (λ n. SoundState n f.limits (after_give s worker)) (sym width)
            (sound_give f.inboxes.width f.limits s worker st.sound c.requires.within job.0);
        inboxes = job.2;
        slots = st.slots;
        homes_width = c.take_home.ensures.len ∙ st.homes_width ∙ sym width;
        homes = subst (λ xs. (w : ℕ) → HomeAt g.tariffs xs w ((after_give s worker).share w))
            (sym c.in-Some-take_home.ensures.left)
            (homes_given g.tariffs f.homes.items worker s.given s.share (search rules) st.homes job.0);
        settler = st.settler;
        settled = st.settled;
        given_is = ap (λ n. n + 1) st.given_is;
        digested = st.digested;
      },
    )
