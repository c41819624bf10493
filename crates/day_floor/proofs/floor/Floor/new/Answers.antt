use Rattle.road_time.specs.Day.{given}
use Rattle.std.proofs.Common.{[], rules, sym, ◌∙◌, subst}
use Rattle.day_floor.specs.Terms.{AreTerms}
use Rattle.day_floor.proofs.Sound.{sound_start}
use Rattle.day_floor.proofs.floor.Floor.new.Goals as goal

pub returns-clause-stands : goal.returns-clause-stands
returns-clause-stands c = λ number history.
    let width = c.in_ok-inboxes.ensures.width in
    record {
      terms = subst (λ n. AreTerms n c.args.limits.now) (sym width) c.requires;
      sound = sound_start c.in_ok-inboxes.inboxes.width c.args.limits.now;
      inboxes = c.in_ok-inboxes.ensures.stand;
      slots = search rules;
      homes_width = c.in_ok-homes.ensures.len ∙ sym width;
      homes = c.in_ok-homes.ensures.idle;
      settler = c.new-3.ensures.stands (given []) number history;
      settled = search rules;
      given_is = search rules;
      digested = c.new-3.ensures.digested;
    }
