use Rattle.day_floor.specs.Written.{settled_charges}
use Rattle.std.proofs.Common.{◌∙◌, ap, rules, sym, subst}
use Rattle.day_floor.specs.Steps.{after_give}
use Rattle.day_floor.specs.Sound.{SoundState, IsTrue}
use Rattle.day_floor.specs.Floors.{StandsFor}
use Rattle.example_day.proofs.RunLaws.{well, ready, may_come, run_is, none_run, run_true, charged_is}
use Rattle.ways_expressway.proofs.ShapeLaws.{ok_map}
use Rattle.example_day.proofs.turns.run_next.Goals as goal

pub returns-in_default-clause-ran : goal.returns-in_default-clause-ran
returns-in_default-clause-ran c = λ g s st.
    let none = c.in_default.ensures.none g s st in
    subst (StandsFor g c.give.new.self) (sym (none_run g.tariffs s c.args.worker none.0)) none.1

pub give-requires-2-clause-serves : goal.give-requires-2-clause-serves
give-requires-2-clause-serves c =
    let sv = c.requires.serves in
    record {
      setting = sv.setting;
      state = after_give sv.state c.args.worker;
      stands =
          (c.in-Some.ensures.some sv.setting sv.state sv.stands).1;
    }

pub run-done-requires : goal.run-done-requires
run-done-requires c =
    let sv = c.requires.serves in
    let next = c.in-Some.ensures.some sv.setting sv.state sv.stands in (
      (sv.state.share c.args.worker).back,
      ready sv.setting c.args.floor.now c.give.new.self sv.state c.args.worker
          c.in-Some.job sv.stands next.0 c.requires.within,
    )

pub back-requires : goal.back-requires
back-requires c =
    let sv = c.requires.serves in
    let next = c.in-Some.ensures.some sv.setting sv.state sv.stands in
    let ok = well c.run-done.result.result (search rules) in
    let given = (c.in-None.ensures.none sv.setting (after_give sv.state c.args.worker) next.1).1 in (
      sv.setting,
      after_give sv.state c.args.worker,
      given,
      may_come sv.setting c.args.floor.now c.give-2.new.self sv.state c.args.worker c.in-Some.job sv.stands next.0
          c.requires.within given (c.in-None.ensures.width ∙ c.in-Some.ensures.width) c.run-done.result ok
          c.run-done.ensures,
    )

pub returns-clause-ran : goal.returns-clause-ran
returns-clause-ran c =
    let ok = well c.run-done.result.result (search rules) in
    ok_map c.back.result
    (λ back g s st.
    let next = c.in-Some.ensures.some g s st in
    let given = (c.in-None.ensures.none g (after_give s c.args.worker) next.1).1 in
    let width = c.in-None.ensures.width ∙ c.in-Some.ensures.width in
    let may = may_come g c.args.floor.now c.give-2.new.self s c.args.worker c.in-Some.job st next.0 c.requires.within
    given width c.run-done.result ok c.run-done.ensures in
    subst (StandsFor g c.back.new.self)
    (run_is g c.args.floor.now c.give-2.new.self s c.args.worker c.in-Some.job st next.0 c.requires.within given width
    c.run-done.result ok c.run-done.ensures)
    (back g (after_give s c.args.worker) given may))
    c.back.ensures.back

pub returns-in_default-clause-right : goal.returns-in_default-clause-right
returns-in_default-clause-right c = λ g s st are.
    let none = c.in_default.ensures.none g s st in
    subst (IsTrue g.tariffs c.args.floor.now.inboxes.width) (sym (none_run g.tariffs s c.args.worker none.0)) are

pub returns-clause-right : goal.returns-clause-right
returns-clause-right c =
    ok_map c.back.result
    (λ back g s st are.
    let next = c.in-Some.ensures.some g s st in
    let sound =
    subst (λ n. SoundState n c.give.new.self.limits (after_give s c.args.worker)) c.in-Some.ensures.width
    next.1.sound in
    run_true g.tariffs c.args.floor.now.inboxes.width c.give.new.self.limits s c.args.worker c.requires.within
    next.0.may sound are)
    c.back.ensures.back

pub returns-in_default-clause-charged : goal.returns-in_default-clause-charged
returns-in_default-clause-charged c =
    λ g s st. ap settled_charges (none_run g.tariffs s c.args.worker (c.in_default.ensures.none g s st).0)

pub returns-clause-charged : goal.returns-clause-charged
returns-clause-charged c =
    let ok = well c.run-done.result.result (search rules) in
    ok_map c.back.result
    (λ back g s st.
    let next = c.in-Some.ensures.some g s st in
    let given = (c.in-None.ensures.none g (after_give s c.args.worker) next.1).1 in
    let width = c.in-None.ensures.width ∙ c.in-Some.ensures.width in
    charged_is g c.args.floor.now c.give-2.new.self s c.args.worker c.in-Some.job st next.0 c.requires.within given
    width c.run-done.result ok c.run-done.ensures)
    c.back.ensures.back
