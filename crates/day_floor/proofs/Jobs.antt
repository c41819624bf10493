-- jobs that go out and come back
use Rattle.std.proofs.Common.{◌≡◌, ℕ, ◌<◌, true, false, List, [], ◌∷◌, ◌++◌, map, Result, Ok, Err, IsOk, sym, ap}
use Rattle.std.proofs.Common.{◌∙◌, subst, arith}
use Rattle.std.specs.List.{AllByRecursion}
use Rattle.std.specs.Result.{OnOk}
use Rattle.std.proofs.lemmas.List.Elements.{recursion_from_All}
use Rattle.road_time.specs.declared.day.Limits.{Limits}
use Rattle.road_time.specs.declared.day.TheConstants.Limits.{DAY}
use Rattle.road_time.specs.declared.road.Tuple.{Tuple}
use Rattle.road_time.specs.Fits.{Fit, IsDay}
use Rattle.road_time.specs.Rates.{Tariffs}
use Rattle.ways_expressway.specs.declared.finding.Finding.{Finding as CodeFinding}
use Rattle.ways_expressway.specs.declared.job.Job.{Job}
use Rattle.ways_expressway.specs.declared.job.Done.{Done}
use Rattle.ways_expressway.specs.Events.{events_for}
use Rattle.ways_expressway.specs.Findings.{shown, findings}
use Rattle.ways_expressway.specs.Ready.{CanRun, IsReady}
use Rattle.ways_expressway.specs.Stands.{StandsFor}
use Rattle.ways_expressway.specs.Results.{IsResultOf, IsResultShaped, IsPossible}
use Rattle.ways_expressway.proofs.RunLaws.{may_run, carried}
use Rattle.ways_expressway.proofs.RunSteps.{can_parts}
use Rattle.ways_expressway.proofs.ShapeLaws.{positions_shown}
use Rattle.day_floor.specs.Terms.{AreTerms}
use Rattle.day_floor.specs.Shares.{State, is_empty, can_give}
use Rattle.day_floor.specs.Steps.{given_out, after_give}
use Rattle.day_floor.specs.Sound.{CouldBe, CanBack, SoundState, told_positions}
use Rattle.day_floor.specs.Jobs.{IsNext, IsOut, MayComeBack, HasTrueFindings}
use Rattle.day_floor.proofs.Shapes.{positions_are}
use Rattle.day_floor.proofs.Workers.{at_own, nothing_out, some_wait}

-- what was fed is a day that the office takes
fed_day : {width : ℕ} (fed : List Tuple) (limits : Limits) → AreTerms width limits → Fit fed limits → IsDay fed
fed_day fed limits terms fit = record {
  valid = fit.valid;
  lines = omega (arith, fit.lines, terms.lines);
  in_order = fit.in_order;
  vehicles = omega (arith, fit.vehicles, terms.vehicles);
  rare = fit.rare;
}

module _ (width : ℕ) (limits : Limits) (s : State) (terms : AreTerms width limits) (sound : SoundState width limits s)
    (worker : ℕ) (within : worker < width) where
  -- all events of a worker that are not back can be run after those that are
  pub can_ahead : CanRun (s.share worker).back ((s.share worker).out ++ (s.share worker).waiting)
  can_ahead =
      let day = fed_day s.fed limits terms sound.fit in
      let all : CanRun [] (events_for s.fed worker width) =
      record { order = may_run worker width s.fed sound.fit.in_order; day = carried s.fed DAY day worker width } in
      (can_parts [] (s.share worker).back ((s.share worker).out ++ (s.share worker).waiting)
      (subst (CanRun []) (sound.parts.whole worker within) all)).1

  -- those that wait, where none is out
  pub can_next : can_give (s.share worker) ≡ true → CanRun (s.share worker).back (s.share worker).waiting
  can_next may =
      subst (λ es. CanRun (s.share worker).back (es ++ (s.share worker).waiting)) (nothing_out (s.share worker) may)
      can_ahead

  -- and those that are out
  pub can_out : CanRun (s.share worker).back (s.share worker).out
  can_out = (can_parts (s.share worker).back (s.share worker).out (s.share worker).waiting can_ahead).0

-- a job that is given can be run after the events that are back
pub next_ready : (tariffs : Tariffs) (width : ℕ) (limits : Limits) (s : State) (worker : ℕ) (job : Job) →
    AreTerms width limits → SoundState width limits s → worker < width → IsNext tariffs s worker job →
    IsReady job.carriage (s.share worker).back job.events
next_ready tariffs width limits s worker job terms sound within next =
    record {
      stands = next.stands;
      runs =
          subst (CanRun (s.share worker).back) (sym next.events)
          (can_next width limits s terms sound worker within next.may);
    }

-- and some of its are out afterwards
pub some_out : (s : State) (worker : ℕ) → can_give (s.share worker) ≡ true →
    is_empty ((after_give s worker).share worker).out ≡ false
some_out s worker can = ap (λ sh. is_empty sh.out) (at_own worker (given_out s.given) s.share)
    ∙ some_wait (s.share worker) can

-- a job that is given is out afterwards
pub goes_out : (tariffs : Tariffs) (s : State) (worker : ℕ) (job : Job) → IsNext tariffs s worker job →
    IsOut tariffs (after_give s worker) worker job
goes_out tariffs s worker job next =
    let now = sym (at_own worker (given_out s.given) s.share) in
    record {
      worker_is = next.worker_is;
      number = subst (λ sh. job.number ≡ sh.number) now next.number;
      tariffs_are = next.tariffs_are;
      stands = subst (λ sh. StandsFor job.carriage sh.back) now next.stands;
      events = subst (λ sh. job.events ≡ sh.out) now next.events;
    }

-- what holds where all went well holds
pub ok_is : {T E P : Type 0} (r : Result T E) → IsOk r → OnOk r P → P
ok_is (Ok x) h p = p
ok_is (Err e) h p = cc

-- possible findings could be
shown_could : (fs : List CodeFinding) → AllByRecursion IsPossible fs → AllByRecursion CouldBe (map shown fs)
shown_could [] h = tt
shown_could (f ∷ fs) h = (record { lav = h.0.lav; toll = h.0.toll; alert = h.0.alert }, shown_could fs h.1)

module _ (tariffs : Tariffs) (width : ℕ) (limits : Limits) (s : State) (worker : ℕ) (job : Job)
    (terms : AreTerms width limits) (sound : SoundState width limits s) (within : worker < width)
    (some : is_empty (s.share worker).out ≡ false) (is : IsOut tariffs s worker job) where
  pub out_ready : IsReady job.carriage (s.share worker).back job.events
  out_ready =
      record {
        stands = is.stands;
        runs =
            subst (CanRun (s.share worker).back) (sym is.events) (can_out width limits s terms sound worker within);
      }

  module _ (done : Done) (ok : IsOk done.result) where
    pub comes_back : IsResultShaped job done → MayComeBack tariffs width s done
    comes_back shaped =
        let same : worker ≡ done.worker = sym (shaped.back.worker ∙ is.worker_is) in
        let sh = s.share worker in
        record {
          whole = ok;
          can = subst (λ w. CanBack width s w done.number (map shown done.findings)) same (record {
            within = within;
            out = some;
            same = shaped.back.number ∙ is.number;
            shape = positions_shown done.findings ∙ ok_is done.result ok shaped.found sh.back out_ready
                ∙ positions_are sh.back job.events job.carriage.tariffs ∙ ap told_positions is.events;
            could = shown_could done.findings
                (recursion_from_All IsPossible done.findings (shaped.possible sh.back out_ready));
          });
          tariffs_are = ok_is done.result ok shaped.back.tariffs ∙ is.tariffs_are;
          stands = subst (λ w. StandsFor done.carriage ((s.share w).back ++ (s.share w).out)) same
              (subst (λ es. StandsFor done.carriage (sh.back ++ es)) is.events
              (ok_is done.result ok shaped.back.carried sh.back out_ready));
        }

    pub true_result : IsResultOf job done → HasTrueFindings tariffs s done
    true_result result =
        let same : worker ≡ done.worker = sym (result.back.worker ∙ is.worker_is) in
        let sh = s.share worker in
        subst (λ w. map shown done.findings ≡ findings (s.share w).back (s.share w).out tariffs) same
        (ok_is done.result ok result.found sh.back out_ready
        ∙ ap (λ es. findings sh.back es job.carriage.tariffs) is.events
        ∙ ap (findings sh.back sh.out) is.tariffs_are)
