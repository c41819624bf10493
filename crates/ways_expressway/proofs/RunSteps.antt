-- a run of events, one by one
use Rattle.std.proofs.Common.{◌≡◌, ℕ, ◌<◌, ◌+◌, List, [], ◌∷◌, ◌++◌, map, take, drop, length, get_or, Result, Ok, Err}
use Rattle.std.proofs.Common.{refl, sym, ap, ◌∙◌, subst}
use Rattle.std.proofs.lemmas.List.{append-nil, append_assoc, map-append, take-append-drop, drop_more}
use Rattle.std.proofs.lemmas.List.Elements.{filter_map-append}
use Rattle.std.specs.Result.{OnErr}
use Rattle.road_time.specs.declared.road.Tuple.TheVariants.{Report as ReportTuple}
use Rattle.road_time.specs.declared.day.TheConstants.Limits.{DAY}
use Rattle.road_time.specs.Fits.{Fit}
use Rattle.road_time.specs.Tolls.{StretchTold}
use Rattle.road_time.proofs.AllowedLaws.{fit_left}
use Rattle.ways_expressway.specs.declared.lane_event.LaneEvent.{LaneEvent}
use Rattle.ways_expressway.specs.declared.finding.Finding.{Finding as CodeFinding}
use Rattle.ways_expressway.specs.Events.{seen, report_seen}
use Rattle.ways_expressway.specs.Runs.{MayRun}
use Rattle.ways_expressway.specs.Findings.{shown, findings}
use Rattle.ways_expressway.specs.Kept.{KeptWays}
use Rattle.ways_expressway.specs.Stands.{StandsFor}
use Rattle.ways_expressway.specs.Ready.{CanRun, IsReady}
use Rattle.ways_expressway.specs.Results.{AreFirst}
use Rattle.ways_expressway.proofs.JobLaws.{split_run, findings_split}
use Rattle.ways_expressway.proofs.ReadyLaws.{as_tuples}

-- the first of events that may run may run
pub run_left : (before es later : List LaneEvent) → MayRun before (es ++ later) → MayRun before es
run_left before [] later h = tt
run_left before (e ∷ es) later h = (h.0, run_left (before ++ e ∷ []) es later h.1)

-- earlier events, some, one more and the rest
joined : (before some : List LaneEvent) (e : LaneEvent) (rest : List LaneEvent) →
    before ++ (some ++ e ∷ rest) ≡ ((before ++ some) ++ e ∷ []) ++ rest
joined before some e rest = sym (append_assoc before some (e ∷ rest))
    ∙ sym (append_assoc (before ++ some) (e ∷ []) rest)

-- where events can be run, one of them can after those before it
first_can : (before some : List LaneEvent) (e : LaneEvent) (rest : List LaneEvent) → CanRun before (some ++ e ∷ rest) →
    CanRun (before ++ some) (e ∷ [])
first_can before some e rest can =
    let parts : as_tuples (seen (before ++ (some ++ e ∷ rest))) ≡ as_tuples (seen ((before ++ some) ++ e ∷ []))
    ++ as_tuples (seen rest) =
    ap (λ es. as_tuples (seen es)) (joined before some e rest)
    ∙ ap as_tuples (filter_map-append report_seen ((before ++ some) ++ e ∷ []) rest)
    ∙ map-append (λ r. ReportTuple r) (seen ((before ++ some) ++ e ∷ [])) (seen rest) in
    record {
      order = ((split_run before some (e ∷ rest) can.order).0, tt);
      day = fit_left (as_tuples (seen ((before ++ some) ++ e ∷ []))) (as_tuples (seen rest)) DAY
          (subst (λ xs. Fit xs DAY) parts can.day);
    }

-- the first of a carriage's events were run: what is kept now stands for them too, and what was found is theirs
pub record AreRun (entry c : KeptWays) (fs : List CodeFinding) (all some : List LaneEvent) : Type 0 where
  pub tariffs : c.tariffs ≡ entry.tariffs
  pub stands : (before : List LaneEvent) → IsReady entry before all → StandsFor c (before ++ some)
  pub found : (before : List LaneEvent) → IsReady entry before all → map shown fs ≡ findings before some entry.tariffs

-- none was run yet
pub none_run : (entry : KeptWays) (fs : List CodeFinding) (all : List LaneEvent) → fs ≡ [] →
    AreRun entry entry fs all []
none_run entry fs all h = record {
  tariffs = refl;
  stands = λ before ready. subst (StandsFor entry) (sym (append-nil before)) ready.stands;
  found = λ before ready. ap (map shown) h;
}

-- a carriage after the first events is ready for the next
pub next_ready : (entry c : KeptWays) (fs : List CodeFinding) (all some : List LaneEvent) (e : LaneEvent)
    (rest : List LaneEvent) → all ≡ some ++ e ∷ rest → AreRun entry c fs all some →
    (before : List LaneEvent) → IsReady entry before all → IsReady c (before ++ some) (e ∷ [])
next_ready entry c fs all some e rest parts run before ready = record {
  stands = run.stands before ready;
  runs = first_can before some e rest (subst (CanRun before) parts ready.runs);
}

-- one more was run
pub one_run : (entry c d : KeptWays) (fs gs : List CodeFinding) (all some : List LaneEvent) (e : LaneEvent)
    (rest : List LaneEvent) (new : List (ℕ × StretchTold)) → all ≡ some ++ e ∷ rest → AreRun entry c fs all some →
    d.tariffs ≡ c.tariffs → ((before : List LaneEvent) → IsReady c before (e ∷ []) → StandsFor d (before ++ e ∷ [])) →
    ((before : List LaneEvent) → IsReady c before (e ∷ []) → new ≡ findings before (e ∷ []) c.tariffs) →
    map shown gs ≡ map shown fs ++ new → AreRun entry d gs all (some ++ e ∷ [])
one_run entry c d fs gs all some e rest new parts run same carries finds kept = record {
  tariffs = same ∙ run.tariffs;
  stands = λ before ready. subst (StandsFor d) (append_assoc before some (e ∷ []))
      (carries (before ++ some) (next_ready entry c fs all some e rest parts run before ready));
  found = λ before ready.
      let may = subst (MayRun before) (parts ∙ sym (append_assoc some (e ∷ []) rest)) ready.runs.order in
      kept ∙ ap (λ xs. xs ++ new) (run.found before ready)
      ∙ ap (λ ys. findings before some entry.tariffs ++ ys)
      (finds (before ++ some) (next_ready entry c fs all some e rest parts run before ready)
      ∙ ap (findings (before ++ some) (e ∷ [])) run.tariffs)
      ∙ sym (findings_split before some (e ∷ []) entry.tariffs (run_left before (some ++ e ∷ []) rest may));
}

-- what was found of the first events is the first of what all find
pub some_first : (entry c : KeptWays) (fs : List CodeFinding) (all some later : List LaneEvent) → all ≡ some ++ later →
    AreRun entry c fs all some →
    (before : List LaneEvent) → IsReady entry before all → AreFirst (map shown fs) (findings before all entry.tariffs)
some_first entry c fs all some later parts run before ready = (
  findings (before ++ some) later entry.tariffs,
  ap (λ es. findings before es entry.tariffs) parts
      ∙ findings_split before some later entry.tariffs (subst (MayRun before) parts ready.runs.order)
      ∙ ap (λ xs. xs ++ findings (before ++ some) later entry.tariffs) (sym (run.found before ready)),
)

-- a list around one of its elements
pub around : {X : Type 0} (xs : List X) (i : ℕ) (d : X) → i < length xs →
    xs ≡ take i xs ++ get_or xs i d ∷ drop (i + 1) xs
around xs i d h = sym (take-append-drop i xs) ∙ ap (λ ys. take i xs ++ ys) (drop_more xs i d h)

-- what holds holds also after a refusal
pub on_refusal : {T E P : Type 0} (r : Result T E) → P → OnErr r P
on_refusal (Ok x) p = tt
on_refusal (Err e) p = p

-- a carriage after the first of events that can be run on a new one is ready for the next
pub from_new : (c : KeptWays) (all some : List LaneEvent) (e : LaneEvent) (rest : List LaneEvent) →
    all ≡ some ++ e ∷ rest → CanRun [] all → StandsFor c some → IsReady c some (e ∷ [])
from_new c all some e rest parts can stands =
    record { stands = stands; runs = first_can [] some e rest (subst (CanRun []) parts can) }

-- the first of events that can be run can be, and the later ones after those
pub can_parts : (before es later : List LaneEvent) → CanRun before (es ++ later) → CanRun before es
    × CanRun (before ++ es) later
can_parts before es later can =
    let parts : as_tuples (seen (before ++ (es ++ later))) ≡ as_tuples (seen (before ++ es)) ++ as_tuples (seen later) =
    ap (λ xs. as_tuples (seen xs)) (sym (append_assoc before es later))
    ∙ ap as_tuples (filter_map-append report_seen (before ++ es) later)
    ∙ map-append (λ r. ReportTuple r) (seen (before ++ es)) (seen later) in (
      record {
        order = run_left before es later can.order;
        day =
            fit_left (as_tuples (seen (before ++ es))) (as_tuples (seen later)) DAY
            (subst (λ xs. Fit xs DAY) parts can.day);
      },
      record {
        order = split_run before es later can.order;
        day =
            subst (λ xs. Fit (as_tuples (seen xs)) DAY) (sym (append_assoc before es later)) can.day;
      },
    )
