-- what is said of the first tuples of a day holds of the day
use Rattle.std.proofs.Common.{◌≡◌, ℕ, List, [], ◌++◌, length, take, drop, map, sym, ap, ◌∙◌, arith, subst}
use Rattle.std.proofs.Common.{length-append}
use Rattle.std.specs.Prelude.{Option}
use Rattle.std.proofs.lemmas.List.{take-append-drop}
use Rattle.std.proofs.lemmas.List.Concat.{flat_map-append}
use Rattle.std.proofs.KnownBytes.{Appends-nil}
use Rattle.road_time.specs.declared.road.Tuple.{Tuple}
use Rattle.road_time.specs.declared.day.Limits.{Limits}
use Rattle.road_time.specs.Fits.{Fit}
use Rattle.road_time.specs.Rates.{Tariffs}
use Rattle.road_time.specs.Sights.{Moment, moments}
use Rattle.road_time.specs.Day.{rules, told_by, answer_by, notices, notices_by}
use Rattle.road_time.specs.Text.{out as text_out}
use Rattle.road_time.proofs.DayLaws.{prefix_at}
use Rattle.road_time.proofs.StepLaws.{between_before}
use Rattle.day_floor.specs.Operations.{Posted}
use Rattle.ways_expressway.specs.declared.job.Job.{Job}
use Rattle.ways_expressway.specs.Events.{events_for}
use Rattle.ways_expressway.specs.Results.{AreFirst}
use Rattle.day_floor.specs.Starts.{started_for}
use Rattle.day_floor.proofs.Events.{events_grow}
use Rattle.day_floor.proofs.PrintLaws.{out_both}
use Rattle.day_import.specs.declared.fault.DayFault.{DayFault}
use Rattle.day_import.specs.declared.fault.DayFault.TheVariants.{ReadFault, WriteFault, KeeperFault, NoMemory}
use Rattle.day_import.specs.DayFaults.{WritesUpTo}
use Rattle.day_import.specs.WorkedDays.{HaveFirstStarted}
use Rattle.day_import.specs.Published.{AreStepsBy, HasSteps}
use Rattle.day_import.specs.RoundRuns.{start_of}
use Rattle.day_import.proofs.FrontLaws.{front_more, less_more}
use Rattle.day_import.proofs.RoundJobLaws.{first_then}
use Rattle.day_import.proofs.PublishLaws.{steps_same}

-- some first bytes of a text are some of one that goes on
more_text : (fault : DayFault) (text rest : List ℕ) (old new : Option (List ℕ)) → WritesUpTo fault text old new →
    WritesUpTo fault (text ++ rest) old new
more_text ReadFault text rest old new h = front_more old old new [] text rest (Appends-nil old) h
more_text WriteFault text rest old new h = less_more old old new [] text rest (Appends-nil old) h
more_text KeeperFault text rest old new h = front_more old old new [] text rest (Appends-nil old) h
more_text NoMemory text rest old new h = front_more old old new [] text rest (Appends-nil old) h

module _ (some whole : List Tuple) (first : AreFirst some whole) (limits : Limits) (fit : Fit whole limits)
    (tariffs : Tariffs) where
  abbrev later : List Tuple
  later = first.0

  joined : whole ≡ some ++ later
  joined = first.1

  -- the output of the first tuples is the first of the day's
  notices_grow : (number : ℕ) (kept : ℕ → ℕ → ℕ → ℕ) → (rest : List ℕ)
      × (text_out (notices whole tariffs number kept) ≡ text_out (notices some tariffs number kept) ++ rest)
  notices_grow number kept =
      let day = some ++ later in
      let n = length some in
      let ms = moments day in
      let each = λ (m : Moment). told_by (rules day tariffs) m ++ answer_by (rules day tariffs) number kept m in
      let split : notices day tariffs number kept ≡ notices_by (rules day tariffs) number kept (take n ms) ++ notices_by
      (rules day tariffs) number kept (drop n ms) =
      ap (notices_by (rules day tariffs) number kept) (sym (take-append-drop n ms))
      ∙ flat_map-append each (take n ms) (drop n ms) in
      let front = (prefix_at some later (subst (λ d. Fit d limits) joined fit).in_order tariffs number kept).0 in (
        text_out (notices_by (rules day tariffs) number kept (drop n ms)),
        ap (λ d. text_out (notices d tariffs number kept)) joined
            ∙ (ap text_out split
            ∙ (out_both (notices_by (rules day tariffs) number kept (take n ms))
            (notices_by (rules day tariffs) number kept (drop n ms))
            ∙ ap (λ ns. text_out ns ++ text_out (notices_by (rules day tariffs) number kept (drop n ms))) front)),
      )

  pub front_grows : (fault : DayFault) (number : ℕ) (kept : ℕ → ℕ → ℕ → ℕ) (old new : Option (List ℕ)) →
      WritesUpTo fault (text_out (notices some tariffs number kept)) old new →
      WritesUpTo fault (text_out (notices whole tariffs number kept)) old new
  front_grows fault number kept old new h =
      let (rest, is) = notices_grow number kept in
      subst (λ t. WritesUpTo fault t old new) (sym is)
      (more_text fault (text_out (notices some tariffs number kept)) rest old new h)

  -- steps of the first tuples are steps of the day
  pub steps_grow : (backlog : ℕ) (old now : Option Posted) → HasSteps tariffs some backlog old now →
      HasSteps tariffs whole backlog old now
  steps_grow backlog old now h =
      let order = (subst (λ d. Fit d limits) joined fit).in_order in
      let low = h.within in
      record {
        steps = h.steps;
        mark = h.mark;
        within = (let l = ap length joined in let k = length-append some later in omega (arith, low, l, k));
        are = subst (λ d. AreStepsBy (rules d tariffs) d backlog 0 h.mark h.steps) (sym joined)
            (steps_same (rules some tariffs) (rules (some ++ later) tariffs) some (some ++ later) backlog 0 h.mark
            h.steps
            (λ a b less. sym (between_before some later order tariffs a b (omega (arith, less, low)))) h.are);
        published = h.published;
      }

  -- jobs of the first tuples are the first of the day's
  pub started_grows : (width backlog : ℕ) (since : List Job) → HaveFirstStarted width backlog some since →
      HaveFirstStarted width backlog whole since
  started_grows width backlog since h = record {
    numbered = h.numbered;
    each = h.each;
    first = λ w k.
        first_then (started_for w (map start_of since)) (events_for some w width) (events_for whole w width)
        (h.first w k)
        (subst (λ d. AreFirst (events_for some w width) (events_for d w width)) (sym joined)
        (events_grow some later w width));
  }
