-- what was done is settled
use Rattle.std.proofs.Common.{◌≡◌, ℕ, ◌+◌, ◌-◌, ◌≤◌, Bool, List, length, take, drop, map, Result, Ok, Err, sym, ap, ◌∙◌}
use Rattle.std.proofs.Common.{arith, subst}
use Rattle.std.specs.Prelude.{Option, Some}
use Rattle.std.specs.Result.{IfOk, IfErr}
use Rattle.std.specs.Io.KnownBytes.{Appends}
use Rattle.std.proofs.KnownBytes.{Appends-trans}
use Rattle.road_time.specs.declared.road.Tuple.{Tuple}
use Rattle.road_time.specs.Sights.{moments, moments_after}
use Rattle.road_time.specs.Day.{given, notices_by}
use Rattle.road_time.specs.Text.{out as text_out}
use Rattle.day_floor.specs.Answers.{AreNotices}
use Rattle.day_floor.proofs.AnswerLaws.{notices_exact}
use Rattle.day_floor.proofs.StayLaws.{run_between}
use Rattle.ways_expressway.specs.declared.job.Job.{Job}
use Rattle.ways_expressway.specs.declared.finding.Finding.{Finding}
use Rattle.ways_crews.specs.Told.{CrewTold}
use Rattle.day_floor.specs.Shares.{State, mark}
use Rattle.day_floor.specs.Steps.{after_settle}
use Rattle.day_floor.specs.Written.{settled_text, written_to}
use Rattle.day_floor.specs.Sound.{IsTrue}
use Rattle.day_floor.specs.Starts.{HaveStarted}
use Rattle.day_floor.specs.Floors.{Setting, StandsFor, WritesText}
use Rattle.day_floor.proofs.Texts.{text_goes_on}
use Rattle.day_floor.specs.Operations.{Posted}
use Rattle.day_import.specs.Fronts.{HasText}
use Rattle.day_import.specs.Published.{HasStepped}
use Rattle.day_import.proofs.PublishLaws.{stepped_moved}
use Rattle.day_import.specs.Tasks.{AreOpen}
use Rattle.day_import.specs.RoundRuns.{Runs, IsDone, start_of, settled_all}
use Rattle.day_import.specs.Rounds.{IsSettled}
use Rattle.day_import.specs.declared.begun.Import.{Import}
use Rattle.day_import.proofs.OpenLaws.{open_settle}

pub if_four : {T E : Type 0} {P Q R U Z : T → Type 0} (r : Result T E) → ((x : T) → P x → Q x → R x → U x → Z x) →
    IfOk r P → IfOk r Q → IfOk r R → IfOk r U → IfOk r Z
if_four (Ok x) h p q r u = h x p q r u
if_four (Err e) h p q r u = tt

pub if_fault : {T E : Type 0} {P Z : E → Type 0} (r : Result T E) → ((x : E) → P x → Z x) → IfErr r P → IfErr r Z
if_fault (Ok x) h p = tt
if_fault (Err e) h p = h e p

-- what is written is the text of the positions up to the mark
pub written_is : (e : Setting) (s : State) (n : ℕ) (kept : ℕ → ℕ → ℕ → ℕ) (old now : Option (List ℕ)) → s.settled ≤ n →
    n ≤ length s.fed → e.history ≡ Some kept → WritesText e s n old now → Appends old now (written_to e.number kept s n)
written_is e s n kept old now low high known wrote =
    let (told, are, put) = wrote in
    let sum : s.settled + (n - s.settled) ≡ n = omega (arith, low) in
    let are_by : AreNotices (given s.found) e.number (Some kept)
    (moments_after (take s.settled s.fed) (take (n - s.settled) (drop s.settled s.fed))) told =
    subst (λ h. AreNotices (given s.found) e.number h
    (moments_after (take s.settled s.fed) (take (n - s.settled) (drop s.settled s.fed))) told) known are in
    let between : moments_after (take s.settled s.fed) (take (n - s.settled) (drop s.settled s.fed)) ≡ drop s.settled
    (take n (moments s.fed)) =
    run_between s.fed s.settled (n - s.settled) (omega (arith, low, high))
    ∙ ap (λ k. drop s.settled (take k (moments s.fed))) sum in
    subst (λ ns. Appends old now (text_out ns))
    (notices_exact (given s.found) e.number kept
    (moments_after (take s.settled s.fed) (take (n - s.settled) (drop s.settled s.fed))) told are_by
    ∙ ap (notices_by (given s.found) e.number kept) between) put

-- the text goes on
pub text_more : (e : Setting) (s : State) (n : ℕ) → s.settled ≤ n → n ≤ length s.fed → (first old new : Option (List ℕ))
    → WritesText e s n old new → HasText e s first old → HasText e (after_settle s n) first new
text_more e s n low within first old new wrote had kept known =
    subst (Appends first new) (sym (text_goes_on s n low within e.number kept))
    (Appends-trans first old new (settled_text e.number kept s) (written_to e.number kept s n) (had kept known)
    (written_is e s n kept old new low within known wrote))

-- the text of a state that has settled the same is the same
pub text_kept : (e : Setting) (s now : State) →
    ((d : ℕ) (kept : ℕ → ℕ → ℕ → ℕ) → settled_text d kept now ≡ settled_text d kept s) → (first new : Option (List ℕ)) →
    HasText e s first new → HasText e now first new
text_kept e s now same first new had kept known = subst (Appends first new) (sym (same e.number kept)) (had kept known)

-- all that was done is settled
pub round_settled : (width backlog : ℕ) (e : Setting) (s mid : State) (xs : List Tuple) (n : ℕ)
    (old new : Option (List ℕ)) (was posted : Option Posted) → IsDone width s xs mid → n ≡ mark width mid →
    ((first : Option (List ℕ)) → HasText e mid first old → HasText e (after_settle mid n) first new) →
    ((before : Option Posted) → HasStepped backlog mid before was →
    HasStepped backlog (after_settle mid n) before posted) →
    IsSettled width backlog e s xs old new was posted (after_settle mid n)
round_settled width backlog e s mid xs n old new was posted done is text steps = record {
  fed = done.fed;
  settled = is ∙ done.done;
  text = λ first had. text first (text_kept e s mid done.text first old had);
  steps = λ before have. steps before (stepped_moved backlog s mid before was done.settled done.between have);
  backs = done.backs;
  is = ap (λ m. after_settle mid m) is ∙ ap (settled_all width) done.is;
  come = done.come;
}

module _ {S T : Type 0} (out : S → List ℕ) (number : T → ℕ) (holds : S → ℕ → Job → Type 0) (gave : S → T → Type 0)
    (exact : Bool) (jobs : S → Option CrewTold) (answers : S → Option (List Finding))
    (e : Setting) (told : Option CrewTold) (answered : Option (List Finding)) (run : Import T) (crew : S) (s : State)
    (h : Runs out number holds gave exact jobs answers e told answered run crew s) where
  -- the import goes on
  pub settled_runs : (now : Import T) (n : ℕ) → now.tickets.items ≡ run.tickets.items →
      now.floor.inboxes.width ≡ run.floor.inboxes.width → now.floor.limits ≡ run.floor.limits →
      StandsFor e now.floor (after_settle s n) →
      Runs out number holds gave exact jobs answers e told answered now crew (after_settle s n)
  settled_runs now n items width limits st =
      let w = run.floor.inboxes.width in
      let t = after_settle s n in
      record {
        stands = st;
        tasks = h.tasks;
        tickets = h.tickets ∙ sym items;
        held = h.held;
        open' = subst (λ m. AreOpen e.tariffs m t (map (λ t. t.1) h.tasks)) (sym width)
            (open_settle e.tariffs w s n (map (λ t. t.1) h.tasks) h.open');
        outs_are = h.outs_are;
        right = λ x. subst (λ m. IsTrue e.tariffs m t) (sym width) (h.right x);
        since = h.since;
        starts = subst (λ m. HaveStarted m now.floor.limits.backlog t (map start_of h.since)) (sym width)
            (subst (λ l. HaveStarted w l.backlog t (map start_of h.since)) (sym limits)
            (record {
              are = h.starts.are;
              count = h.starts.count;
              numbered = h.starts.numbered;
              each = h.starts.each;
              whole =
                  h.starts.whole;
            }));
        listing = h.listing;
        answers_are = h.answers_are;
      }
