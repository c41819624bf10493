-- What a run promises of each object, from what its command did before the closing line and from that line.
use Rattle.std.proofs.Common.{◌≡◌, ◌≢◌, ◌∙◌, ℕ, Bool, List, Option, Some, Result, Ok, refl, sym, ap, arith}
use Rattle.road_time.specs.declared.day.Limits.{Limits}
use Rattle.road_io.specs.Blame.{FaultsByRoom}
use Rattle.road_io.specs.declared.source.Failed.{Failed}
use Rattle.road_io.specs.declared.sink.Sink.{Ghosts as SinkGhosts}
use Rattle.road_io.specs.declared.source.Source.{Ghosts as SourceGhosts}
use Rattle.keep_office.specs.Office.{Office}
use Rattle.keep_office.specs.declared.calls.Keeper.{Ghosts as KeeperGhosts}
use Rattle.ways_crews.specs.declared.crew.Crew.{Ghosts as CrewGhosts}
use Rattle.office_words.specs.declared.command.Command.{Command}
use Rattle.office_commands.specs.declared.closing.Closing.{Closing}
use Rattle.office_commands.specs.declared.closing.Closing.TheVariants.{ReadFault, KeeperFault}
use Rattle.office_commands.specs.Closings.{status_of}
use Rattle.office_commands.specs.Commands.{office_answer}
use Rattle.office_commands.specs.Endings.{ClosesRun, TakesMemory}
use Rattle.office_commands.specs.Faults.{ReadFaults, TellsNoOther}
use Rattle.office_commands.specs.Ran.{ReadsSource, ReadsAside, WorksAsked, KeptAsked, KeepsAsked, WroteAsked, WritesAsked}
use Rattle.office_commands.specs.Uses.{changes_kept}
use Rattle.office_commands.proofs.ClosingLaws.{is_unread, is_unkept}
use Rattle.office_commands.proofs.ConcludeLaws.{closing_of, concluded}
use Rattle.office_commands.proofs.EndingLaws.{exact, read_fault, keeper_fault, no_memory, write_fault}
use Rattle.office_commands.proofs.KeepingLaws.{kept_whole, kept_exact, kept_refused}
use Rattle.office_commands.proofs.StartLaws.{starts_status}
use Rattle.office_commands.proofs.StatusLaws.{Ended, read_status, rest_status, holds_status, unread_same}
use Rattle.office_commands.proofs.SumLaws.{sound_closed}

-- of its source
pub source_ended : {S : Type 0} (g : SourceGhosts S) (limits : Limits) (m : Option Command) (kept : Option Office)
    (status code : ℕ) (old new : S) → Ended status code → ReadsSource g limits m kept code old new →
    ReadsSource g limits m kept status old new
source_ended g limits m kept status code old new same r = record {
  unused = r.unused;
  passed = r.passed;
  reads = λ used. read_status limits m status code (g.left old) (g.left new) same (r.reads used);
  rest = λ bytes o changes told is. rest_status limits m status code o bytes (g.left new) same
      (r.rest bytes o changes told is);
  bounded = r.bounded;
}

-- of its aside
pub aside_ended : {S A : Type 0} (s : SourceGhosts S) (g : SourceGhosts A) (limits : Limits) (m : Option Command)
    (exactly : Bool) (kept : Option Office) (status code : ℕ) (source left : S) (old new : A) → Ended status code →
    ReadsAside s g limits m exactly kept code source left old new →
    ReadsAside s g limits m exactly kept status source left old new
aside_ended s g limits m exactly kept status code source left old new same r = record {
  unused = r.unused;
  refused_first = λ two. r.refused_first
      (sym (same (λ e. omega (arith, two, e)) (λ e. omega (arith, two, e))) ∙ two);
  source_first = r.source_first;
  bounded = r.bounded;
}

-- of its crew
pub crew_ended : {S C T N : Type 0} (s : SourceGhosts S) (g : CrewGhosts C T N) (limits : Limits) (m : Option Command)
    (kept : Option Office) (status code : ℕ) (source : S) (old new : C) → Ended status code →
    WorksAsked s g limits m kept code source old new → WorksAsked s g limits m kept status source old new
crew_ended s g limits m kept status code source old new same r = record {
  unused = r.unused;
  jobs = λ bytes used told. starts_status status code same limits m bytes kept (g.jobs old) (g.jobs new)
      (r.jobs bytes used told);
  idle = r.idle;
  same = r.same;
}

-- a command that names a closing line
abbrev named : Closing → Result (Option Closing) Failed
named c = Ok (Some c)

-- a closing line was written, or that of want of memory where it takes memory
module _ (k : Closing) (status : ℕ) (same : Ended status (status_of k)) (room : status ≡ 8 → TakesMemory k) where
  -- the status of a read fault is that line's alone
  unread : status ≡ 4 → k ≡ ReadFault
  unread four = is_unread k (sym (same (λ e. omega (arith, four, e)) (λ e. omega (arith, four, e))) ∙ four)

  -- and that of a keeper's fault
  unkept : status ≡ 6 → k ≡ KeeperFault
  unkept six = is_unkept k (sym (same (λ e. omega (arith, six, e)) (λ e. omega (arith, six, e))) ∙ six)

  -- what a source and an aside are to blame for
  pub read_closed : (before now aside_before aside_now : ℕ) (fine aside_fine : Type 0) →
      ReadFaults before now aside_before aside_now fine aside_fine (named k ≡ named ReadFault)
      (TellsNoOther (named k)) →
      ReadFaults before now aside_before aside_now fine aside_fine (status ≡ 4) ((status ≢ 5) × (status ≢ 6))
  read_closed before now aside_before aside_now fine aside_fine f = record {
    later = f.later;
    aside_later = f.aside_later;
    cause = λ four. f.cause (ap named (unread four));
    still = λ well quiet. f.still
        (λ e. let is = closing_of k ReadFault (named k) refl e in
        well (same quiet.0 (λ eight. (room eight).0 is) ∙ ap status_of is)) (
          (λ bad. let no : ⊥ = cc in no),
          (λ e. let is = closing_of k KeeperFault (named k) refl e in
              quiet.1 (same quiet.0 (λ eight. (room eight).1 is) ∙ ap status_of is)),
        );
    sure = λ source aside four. f.sure source aside (ap named (unread four));
  }

  module _ {S K : Type 0} (s : SourceGhosts S) (g : KeeperGhosts K) (limits : Limits) (m : Option Command)
      (exactly : Bool) (mid new : Option (List ℕ)) (closes : ClosesRun k status mid new) where
    -- what a keeper keeps
    pub keeper_closed : (source : S) (old now : K) → KeptAsked s g limits m exactly (named k) source old now →
        KeepsAsked s g limits m exactly status source old now
    keeper_closed source old now r = record {
      keeps = λ bytes lines o right told kept.
          let a = office_answer limits bytes lines o m in
          let keeps = r.keeps bytes lines o right told kept in
          record {
            exact = λ no_read no_write no_keeper no_room. kept_exact g.refuses a o (g.told now) mid new status k keeps
                closes no_read no_write no_keeper no_room;
            refused = λ six. kept_refused g.refuses a o (g.told now) mid new status k keeps closes six;
            whole = kept_whole g.refuses a o (g.told now) (named k) keeps;
          };
      keeps_unread = λ o kept four. unread_same (changes_kept m) (status_of k) (g.told now ≡ Some o) (r.held o kept)
          (r.unchanged o kept) (ap status_of (unread four));
      puts = r.puts;
      unchanged = r.unchanged;
      held = λ o kept changes unbroken. holds_status status (status_of k) (g.told now ≡ Some o) same unbroken
          (r.held o kept changes);
      unused = r.unused;
      faults = record {
        later = r.faults.later;
        cause = λ six. r.faults.cause (ap named (unkept six));
        still = λ well unbroken. r.faults.still (λ e. let is = closing_of k KeeperFault (named k) refl e in
            well (same unbroken (λ eight. (room eight).1 is) ∙ ap status_of is));
        sure = λ fine six. r.faults.sure fine (ap named (unkept six));
      };
    }

  module _ {S A O K : Type 0} (s : SourceGhosts S) (a : SourceGhosts A) (g : SinkGhosts O) (k' : KeeperGhosts K)
      (limits : Limits) (m : Option Command) (exactly : Bool) where
    -- what was written
    pub sink_closed : (source : S) (aside : A) (keeper kept : K) (old mid new : O) →
        ClosesRun k status (g.written mid) (g.written new) →
        FaultsByRoom (g.faults old) (g.faults new) (g.room old) (g.room new) (status ≡ 5) →
        WroteAsked s a g k' limits m exactly (named k) source aside keeper kept old mid →
        WritesAsked s a g k' limits m exactly status source aside keeper kept old new
    sink_closed source aside keeper kept old mid new closes faults r = record {
      written = λ bytes lines o told.
          let x = office_answer limits bytes lines o m in
          let wrote = r.wrote bytes lines o told in
          record {
            exact = λ no_read no_write no_keeper no_room. exact x (g.written old) (g.written mid) (g.written new) status
                k wrote closes no_read no_write no_keeper no_room;
            read_fault = λ is. read_fault x (g.written old) (g.written mid) (g.written new) status k wrote closes is;
            write_fault = λ is. write_fault x (g.written old) (g.written mid) (g.written new) status k wrote closes is;
            keeper_fault = λ is. keeper_fault x (g.written old) (g.written mid) (g.written new) status k wrote closes
                is;
            no_memory = λ is. no_memory x (g.written old) (g.written mid) (g.written new) status k wrote closes is;
          };
      concludes = λ bytes lines o told is. concluded k'.refuses (office_answer limits bytes lines o m) o
          (g.written old) (g.written mid) (k'.told kept) (g.written new) status k (r.does bytes lines o told is) closes;
      sums = sound_closed m (named k) k status (g.written old) (g.written mid) (g.written new) refl r.sums
          (λ zero. sym (same (λ e. omega (arith, zero, e)) (λ e. omega (arith, zero, e))) ∙ zero);
      faults = faults;
    }
