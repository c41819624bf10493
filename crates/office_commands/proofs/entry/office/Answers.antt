use Rattle.std.proofs.Common.{◌≡◌, ◌∙◌, ℕ, inl, Option, Some, None, Result, Ok, Err, refl, sym, ap, subst, arith}
use Rattle.std.proofs.Common.{IsErr, true, rules}
use Rattle.std.proofs.lemmas.Option.{none-some}
use Rattle.road_io.specs.Plans.{NeverFails}
use Rattle.road_io.specs.declared.source.Failed.{Failed}
use Rattle.office_words.specs.declared.command.Command.{Command}
use Rattle.office_words.specs.declared.command.WordFault.TheVariants as faults
use Rattle.office_commands.specs.declared.closing.Closing.{Closing}
use Rattle.office_commands.specs.declared.closing.Closing.TheVariants.{ReadFault, KeeperFault, NoMemory, Words}
use Rattle.office_commands.specs.Commands.{office_answer}
use Rattle.office_commands.specs.Uses.{asked, uses_source, uses_aside}
use Rattle.office_commands.specs.Endings.{Wrote, Keeps, Did, HoldsSame, code_of}
use Rattle.office_commands.specs.Faults.{ReadFaults, TellsNoOther}
use Rattle.office_commands.specs.Ran.{ReadsSource, ReadsAside, WroteAsked, KeptAsked, WorksAsked}
use Rattle.office_commands.proofs.ClosingLaws.{is_words}
use Rattle.office_commands.proofs.ConcludeLaws.{concluded_alone, concluded_less}
use Rattle.office_commands.proofs.EndingLaws.{all_written}
use Rattle.office_commands.proofs.IdleLaws.{source_idle, aside_idle, crew_idle, keeper_unmeant, keeper_unroomed}
use Rattle.office_commands.proofs.IdleLaws.{sink_unmeant, sink_unroomed}
use Rattle.office_commands.proofs.KeepingLaws.{kept_whole}
use Rattle.office_commands.proofs.RanLaws.{source_ended, aside_ended, crew_ended, read_closed, keeper_closed, sink_closed}
use Rattle.office_commands.proofs.SumLaws.{sound_open, sound_failed}
use Rattle.office_commands.proofs.WordLaws.{meant, meant_none}
use Rattle.office_commands.proofs.entry.office.Goals as goal

-- a run that ends well is no failed one
no_failure : (r : Result (Option Closing) Failed) (o : Option Closing) → r ≡ Ok o → IsErr r → ⊥
no_failure r o p e = let no : ⊥ = cc (subst IsErr p e) in no

-- nor has it a closing line, where it ends without one
no_closing : (r : Result (Option Closing) Failed) (a : Closing) → r ≡ Ok None → r ≡ Ok (Some a) → ⊥
no_closing r a p q = cc

pub returns-in-Ok-Some-clause-source : goal.returns-in-Ok-Some-clause-source
returns-in-Ok-Some-clause-source g c =
    let is = meant _ c.in-Ok.command c.read_words.result c.read_words.ensures.reads c.in-Ok.is in
    let ran = subst (λ (m : Option Command). ReadsSource g.S.Source c.args.limits.now m (g.K.Keeper.told c.args.keeper.now)
    (code_of c.perform.result) c.args.source.now c.perform.new.source) (sym is) c.perform.ensures.source in
    let res : c.perform.result ≡ Ok (Some c.in-Ok-Some.closing) = cc in
    source_ended g.S.Source c.args.limits.now (asked c.args.words.now) (g.K.Keeper.told c.args.keeper.now) c.close.result
    (code_of c.perform.result) c.args.source.now c.perform.new.source (λ unbroken room. c.close.ensures.status unbroken room ∙ sym (ap code_of res)) ran

pub returns-in-Ok-Some-clause-aside : goal.returns-in-Ok-Some-clause-aside
returns-in-Ok-Some-clause-aside g c =
    let is = meant _ c.in-Ok.command c.read_words.result c.read_words.ensures.reads c.in-Ok.is in
    let ran = subst (λ (m : Option Command). ReadsAside g.S.Source g.A.Source c.args.limits.now m g.C.Crew.exact
    (g.K.Keeper.told c.args.keeper.now) (code_of c.perform.result) c.args.source.now c.perform.new.source
    c.args.aside.now c.perform.new.aside) (sym is) c.perform.ensures.aside in
    let res : c.perform.result ≡ Ok (Some c.in-Ok-Some.closing) = cc in
    aside_ended g.S.Source g.A.Source c.args.limits.now (asked c.args.words.now) g.C.Crew.exact (g.K.Keeper.told c.args.keeper.now) c.close.result
    (code_of c.perform.result) c.args.source.now c.perform.new.source c.args.aside.now c.perform.new.aside
    (λ unbroken room. c.close.ensures.status unbroken room ∙ sym (ap code_of res)) ran

pub returns-in-Ok-Some-clause-crew : goal.returns-in-Ok-Some-clause-crew
returns-in-Ok-Some-clause-crew g c =
    let is = meant _ c.in-Ok.command c.read_words.result c.read_words.ensures.reads c.in-Ok.is in
    let ran = subst (λ (m : Option Command). WorksAsked g.S.Source g.C.Crew c.args.limits.now m (g.K.Keeper.told c.args.keeper.now)
    (code_of c.perform.result) c.args.source.now c.args.crew.now c.perform.new.crew) (sym is) c.perform.ensures.crew in
    let res : c.perform.result ≡ Ok (Some c.in-Ok-Some.closing) = cc in
    crew_ended g.S.Source g.C.Crew c.args.limits.now (asked c.args.words.now) (g.K.Keeper.told c.args.keeper.now) c.close.result
    (code_of c.perform.result) c.args.source.now c.args.crew.now c.perform.new.crew (λ unbroken room. c.close.ensures.status unbroken room ∙ sym (ap code_of res)) ran

pub returns-in-Ok-None-clause-source : goal.returns-in-Ok-None-clause-source
returns-in-Ok-None-clause-source g c =
    let is = meant _ c.in-Ok.command c.read_words.result c.read_words.ensures.reads c.in-Ok.is in
    let ran = subst (λ (m : Option Command). ReadsSource g.S.Source c.args.limits.now m (g.K.Keeper.told c.args.keeper.now)
    (code_of c.perform.result) c.args.source.now c.perform.new.source) (sym is) c.perform.ensures.source in
    let res : c.perform.result ≡ Ok None = cc in
    source_ended g.S.Source c.args.limits.now (asked c.args.words.now) (g.K.Keeper.told c.args.keeper.now) 0
    (code_of c.perform.result) c.args.source.now c.perform.new.source (λ unbroken room. sym (ap code_of res)) ran

pub returns-in-Ok-None-clause-aside : goal.returns-in-Ok-None-clause-aside
returns-in-Ok-None-clause-aside g c =
    let is = meant _ c.in-Ok.command c.read_words.result c.read_words.ensures.reads c.in-Ok.is in
    let ran = subst (λ (m : Option Command). ReadsAside g.S.Source g.A.Source c.args.limits.now m g.C.Crew.exact
    (g.K.Keeper.told c.args.keeper.now) (code_of c.perform.result) c.args.source.now c.perform.new.source
    c.args.aside.now c.perform.new.aside) (sym is) c.perform.ensures.aside in
    let res : c.perform.result ≡ Ok None = cc in
    aside_ended g.S.Source g.A.Source c.args.limits.now (asked c.args.words.now) g.C.Crew.exact (g.K.Keeper.told c.args.keeper.now) 0
    (code_of c.perform.result) c.args.source.now c.perform.new.source c.args.aside.now c.perform.new.aside
    (λ unbroken room. sym (ap code_of res)) ran

pub returns-in-Ok-None-clause-crew : goal.returns-in-Ok-None-clause-crew
returns-in-Ok-None-clause-crew g c =
    let is = meant _ c.in-Ok.command c.read_words.result c.read_words.ensures.reads c.in-Ok.is in
    let ran = subst (λ (m : Option Command). WorksAsked g.S.Source g.C.Crew c.args.limits.now m (g.K.Keeper.told c.args.keeper.now)
    (code_of c.perform.result) c.args.source.now c.args.crew.now c.perform.new.crew) (sym is) c.perform.ensures.crew in
    let res : c.perform.result ≡ Ok None = cc in
    crew_ended g.S.Source g.C.Crew c.args.limits.now (asked c.args.words.now) (g.K.Keeper.told c.args.keeper.now) 0
    (code_of c.perform.result) c.args.source.now c.args.crew.now c.perform.new.crew (λ unbroken room. sym (ap code_of res)) ran

pub returns-in-Err-clause-source : goal.returns-in-Err-clause-source
returns-in-Err-clause-source g c =
    let is = meant _ c.in-Ok.command c.read_words.result c.read_words.ensures.reads c.in-Ok.is in
    let ran = subst (λ (m : Option Command). ReadsSource g.S.Source c.args.limits.now m (g.K.Keeper.told c.args.keeper.now)
    (code_of c.perform.result) c.args.source.now c.perform.new.source) (sym is) c.perform.ensures.source in
    source_ended g.S.Source c.args.limits.now (asked c.args.words.now) (g.K.Keeper.told c.args.keeper.now) 5
    (code_of c.perform.result) c.args.source.now c.perform.new.source (λ unbroken room. absurd (unbroken refl)) ran

pub returns-in-Err-clause-aside : goal.returns-in-Err-clause-aside
returns-in-Err-clause-aside g c =
    let is = meant _ c.in-Ok.command c.read_words.result c.read_words.ensures.reads c.in-Ok.is in
    let ran = subst (λ (m : Option Command). ReadsAside g.S.Source g.A.Source c.args.limits.now m g.C.Crew.exact
    (g.K.Keeper.told c.args.keeper.now) (code_of c.perform.result) c.args.source.now c.perform.new.source
    c.args.aside.now c.perform.new.aside) (sym is) c.perform.ensures.aside in
    aside_ended g.S.Source g.A.Source c.args.limits.now (asked c.args.words.now) g.C.Crew.exact (g.K.Keeper.told c.args.keeper.now) 5
    (code_of c.perform.result) c.args.source.now c.perform.new.source c.args.aside.now c.perform.new.aside
    (λ unbroken room. absurd (unbroken refl)) ran

pub returns-in-Err-clause-crew : goal.returns-in-Err-clause-crew
returns-in-Err-clause-crew g c =
    let is = meant _ c.in-Ok.command c.read_words.result c.read_words.ensures.reads c.in-Ok.is in
    let ran = subst (λ (m : Option Command). WorksAsked g.S.Source g.C.Crew c.args.limits.now m (g.K.Keeper.told c.args.keeper.now)
    (code_of c.perform.result) c.args.source.now c.args.crew.now c.perform.new.crew) (sym is) c.perform.ensures.crew in
    crew_ended g.S.Source g.C.Crew c.args.limits.now (asked c.args.words.now) (g.K.Keeper.told c.args.keeper.now) 5
    (code_of c.perform.result) c.args.source.now c.args.crew.now c.perform.new.crew (λ unbroken room. absurd (unbroken refl)) ran

pub returns-in-Ok-Some-clause-keeper : goal.returns-in-Ok-Some-clause-keeper
returns-in-Ok-Some-clause-keeper g c =
    let is = meant _ c.in-Ok.command c.read_words.result c.read_words.ensures.reads c.in-Ok.is in
    let ran = subst (λ (m : Option Command). KeptAsked g.S.Source g.K.Keeper c.args.limits.now m g.C.Crew.exact
    c.perform.result c.args.source.now c.args.keeper.now c.perform.new.keeper) (sym is) c.perform.ensures.keeper in
    let res : c.perform.result ≡ Ok (Some c.in-Ok-Some.closing) = cc in
    let named = subst (λ (r : Result (Option Closing) Failed). KeptAsked g.S.Source g.K.Keeper c.args.limits.now (asked c.args.words.now)
    g.C.Crew.exact r c.args.source.now c.args.keeper.now c.perform.new.keeper) res ran in
    keeper_closed c.in-Ok-Some.closing c.close.result c.close.ensures.status c.close.ensures.memory g.S.Source g.K.Keeper
    c.args.limits.now (asked c.args.words.now) g.C.Crew.exact (g.O.Sink.written c.perform.new.sink)
    (g.O.Sink.written c.close.new.sink) c.close.ensures.closes c.args.source.now c.args.keeper.now
    c.perform.new.keeper named

pub returns-in-Ok-Some-clause-sink : goal.returns-in-Ok-Some-clause-sink
returns-in-Ok-Some-clause-sink g c =
    let is = meant _ c.in-Ok.command c.read_words.result c.read_words.ensures.reads c.in-Ok.is in
    let ran = subst (λ (m : Option Command). WroteAsked g.S.Source g.A.Source g.O.Sink g.K.Keeper c.args.limits.now m
    g.C.Crew.exact c.perform.result c.args.source.now c.args.aside.now c.args.keeper.now c.perform.new.keeper
    c.args.sink.now c.perform.new.sink) (sym is) c.perform.ensures.sink in
    let res : c.perform.result ≡ Ok (Some c.in-Ok-Some.closing) = cc in
    let named = subst (λ (r : Result (Option Closing) Failed). WroteAsked g.S.Source g.A.Source g.O.Sink g.K.Keeper c.args.limits.now
    (asked c.args.words.now) g.C.Crew.exact r c.args.source.now c.args.aside.now c.args.keeper.now
    c.perform.new.keeper c.args.sink.now c.perform.new.sink) res ran in
    sink_closed c.in-Ok-Some.closing c.close.result c.close.ensures.status c.close.ensures.memory g.S.Source g.A.Source
    g.O.Sink g.K.Keeper c.args.limits.now (asked c.args.words.now) g.C.Crew.exact c.args.source.now c.args.aside.now
    c.args.keeper.now c.perform.new.keeper c.args.sink.now c.perform.new.sink c.close.new.sink
    c.close.ensures.closes (search rules) named

pub returns-in-Ok-None-clause-keeper : goal.returns-in-Ok-None-clause-keeper
returns-in-Ok-None-clause-keeper g c =
    let is = meant _ c.in-Ok.command c.read_words.result c.read_words.ensures.reads c.in-Ok.is in
    let ran = subst (λ (m : Option Command). KeptAsked g.S.Source g.K.Keeper c.args.limits.now m g.C.Crew.exact
    c.perform.result c.args.source.now c.args.keeper.now c.perform.new.keeper) (sym is) c.perform.ensures.keeper in
    let res : c.perform.result ≡ Ok None = cc in
    record {
      keeps = λ bytes lines o right told kept.
          let a = office_answer c.args.limits.now bytes lines o (asked c.args.words.now) in
          let w = g.K.Keeper.refuses in
          let now = g.K.Keeper.told c.perform.new.keeper in
          let keeps = ran.keeps bytes lines o right told kept in
          record {
            exact = λ no_read no_write no_keeper no_room. subst (λ (r : Result (Option Closing) Failed). Keeps w a o now r) res keeps;
            refused = λ is. absurd (omega (arith, is));
            whole = kept_whole w a o now c.perform.result keeps;
          };
      keeps_unread = λ o kept is. absurd (omega (arith, is));
      puts = ran.puts;
      unchanged = ran.unchanged;
      held = λ o kept changes unbroken. subst (λ (code : ℕ). HoldsSame code
          (g.K.Keeper.told c.perform.new.keeper ≡ Some o)) (ap code_of res) (ran.held o kept changes);
      unused = ran.unused;
      faults = record {
        later = ran.faults.later;
        cause = λ is. absurd (omega (arith, is));
        still = λ well unbroken. ran.faults.still (no_closing c.perform.result KeeperFault res);
        sure = λ fine is. omega (arith, is);
      };
    }

pub returns-in-Ok-None-clause-sink : goal.returns-in-Ok-None-clause-sink
returns-in-Ok-None-clause-sink g c =
    let is = meant _ c.in-Ok.command c.read_words.result c.read_words.ensures.reads c.in-Ok.is in
    let ran = subst (λ (m : Option Command). WroteAsked g.S.Source g.A.Source g.O.Sink g.K.Keeper c.args.limits.now m
    g.C.Crew.exact c.perform.result c.args.source.now c.args.aside.now c.args.keeper.now c.perform.new.keeper
    c.args.sink.now c.perform.new.sink) (sym is) c.perform.ensures.sink in
    let res : c.perform.result ≡ Ok None = cc in
    record {
      written = λ bytes lines o told.
          let a = office_answer c.args.limits.now bytes lines o (asked c.args.words.now) in
          let old = g.O.Sink.written c.args.sink.now in
          let mid = g.O.Sink.written c.perform.new.sink in
          let wrote = subst (λ (r : Result (Option Closing) Failed). Wrote a r old mid) res
          (ran.wrote bytes lines o told) in
          record {
            exact = λ no_read no_write no_keeper no_room. all_written a old mid wrote.0 wrote.1;
            read_fault = λ is. absurd (omega (arith, is));
            write_fault = λ is. absurd (omega (arith, is));
            keeper_fault = λ is. absurd (omega (arith, is));
            no_memory = λ is. absurd (omega (arith, is));
          };
      concludes = λ bytes lines o told kept.
          let a = office_answer c.args.limits.now bytes lines o (asked c.args.words.now) in
          let w = g.K.Keeper.refuses in
          let old = g.O.Sink.written c.args.sink.now in
          let mid = g.O.Sink.written c.perform.new.sink in
          let now = g.K.Keeper.told c.perform.new.keeper in
          let done = subst (λ (r : Result (Option Closing) Failed). Did w a o old mid now r) res
          (ran.does bytes lines o told kept) in
          concluded_alone w a o old mid now done;
      sums = sound_open (asked c.args.words.now) c.perform.result
          (g.O.Sink.written c.args.sink.now) (g.O.Sink.written c.perform.new.sink) res ran.sums;
      faults = search rules;
    }

pub returns-in-Err-clause-keeper : goal.returns-in-Err-clause-keeper
returns-in-Err-clause-keeper g c =
    let is = meant _ c.in-Ok.command c.read_words.result c.read_words.ensures.reads c.in-Ok.is in
    let ran = subst (λ (m : Option Command). KeptAsked g.S.Source g.K.Keeper c.args.limits.now m g.C.Crew.exact
    c.perform.result c.args.source.now c.args.keeper.now c.perform.new.keeper) (sym is) c.perform.ensures.keeper in
    let res = c.in-Err.is in
    record {
      keeps = λ bytes lines o right told kept.
          let a = office_answer c.args.limits.now bytes lines o (asked c.args.words.now) in
          let w = g.K.Keeper.refuses in
          let now = g.K.Keeper.told c.perform.new.keeper in
          let keeps = ran.keeps bytes lines o right told kept in
          record {
            exact = λ no_read no_write no_keeper no_room. absurd (no_write refl);
            refused = λ is. absurd (omega (arith, is));
            whole = kept_whole w a o now c.perform.result keeps;
          };
      keeps_unread = λ o kept is. absurd (omega (arith, is));
      puts = ran.puts;
      unchanged = ran.unchanged;
      held = λ o kept changes unbroken. absurd (unbroken refl);
      unused = ran.unused;
      faults = record {
        later = ran.faults.later;
        cause = λ is. absurd (omega (arith, is));
        still = λ well unbroken. absurd (unbroken refl);
        sure = λ fine is. omega (arith, is);
      };
    }

pub returns-in-Err-clause-sink : goal.returns-in-Err-clause-sink
returns-in-Err-clause-sink g c =
    let is = meant _ c.in-Ok.command c.read_words.result c.read_words.ensures.reads c.in-Ok.is in
    let ran = subst (λ (m : Option Command). WroteAsked g.S.Source g.A.Source g.O.Sink g.K.Keeper c.args.limits.now m
    g.C.Crew.exact c.perform.result c.args.source.now c.args.aside.now c.args.keeper.now c.perform.new.keeper
    c.args.sink.now c.perform.new.sink) (sym is) c.perform.ensures.sink in
    let res = c.in-Err.is in
    record {
      written = λ bytes lines o told.
          let a = office_answer c.args.limits.now bytes lines o (asked c.args.words.now) in
          let old = g.O.Sink.written c.args.sink.now in
          let mid = g.O.Sink.written c.perform.new.sink in
          let wrote = subst (λ (r : Result (Option Closing) Failed). Wrote a r old mid) res
          (ran.wrote bytes lines o told) in
          record {
            exact = λ no_read no_write no_keeper no_room. absurd (no_write refl);
            read_fault = λ is. absurd (omega (arith, is));
            write_fault = λ is. inl wrote;
            keeper_fault = λ is. absurd (omega (arith, is));
            no_memory = λ is. absurd (omega (arith, is));
          };
      concludes = λ bytes lines o told kept.
          let a = office_answer c.args.limits.now bytes lines o (asked c.args.words.now) in
          let w = g.K.Keeper.refuses in
          let old = g.O.Sink.written c.args.sink.now in
          let mid = g.O.Sink.written c.perform.new.sink in
          let now = g.K.Keeper.told c.perform.new.keeper in
          let done = subst (λ (r : Result (Option Closing) Failed). Did w a o old mid now r) res
          (ran.does bytes lines o told kept) in
          concluded_less w a o old mid now _ done;
      sums = sound_failed (asked c.args.words.now) (g.O.Sink.written c.args.sink.now)
          (g.O.Sink.written c.perform.new.sink);
      faults = search rules;
    }

pub returns-in-Ok-Some-clause-read : goal.returns-in-Ok-Some-clause-read
returns-in-Ok-Some-clause-read g c =
    let is = meant _ c.in-Ok.command c.read_words.result c.read_words.ensures.reads c.in-Ok.is in
    let res : c.perform.result ≡ Ok (Some c.in-Ok-Some.closing) = cc in
    let ran = subst (λ (m : Option Command). ReadFaults (g.S.Source.faults c.args.source.now)
    (g.S.Source.faults c.perform.new.source) (g.A.Source.faults c.args.aside.now)
    (g.A.Source.faults c.perform.new.aside) (uses_source m ≡ true → NeverFails (g.S.Source.plan c.args.source.now))
    (uses_aside m ≡ true → NeverFails (g.A.Source.plan c.args.aside.now)) (c.perform.result ≡ Ok (Some ReadFault))
    (TellsNoOther c.perform.result)) (sym is) c.perform.ensures.read in
    let named = subst (λ (r : Result (Option Closing) Failed). ReadFaults (g.S.Source.faults c.args.source.now)
    (g.S.Source.faults c.perform.new.source) (g.A.Source.faults c.args.aside.now)
    (g.A.Source.faults c.perform.new.aside) (uses_source (asked c.args.words.now) ≡ true → NeverFails (g.S.Source.plan c.args.source.now))
    (uses_aside (asked c.args.words.now) ≡ true → NeverFails (g.A.Source.plan c.args.aside.now)) (r ≡ Ok (Some ReadFault))
    (TellsNoOther r)) res ran in
    read_closed c.in-Ok-Some.closing c.close.result c.close.ensures.status c.close.ensures.memory _ _ _ _ _ _ named

pub returns-in-Ok-None-clause-read : goal.returns-in-Ok-None-clause-read
returns-in-Ok-None-clause-read g c =
    let is = meant _ c.in-Ok.command c.read_words.result c.read_words.ensures.reads c.in-Ok.is in
    let res : c.perform.result ≡ Ok None = cc in
    let f = c.perform.ensures.read in
    record {
      later = f.later;
      aside_later = f.aside_later;
      cause = λ is. absurd (omega (arith, is));
      still = λ well quiet. f.still (no_closing c.perform.result ReadFault res) (
        no_failure c.perform.result None res,
        no_closing c.perform.result KeeperFault res,
      );
      sure = λ source aside is. omega (arith, is);
    }

pub returns-in-Err-clause-read : goal.returns-in-Err-clause-read
returns-in-Err-clause-read g c =
    let f = c.perform.ensures.read in
    record {
      later = f.later;
      aside_later = f.aside_later;
      cause = λ is. absurd (omega (arith, is));
      still = λ well quiet. absurd (quiet.0 refl);
      sure = λ source aside is. omega (arith, is);
    }

pub returns-in-Ok-Some-clause-words : goal.returns-in-Ok-Some-clause-words
returns-in-Ok-Some-clause-words g c = λ unbroken room.
    let is = meant _ c.in-Ok.command c.read_words.result c.read_words.ensures.reads c.in-Ok.is in
    let res : c.perform.result ≡ Ok (Some c.in-Ok-Some.closing) = cc in
    let status = c.close.ensures.status unbroken room in (
      λ one. absurd (c.perform.ensures.said (res ∙ ap (λ (k : Closing). Ok (Some k))
          (is_words c.in-Ok-Some.closing (sym status ∙ one)))),
      λ none. absurd (none-some _ (sym none ∙ is)),
    )

pub returns-in-Ok-None-clause-words : goal.returns-in-Ok-None-clause-words
returns-in-Ok-None-clause-words g c = λ unbroken room.
    let is = meant _ c.in-Ok.command c.read_words.result c.read_words.ensures.reads c.in-Ok.is in
    (λ one. absurd (omega (arith, one)), λ none. absurd (none-some _ (sym none ∙ is)))

pub returns-in-Err-clause-words : goal.returns-in-Err-clause-words
returns-in-Err-clause-words g c = λ unbroken room. absurd (unbroken refl)

pub returns-in-Err-Words-clause-source : goal.returns-in-Err-Words-clause-source
returns-in-Err-Words-clause-source g c =
    source_ended g.S.Source c.args.limits.now (asked c.args.words.now) (g.K.Keeper.told c.args.keeper.now) c.close-in-Err-Words.result 1 c.args.source.now
    c.args.source.now c.close-in-Err-Words.ensures.status (source_idle c.args.limits.now (asked c.args.words.now) (g.K.Keeper.told c.args.keeper.now) 1
    (λ s. omega (arith, s)) (λ s. omega (arith, s)) (λ s. omega (arith, s)) g.S.Source c.args.source.now)

pub returns-in-Err-Words-clause-aside : goal.returns-in-Err-Words-clause-aside
returns-in-Err-Words-clause-aside g c =
    aside_ended g.S.Source g.A.Source c.args.limits.now (asked c.args.words.now) g.C.Crew.exact (g.K.Keeper.told c.args.keeper.now)
    c.close-in-Err-Words.result 1 c.args.source.now c.args.source.now c.args.aside.now c.args.aside.now c.close-in-Err-Words.ensures.status
    (aside_idle c.args.limits.now (asked c.args.words.now) (g.K.Keeper.told c.args.keeper.now) 1 (λ s. omega (arith, s)) (λ s. omega (arith, s)) (λ s. omega (arith, s))
    g.S.Source g.A.Source g.C.Crew.exact c.args.source.now c.args.aside.now)

pub returns-in-Err-Words-clause-crew : goal.returns-in-Err-Words-clause-crew
returns-in-Err-Words-clause-crew g c =
    crew_ended g.S.Source g.C.Crew c.args.limits.now (asked c.args.words.now) (g.K.Keeper.told c.args.keeper.now) c.close-in-Err-Words.result 1
    c.args.source.now c.args.crew.now c.args.crew.now c.close-in-Err-Words.ensures.status (crew_idle c.args.limits.now (asked c.args.words.now)
    (g.K.Keeper.told c.args.keeper.now) 1 (λ s. omega (arith, s)) (λ s. omega (arith, s)) (λ s. omega (arith, s)) g.S.Source g.C.Crew
    c.args.source.now c.args.crew.now c.requires.idle)

pub returns-in-Err-Words-clause-keeper : goal.returns-in-Err-Words-clause-keeper
returns-in-Err-Words-clause-keeper g c =
    let said : c.read_words.result ≡ Err faults.Words = cc in
    let none = meant_none _ c.read_words.result c.read_words.ensures.reads said in
    keeper_closed Words c.close-in-Err-Words.result c.close-in-Err-Words.ensures.status c.close-in-Err-Words.ensures.memory g.S.Source g.K.Keeper
    c.args.limits.now (asked c.args.words.now) g.C.Crew.exact (g.O.Sink.written c.args.sink.now)
    (g.O.Sink.written c.close-in-Err-Words.new.sink) c.close-in-Err-Words.ensures.closes c.args.source.now c.args.keeper.now c.args.keeper.now
    (keeper_unmeant c.args.limits.now (asked c.args.words.now) g.S.Source g.K.Keeper g.C.Crew.exact c.args.source.now
    c.args.keeper.now none)

pub returns-in-Err-Words-clause-sink : goal.returns-in-Err-Words-clause-sink
returns-in-Err-Words-clause-sink g c =
    let said : c.read_words.result ≡ Err faults.Words = cc in
    let none = meant_none _ c.read_words.result c.read_words.ensures.reads said in
    sink_closed Words c.close-in-Err-Words.result c.close-in-Err-Words.ensures.status c.close-in-Err-Words.ensures.memory g.S.Source g.A.Source g.O.Sink
    g.K.Keeper c.args.limits.now (asked c.args.words.now) g.C.Crew.exact c.args.source.now c.args.aside.now
    c.args.keeper.now c.args.keeper.now c.args.sink.now c.args.sink.now c.close-in-Err-Words.new.sink c.close-in-Err-Words.ensures.closes
    c.close-in-Err-Words.ensures.sink (sink_unmeant c.args.limits.now (asked c.args.words.now) g.S.Source g.A.Source g.O.Sink g.K.Keeper g.C.Crew.exact
    c.args.source.now c.args.aside.now c.args.keeper.now c.args.sink.now none)

pub returns-in-Err-NoMemory-clause-source : goal.returns-in-Err-NoMemory-clause-source
returns-in-Err-NoMemory-clause-source g c =
    source_ended g.S.Source c.args.limits.now (asked c.args.words.now) (g.K.Keeper.told c.args.keeper.now) c.close-in-Err-NoMemory.result 8 c.args.source.now
    c.args.source.now c.close-in-Err-NoMemory.ensures.status (source_idle c.args.limits.now (asked c.args.words.now) (g.K.Keeper.told c.args.keeper.now) 8
    (λ s. omega (arith, s)) (λ s. omega (arith, s)) (λ s. omega (arith, s)) g.S.Source c.args.source.now)

pub returns-in-Err-NoMemory-clause-aside : goal.returns-in-Err-NoMemory-clause-aside
returns-in-Err-NoMemory-clause-aside g c =
    aside_ended g.S.Source g.A.Source c.args.limits.now (asked c.args.words.now) g.C.Crew.exact (g.K.Keeper.told c.args.keeper.now)
    c.close-in-Err-NoMemory.result 8 c.args.source.now c.args.source.now c.args.aside.now c.args.aside.now c.close-in-Err-NoMemory.ensures.status
    (aside_idle c.args.limits.now (asked c.args.words.now) (g.K.Keeper.told c.args.keeper.now) 8 (λ s. omega (arith, s)) (λ s. omega (arith, s)) (λ s. omega (arith, s))
    g.S.Source g.A.Source g.C.Crew.exact c.args.source.now c.args.aside.now)

pub returns-in-Err-NoMemory-clause-crew : goal.returns-in-Err-NoMemory-clause-crew
returns-in-Err-NoMemory-clause-crew g c =
    crew_ended g.S.Source g.C.Crew c.args.limits.now (asked c.args.words.now) (g.K.Keeper.told c.args.keeper.now) c.close-in-Err-NoMemory.result 8
    c.args.source.now c.args.crew.now c.args.crew.now c.close-in-Err-NoMemory.ensures.status (crew_idle c.args.limits.now (asked c.args.words.now)
    (g.K.Keeper.told c.args.keeper.now) 8 (λ s. omega (arith, s)) (λ s. omega (arith, s)) (λ s. omega (arith, s)) g.S.Source g.C.Crew
    c.args.source.now c.args.crew.now c.requires.idle)

pub returns-in-Err-NoMemory-clause-keeper : goal.returns-in-Err-NoMemory-clause-keeper
returns-in-Err-NoMemory-clause-keeper g c =
    keeper_closed NoMemory c.close-in-Err-NoMemory.result c.close-in-Err-NoMemory.ensures.status c.close-in-Err-NoMemory.ensures.memory g.S.Source g.K.Keeper
    c.args.limits.now (asked c.args.words.now) g.C.Crew.exact (g.O.Sink.written c.args.sink.now)
    (g.O.Sink.written c.close-in-Err-NoMemory.new.sink) c.close-in-Err-NoMemory.ensures.closes c.args.source.now c.args.keeper.now c.args.keeper.now
    (keeper_unroomed c.args.limits.now (asked c.args.words.now) g.S.Source g.K.Keeper g.C.Crew.exact c.args.source.now
    c.args.keeper.now)

pub returns-in-Err-NoMemory-clause-sink : goal.returns-in-Err-NoMemory-clause-sink
returns-in-Err-NoMemory-clause-sink g c =
    sink_closed NoMemory c.close-in-Err-NoMemory.result c.close-in-Err-NoMemory.ensures.status c.close-in-Err-NoMemory.ensures.memory g.S.Source g.A.Source g.O.Sink
    g.K.Keeper c.args.limits.now (asked c.args.words.now) g.C.Crew.exact c.args.source.now c.args.aside.now
    c.args.keeper.now c.args.keeper.now c.args.sink.now c.args.sink.now c.close-in-Err-NoMemory.new.sink c.close-in-Err-NoMemory.ensures.closes
    c.close-in-Err-NoMemory.ensures.sink (sink_unroomed c.args.limits.now (asked c.args.words.now) g.S.Source g.A.Source g.O.Sink g.K.Keeper g.C.Crew.exact
    c.args.source.now c.args.aside.now c.args.keeper.now c.args.sink.now)

pub returns-in-Err-Words-clause-words : goal.returns-in-Err-Words-clause-words
returns-in-Err-Words-clause-words g c = λ unbroken room.
    let said : c.read_words.result ≡ Err faults.Words = cc in
    let none = meant_none _ c.read_words.result c.read_words.ensures.reads said in
    (λ one. none, λ is. c.close-in-Err-Words.ensures.status unbroken room)

pub returns-in-Err-NoMemory-clause-words : goal.returns-in-Err-NoMemory-clause-words
returns-in-Err-NoMemory-clause-words g c = λ unbroken room.
    absurd (room (c.close-in-Err-NoMemory.ensures.status unbroken room))
