-- What a run did whose words could not be read, or for whose words there was no memory: nothing but its closing line.
use Rattle.std.proofs.Common.{◌≡◌, ◌≢◌, ◌∙◌, inl, ℕ, Bool, [], Option, Some, None, Ok, refl, sym, ap, arith, rules}
use Rattle.road_time.specs.declared.day.Limits.{Limits}
use Rattle.road_io.proofs.SinkLaws.{appends_none}
use Rattle.road_io.specs.declared.sink.Sink.{Ghosts as SinkGhosts}
use Rattle.road_io.specs.declared.source.Source.{Ghosts as SourceGhosts}
use Rattle.keep_office.specs.Office.{Office}
use Rattle.keep_office.specs.declared.calls.Keeper.{Ghosts as KeeperGhosts}
use Rattle.ways_crews.specs.declared.crew.Crew.{Ghosts as CrewGhosts}
use Rattle.day_reading.proofs.BoundLaws.{nothing_read}
use Rattle.office_words.specs.declared.command.Command.{Command}
use Rattle.office_commands.specs.declared.closing.Closing.TheVariants.{NoMemory, Words}
use Rattle.office_commands.specs.Commands.{office_answer}
use Rattle.office_commands.specs.Ran.{ReadsSource, ReadsAside, WorksAsked, KeptAsked, WroteAsked}
use Rattle.office_commands.proofs.PutLaws.{puts_same}
use Rattle.office_commands.proofs.StartLaws.{starts_other}
use Rattle.office_commands.proofs.StatusLaws.{read_other, rest_other}
use Rattle.office_commands.proofs.SumLaws.{sound_else}

module _ (limits : Limits) (m : Option Command) where
  module _ (kept : Option Office) (code : ℕ) (well : code ≢ 0) (parted : code ≢ 7) (named : code ≢ 2) where
    -- nothing was read of its source
    pub source_idle : {S : Type 0} (g : SourceGhosts S) (x : S) → ReadsSource g limits m kept code x x
    source_idle g x = record {
      unused = λ no. refl;
      passed = λ o is passes. refl;
      reads = λ used. read_other limits m code (g.left x) well parted named;
      rest = λ bytes o changes told is. rest_other limits m code o bytes (g.left x) well named;
      bounded = λ o is. nothing_read _ _;
    }

    -- nor of its aside
    pub aside_idle : {S A : Type 0} (s : SourceGhosts S) (g : SourceGhosts A) (exactly : Bool) (source : S) (x : A) →
        ReadsAside s g limits m exactly kept code source source x x
    aside_idle s g exactly source x = record {
      unused = λ no. refl;
      refused_first = λ two. refl;
      source_first = λ bytes is more. refl;
      bounded = λ bytes o right told is. nothing_read _ _;
    }

    -- its crew started nothing
    pub crew_idle : {S C T N : Type 0} (s : SourceGhosts S) (g : CrewGhosts C T N) (source : S) (x : C) → g.out x ≡ [] →
        WorksAsked s g limits m kept code source x x
    crew_idle s g source x idle = record {
      unused = λ no. refl;
      jobs = λ bytes used told. starts_other code well parted named limits m bytes kept (g.jobs x);
      idle = idle;
      same = refl;
    }

  module _ {S K : Type 0} (s : SourceGhosts S) (g : KeeperGhosts K) (exactly : Bool) (source : S) (x : K) where
    -- what its keeper keeps is as it was, where the words mean nothing
    pub keeper_unmeant : m ≡ None → KeptAsked s g limits m exactly (Ok (Some Words)) source x x
    keeper_unmeant none = record {
      keeps = λ bytes lines o right told is.
          is ∙ sym (ap (λ c. Some (office_answer limits bytes lines o c).office) none);
      puts = λ o is. puts_same m o (g.told x) is;
      unchanged = λ o is still. is;
      held = λ o is changes well failed room. is;
      unused = λ no. refl;
      faults = search rules;
    }

    -- and where memory ran out
    pub keeper_unroomed : KeptAsked s g limits m exactly (Ok (Some NoMemory)) source x x
    keeper_unroomed = record {
      keeps = λ bytes lines o right told is. inl is;
      puts = λ o is. puts_same m o (g.told x) is;
      unchanged = λ o is still. is;
      held = λ o is changes well failed room. is;
      unused = λ no. refl;
      faults = search rules;
    }

  module _ {S A O K : Type 0} (s : SourceGhosts S) (a : SourceGhosts A) (g : SinkGhosts O) (k : KeeperGhosts K)
      (exactly : Bool) (source : S) (aside : A) (keeper : K) (x : O) where
    -- nothing was written before the closing line, where the words mean nothing
    pub sink_unmeant : m ≡ None → WroteAsked s a g k limits m exactly (Ok (Some Words)) source aside keeper keeper x x
    sink_unmeant none = record {
      wrote = λ bytes lines o told. (
        [],
        (
          sym (ap (λ c. (office_answer limits bytes lines o c).closing) none),
          sym (ap (λ c. (office_answer limits bytes lines o c).text) none),
        ),
        appends_none _,
      );
      does = λ bytes lines o told is. (
        [],
        (
          sym (ap (λ c. (office_answer limits bytes lines o c).closing) none),
          sym (ap (λ c. (office_answer limits bytes lines o c).text) none),
          is ∙ sym (ap (λ c. Some (office_answer limits bytes lines o c).office) none),
        ),
        appends_none _,
      );
      sums = sound_else m (Ok (Some Words)) _ _ (λ zero. omega (arith, zero));
      faults = search rules;
    }

    -- and where memory ran out
    pub sink_unroomed : WroteAsked s a g k limits m exactly (Ok (Some NoMemory)) source aside keeper keeper x x
    sink_unroomed = record {
      wrote = λ bytes lines o told. ([], ((0, refl), λ none. refl), appends_none _);
      does = λ bytes lines o told is. ([], (λ none. refl, inl ((0, refl), is)), appends_none _);
      sums = sound_else m (Ok (Some NoMemory)) _ _ (λ zero. omega (arith, zero));
      faults = search rules;
    }
