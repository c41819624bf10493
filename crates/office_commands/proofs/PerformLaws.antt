-- What a command does, from what the call does that carries it out.
use Rattle.std.proofs.Common.{◌≡◌, inl, ℕ, Bool, true, List, [], Option, Some, Ok, refl, arith}
use Rattle.road_io.specs.Blame.{FaultsByPlan}
use Rattle.day_import.specs.Faults.{FaultsBeside}
use Rattle.road_io.specs.Plans.{NeverFails}
use Rattle.road_io.proofs.SinkLaws.{appends_none}
use Rattle.office_words.specs.declared.command.Command.{Command}
use Rattle.office_commands.specs.declared.closing.Closing.{Closing}
use Rattle.office_commands.specs.Commands.{Answer}
use Rattle.office_commands.specs.Endings.{StandsBefore, Wrote}
use Rattle.office_commands.specs.Faults.{ReadFaults}
use Rattle.office_commands.specs.Uses.{uses_source, uses_aside, uses_keeper, uses_crew}

-- whether a command has a use for the source
abbrev pub source_of : Command → Bool
source_of d = uses_source (Some d)

-- for the aside
abbrev pub aside_of : Command → Bool
aside_of d = uses_aside (Some d)

-- for the keeper
abbrev pub keeper_of : Command → Bool
keeper_of d = uses_keeper (Some d)

-- and for the crew
abbrev pub crew_of : Command → Bool
crew_of d = uses_crew (Some d)

-- a command that names a closing line alone wrote nothing before it
pub wrote_silent : (a : Answer) (c : Closing) (old : Option (List ℕ)) → StandsBefore a c [] →
    Wrote a (Ok (Some c)) old old
wrote_silent a c old stands = ([], stands, appends_none old)

-- a read fault of a command that reads the source alone is the source's
pub by_source : (before now aside : ℕ) (plan : Option (ℕ → Bool)) (uses : Bool)
    (aside_fine failed named calm quiet : Type 0) → uses ≡ true → (named → failed) → (failed → named) →
    (quiet → calm) → FaultsBeside before now plan failed calm →
    ReadFaults before now aside aside (uses ≡ true → NeverFails plan) aside_fine named quiet
by_source before now aside plan uses aside_fine failed named calm quiet used same told other f =
    record {
      later = f.later;
      aside_later = omega arith;
      cause = λ bad. inl (f.cause (same bad));
      still = λ well calm. (f.still (λ bad. well (told bad)) (other calm), refl);
      sure = λ fine aside_fine bad. f.sure (fine used) (same bad);
    }

-- a count that stands unless the object failed does so whatever else is told
pub beside : (before now : ℕ) (plan : Option (ℕ → Bool)) (failed quiet : Type 0) →
    FaultsByPlan before now plan failed → FaultsBeside before now plan failed quiet
beside before now plan failed quiet f =
    record { later = f.later; cause = f.cause; still = λ well calm. f.still well; sure = f.sure }

-- and of one that reads an aside too, of one of the two
pub by_both : (before now aside_before aside_now : ℕ) (plan aside_plan : Option (ℕ → Bool)) (uses asks : Bool)
    (failed named quiet : Type 0) → uses ≡ true → asks ≡ true → (named → failed) → (failed → named) →
    ReadFaults before now aside_before aside_now (NeverFails plan) (NeverFails aside_plan) failed quiet →
    ReadFaults before now aside_before aside_now (uses ≡ true → NeverFails plan) (asks ≡ true →
    NeverFails aside_plan) named quiet
by_both before now aside_before aside_now plan aside_plan uses asks failed named quiet used aside_used same told f =
    record {
      later = f.later;
      aside_later = f.aside_later;
      cause = λ bad. f.cause (same bad);
      still = λ well calm. f.still (λ bad. well (told bad)) calm;
      sure = λ fine aside_fine bad. f.sure (fine used) (aside_fine aside_used) (same bad);
    }
