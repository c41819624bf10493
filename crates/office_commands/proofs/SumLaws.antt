-- That a kept day which is told adds up, from the command to the status.
use Rattle.std.proofs.Common.{◌≡◌, ◌≢◌, ◌∙◌, ℕ, List, Option, Some, None, Result, Ok, ap, arith}
use Rattle.road_io.specs.declared.source.Failed.{Failed}
use Rattle.office_words.specs.declared.command.Command.{Command}
use Rattle.office_words.specs.declared.command.Command.TheVariants.{Day}
use Rattle.office_commands.specs.declared.closing.Closing.{Closing}
use Rattle.office_commands.specs.Closings.{status_of}
use Rattle.office_commands.specs.Endings.{code_of}
use Rattle.office_commands.specs.Sums.{TellsSound, WroteSound}

-- a run that did not end well tells no day
pub sound_else : (meant : Option Command) (r : Result (Option Closing) Failed) (old new : Option (List ℕ)) →
    code_of r ≢ 0 → WroteSound meant r old new
sound_else (Some (Day day)) r old new bad = λ zero. absurd (bad zero)
sound_else _ r old new bad = tt

-- a run without a closing line has none
no_closing : (r : Result (Option Closing) Failed) (c : Closing) → r ≡ Ok None → r ≡ Ok (Some c) → ⊥
no_closing r c p q = cc

-- a run with a closing line has another status than 0, where it tells a day
pub sound_closed : (meant : Option Command) (r : Result (Option Closing) Failed) (c : Closing) (status : ℕ)
    (old mid new : Option (List ℕ)) → r ≡ Ok (Some c) → WroteSound meant r old mid →
    (status ≡ 0 → status_of c ≡ 0) → TellsSound meant status old new
sound_closed (Some (Day day)) r c status old mid new is wrote by = λ zero.
    absurd (no_closing r c (wrote (ap code_of is ∙ by zero)).0 is)
sound_closed _ r c status old mid new is wrote by = tt

-- one without it tells a sound day
pub sound_open : (meant : Option Command) (r : Result (Option Closing) Failed) (old new : Option (List ℕ)) →
    r ≡ Ok None → WroteSound meant r old new → TellsSound meant 0 old new
sound_open (Some (Day day)) r old new is wrote = λ zero. (wrote (ap code_of is)).1
sound_open _ r old new is wrote = tt

-- and one whose sink failed none
pub sound_failed : (meant : Option Command) (old new : Option (List ℕ)) → TellsSound meant 5 old new
sound_failed (Some (Day day)) old new = λ zero. absurd (omega (arith, zero))
sound_failed _ old new = tt
