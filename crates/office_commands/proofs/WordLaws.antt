-- The command that words mean, and the one that was read from them.
use Rattle.std.proofs.Common.{◌≡◌, Option, Some, None, Result, Ok, Err, refl, sym, ap, subst}
use Rattle.office_words.specs.Meaning.{ReadsCommand}
use Rattle.office_words.specs.declared.command.Command.{Command}
use Rattle.office_words.specs.declared.command.WordFault.{WordFault}
use Rattle.office_words.specs.declared.command.WordFault.TheVariants as faults

-- the words that a command was read from mean it
pub meant : (o : Option Command) (d : Command) (r : Result Command WordFault) → ReadsCommand o r → r ≡ Ok d → o ≡ Some d
meant None d r h e = let bad = subst (ReadsCommand None) e h in absurd bad
meant (Some c) d r h e = ap (λ x. Some x) (sym (subst (ReadsCommand (Some c)) e h))

-- words that were refused mean no command
pub meant_none : (o : Option Command) (r : Result Command WordFault) → ReadsCommand o r → r ≡ Err faults.Words →
    o ≡ None
meant_none None r h e = refl
meant_none (Some c) r h e =
    let other : faults.Words ≡ faults.NoMemory = subst (ReadsCommand (Some c)) e h in
    let bad : ⊥ = cc in
    absurd bad
