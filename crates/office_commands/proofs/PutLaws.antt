-- What is kept where nothing was put.
use Rattle.std.proofs.Common.{◌≡◌, inl, refl, Option, Some}
use Rattle.keep_office.specs.Office.{Office}
use Rattle.office_words.specs.declared.command.Command.{Command}
use Rattle.office_words.specs.declared.command.Command.TheVariants as command
use Rattle.office_commands.specs.Uses.{PutsAsked}

-- what is kept as it was is kept as words may have it
pub puts_same : (m : Option Command) (o : Office) (now : Option Office) → now ≡ Some o → PutsAsked m o now
puts_same (Some (command.Import run)) o now e = (o, e, inl refl)
puts_same (Some (command.Past base)) o now e = (o, e, inl refl)
puts_same (Some (command.Tariff xway crowd speed factor)) o now e = inl e
puts_same _ o now e = tt
