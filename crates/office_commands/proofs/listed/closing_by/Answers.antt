use Rattle.std.proofs.Common.{◌∙◌, length}
use Rattle.office_commands.specs.declared.closing.Closing.TheVariants.{Agree}
use Rattle.office_commands.proofs.DifferenceLaws.{closing_is, closes_at, closes_none}
use Rattle.office_commands.proofs.listed.closing_by.Goals as goal

pub returns-in-empty-clause-exact : goal.returns-in-empty-clause-exact
returns-in-empty-clause-exact c = λ most entries some e.
    closes_none c.args.list.now (Agree (length c.args.wanted.now)) c.in-empty.len_below
    ∙ closing_is c.args.wanted.now c.args.list.now most entries some e

pub returns-in-len1-up-clause-exact : goal.returns-in-len1-up-clause-exact
returns-in-len1-up-clause-exact c = λ most entries some e.
    closes_at c.args.list.now (Agree (length c.args.wanted.now)) _ c.in-len1-up.len_at_least
    ∙ closing_is c.args.wanted.now c.args.list.now most entries some e

pub returns-in-empty-clause-first : goal.returns-in-empty-clause-first
returns-in-empty-clause-first c = closes_none c.args.list.now (Agree (length c.args.wanted.now)) c.in-empty.len_below

pub returns-in-len1-up-clause-first : goal.returns-in-len1-up-clause-first
returns-in-len1-up-clause-first c =
    closes_at c.args.list.now (Agree (length c.args.wanted.now)) _ c.in-len1-up.len_at_least
