use Rattle.keep_office.proofs.FileLaws.{ended_short}
use Rattle.keep_office.proofs.lines.line_of.Goals as goal

pub returns-in_err-line-clause-short : goal.returns-in_err-line-clause-short
returns-in_err-line-clause-short c =
    ended_short c.args.base c.args.row.now c.ranges.base.fits c.fit_types.ensures.vid c.fit_types.ensures.xway c.requires.tolls

pub returns-clause-short : goal.returns-clause-short
returns-clause-short c =
    ended_short c.args.base c.args.row.now c.ranges.base.fits c.fit_types.ensures.vid c.fit_types.ensures.xway c.requires.tolls
