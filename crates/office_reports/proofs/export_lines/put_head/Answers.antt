use Rattle.std.proofs.Common.{subst, OnOk}
use Rattle.std.specs.Io.KnownBytes.{Appends}
use Rattle.csv.specs.Writing.{text_written}
use Rattle.office_reports.proofs.ExportLaws.{head_is}
use Rattle.office_reports.proofs.export_lines.put_head.Goals as goal

pub returns-clause-wrote : goal.returns-clause-wrote
returns-clause-wrote g c =
    subst (λ t. OnOk c.put_fields.result
    (Appends (text_written g.W.Write.contents c.args.writer.now)
    (text_written g.W.Write.contents c.put_fields.new.writer) t)) head_is c.put_fields.ensures.wrote
