use Rattle.std.proofs.Common.{◌≡◌, ◌++◌, false, codes, take, Some}
use Rattle.std.specs.List.{flat_map}
use Rattle.csv.specs.Writing.{fields_written, has_written, writer_setup, default_writer, text_written}
use Rattle.office_reports.specs.Exports.{export_line}
use Rattle.office_reports.proofs.export_lines.export_text.Given as goal

abbrev pub invariant-loop-row : goal.invariant-loop-row
invariant-loop-row l = record {
  ready : (fields_written l.writer ≡ 0) × (has_written l.writer ≡ false) × (writer_setup l.writer ≡ default_writer);
  text : text_written (λ v. Some v.items) l.writer
      ≡ Some (codes "vid,day,xway,tolls\n" ++ flat_map export_line (take l.row-index l.rows));
}
