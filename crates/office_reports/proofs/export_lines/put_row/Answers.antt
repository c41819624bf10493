use Rattle.std.proofs.Common.{◌≡◌, ◌∷◌, [], List, ℕ, decimal, ap, ◌∙◌, subst, OnOk, rules}
use Rattle.std.specs.Io.KnownBytes.{Appends}
use Rattle.csv.specs.Writing.{text_written, row_text, default_writer}
use Rattle.office_reports.specs.Exports.{export_line}
use Rattle.office_reports.proofs.ExportLaws.{row_is}
use Rattle.office_reports.proofs.export_lines.put_row.Goals as goal

pub returns-clause-wrote : goal.returns-clause-wrote
returns-clause-wrote g c =
    let row = c.args.row.now in
    let day = c.as_bytes-2.result.now in
    let xway = c.as_bytes-3.result.now in
    let tolls = c.as_bytes-4.result.now in
    let same : row_text default_writer (c.as_bytes.result.now ∷ day ∷ xway ∷ tolls ∷ []) ≡ export_line row =
    ap (λ (a : List ℕ). row_text default_writer (a ∷ day ∷ xway ∷ tolls ∷ []))
    (c.as_bytes.ensures.value ∙ c.format.ensures.text)
    ∙ ap (λ (b : List ℕ). row_text default_writer (decimal row.vid ∷ b ∷ xway ∷ tolls ∷ []))
    (c.as_bytes-2.ensures.value ∙ c.format-2.ensures.text)
    ∙ ap (λ (d : List ℕ). row_text default_writer (decimal row.vid ∷ decimal row.day ∷ d ∷ tolls ∷ []))
    (c.as_bytes-3.ensures.value ∙ c.format-3.ensures.text)
    ∙ ap (λ (e : List ℕ). row_text default_writer (decimal row.vid ∷ decimal row.day ∷ decimal row.xway ∷ e ∷ []))
    (c.as_bytes-4.ensures.value ∙ c.format-4.ensures.text)
    ∙ row_is row (search rules) (search rules) (search rules) (search rules) in
    subst (λ t. OnOk c.put_fields.result
    (Appends (text_written g.W.Write.contents c.args.writer.now)
    (text_written g.W.Write.contents c.put_fields.new.writer) t)) same c.put_fields.ensures.wrote
