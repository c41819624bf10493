use Rattle.std.proofs.Common.{sym, ◌∙◌}
use Rattle.std.proofs.lemmas.Slice.Eq.{bytes_eq-Decides}
use Rattle.road_time.specs.Text.{notice_text}
use Rattle.road_time.proofs.EachLaws.{no_some}
use Rattle.road_time.proofs.NoticeTextLaws.{notice_found}
use Rattle.tuples_text.proofs.CandidateLaws.{none_from, not_valid, not_text}
use Rattle.tuples_text.proofs.notice_reader.read_notice.Goals as goal
use Rattle.tuples_text.proofs.notice_reader.read_notice.Goals.{else-is_valid-via-then-is_valid+else-is_text}
use Rattle.tuples_text.proofs.notice_reader.read_notice.Goals.{else-is_valid-via-else-is_valid}

pub returns-in_err-notice-clause-read : goal.returns-in_err-notice-clause-read
returns-in_err-notice-clause-read c = c.from_residual.ensures
    ∙ none_from c.args.line.now (λ n e is. no_some n (c.in_err-notice.ensures n e is))

pub returns-then-is_text-clause-read : goal.returns-then-is_text-clause-read
returns-then-is_text-clause-read c =
    let n = c.in_ok-notice.notice in
    sym (notice_found c.args.line.now n (sym c.if-is_valid.ensures)
    ((bytes_eq-Decides (notice_text n) c.args.line.now).0 (sym c.if-is_text.ensures)))

pub returns-else-is_valid-clause-read : goal.returns-else-is_valid-clause-read
returns-else-is_valid-clause-read c =
    let n = c.in_ok-notice.notice in
    none_from c.args.line.now (λ m e is.
    let same = c.in_ok-notice.ensures m e is in
    elim c.else-is_valid.branch [
      | else-is_valid-via-then-is_valid+else-is_text w ↦ not_text c.args.line.now n m
          (sym w.is_text.ensures ∙ w.if-is_text.false) same is
      | else-is_valid-via-else-is_valid w ↦ not_valid n m (sym c.is_valid.ensures ∙ w.if-is_valid.false) same e
    ])
