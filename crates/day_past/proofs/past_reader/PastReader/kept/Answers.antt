use Rattle.std.proofs.Common.{◌≡◌, ◌∙◌, Some, length, ap, refl, subst, arith}
use Rattle.day_reading.specs.Days.{IsDigestOf}
use Rattle.keep_office.specs.PastReads.{past_reads, past_kept}
use Rattle.day_past.proofs.PutLaws.{record_is, may_be_put}
use Rattle.day_past.proofs.past_reader.PastReader.kept.Goals as goal

pub returns-clause-exact : goal.returns-clause-exact
returns-clause-exact g c = λ limits left bytes e.
    let base = c.args.base in
    let rows = (past_reads bytes base limits).rows in
    let kept : c.in-Ok.rows.items ≡ past_kept rows = c.in-Ok.ensures.value ∙ e.rows_are.kept in
    let size : c.len.result ≡ length c.in-Ok.rows.items = cc (c.len.ensures, c.in-Ok.rows.ok.0) in
    let count : c.len.result ≡ length (past_kept rows) = size ∙ ap length kept in
    let some : c.digest.result ≡ Some c.in-Some.digest = cc in (
      record_is base c.args.self.consumed.bytes c.len.result c.in-Some.digest bytes rows e.has_taken.1
          (subst (λ d. IsDigestOf d bytes) some (c.digest.ensures.exact bytes e.has_taken)) count,
      kept,
    )

pub returns-clause-fits : goal.returns-clause-fits
returns-clause-fits g c = λ gathers.
    let self = c.args.self in
    let size : c.len.result ≡ length c.in-Ok.rows.items = cc (c.len.ensures, c.in-Ok.rows.ok.0) in
    may_be_put self.amounts c.args.base gathers.0 c.in-Ok.rows.items _ gathers.1 c.in-Ok.ensures.value
    c.in-Ok.ensures.rise c.in-Ok.ensures.few c.requires.based refl
    (omega (arith, self.few_bytes, c.requires.few)) size
