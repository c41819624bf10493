use Rattle.std.proofs.Common.{◌≡◌, ap, length, sym, subst, ◌∙◌, arith}
use Rattle.std.specs.Cmp.Lexicographic.{same_text, bytes_decides}
use Rattle.sqlite_value.specs.Order.{Row, column}
use Rattle.sqlite_value.specs.Value.{owned}
use Rattle.sqlite_value.specs.declared.value.Value.TheVariants.{Text}
use Rattle.sqlite_value.specs.declared.value.ValueRef.{ValueRef}
use Rattle.keep_writes.proofs.ObjectLaws.{value_alone, same_bytes}
use Rattle.keep_writes.proofs.objects.is_text.Goals as goal

pub returns-then-column_count-ne1 : goal.returns-then-column_count-ne1
returns-then-column_count-ne1 c =
    (λ no. absurd (cc), λ h. absurd (omega (arith, c.column_count.ensures, c.if-column_count-ne1.true, ap length h)))

pub returns-in-Ok-Text : goal.returns-in-Ok-Text
returns-in-Ok-Text c =
    let value : Text c.in-Ok-Text.found.now ≡ column c.args.row.now 0 =
    subst (λ (v : ValueRef). owned v ≡ column c.args.row.now 0) c.in-Ok-Text.field-0-is c.in-Ok-Text.ensures.ok.1 in (
      λ is. value_alone c.args.row.now _ (omega (arith, c.column_count.ensures, c.if-column_count-ne1.false))
          (sym value ∙ ap Text (same_text _ _ (sym is ∙ c.eq.ensures) ∙ c.as_bytes.ensures.value)),
      λ h. c.eq.ensures
          ∙ (bytes_decides _ _).1
          (same_bytes _ _ (value ∙ ap (λ (r : Row). column r 0) h) ∙ sym c.as_bytes.ensures.value),
    )
