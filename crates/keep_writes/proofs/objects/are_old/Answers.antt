use Rattle.std.proofs.Common.{get_or, ap, sym, List, ◌∙◌}
use Rattle.sqlite_value.specs.Order.{Row}
use Rattle.keep_writes.proofs.ObjectLaws.{three_rows}
use Rattle.keep_writes.proofs.objects.are_old.Goals as goal

pub returns-then-not-is_text : goal.returns-then-not-is_text
returns-then-not-is_text c = (
  λ no. absurd (cc),
  λ h. absurd
      (let wrong = sym c.if-not-is_text.true
      ∙ c.is_text.ensures.1 (c.days-item.is ∙ ap (λ (l : List Row). get_or l 0 c.days-item.result) h) in cc),
)

pub returns-then-not-is_text-2 : goal.returns-then-not-is_text-2
returns-then-not-is_text-2 c = (
  λ no. absurd (cc),
  λ h. absurd
      (let wrong = sym c.if-not-is_text-2.true
      ∙ c.is_text-2.ensures.1 (c.past-item.is ∙ ap (λ (l : List Row). get_or l 1 c.past-item.result) h) in cc),
)

pub returns : goal.returns
returns c = (
  λ is. three_rows c.args.texts.now c.days-item.result c.past-item.result c.spent-item.result _ _ _
      c.in-len3.len_at_least c.in-len3.len_below c.days-item.is c.past-item.is c.spent-item.is
      (c.is_text.ensures.0 c.if-not-is_text.false) (c.is_text-2.ensures.0 c.if-not-is_text-2.false)
      (c.is_text-3.ensures.0 is),
  λ h. c.is_text-3.ensures.1 (c.spent-item.is ∙ ap (λ (l : List Row). get_or l 2 c.spent-item.result) h),
)
