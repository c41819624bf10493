use Rattle.std.proofs.Common.{refl, sym, subst}
use Rattle.keep_files.specs.declared.cause.Cause.TheVariants.{Unreadable}
use Rattle.keep_files.specs.Whys.{IsWhyOf}
use Rattle.keep_files.proofs.whys.why.Goals as goal

pub returns-in-Trees : goal.returns-in-Trees
returns-in-Trees g c = subst (λ k. IsWhyOf g.S.Store k Unreadable) (sym c.in-Trees.is) refl

pub returns-in-Whole : goal.returns-in-Whole
returns-in-Whole g c = subst (λ k. IsWhyOf g.S.Store k c.why_whole.result) (sym c.in-Whole.is) c.why_whole.ensures
