use Rattle.std.proofs.Common.{sym, subst}
use Rattle.serve_room.specs.Posts.{Precedes}
use Rattle.serve_room.proofs.posts.precedes.Goals as goal

pub returns-then-last-clause-before : goal.returns-then-last-clause-before
returns-then-last-clause-before c =
    λ is. subst (λ b. Precedes b c.args.one c.args.other) (sym c.if-last.true) (c.is_not_after.ensures.before is)

pub returns-then-last-clause-behind : goal.returns-then-last-clause-behind
returns-then-last-clause-behind c =
    λ is. subst (λ b. Precedes b c.args.other c.args.one) (sym c.if-last.true) (c.is_not_after.ensures.behind is)

pub returns-clause-before : goal.returns-clause-before
returns-clause-before c =
    λ is. subst (λ b. Precedes b c.args.one c.args.other) (sym c.if-last.false) (c.is_not_after-2.ensures.before is)

pub returns-clause-behind : goal.returns-clause-behind
returns-clause-behind c =
    λ is. subst (λ b. Precedes b c.args.other c.args.one) (sym c.if-last.false) (c.is_not_after-2.ensures.behind is)
