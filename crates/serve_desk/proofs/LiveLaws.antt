-- Laws of a reader that stays as it was.
use Rattle.std.proofs.Common.{◌≡◌, ◌∙◌, ◌++◌, List, [], sym, ap, subst}
use Rattle.std.proofs.lemmas.List.{append-nil, append_assoc}
use Rattle.day_floor.specs.Operations.{Operation}
use Rattle.serve_board.specs.Passes.{Pass, StartsWith}

-- it is of the same board
pub same_board : (p q : Pass) → q ≡ p → q.board ≡ p.board
same_board p q e = ap (λ (r : Pass). r.board) e

-- what a reader saw begins with itself
pub seen_itself : (ops : List Operation) → StartsWith ops ops
seen_itself ops = ([], sym (append-nil ops))

-- it saw all that it had seen
pub same_seen : (p q : Pass) → q ≡ p → StartsWith q.seen p.seen
same_seen p q e = subst (λ (r : Pass). StartsWith r.seen p.seen) (sym e) (seen_itself p.seen)

-- what begins with operations that begin with others begins with those
pub begins_on : (first ops more : List Operation) → StartsWith ops first → StartsWith more ops → StartsWith more first
begins_on first ops more (r, e) (s, f) = (r ++ s, f ∙ ap (λ l. l ++ s) e ∙ append_assoc first r s)
