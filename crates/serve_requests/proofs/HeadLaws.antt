-- Proofs of the laws of heads.
use Rattle.std.proofs.Common.{◌<◌, ◌≤◌, ◌⊎◌, inl, inr, [], length, arith}
use Rattle.std.proofs.lemmas.Bool.{cases_lt}
use Rattle.httparse.proofs.GrammarLemmas.{request_unique}
use Rattle.serve_requests.specs.Laws.{IsOneHead, IsUnjudged, AreApart}

-- what stands first is one head at most, and then it is neither bad nor cut
pub one_head : IsOneHead
one_head bytes h rest has = (
  λ k more at. request_unique bytes k h more rest at.0 has.0,
  λ bad. bad.0 h rest has,
  λ cut. cut.0 h rest has,
)

-- what is bad is not cut, unless it stays open
pub apart : AreApart
apart bytes (none, inl long) cut = absurd (omega (arith, long, cut.1))
apart bytes (none, inr never) (still, short, inr target) = inl target
apart bytes (none, inr never) (still, short, inl (more, h, reads)) = by (cases_lt 64 (length h.fields))
  where
    by : (64 < length h.fields) ⊎ (length h.fields ≤ 64) → IsUnjudged bytes
    by (inl many) = inr (more, h, reads, many)
    by (inr few) = absurd (never more h [] (reads, few))
