use Rattle.std.proofs.Common.{rules, IfSome, Some, None, Option, ℕ, nat_eq, position, ◌≡◌, slice_get, sym}
use Rattle.std.specs.Map.{keys_of}
use Rattle.road_time.proofs.Places.{at_place}
use Rattle.road_time.proofs.usual_order.find.Goals as goal

pub returns-then-kept-key-clause-found : goal.returns-then-kept-key-clause-found
returns-then-kept-key-clause-found g c = (c.in-Some.field-0-1.now, search rules)

pub returns-clause-found : goal.returns-clause-found
returns-clause-found g c = by c.get_index_of.result c.get_index_of.ensures.index
  where
    by : (r : Option ℕ) → r ≡ position (nat_eq c.args.key) (keys_of c.args.entries.now.entries) →
        IfSome r (λ at. (v : g.row.V.Denot) × (slice_get c.args.entries.now.entries at ≡ Some (c.args.key, v)))
    by None e = tt
    by (Some i) e = at_place c.args.key c.args.entries.now.entries i (sym e)
