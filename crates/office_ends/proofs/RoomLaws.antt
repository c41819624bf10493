-- What a sink with endless room takes.
use Rattle.std.proofs.Common.{◌≡◌, ℕ, Result, Ok, Err, IsOk, OnErr, refl}
use Rattle.road_io.specs.declared.source.Failed.{Failed}
use Rattle.road_io.specs.Rooms.{Room, Untold, Bound, Endless, Refuses}

-- a write that a sink with endless room was asked for is done
pub endless_takes : (before after : Room) (r : Result (Unit {0}) Failed) (n : ℕ) →
    OnErr r (Refuses before after n) → before ≡ Endless → IsOk r
endless_takes before after (Ok u) n h e = refl
endless_takes Untold after (Err x) n h e = let bad : ⊥ = cc in absurd bad
endless_takes (Bound m) after (Err x) n h e = let bad : ⊥ = cc in absurd bad
endless_takes Endless after (Err x) n h e = absurd h
