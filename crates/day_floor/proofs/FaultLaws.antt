-- Faults of one call after another.
use Rattle.std.proofs.Common.{◌≡◌, ℕ, ◌≤◌, Bool, false, Option, Result, Ok, refl, ◌∙◌, arith}
use Rattle.road_io.specs.Faults.{Rose}
use Rattle.road_io.specs.Rooms.{Room}
use Rattle.day_floor.specs.declared.fault.SettleFault.{SettleFault}
use Rattle.day_floor.specs.Faults.{write_failed, keeper_failed, SinkFaults, KeeperFaults}

rose_on : (a b c : ℕ) → a ≤ b → Rose b c → Rose a c
rose_on a b c h k = omega arith

-- a sink that did not fail, and then a further call
pub sink_then : {S T : Type 0} (x : S) (a b c : ℕ) (p q r : Room) (result : Result T SettleFault) →
    SinkFaults {T = S} a b p q (Ok x) → SinkFaults b c q r result → SinkFaults a c p r result
sink_then x a b c p q r result h k = record {
  later = let first = h.later in let second = k.later in omega arith;
  cause = λ e. rose_on a b c h.later (k.cause e);
  still = λ e. k.still e ∙ h.still refl;
  sure = λ endless. k.sure (h.sure endless).1;
}

-- the same of a keeper
pub keeper_then : {S T : Type 0} (x : S) (a b c : ℕ) (p q r : Option (ℕ → Bool)) (result : Result T SettleFault) →
    KeeperFaults {T = S} a b p q (Ok x) → KeeperFaults b c q r result → KeeperFaults a c p r result
keeper_then x a b c p q r result h k = record {
  later = let first = h.later in let second = k.later in omega arith;
  cause = λ e. rose_on a b c h.later (k.cause e);
  still = λ e. k.still e ∙ h.still refl;
  sure = λ never. k.sure (h.sure never).1;
}

-- a keeper that is not called
pub keeper_idle : {T : Type 0} (a : ℕ) (p : Option (ℕ → Bool)) (result : Result T SettleFault) →
    keeper_failed result ≡ false → KeeperFaults a a p p result
keeper_idle a p result e = record {
  later = omega arith;
  cause = λ bad. let no : ⊥ = cc in absurd no;
  still = λ fine. refl;
  sure = λ never. (e, never);
}

-- a sink that is not called
pub sink_idle : {T : Type 0} (a : ℕ) (p : Room) (result : Result T SettleFault) → write_failed result ≡ false →
    SinkFaults a a p p result
sink_idle a p result e = record {
  later = omega arith;
  cause = λ bad. let no : ⊥ = cc in absurd no;
  still = λ fine. refl;
  sure = λ endless. (e, endless);
}
