-- Which bytes a digester has taken that may be with a thread.
use Rattle.std.specs.Prelude.{ℕ, List, ◌≡◌, ◌++◌}
use Rattle.road_digest.specs.Digests.{Took}
use Rattle.road_digest.specs.declared.held.HeldDigest.{HeldDigest}
use Rattle.road_digest.specs.declared.held.HeldDigest.TheVariants.{Here, There}
use Rattle.road_digest.specs.declared.beside_digester.BesideDigester.{BesideDigester}

-- the digester that comes back took these bytes, or a thread promised that it will
abbrev pub WillHold : HeldDigest → List ℕ → Type 0
WillHold (Here back) bytes = Took back.digester bytes
WillHold (There child) bytes =
    (before : List ℕ) × Took child.promise.before.value before × (bytes ≡ before ++ child.promise.piece.value.items)

-- a digester with a thread beside took these bytes: those that were handed on, and then those that wait
abbrev pub TookBeside : BesideDigester → List ℕ → Type 0
TookBeside d bytes = (before : List ℕ) × WillHold d.held before × (bytes ≡ before ++ d.waiting.items)

-- no thread was begun: a thread that has a part of the digester had it before
abbrev pub BeginsNone : HeldDigest → HeldDigest → Type 0
BeginsNone old (Here back) = Unit {0}
BeginsNone old (There child) = old ≡ There child
