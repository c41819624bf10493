use Rattle.std.proofs.Common.{◌≡◌, ◌*◌, List, ℕ}
use Rattle.sha2.specs.Sha256.{rounds, schedule}
use Rattle.road_sha.specs.Words.{IsReady}
use Rattle.road_sha.proofs.rounds.compress.Given as goal

abbrev pub invariant-turns : goal.invariant-turns
invariant-turns l = (b : List ℕ) → IsReady l.words l.lane b → l.v ≡ rounds l.hash (schedule b 48) (8 * l.turn)
