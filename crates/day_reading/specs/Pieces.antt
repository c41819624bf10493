-- Bytes that are taken piece by piece for a digest.
use Rattle.std.specs.Prelude.{ℕ, ◌≡◌, ◌≤◌, ◌++◌, [], List, length, take, drop, Option, Some}
use Rattle.road_digest.specs.declared.digest.Digester.{Digester}
use Rattle.road_digest.specs.Digests.{Took}

-- so many bytes more were read, none only at the end, and taken for a digest after those before
pub record TakesPiece (n : ℕ) (bytes before : List ℕ) (d : Digester) (left : Option (List ℕ)) : Type 0 where
  pub took : Took d (before ++ take n bytes)
  pub left_is : left ≡ Some (drop n bytes)
  pub few : n ≤ length bytes
  pub ended : n ≡ 0 → bytes ≡ []
