-- A day with one tuple more.
use Rattle.std.proofs.Common.{◌≡◌, ℕ, ◌+◌, ◌<◌, ◌≤◌, List, length, take, get_or, None, sym, subst, arith}
use Rattle.std.proofs.lemmas.List.{take_more, length-take}
use Rattle.road_time.specs.declared.road.Tuple.{Tuple}
use Rattle.road_time.specs.declared.day.TheConstants.Limits.{DAY}
use Rattle.road_time.specs.Fits.{IsDay, IsValid}
use Rattle.road_time.specs.Reads.{admit_fault}
use Rattle.road_time.proofs.AllowedLaws.{admitted, fit_push}

-- the first tuples of a list and the next one, which is valid and not refused
pub day_more : (tuples : List Tuple) (i : ℕ) (d : Tuple) → i < length tuples → length tuples ≤ 1000 →
    IsValid (get_or tuples i d) → admit_fault DAY 0 (take i tuples) (get_or tuples i d) ≡ None → IsDay (take i tuples) →
    IsDay (take (i + 1) tuples)
day_more tuples i d h few valid none fit =
    let told = admitted DAY 0 (take i tuples) (get_or tuples i d) none in
    let short : length (take i tuples) < 16000000 = omega (arith, length-take i tuples) in
    subst IsDay (sym (take_more tuples i d h))
    (fit_push DAY (take i tuples) (get_or tuples i d) fit valid short (omega (arith, told.0)) told.1)
