-- What a book of accounts holds of each vehicle, and how its entries balance.
use Rattle.std.specs.Prelude.{◌≡◌, ℕ, ◌*◌, ◌≤◌, false, Option, None, Some, nat_eq, List, map, refl}
use Rattle.std.specs.List.{IsDistinct}
use Rattle.std.specs.Map.{lookup, keys_of}
use Rattle.std.specs.Ordering.{nat_cmp}
use Rattle.std.specs.FinMap.{FinMap, from_entries, insert, code}
use Rattle.std.specs.Coded.{Coded, code_by, coded×, coded_ℕ}
use Rattle.day_floor.specs.declared.vehicle.Vehicle.{Vehicle}
use Rattle.day_floor.specs.Sums.{SpentMap, sums_of, account_in, total_in, same_owner}
use Rattle.day_floor.specs.Entries.{vehicle_at, is_further, all_sums}
use Rattle.road_time.specs.declared.tariff.TheConstants.{GREATEST_TOLL}

-- a book: the toll told last to each vehicle, what each was charged on each expressway, and how many charges were made
pub record Accounts : Type 0 where
  pub told : FinMap nat_cmp ℕ
  pub spent : SpentMap
  pub made : ℕ

-- a book is stored as its parts
abbrev pub accounts_code : Coded Accounts
accounts_code =
    code_by (FinMap nat_cmp ℕ × (SpentMap × ℕ))
    (coded× (code coded_ℕ coded_ℕ) (coded× (code (coded× coded_ℕ coded_ℕ) coded_ℕ) coded_ℕ))
    (λ b. (b.told, (b.spent, b.made))) (λ p. record { told = p.0; spent = p.1.0; made = p.1.1 }) (λ _. refl)

-- what each vehicle was told last, once one is told a further toll, if there is one
abbrev pub retold : FinMap nat_cmp ℕ → ℕ → Option ℕ → FinMap nat_cmp ℕ
retold told vid None = told
retold told vid (Some toll) = insert told vid toll

-- what the entries of vehicles tell
abbrev pub told_of : List (ℕ × Vehicle) → FinMap nat_cmp ℕ
told_of vehicles = from_entries (map (λ e. (e.0, e.1.told)) vehicles)

-- what the entries of first charges and of further expressways sum up
abbrev pub spent_sums : List (ℕ × Vehicle) → List ((ℕ × ℕ) × ℕ) → SpentMap
spent_sums vehicles further = sums_of (all_sums vehicles further)

-- each vehicle's sum is its account, the total that of all, and none is more than the charges made can come to; a sum
-- that the first charge's entry keeps stands nowhere else
pub record IsBalanced (vehicles : List (ℕ × Vehicle)) (further : List ((ℕ × ℕ) × ℕ)) (total made : ℕ) : Type 0 where
  pub unique : IsDistinct nat_eq (keys_of vehicles)
  pub apart : (vid xway : ℕ) → is_further (vehicle_at vehicles vid).first xway ≡ false →
      lookup (same_owner (vid, xway)) further ≡ None
  pub told : (vid : ℕ) → (vehicle_at vehicles vid).told ≤ GREATEST_TOLL
  pub account : (vid : ℕ) → (vehicle_at vehicles vid).sum ≡ account_in (spent_sums vehicles further) vid
  pub whole : total ≡ total_in (spent_sums vehicles further)
  pub bound : total ≤ GREATEST_TOLL * made
  pub few : made ≤ 16000000
