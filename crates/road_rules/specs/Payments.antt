-- What vehicles paid on earlier days, as entries that are looked up.
use Rattle.std.specs.Prelude.{ℕ, ◌==◌, ◌&&◌, Bool, List}
use Rattle.std.specs.Option.{unwrap_or}
use Rattle.std.specs.Map.{lookup}
use Rattle.road_rules.specs.declared.payments.Payments.{Payments}

-- whether two are the same day, vehicle and expressway
abbrev pub same_key : ℕ × ℕ × ℕ → ℕ × ℕ × ℕ → Bool
same_key a b = (a.0 == b.0 && a.1 == b.1) && a.2 == b.2

-- what a list of entries says that a vehicle paid on an expressway on a day, 0 for no entry
abbrev pub amounts_of : List ((ℕ × ℕ × ℕ) × ℕ) → ℕ → ℕ → ℕ → ℕ
amounts_of entries day vid xway = unwrap_or (lookup (same_key (day, vid, xway)) entries) 0

-- what is known of a vehicle's payments on an expressway on a day
abbrev pub amount_in : Payments → ℕ → ℕ → ℕ → ℕ
amount_in payments = amounts_of payments.amounts.entries
