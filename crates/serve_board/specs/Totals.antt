-- The totals that are kept of a board, in 64 bits.
use Rattle.std.specs.Prelude.{◌≡◌, ℕ, ◌+◌, ◌%◌, ◌^◌, nat_eq, Bool, false, List, Option, is_some, refl}
use Rattle.std.specs.Option.{unwrap_or}
use Rattle.std.specs.List.{fold}
use Rattle.std.specs.Map.{lookup}
use Rattle.std.specs.Ordering.{nat_cmp}
use Rattle.std.specs.FinMap.{FinMap, empty, get, insert, code}
use Rattle.std.specs.Coded.{Coded, code_by, coded×, coded_ℕ, coded_bool}
use Rattle.day_floor.specs.declared.publisher.Charged.{Charged}
use Rattle.day_floor.specs.Boards.{BoardState, account, all_accounts}
use Rattle.day_floor.specs.Shown.{board_on}

-- what is kept of a board: whether a day began, the day, the mark, the sum of each vehicle's charges, and the sum of
-- all
pub record Totals : Type 0 where
  pub begun : Bool
  pub number : ℕ
  pub mark : ℕ
  pub sums : FinMap nat_cmp ℕ
  pub whole : ℕ

-- totals are stored as their parts
abbrev pub totals_code : Coded Totals
totals_code =
    code_by (Bool × (ℕ × (ℕ × (FinMap nat_cmp ℕ × ℕ))))
    (coded× coded_bool (coded× coded_ℕ (coded× coded_ℕ (coded× (code coded_ℕ coded_ℕ) coded_ℕ))))
    (λ t. (t.begun, (t.number, (t.mark, (t.sums, t.whole)))))
    (λ p. record { begun = p.0; number = p.1.0; mark = p.1.1.0; sums = p.1.1.1.0; whole = p.1.1.1.1 }) (λ _. refl)

-- nothing was charged
abbrev pub no_totals : Totals
no_totals = record { begun = false; number = 0; mark = 0; sums = empty; whole = 0 }

-- a sum with a toll more, in 64 bits
abbrev pub added : ℕ → ℕ → ℕ
added n toll = (n + toll) % 2 ^ 64

-- a vehicle's sum in a list of entries, 0 for none
abbrev pub entry_sum : List (ℕ × ℕ) → ℕ → ℕ
entry_sum es vid = unwrap_or (lookup (nat_eq vid) es) 0

-- a vehicle's sum, 0 for none
abbrev pub owed_in : FinMap nat_cmp ℕ → ℕ → ℕ
owed_in sums vid = unwrap_or (get sums vid) 0

-- sums with a charge more
abbrev pub with_charged : FinMap nat_cmp ℕ → Charged → FinMap nat_cmp ℕ
with_charged sums c = insert sums c.vid (added (owed_in sums c.vid) c.toll)

-- sums with some charges more
abbrev pub with_charges : FinMap nat_cmp ℕ → List Charged → FinMap nat_cmp ℕ
with_charges sums cs = fold with_charged sums cs

-- the sum of all with some charges more
abbrev pub whole_with : ℕ → List Charged → ℕ
whole_with n cs = fold (λ m c. added m c.toll) n cs

-- totals show a board, or that no day began, as far as 64 bits have it
pub record Shows (t : Totals) (s : Option BoardState) : Type 0 where
  pub begun : t.begun ≡ is_some s
  pub number : t.number ≡ (board_on s).number
  pub mark : t.mark ≡ (board_on s).mark
  pub each : (vid : ℕ) → owed_in t.sums vid ≡ account (board_on s) vid % 2 ^ 64
  pub whole : t.whole ≡ all_accounts (board_on s) % 2 ^ 64
