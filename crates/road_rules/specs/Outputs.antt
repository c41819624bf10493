-- What is made of a day's first tuples: findings, accounts, charges and notices.
use Rattle.std.specs.Prelude.{◌≡◌, ℕ, ◌≤◌, nat_eq, List, length, map}
use Rattle.std.specs.HashMap.{get}
use Rattle.road_time.specs.declared.road.Tuple.{Tuple}
use Rattle.road_time.specs.Tuples.{reports}
use Rattle.road_time.specs.Rates.{Tariffs}
use Rattle.road_time.specs.Sights.{moments}
use Rattle.road_time.specs.Day.{rules, charges_by, notices_by}
use Rattle.road_rules.specs.declared.output.Output.{Output}
use Rattle.road_rules.specs.Findings.{KnowsSpots}
use Rattle.road_rules.specs.Accounts.{AreAccounts, shown_charge}

-- what is kept and made after some tuples of a day
pub record IsOutput (day : List Tuple) (tariffs : Tariffs) (number : ℕ) (kept : ℕ → ℕ → ℕ → ℕ) (o : Output)
    (before : List Tuple) : Type 0 where
  pub known : KnowsSpots (reports day) tariffs o.found
  pub accounts : AreAccounts (rules day tariffs) (get nat_eq o.accounts) before
  pub charges : map shown_charge o.charges.items ≡ charges_by (rules day tariffs) (moments before)
  pub notices : o.notices.items ≡ notices_by (rules day tariffs) number kept (moments before)

-- what is kept and made is that after some tuples, no more than a day may have
abbrev pub StandsAfter : List Tuple → Tariffs → ℕ → (ℕ → ℕ → ℕ → ℕ) → Output → Type 0
StandsAfter day tariffs number kept o = (before : List Tuple) × (length before ≤ 16000000)
    × IsOutput day tariffs number kept o before
