-- What a publisher is asked for and left with.
use Rattle.std.specs.Prelude.{ℕ, zero, suc, ◌≡◌, List, [], Option, Some, None, Result, Ok, Err}
use Rattle.std.specs.Option.{option_map}
use Rattle.road_time.specs.Day.{ChargedToll}
use Rattle.day_floor.specs.Operations.{Step, Posted, posted_with, IsRefused}
use Rattle.day_floor.specs.Boards.{board_after, all_accounts}
use Rattle.day_floor.specs.declared.fault.SettleFault.{SettleFault}

-- where a publisher tells its lists, nothing is queued and the steps since the last begin come to a total
abbrev pub IsAbreast : Option Posted → ℕ → Type 0
IsAbreast None total = Unit {0}
IsAbreast (Some p) total = (p.queued ≡ []) × (all_accounts (board_after p.published) ≡ total)

-- with one step more, if something was settled
abbrev pub posted_if : ℕ → List ChargedToll → ℕ → Option Posted → Option Posted
posted_if zero charges mark before = before
posted_if (suc n) charges mark before = option_map (posted_with (Step charges mark)) before

-- one step is published if something was settled, and none otherwise; where settling was stopped none is published
abbrev pub PublishesStep : {T : Type 0} → Result T SettleFault → ℕ → List ChargedToll → ℕ → Option Posted →
    Option Posted → Type 0
PublishesStep (Ok x) count charges mark before now = now ≡ posted_if count charges mark before
PublishesStep (Err fault) count charges mark before now = IsRefused (Step charges mark) before now
