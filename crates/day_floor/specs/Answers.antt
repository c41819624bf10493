-- What is told and answered at moments, where a keeper may tell or not what it keeps.
use Rattle.std.specs.Prelude.{ℕ, ◌≡◌, ◌-◌, ◌++◌, Bool, true, false, List, [], ◌∷◌, Option, Some, None}
use Rattle.std.specs.Option.{option_map}
use Rattle.road_time.specs.declared.road.Tuple.TheVariants.{Report as ReportTuple, Balance as BalanceTuple}
use Rattle.road_time.specs.declared.road.Tuple.TheVariants.{Spent as SpentTuple, Travel}
use Rattle.road_time.specs.declared.road.Notice.{Notice}
use Rattle.road_time.specs.declared.road.Notice.TheVariants.{Toll as TollNotice, Alert as AlertNotice}
use Rattle.road_time.specs.declared.road.Notice.TheVariants.{Balance as BalanceNotice, Spent as SpentNotice}
use Rattle.road_time.specs.Sights.{Moment, Sight}
use Rattle.road_time.specs.Tolls.{StretchTold}
use Rattle.road_time.specs.Day.{told_by, balance_by}
use Rattle.day_floor.specs.Sums.{account_in}
use Rattle.day_floor.specs.Books.{Accounts}
use Rattle.road_time.specs.History.{paid}
use Rattle.keep_office.specs.Office.{Office}
use Rattle.day_floor.specs.declared.due_slot.Found.{Found}
use Rattle.day_floor.specs.declared.due_slot.Due.{Due}
use Rattle.day_floor.specs.declared.due_slot.Due.TheVariants.{Nothing, Report, Balance, Spent}

-- what was paid on a day by a vehicle on an expressway, where that is told
abbrev pub PaidHistory : Type 0
PaidHistory = Option (ℕ → ℕ → ℕ → ℕ)

-- the history of what a keeper tells
abbrev pub history_of : Option Office → PaidHistory
history_of told = option_map (λ o. paid o.rows) told

-- a history allows an amount as the answer
abbrev pub IsPaid : PaidHistory → ℕ → ℕ → ℕ → ℕ → Type 0
IsPaid None day vid xway amount = Unit {0}
IsPaid (Some kept) day vid xway amount = amount ≡ kept day vid xway

-- the notices of a moment, by findings and after a history
abbrev pub AreNoticesAt : (Sight → StretchTold) → ℕ → PaidHistory → Moment → List Notice → Type 0
AreNoticesAt finding number history (before, ReportTuple r) ns = ns ≡ told_by finding (before, ReportTuple r)
AreNoticesAt finding number history (before, BalanceTuple time vid qid) ns =
    ns ≡ BalanceNotice time qid (balance_by finding vid before) ∷ []
AreNoticesAt finding number history (before, SpentTuple time vid xway qid day) ns =
    (amount : ℕ) × IsPaid history (number - day) vid xway amount × (ns ≡ SpentNotice time qid amount ∷ [])
AreNoticesAt finding number history (before, Travel time) ns = ns ≡ []

-- the notices of some moments, one after another
abbrev pub AreNotices : (Sight → StretchTold) → ℕ → PaidHistory → List Moment → List Notice → Type 0
AreNotices finding number history [] ns = ns ≡ []
AreNotices finding number history (m ∷ ms) ns = (first : List Notice) × (later : List Notice) × (ns ≡ first ++ later)
    × AreNoticesAt finding number history m first × AreNotices finding number history ms later

-- What a slot says:

-- an alert, where there is an accident
abbrev pub alert_to : ℕ → ℕ → Option ℕ → List Notice
alert_to time vid None = []
alert_to time vid (Some seg) = AlertNotice time vid seg ∷ []

-- what a report is told, if it is told
abbrev pub told_notices : Bool → ℕ → ℕ → Found → List Notice
told_notices false time vid found = []
told_notices true time vid found = alert_to time vid found.alert ++ TollNotice vid time found.lav found.toll ∷ []

-- the notices of a slot, after a book and a history
abbrev pub IsSaid : PaidHistory → ℕ → Due → Found → Accounts → List Notice → Type 0
IsSaid history number Nothing found b ns = ns ≡ []
IsSaid history number (Report time vid charge told) found b ns = ns ≡ told_notices told time vid found
IsSaid history number (Balance time vid qid) found b ns = ns ≡ BalanceNotice time qid (account_in b.spent vid) ∷ []
IsSaid history number (Spent time vid qid xway day) found b ns =
    (amount : ℕ) × IsPaid history (number - day) vid xway amount × (ns ≡ SpentNotice time qid amount ∷ [])
