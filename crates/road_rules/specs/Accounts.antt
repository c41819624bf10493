-- What is kept of each vehicle while a day is recomputed: its newest report, the toll told last, and what it owes.
use Rattle.std.specs.Prelude.{◌≡◌, ℕ, ◌+◌, Bool, true, false, List, [], ◌∷◌, ◌++◌, Option, Some, None, if◌then◌else◌}
use Rattle.road_time.specs.declared.road.Report.{Report}
use Rattle.road_time.specs.declared.road.Tuple.{Tuple}
use Rattle.road_time.specs.declared.road.Notice.{Notice}
use Rattle.road_time.specs.declared.road.Notice.TheVariants.{Toll as TollNotice}
use Rattle.road_time.specs.Sights.{Sight, sights_of, previous}
use Rattle.road_time.specs.Stays.{is_told, is_charged}
use Rattle.road_time.specs.Tolls.{StretchTold}
use Rattle.road_time.specs.Day.{ChargedToll, alert_of, balance_by}
use Rattle.road_rules.specs.declared.account.Account.{Account}
use Rattle.road_rules.specs.declared.account.StayCharge.{StayCharge as CodeCharge}
use Rattle.road_rules.specs.declared.found.SpotFound.{SpotFound}

-- the newest report of an account
abbrev pub newest_of : Option Account → Option Report
newest_of None = None
newest_of (Some a) = Some a.newest

-- the toll that the vehicle of an account was told last, 0 for none
abbrev pub toll_kept : Option Account → ℕ
toll_kept None = 0
toll_kept (Some a) = a.toll

-- what the vehicle of an account owes, 0 for none
abbrev pub owed_kept : Option Account → ℕ
owed_kept None = 0
owed_kept (Some a) = a.owed

-- the toll told last, after what is told now
abbrev pub toll_after : Option SpotFound → ℕ → ℕ
toll_after None last = last
toll_after (Some f) last = f.toll

-- an account after one more report
abbrev pub account_after : Option Account → Report → Option SpotFound → Account
account_after last r told = record {
  newest = r;
  toll = toll_after told (toll_kept last);
  owed = owed_kept last + (if is_charged (newest_of last) r then toll_kept last else 0);
}

-- a charge of the code, as the definitions have it
abbrev pub shown_charge : CodeCharge → ChargedToll
shown_charge c = record { vid = c.vid; xway = c.xway; toll = c.toll }

-- what one more report charges
abbrev pub charge_after : Option Account → Report → List ChargedToll
charge_after None r = []
charge_after (Some a) r =
    if is_charged (Some a.newest) r then record { vid = r.vid; xway = a.newest.xway; toll = a.toll } ∷ [] else []

-- the toll told at a report, if it is told, else the one before
abbrev pub toll_if : Bool → StretchTold → ℕ → ℕ
toll_if true f last = f.toll
toll_if false f last = last

-- the toll told last, by a vehicle's reports, the newest first
abbrev pub toll_last : (Sight → StretchTold) → List Sight → ℕ
toll_last finding [] = 0
toll_last finding (s ∷ older) = toll_if (is_told (previous older) s.1) (finding s) (toll_last finding older)

-- the notices of a report that is told a finding
abbrev pub notices_told : Report → Option StretchTold → List Notice
notices_told r None = []
notices_told r (Some f) = alert_of r f.alert ++ TollNotice r.vid r.time f.lav f.toll ∷ []

-- accounts are those of the tuples before
pub record AreAccounts (finding : Sight → StretchTold) (kept : ℕ → Option Account) (before : List Tuple) : Type 0 where
  pub newest : (vid : ℕ) → newest_of (kept vid) ≡ previous (sights_of before vid)
  pub toll : (vid : ℕ) → toll_kept (kept vid) ≡ toll_last finding (sights_of before vid)
  pub owed : (vid : ℕ) → owed_kept (kept vid) ≡ balance_by finding vid before
