-- What a keeper in memory keeps that may begin anew.
use Rattle.std.proofs.Common.{◌≡◌, Option, Some, None, Result, Ok, Err, IfOk, refl, ap, sym, subst, ◌∙◌}
use Rattle.road_time.specs.Rates.{Tariffs}
use Rattle.road_time.specs.Tariffs.{IsTariffs}
use Rattle.keep_office.specs.declared.kept.KeepFault.{KeepFault}
use Rattle.keep_office.specs.declared.memory.MemKeeper.{MemKeeper}
use Rattle.keep_office.specs.Office.{Office, IsSound}
use Rattle.keep_office.specs.Memory.{kept_by}
use Rattle.keep_office.specs.Calls.{Reads, Puts, PutsNothing}
use Rattle.keep_office.proofs.SoundLaws.{tariff_sound}
use Rattle.keep_office.specs.InMemory.{under}

-- what holds of an answer holds of it by weaker words
if_ok_weaker : {T E : Type 0} (r : Result T E) (P Q : T → Type 0) → ((x : T) → P x → Q x) → IfOk r P → IfOk r Q
if_ok_weaker (Ok x) P Q f h = f x h
if_ok_weaker (Err e) P Q f h = tt

-- an office under tariffs
abbrev taxed : Tariffs → Office → Office
taxed ts o = record { days = o.days; rows = o.rows; past = o.past; tariffs = ts }

-- all fits together under other tariffs
pub under_sound : (k : MemKeeper) (ts : Tariffs) → IsSound (kept_by k) → IsTariffs ts → IsSound (under k ts)
under_sound k ts sound valid =
    tariff_sound (kept_by k).days (kept_by k).rows (kept_by k).past (kept_by k).tariffs ts sound valid

-- keepers that keep the same do so under the same tariffs
pub under_same : (a b : MemKeeper) (ts : Tariffs) → kept_by b ≡ kept_by a → under b ts ≡ under a ts
under_same a b ts e = ap (taxed ts) e

-- a call that reads
pub reads_under : {T : Type 0} (a b : MemKeeper) (ts : Tariffs) (r : Result T KeepFault) (P Q : Office → T → Type 0) →
    ((x : T) → P (kept_by a) x → Q (under a ts) x) → Reads (Some (kept_by a)) (Some (kept_by b)) r P →
    Reads (Some (under a ts)) (Some (under b ts)) r Q
reads_under a b ts r P Q weaker h = (
  under_same a b ts h.0,
  if_ok_weaker r (P (kept_by a)) (Q (under a ts)) weaker h.1,
)

-- a call that puts
pub puts_under : (a b : MemKeeper) (ts : Tariffs) (r : Result (Unit {0}) KeepFault) (next : Office → Office) →
    taxed ts (next (kept_by a)) ≡ next (under a ts) → Puts PutsNothing (Some (kept_by a)) (Some (kept_by b)) r next →
    Puts PutsNothing (Some (under a ts)) (Some (under b ts)) r next
puts_under a b ts (Ok u) next same h = ap (taxed ts) h ∙ same
puts_under a b ts (Err e) next same h = under_same a b ts h
