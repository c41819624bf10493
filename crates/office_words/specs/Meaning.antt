-- Which numbers each command takes, in which ranges, and what is meant where an option is left out.

use Rattle.std.specs.Prelude.{◌≡◌, ◌≤◌, ◌&&◌, ◌*◌, ◌^◌, ◌-◌, ℕ, Bool, List, Option, Some, None, codes, length, nat_le}
use Rattle.std.specs.Prelude.{find, false, if◌then◌else◌, option_and_then, option_map, Result, Ok, Err}
use Rattle.std.specs.Option.{option_map_or}
use Rattle.std.specs.Str.{bytes_eq}
use Rattle.std.specs.Char.{is_ascii_digit}
use Rattle.std.specs.List.{list_all}
use Rattle.std.specs.Str.Parse.{digits_value}
use Rattle.day_plan.specs.declared.work.Plan.{Plan}
use Rattle.office_words.specs.Grammar.{Form, Text, Said, contains, is_said, lacks, spoken, stands}
use Rattle.office_words.specs.Table.{forms}
use Rattle.office_words.specs.declared.command.Command.{Command}
use Rattle.office_words.specs.declared.command.Command.TheVariants as command
use Rattle.office_words.specs.declared.command.Comparison.{Comparison}
use Rattle.office_words.specs.declared.command.DayRun.{DayRun}
use Rattle.office_words.specs.declared.command.Recomputing.{Recomputing}
use Rattle.office_words.specs.declared.command.Recomputing.TheVariants.{Plainly, InBulk}
use Rattle.office_words.specs.declared.command.Size.{Size}
use Rattle.office_words.specs.declared.command.WordFault.{WordFault}
use Rattle.office_words.specs.declared.command.WordFault.TheVariants as fault

-- A number is 1 to 20 digits, and lies in its range.
abbrev pub is_number : ℕ → ℕ → Text → Bool
is_number low high text = nat_le 1 (length text) && (nat_le (length text) 20
    && (list_all is_ascii_digit text
    && (nat_le low (digits_value 10 text) && nat_le (digits_value 10 text) high)))

-- the number that a text is
abbrev pub number : ℕ → ℕ → Text → Option ℕ
number low high text = if is_number low high text then Some (digits_value 10 text) else None

-- the number in a place
abbrev pub needed : ℕ → ℕ → Option Text → Option ℕ
needed low high value = option_and_then (number low high) value

-- the number of an option, which has a default
abbrev pub optional : ℕ → ℕ → ℕ → Option Text → Option ℕ
optional low high default value = option_map_or (number low high) value (Some default)

-- the number of an option that has none of its own, where it is given
abbrev pub chosen : ℕ → ℕ → Option Text → Option (Option ℕ)
chosen low high None = Some None
chosen low high (Some text) = option_map (λ n. Some n) (number low high text)

-- what follows, if there is a value
abbrev pub with : {A B : Type 0} → Option A → (A → Option B) → Option B
with x f = option_and_then f x

-- the values of the names that the words give
abbrev pub Values : Type 0
Values = Text → Option Text

-- the number of a day
abbrev pub day_in : Values → Option ℕ
day_in value = needed 70 1000000 (value (codes "day"))

-- by how many seconds lines may come late
abbrev pub late_in : Values → Option ℕ
late_in value = optional 0 120 0 (value (codes "late"))

-- over how many workers a day's work is cut
abbrev pub width_in : Values → Option ℕ
width_in value = optional 1 64 1 (value (codes "workers"))

-- over how many workers, and the number that draws their turns
abbrev pub plan_in : Values → Option Plan
plan_in value = with (width_in value) (λ width.
    with (chosen 0 (2 ^ 64 - 1) (value (codes "turns"))) (λ turns.
    Some (record { width = width; turns = turns })))

-- how many tuples of a day may wait
abbrev pub backlog_in : Values → Option ℕ
backlog_in value = optional 1 65536 65536 (value (codes "backlog"))

-- what the run of a day is told
abbrev pub run_in : ℕ → Values → Option DayRun
run_in day value = with (late_in value) (λ late. with (plan_in value) (λ plan. with (backlog_in value) (λ backlog.
    Some (record { day = day; late = late; plan = plan; backlog = backlog }))))

-- the command `answers DAY`
abbrev pub answers_in : Values → Option Command
answers_in value = with (day_in value) (λ day. with (run_in day value) (λ run. Some (command.Answers run)))

-- the command `import DAY`
abbrev pub import_in : Values → Option Command
import_in value = with (day_in value) (λ day. with (run_in day value) (λ run. Some (command.Import run)))

-- the command `validate DAY`
abbrev pub validate_in : Values → Option Command
validate_in value = with (day_in value) (λ day. with (late_in value) (λ late.
    Some (command.Compare (record { day = day; late = late; how = Plainly; show = 1; any_order = false }))))

-- by how many shards of vehicles and over how many workers notices are recomputed in bulk
abbrev pub bulk_in : Values → Option Recomputing
bulk_in value = with (optional 1 64 1 (value (codes "shards"))) (λ shards. with (width_in value) (λ width.
    Some (InBulk shards width)))

-- how many of the lines that differ are told
abbrev pub show_in : Values → Option ℕ
show_in value = optional 1 1000 1 (value (codes "show"))

-- whether the notices of a second may stand in any order
abbrev pub any_order_in : Values → Bool
any_order_in value = option_map_or (λ text. bytes_eq text stands) (value (codes "any-order")) false

-- the command `audit DAY`
abbrev pub audit_in : Values → Option Command
audit_in value = with (day_in value) (λ day. with (late_in value) (λ late. with (bulk_in value) (λ how.
    with (show_in value) (λ show.
    Some (command.Compare
    (record { day = day; late = late; how = how; show = show; any_order = any_order_in value }))))))

-- the command `past BASE`
abbrev pub past_in : Values → Option Command
past_in value = with (needed 70 1000000 (value (codes "base"))) (λ base. Some (command.Past base))

-- the command `vehicle VID FROM TO`, whose first day is not after its last
abbrev pub vehicle_in : Values → Option Command
vehicle_in value = with (needed 0 2147483647 (value (codes "vid"))) (λ vid.
    with (needed 1 1000000 (value (codes "from"))) (λ from.
    with (needed 1 1000000 (value (codes "to"))) (λ to.
    if nat_le from to then Some (command.Vehicle vid from to) else None)))

-- the command `tariff XWAY CROWD SPEED FACTOR`
abbrev pub tariff_in : Values → Option Command
tariff_in value = with (needed 0 255 (value (codes "xway"))) (λ xway.
    with (needed 0 500000 (value (codes "crowd"))) (λ crowd.
    with (needed 0 100 (value (codes "speed"))) (λ speed.
    with (needed 0 20 (value (codes "factor"))) (λ factor.
    Some (command.Tariff xway crowd speed factor)))))

-- the seed of a traffic's draws
abbrev pub seed_in : Values → Option ℕ
seed_in value = needed 0 (2 ^ 64 - 1) (value (codes "seed"))

-- how much traffic is generated: twice the crashes are at most the vehicles
abbrev pub size_in : Values → Option Size
size_in value = with (optional 1 5000 1000 (value (codes "vehicles"))) (λ vehicles.
    with (optional 1 1440 60 (value (codes "minutes"))) (λ minutes.
    with (optional 1 256 1 (value (codes "xways"))) (λ xways.
    with (optional 0 100 0 (value (codes "crashes"))) (λ crashes.
    if nat_le (2 * crashes) vehicles
    then Some (record { vehicles = vehicles; minutes = minutes; xways = xways; crashes = crashes })
    else None))))

-- the command `generate SEED`
abbrev pub generate_in : Values → Option Command
generate_in value = with (seed_in value) (λ seed. with (size_in value) (λ size. Some (command.Generate seed size)))

-- the command `rehearse SEED`, which runs day 100
abbrev pub rehearse_in : Values → Option Command
rehearse_in value = with (seed_in value) (λ seed. with (size_in value) (λ size. with (run_in 100 value) (λ run.
    Some (command.Rehearse seed size run))))

-- the command `charges FROM TO`, whose first day is not after its last
abbrev pub charges_in : Values → Option Command
charges_in value = with (needed 1 1000000 (value (codes "from"))) (λ from.
    with (needed 1 1000000 (value (codes "to"))) (λ to.
    if nat_le from to then Some (command.Charges from to) else None))

-- the command `check DAY`
abbrev pub check_in : Values → Option Command
check_in value = with (day_in value) (λ day. with (late_in value) (λ late. Some (command.Check day late)))

-- the command of a name, with the values of its names
abbrev pub meaning : Text → Values → Option Command
meaning name value =
    if bytes_eq name (codes "answers") then answers_in value
    else (if bytes_eq name (codes "import") then import_in value
    else (if bytes_eq name (codes "validate") then validate_in value
    else (if bytes_eq name (codes "audit") then audit_in value
    else (if bytes_eq name (codes "past") then past_in value
    else (if bytes_eq name (codes "day") then with (day_in value) (λ day. Some (command.Day day))
    else (if bytes_eq name (codes "vehicle") then vehicle_in value
    else (if bytes_eq name (codes "accidents") then with (late_in value) (λ late. Some (command.Accidents late))
    else (if bytes_eq name (codes "export") then with (day_in value) (λ day. Some (command.Export day))
    else (if bytes_eq name (codes "tariff") then tariff_in value
    else (if bytes_eq name (codes "tariffs") then Some command.Tariffs
    else (if bytes_eq name (codes "generate") then generate_in value
    else (if bytes_eq name (codes "rehearse") then rehearse_in value
    else (if bytes_eq name (codes "days") then Some command.Days
    else (if bytes_eq name (codes "charges") then charges_in value
    else (if bytes_eq name (codes "check") then check_in value
    else None)))))))))))))))

-- the value that was said of a name
abbrev pub value_of : Said → Values
value_of said name = option_map (λ p. p.1) (find (λ p. bytes_eq p.0 name) said)

-- the value of a name of a form: what was said of it, and of a flag that was not that it lacks
abbrev pub value_by : Form → Said → Values
value_by form said name =
    if is_said name said then value_of said name else (if contains form.flags name then Some lacks else None)

-- the command that the words mean, where they are of a stated form
abbrev pub means : List Text → Option Command
means words = option_and_then (λ p. meaning p.0.name (value_by p.0 p.1)) (spoken forms words)

-- the words are refused exactly where they mean no command, and the command is the one that they mean
abbrev pub ReadsCommand : Option Command → Result Command WordFault → Type 0
ReadsCommand None (Ok c) = ⊥
ReadsCommand None (Err e) = Unit {0}
ReadsCommand (Some c) (Ok d) = d ≡ c
ReadsCommand (Some c) (Err e) = e ≡ fault.NoMemory

-- sizes of traffic are in their ranges
pub record IsSize (size : Size) : Type 0 where
  pub some_vehicles : 1 ≤ size.vehicles
  pub few_vehicles : size.vehicles ≤ 5000
  pub some_minutes : 1 ≤ size.minutes
  pub few_minutes : size.minutes ≤ 1440
  pub some_xways : 1 ≤ size.xways
  pub few_xways : size.xways ≤ 256
  pub few_crashes : size.crashes ≤ 100
  pub pairs : 2 * size.crashes ≤ size.vehicles

-- a day's work is cut over 1 to 64 workers
pub record IsPlan (plan : Plan) : Type 0 where
  pub some_workers : 1 ≤ plan.width
  pub few_workers : plan.width ≤ 64

-- notices are recomputed plainly, or in bulk by 1 to 64 shards and over 1 to 64 workers
abbrev pub IsRecomputing : Recomputing → Type 0
IsRecomputing Plainly = Unit {0}
IsRecomputing (InBulk shards width) = (1 ≤ shards) × (shards ≤ 64) × (1 ≤ width) × (width ≤ 64)

-- what a comparison is told is in its ranges
pub record IsComparing (asked : Comparison) : Type 0 where
  pub low : 70 ≤ asked.day
  pub high : asked.day ≤ 1000000
  pub soon : asked.late ≤ 120
  pub how : IsRecomputing asked.how
  pub some_shown : 1 ≤ asked.show
  pub few_shown : asked.show ≤ 1000

-- what a day's run is told is in its ranges
pub record IsRun (run : DayRun) : Type 0 where
  pub low : 70 ≤ run.day
  pub high : run.day ≤ 1000000
  pub soon : run.late ≤ 120
  pub plan : IsPlan run.plan
  pub some_backlog : 1 ≤ run.backlog
  pub few_backlog : run.backlog ≤ 65536

-- a command's numbers are in their ranges
abbrev pub IsInRange : Command → Type 0
IsInRange (command.Answers run) = IsRun run
IsInRange (command.Import run) = IsRun run
IsInRange (command.Compare asked) = IsComparing asked
IsInRange (command.Past base) = (70 ≤ base) × (base ≤ 1000000)
IsInRange (command.Day day) = (70 ≤ day) × (day ≤ 1000000)
IsInRange (command.Vehicle vid from to) = (vid ≤ 2147483647) × (1 ≤ from) × (from ≤ to) × (to ≤ 1000000)
IsInRange (command.Accidents late) = late ≤ 120
IsInRange (command.Export day) = (70 ≤ day) × (day ≤ 1000000)
IsInRange (command.Tariff xway crowd speed factor) = (crowd ≤ 500000) × (speed ≤ 100) × (factor ≤ 20)
IsInRange command.Tariffs = Unit {0}
IsInRange (command.Generate seed size) = IsSize size
IsInRange (command.Rehearse seed size run) = IsSize size × IsRun run
IsInRange command.Days = Unit {0}
IsInRange (command.Charges from to) = (1 ≤ from) × (from ≤ to) × (to ≤ 1000000)
IsInRange (command.Check day late) = (70 ≤ day) × (day ≤ 1000000) × (late ≤ 120)
