use Rattle.std.proofs.Common.{◌≡◌, string_bytes, take}
use Rattle.std.specs.List.{flat_map}
use Rattle.serve_requests.specs.Lists.{next_day}
use Rattle.serve_requests.proofs.day_list.next_days.Given as goal

abbrev pub invariant-loop-r : goal.invariant-loop-r
invariant-loop-r l = string_bytes l.text ≡ flat_map next_day (take l.r-index l.days)
