use Rattle.std.proofs.Common.{◌≡◌, take}
use Rattle.road_time.specs.Text.{out}
use Rattle.example_day.proofs.plain.text_of.Given as goal

abbrev pub invariant-loop-notice : goal.invariant-loop-notice
invariant-loop-notice l = l.text.items ≡ out (take l.notice-index l.notices)
