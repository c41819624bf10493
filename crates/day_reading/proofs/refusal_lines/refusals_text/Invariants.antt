use Rattle.std.proofs.Common.{◌≡◌, take}
use Rattle.day_reading.specs.Checked.{refusals_text}
use Rattle.day_reading.proofs.refusal_lines.refusals_text.Given as goal

abbrev pub invariant-loop-refusal : goal.invariant-loop-refusal
invariant-loop-refusal l = l.text.items ≡ refusals_text (take l.refusal-index l.refusals)
