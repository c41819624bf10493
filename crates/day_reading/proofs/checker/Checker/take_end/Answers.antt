use Rattle.std.proofs.Common.{◌++◌}
use Rattle.day_reading.proofs.LineLaws.{line_end}
use Rattle.day_reading.proofs.checker.Checker.take_end.Goals as goal

pub returns : goal.returns
returns c = λ none limits late taken h.
    let bytes = c.args.bytes.now in
    line_end c.args.self.now c.end_line.new.self limits late taken h bytes none
    (λ done text k. c.in_ok-end_line.ensures limits late done (text ++ bytes)
    (record {
      line_limit = k.line_limit;
      gate = k.gate;
      tally = k.tally;
      line = c.in_ok-hold.ensures text k.line;
    }))
