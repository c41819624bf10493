use Rattle.serve_desk.proofs.puts.put_next_day.Goals as goal

pub returns : goal.returns
returns g c =
    record {
      shared =
          record {
            was = c.open_for_put.new.kept.keeper;
            now = c.try_day-answer.new.keeper;
            did = c.try_day-answer.ensures.tries;
            later = c.try_day-answer.ensures.later;
          };
    }
