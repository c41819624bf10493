use Rattle.serve_desk.proofs.puts.put_first_past.Goals as goal

pub returns : goal.returns
returns g c =
    record {
      shared =
          record {
            was = c.open_for_put.new.kept.keeper;
            now = c.try_past-answer.new.keeper;
            did = c.try_past-answer.ensures.tries;
            later = c.try_past-answer.ensures.later;
          };
    }
