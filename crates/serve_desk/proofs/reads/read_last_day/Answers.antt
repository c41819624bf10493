use Rattle.serve_desk.proofs.reads.read_last_day.Goals as goal

pub returns-clause-shared : goal.returns-clause-shared
returns-clause-shared g c =
    record {
      was = c.args.kept.now.keeper;
      now = c.last_day.new.self;
      reads = c.last_day.ensures.state;
      sound = c.last_day.ensures.sound;
      counts = c.last_day.ensures.cause;
    }
