use Rattle.serve_desk.proofs.reads.read_day.Goals as goal

pub returns-clause-shared : goal.returns-clause-shared
returns-clause-shared g c =
    record {
      was = c.args.kept.now.keeper;
      now = c.day.new.self;
      reads = c.day.ensures.state;
      sound = c.day.ensures.sound;
      counts = c.day.ensures.cause;
    }
