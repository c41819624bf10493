use Rattle.serve_desk.proofs.reads.read_past.Goals as goal

pub returns-clause-shared : goal.returns-clause-shared
returns-clause-shared g c =
    record {
      was = c.args.kept.now.keeper;
      now = c.past.new.self;
      reads = c.past.ensures.state;
      sound = c.past.ensures.sound;
      counts = c.past.ensures.cause;
    }
