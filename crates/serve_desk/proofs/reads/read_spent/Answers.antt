use Rattle.serve_desk.proofs.reads.read_spent.Goals as goal

pub returns-clause-shared : goal.returns-clause-shared
returns-clause-shared g c =
    record {
      was = c.args.kept.now.keeper;
      now = c.spent.new.self;
      reads = c.spent.ensures.state;
      sound = c.spent.ensures.sound;
      counts = c.spent.ensures.cause;
    }
