use Rattle.serve_desk.proofs.reads.read_tariffs.Goals as goal

pub returns-clause-shared : goal.returns-clause-shared
returns-clause-shared g c =
    record {
      was = c.args.kept.now.keeper;
      now = c.tariffs.new.self;
      reads = c.tariffs.ensures.state;
      sound = c.tariffs.ensures.sound;
      counts = c.tariffs.ensures.cause;
    }
