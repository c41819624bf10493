use Rattle.serve_desk.proofs.reads.read_rows.Goals as goal

pub returns-clause-shared : goal.returns-clause-shared
returns-clause-shared g c =
    record {
      was = c.args.kept.now.keeper;
      now = c.rows.new.self;
      reads = c.rows.ensures.state;
      sound = c.rows.ensures.sound;
      counts = c.rows.ensures.cause;
    }
