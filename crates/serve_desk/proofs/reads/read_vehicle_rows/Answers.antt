use Rattle.serve_desk.proofs.reads.read_vehicle_rows.Goals as goal

pub returns-clause-shared : goal.returns-clause-shared
returns-clause-shared g c =
    record {
      was = c.args.kept.now.keeper;
      now = c.vehicle_rows.new.self;
      reads = c.vehicle_rows.ensures.state;
      sound = c.vehicle_rows.ensures.sound;
      counts = c.vehicle_rows.ensures.cause;
    }
