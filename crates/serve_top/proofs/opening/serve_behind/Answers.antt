use Rattle.serve_top.proofs.opening.serve_behind.Goals as goal

pub returns-in-Served-clause-desk : goal.returns-in-Served-clause-desk
returns-in-Served-clause-desk g c = λ _.
    record {
      opened = c.in-Ok.ears;
      closed = c.serve_over-end.result.1;
      heard = c.in-Ok.ensures.hears;
      done = c.serve_over-end.ensures.desk;
      all = c.serve_over-end.ensures.served c.in-Served.is;
    }
