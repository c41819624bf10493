use Rattle.serve_loops.proofs.acceptor.Acceptor.turn.Goals as goal

pub returns-in-Ok-clause-turns : goal.returns-in-Ok-clause-turns
returns-in-Ok-clause-turns g c = λ _.
    record {
      mid = c.accept.new.self;
      came = c.pass-pass.new.line;
      went = c.attend.new.line;
      gave = c.pass-pass.ensures.given c.args.self.now.listener c.in-Ok.ensures.gives;
      served = c.attend.ensures.attends;
      took = c.end-in-Ok.ensures.takes;
    }
