use Rattle.std.proofs.Common.{length}
use Rattle.office_ends.proofs.RoomLaws.{endless_takes}
use Rattle.office_ends.proofs.saying.say.Goals as goal

pub returns : goal.returns
returns g c = (
  c.put_all.result,
  c.put_all.ensures.bytes,
  λ is. endless_takes (g.E.Sink.room c.args.err.now) (g.E.Sink.room c.put_all.new.sink) c.put_all.result
      (length c.args.line.now) c.put_all.ensures.full is,
)
