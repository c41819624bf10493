use Rattle.std.proofs.Common.{inl, inr, refl}
use Rattle.serve_desk.proofs.StreamLaws.{endless_takes}
use Rattle.serve_desk.proofs.stream_ends.write_last.Goals as goal

pub returns-in-Ok-clause-sent : goal.returns-in-Ok-clause-sent
returns-in-Ok-clause-sent g c = inl (refl, c.in-Ok.ensures.bytes)

pub returns-in-Err-clause-sent : goal.returns-in-Err-clause-sent
returns-in-Err-clause-sent g c = inr (refl, c.in-Err.ensures.bytes)

pub returns-in-Err-clause-sure : goal.returns-in-Err-clause-sure
returns-in-Err-clause-sure g c = λ endless other is. endless_takes _ _ _ endless c.in-Err.ensures.full
