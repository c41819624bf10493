use Rattle.std.proofs.Common.{inl, inr, refl, sym, subst, ◌∙◌, arith}
use Rattle.serve_desk.specs.Answers.{TellsFault}
use Rattle.serve_desk.specs.Streams.{WritesLast, end_of}
use Rattle.serve_desk.proofs.StreamLaws.{ends_well, available, last_available, last_told, end_told}
use Rattle.serve_desk.proofs.stream_ends.close_stream.Goals as goal

pub returns-in-WriteFault-clause-closes : goal.returns-in-WriteFault-clause-closes
returns-in-WriteFault-clause-closes g c = inl (c.in-WriteFault.is, refl, refl)

pub returns-in-WriteFault-clause-cause : goal.returns-in-WriteFault-clause-cause
returns-in-WriteFault-clause-cause g c = λ before less given is. given c.in-WriteFault.is

pub returns-in-WriteFault-clause-sure : goal.returns-in-WriteFault-clause-sure
returns-in-WriteFault-clause-sure g c = λ endless other is. other c.in-WriteFault.is

pub returns-in-Ok-clause-closes : goal.returns-in-Ok-clause-closes
returns-in-Ok-clause-closes g c =
    let w = c.write_last in
    let old = g.O.Sink.written c.args.out.now in
    let new = g.O.Sink.written w.new.out in
    let ends = end_of c.args.outcome.now in
    inr (inl (subst (λ t. WritesLast t ends old new w.result) (c.as_bytes.ensures.value ∙ c.in-Ok.ensures)
    (subst (λ e. WritesLast c.as_bytes.result.now e old new w.result) c.end_of-wanted.ensures w.ensures.sent)))

pub returns-in-Err-clause-closes : goal.returns-in-Err-clause-closes
returns-in-Err-clause-closes g c =
    let w = c.write_last-in-Err in
    let old = g.O.Sink.written c.args.out.now in
    let new = g.O.Sink.written w.new.out in
    let ends = end_of c.args.outcome.now in
    inr (inr (subst (λ t. WritesLast t ends old new w.result) c.memory_line.ensures
    (subst (λ e. WritesLast c.memory_line.result.now e old new w.result) c.end_of-wanted.ensures w.ensures.sent)))

pub returns-in-Ok-clause-unavailable : goal.returns-in-Ok-clause-unavailable
returns-in-Ok-clause-unavailable g c =
    last_available c.as_bytes.result.now c.end_of-wanted.result c.write_last.result _ _
    (λ e. available c.args.outcome.now (sym c.end_of-wanted.ensures ∙ e)) c.write_last.ensures.sent

pub returns-in-Err-clause-unavailable : goal.returns-in-Err-clause-unavailable
returns-in-Err-clause-unavailable g c =
    last_available c.memory_line.result.now c.end_of-wanted.result c.write_last-in-Err.result _ _
    (λ e. available c.args.outcome.now (sym c.end_of-wanted.ensures ∙ e)) c.write_last-in-Err.ensures.sent

pub returns-in-Ok-clause-told : goal.returns-in-Ok-clause-told
returns-in-Ok-clause-told g c = λ failed.
    last_told c.as_bytes.result.now c.end_of-wanted.result c.write_last.result _ _
    (subst TellsFault (sym c.end_of-wanted.ensures) (end_told c.args.outcome.now failed)) c.write_last.ensures.sent

pub returns-in-Err-clause-told : goal.returns-in-Err-clause-told
returns-in-Err-clause-told g c = λ failed.
    last_told c.memory_line.result.now c.end_of-wanted.result c.write_last-in-Err.result _ _
    (subst TellsFault (sym c.end_of-wanted.ensures) (end_told c.args.outcome.now failed))
    c.write_last-in-Err.ensures.sent

pub returns-in-Ok-clause-cause : goal.returns-in-Ok-clause-cause
returns-in-Ok-clause-cause g c = λ before less given is.
    let rose = c.write_last.ensures.cause
    (λ e. ends_well c.args.outcome.now c.in_default.not-WriteFault (sym c.end_of-wanted.ensures ∙ e)) is in
    omega (arith, rose, less)

pub returns-in-Err-clause-cause : goal.returns-in-Err-clause-cause
returns-in-Err-clause-cause g c = λ before less given is.
    let rose = c.write_last-in-Err.ensures.cause
    (λ e. ends_well c.args.outcome.now c.in_default.not-WriteFault (sym c.end_of-wanted.ensures ∙ e)) is in
    omega (arith, rose, less)

pub returns-in-Ok-clause-sure : goal.returns-in-Ok-clause-sure
returns-in-Ok-clause-sure g c = λ endless other.
    c.write_last.ensures.sure endless
    (λ e. ends_well c.args.outcome.now other (sym c.end_of-wanted.ensures ∙ e))

pub returns-in-Err-clause-sure : goal.returns-in-Err-clause-sure
returns-in-Err-clause-sure g c = λ endless other.
    c.write_last-in-Err.ensures.sure endless
    (λ e. ends_well c.args.outcome.now other (sym c.end_of-wanted.ensures ∙ e))
