use Rattle.std.proofs.Common.{◌≡◌, IfOk, sym, subst, string_bytes}
use Rattle.serve_desk.specs.Streams.{closing_of}
use Rattle.serve_desk.proofs.stream_ends.closing_line.Goals as goal

pub returns-in-Answered : goal.returns-in-Answered
returns-in-Answered c =
    subst (λ o. IfOk c.answered_line.result (λ s. string_bytes s ≡ closing_of c.args.day o)) (sym c.in-Answered.is)
    c.answered_line.ensures

pub returns-in-Refused : goal.returns-in-Refused
returns-in-Refused c =
    subst (λ o. IfOk c.refused_line.result (λ s. string_bytes s ≡ closing_of c.args.day o)) (sym c.in-Refused.is)
    c.refused_line.ensures

pub returns-in-ReadFault : goal.returns-in-ReadFault
returns-in-ReadFault c =
    subst (λ o. IfOk c.read_fault_line.result (λ s. string_bytes s ≡ closing_of c.args.day o)) (sym c.in-ReadFault.is)
    c.read_fault_line.ensures

pub returns-in-KeeperFault : goal.returns-in-KeeperFault
returns-in-KeeperFault c =
    subst (λ o. IfOk c.keeper_fault_line.result (λ s. string_bytes s ≡ closing_of c.args.day o))
    (sym c.in-KeeperFault.is) c.keeper_fault_line.ensures
