use Rattle.std.proofs.Common.{◌≡◌, ◌∷◌, [], ◌++◌, rules}
use Rattle.ways_audit.proofs.JobLaws.{one_started}
use Rattle.ways_audit.proofs.starts.start_job.Goals as goal

pub returns-else-is_err-clause-started : goal.returns-else-is_err-clause-started
returns-else-is_err-clause-started g c = λ told todo h.
    let k = g.C.Crew in
    let v = c.start_beside-ticket.ensures in
    let items : c.push_back.new.self.items ≡ c.args.tickets.now.items ++ c.start_beside-ticket.result ∷ [] =
    search rules in
    one_started k.out k.number k.holds k.gave k.jobs told c.args.crew.now c.start_beside-ticket.new.crew
    c.args.tickets.now.items c.push_back.new.self.items todo c.start_beside-ticket.result c.args.job
    c.requires.ready h items v.out v.numbers v.jobs
