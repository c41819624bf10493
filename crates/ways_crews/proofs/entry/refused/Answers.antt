use Rattle.std.proofs.Common.{◌≡◌, [], refl, sym, subst, rules}
use Rattle.ways_expressway.specs.Results.{IsResultOf}
use Rattle.ways_crews.proofs.entry.refused.Goals as goal

pub returns-clause-of : goal.returns-clause-of
returns-clause-of c =
    let job = c.args.job in
    let none : c.from_vec.result ≡ [] = search rules in
    subst (λ fs. IsResultOf job
    (record { worker = job.worker; number = job.number; carriage = job.carriage; findings = fs; result = _ }))
    (sym none)
    (record {
      back = record { worker = refl; number = refl; tariffs = tt; carried = tt };
      found = tt;
      first =
          λ before ready. (_, refl);
    })
