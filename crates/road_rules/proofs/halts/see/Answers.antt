use Rattle.std.proofs.Common.{◌≡◌, nat_eq, rules, sym, ◌∙◌}
use Rattle.std.specs.HashMap.{get}
use Rattle.road_time.proofs.RunLaws.{run_stands}
use Rattle.road_rules.proofs.halts.see.Goals as goal

pub returns-clause-stands : goal.returns-clause-stands
returns-clause-stands c = λ own e.
    let last : c.copied.result ≡ get nat_eq c.args.seen.now c.args.r.now.vid = search rules in
    run_stands own c.args.r.now c.next-now.result
    (c.next-now.ensures own c.args.r.now (e ∙ sym last) (sym c.place.ensures))
