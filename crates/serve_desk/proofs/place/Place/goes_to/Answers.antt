use Rattle.std.proofs.Common.{◌≤◌, length, ap, subst, arith}
use mathlib.Core.List.{IsPrefix}
use Rattle.serve_desk.proofs.HistoryLaws.{longer}
use Rattle.serve_desk.proofs.place.Place.goes_to.Goals as goal

pub returns : goal.returns
returns g c =
    let both = c.learn.new.self.log in
    let mine = c.args.self.now in
    let theirs = c.args.other.now in
    let this : IsPrefix mine.seen.log both =
    subst (λ l. IsPrefix l both) (ap (λ s. s.log) c.again-both.ensures) c.learn.ensures.2 in
    let long : length mine.seen.log ≤ length theirs.seen.log =
    omega (arith, mine.counted, theirs.counted, c.requires) in
    longer mine.seen.log theirs.seen.log both this c.learn.ensures.3 long
