use Rattle.std.proofs.Common.{◌≡◌, ◌∙◌, ◌<◌, min, sym, ap, subst, arith}
use Rattle.keep_office.specs.Office.{last_day, rows_between, IsSound}
use Rattle.keep_office.specs.Calls.{SoundIfTold}
use Rattle.keep_office.proofs.CallLaws.{reads_same, reads_ok}
use Rattle.office_reports.specs.Charges.{sums_of}
use Rattle.office_reports.proofs.SpanLaws.{clipped, none_between}
use Rattle.office_reports.proofs.charged.find_sums.Goals as goal

pub returns-then-from-to-clause-exact : goal.returns-then-from-to-clause-exact
returns-then-from-to-clause-exact g c = λ o told.
    let before = g.K.Keeper.told c.args.keeper.now in
    let after = g.K.Keeper.told c.last_day.new.self in
    let last : c.in-Ok.last ≡ last_day o =
    reads_ok before after c.last_day.result (λ p n. n ≡ last_day p) o c.in-Ok.last c.last_day.ensures.state told
    c.in-Ok.is in
    let same = reads_same before after c.last_day.result (λ p n. n ≡ last_day p) c.last_day.ensures.state ∙ told in
    let sound : IsSound o = subst SoundIfTold same c.last_day.ensures.sound in
    let small : min c.args.to c.in-Ok.last < c.args.from = omega arith in
    let few : min c.args.to (last_day o) < c.args.from = omega (arith, small, last) in
    c.new.ensures.empty
    ∙ sym (ap sums_of (sym (clipped o c.args.from c.args.to sound)
    ∙ none_between o c.args.from (min c.args.to (last_day o)) few))

pub returns-in-Ok-sums_within-clause-exact : goal.returns-in-Ok-sums_within-clause-exact
returns-in-Ok-sums_within-clause-exact g c = λ o told.
    let before = g.K.Keeper.told c.args.keeper.now in
    let after = g.K.Keeper.told c.last_day.new.self in
    let last : c.in-Ok.last ≡ last_day o =
    reads_ok before after c.last_day.result (λ p n. n ≡ last_day p) o c.in-Ok.last c.last_day.ensures.state told
    c.in-Ok.is in
    let same = reads_same before after c.last_day.result (λ p n. n ≡ last_day p) c.last_day.ensures.state ∙ told in
    let sound : IsSound o = subst SoundIfTold same c.last_day.ensures.sound in
    let least : c.min-to.result ≡ min c.args.to (last_day o) = omega (arith, last) in
    c.in-Ok-sums_within.ensures.exact o same sound
    ∙ ap sums_of (ap (rows_between o c.args.from) least ∙ clipped o c.args.from c.args.to sound)
