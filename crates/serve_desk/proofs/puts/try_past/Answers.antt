use Rattle.std.proofs.Common.{◌≡◌, ◌∙◌, Ok, arith}
use Rattle.keep_office.specs.Office.{last_day}
use Rattle.keep_office.specs.Kept.{HasNoDays, with_past}
use Rattle.keep_office.proofs.CallLaws.{reads_same}
use Rattle.serve_desk.proofs.TryLaws.{told_last, told_nothing, tried}
use Rattle.serve_desk.proofs.puts.try_past.Goals as goal

pub put_past-requires-clause-first : goal.put_past-requires-clause-first
put_past-requires-clause-first g c =
    let after = g.K.Keeper.told c.last_day.new.self in
    let ok : c.last_day.result ≡ Ok c.in_ok-last.last = cc in
    let last =
    told_last (g.K.Keeper.told c.args.keeper.now) after c.last_day.result c.in_ok-last.last c.last_day.ensures.state
    ok in
    told_nothing after c.in_ok-last.last c.last_day.ensures.sound last (omega (arith, c.if-last-gt0.false))

pub returns-clause-tries : goal.returns-clause-tries
returns-clause-tries g c = λ o told.
    let before = g.K.Keeper.told c.args.keeper.now in
    let after = g.K.Keeper.told c.last_day.new.self in
    let ok : c.last_day.result ≡ Ok c.in_ok-last.last = cc in
    let last = told_last before after c.last_day.result c.in_ok-last.last c.last_day.ensures.state ok in
    let none =
    told_nothing after c.in_ok-last.last c.last_day.ensures.sound last (omega (arith, c.if-last-gt0.false)) in
    let same = reads_same before after c.last_day.result (λ p n. n ≡ last_day p) c.last_day.ensures.state in
    tried g.K.Keeper.refuses after (g.K.Keeper.told c.put_past.new.self) c.put_past.result
    (with_past c.args.kept.now c.args.rows.now) o HasNoDays (same ∙ told) none c.put_past.ensures.state
