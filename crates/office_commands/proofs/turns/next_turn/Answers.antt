use Rattle.std.proofs.Common.{sym, subst}
use Rattle.std.proofs.lemmas.Result.{IfOk-weaker}
use Rattle.road_io.specs.Cutter.{ahead, line_of}
use Rattle.ways_audit.specs.Seconds.{still}
use Rattle.office_commands.specs.declared.aside.AsideEntry.{AsideEntry}
use Rattle.office_commands.specs.declared.turns.Turn.{Turn}
use Rattle.office_commands.specs.Turns.{ListsSecond, TurnsTo}
use Rattle.office_commands.proofs.turns.next_turn.Goals as goal

pub returns-in-Long-clause-exact : goal.returns-in-Long-clause-exact
returns-in-Long-clause-exact g c = λ all behind left some h.
    let spot = c.args.spot.now in
    let line = line_of c.args.cutter.now in
    let after = ahead c.args.cutter.now (g.A.Source.left c.args.aside.now) in
    let run = c.args.run.now in
    let coming = still c.args.coming.now in
    let at = subst (λ (e : AsideEntry). ListsSecond all c.args.list.now.items run behind left coming spot.line e line after)
    c.in-Long.is h in
    IfOk-weaker c.long_turn.result _ _ (λ t k. subst (λ (u : Turn). TurnsTo u all c.long_turn.new.list.items run behind
    left coming spot.line spot.entry line after) (sym k.0) k.1)
    (c.long_turn.ensures.exact all run behind left coming line after some at)
