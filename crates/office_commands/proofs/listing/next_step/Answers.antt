use Rattle.std.proofs.Common.{length, sym, subst}
use Rattle.std.proofs.lemmas.Result.{IfOk-weaker}
use Rattle.road_io.specs.Cutter.{ahead, line_of}
use Rattle.office_commands.specs.declared.aside.AsideEntry.{AsideEntry}
use Rattle.office_commands.specs.declared.listing.Step.{Step}
use Rattle.office_commands.specs.Listings.{ListsOn, StepsTo}
use Rattle.office_commands.proofs.listing.next_step.Goals as goal

pub returns-in-Long-clause-exact : goal.returns-in-Long-clause-exact
returns-in-Long-clause-exact g c = λ all h.
    let spot = c.args.spot.now in
    let line = line_of c.args.cutter.now in
    let after = ahead c.args.cutter.now (g.A.Source.left c.args.aside.now) in
    let at = subst (λ (e : AsideEntry). ListsOn all c.args.list.now.items c.args.wanted.now spot.line e line after)
    c.in-Long.is h in
    IfOk-weaker c.long_step.result _ _ (λ s k. subst (λ (t : Step). StepsTo t all c.long_step.new.list.items
    c.args.wanted.now spot.line spot.entry line after) (sym k.0) k.1) (c.long_step.ensures.exact all line after at)

pub returns-in-Long-clause-counts : goal.returns-in-Long-clause-counts
returns-in-Long-clause-counts g c = c.long_step.ensures.counts (length c.args.wanted.now)
