use Rattle.std.proofs.Common.{◌≡◌, ◌∙◌, [], length, sym, ap, rules}
use Rattle.ways_expressway.proofs.ShapeLaws.{ok_map}
use Rattle.day_import.specs.RoundRuns.{given_if}
use Rattle.day_import.proofs.RoundLaws.{all_home}
use Rattle.day_import.proofs.FinishRoundLaws.{some_items}
use Rattle.keep_office.proofs.ListFacts.{no_length}
use Rattle.day_import.specs.Tasks.{out_at}
use Rattle.day_import.proofs.DrawnLaws.{where_some, where_none}
use Rattle.day_import.proofs.TurnLaws.{given_same, given_one, least_waits}
use Rattle.day_import.proofs.TurnedLaws.{tickets_are}
use Rattle.day_import.proofs.turning.give_if_none.Goals as goal

pub returns-then-not-is_empty-clause-given : goal.returns-then-not-is_empty-clause-given
returns-then-not-is_empty-clause-given g c e told answered s h =
    let k = g.C.Crew in
    let some : length c.args.run.now.tickets.items ≡ 0 → ⊥ = search rules in (
      s,
      0,
      given_same c.args.run.now.floor.inboxes.width s,
      h,
      λ before none v k. some_items c.args.run.now.tickets.items ((s.share v).waiting ≡ []) some none,
      where_some (out_at s.share c.args.run.now.floor.inboxes.width) s c.args.worker
          (λ z. some (tickets_are k.out k.number k.holds k.gave k.exact k.jobs k.answers e told answered
          c.args.run.now c.args.crew.now s h ∙ z)),
    )

pub returns-clause-given : goal.returns-clause-given
returns-clause-given g c =
    let k = g.C.Crew in
    let w = c.args.run.now.floor.inboxes.width in
    let worker = c.args.worker in
    let items : c.args.run.now.tickets.items ≡ [] = no_length c.args.run.now.tickets.items (search rules) in
    ok_map c.give_one.result
    (λ given e told answered s h.
    let (m, one) = given_one w s worker c.requires.within in
    let home =
    all_home k.out k.number k.holds k.gave k.exact k.jobs k.answers e told answered c.args.run.now c.args.crew.now s
    h items in (
      given_if s worker,
      m,
      one,
      given e told answered s h,
      λ before none. least_waits s worker
          (home worker c.requires.within) (before items),
      where_none (out_at s.share w) s worker
          (sym (tickets_are k.out k.number k.holds k.gave k.exact k.jobs k.answers e told answered c.args.run.now
          c.args.crew.now s h) ∙ ap length items),
    ))
    c.give_one.ensures.given
