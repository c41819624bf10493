use Rattle.std.proofs.Common.{◌+◌, ◌++◌, [], take, drop, ap, sym, subst, ◌∙◌, arith}
use Rattle.std.specs.List.{cons_option}
use Rattle.std.specs.Option.{option_map}
use Rattle.std.proofs.lemmas.List.{take_all, take_more, take-append-drop}
use Rattle.ways_expressway.specs.Findings.{shown, findings}
use Rattle.ways_expressway.proofs.RunSteps.{AreRun, none_run, next_ready, one_run, some_first, around, on_refusal}
use Rattle.ways_expressway.proofs.job.run_each.Goals as goal

pub loop-event-init : goal.loop-event-init
loop-event-init c = none_run c.args.carriage.now c.args.found.now.items c.args.events.now c.requires.nothing

pub next-requires : goal.next-requires
next-requires c =
    let es = c.args.events.now in
    let i = c.loop-event.event-index in (
      c.requires.ready.0 ++ take i es,
      next_ready c.args.carriage.now c.loop-event.carriage c.loop-event.found.items es (take i es) _ (drop (i + 1) es)
          (around es i _ c.loop-event-test.true) c.loop-event.invariant c.requires.ready.0 c.requires.ready.1,
    )

pub loop-event-preserved : goal.loop-event-preserved
loop-event-preserved c =
    let es = c.args.events.now in
    let i = c.loop-event.event-index in
    subst (AreRun c.args.carriage.now c.next.new.self c.keep.new.found.items es)
    (sym (take_more es i _ c.loop-event-test.true))
    (one_run c.args.carriage.now c.loop-event.carriage c.next.new.self c.loop-event.found.items c.keep.new.found.items
    es (take i es) _ (drop (i + 1) es) (cons_option (option_map shown c.in_ok-finding.finding) [])
    (around es i _ c.loop-event-test.true) c.loop-event.invariant c.in_ok-finding.ensures.tariffs
    c.in_ok-finding.ensures.carried c.in_ok-finding.ensures.found c.in_ok-keep.ensures.kept)

pub returns-in_err-finding-clause-first : goal.returns-in_err-finding-clause-first
returns-in_err-finding-clause-first c =
    let es = c.args.events.now in
    let i = c.loop-event.event-index in
    on_refusal c.from_residual.result
    (some_first c.args.carriage.now c.loop-event.carriage c.loop-event.found.items es (take i es) (drop i es)
    (sym (take-append-drop i es)) c.loop-event.invariant)

pub returns-in_err-keep-clause-first : goal.returns-in_err-keep-clause-first
returns-in_err-keep-clause-first c =
    let es = c.args.events.now in
    let i = c.loop-event.event-index in
    let kept = subst (λ fs. AreRun c.args.carriage.now c.loop-event.carriage fs es (take i es))
    (sym c.in_err-keep.ensures.refused) c.loop-event.invariant in
    on_refusal c.from_residual-in_err-keep.result
    (some_first c.args.carriage.now c.loop-event.carriage c.keep.new.found.items es (take i es) (drop i es)
    (sym (take-append-drop i es)) kept)

pub returns-clause-found : goal.returns-clause-found
returns-clause-found c = λ before ready.
    let es = c.args.events.now in
    let i = c.loop-event.event-index in
    c.loop-event.invariant.found before ready
    ∙ ap (λ xs. findings before xs c.args.carriage.now.tariffs)
    (take_all i es (omega (arith, c.loop-event-test.false)))
