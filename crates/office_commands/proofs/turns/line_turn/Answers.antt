use Rattle.std.proofs.Common.{◌≡◌, ◌∙◌, ◌≤◌, ℕ, Result, IfOk, length, rules, sym, ap, subst, true, false}
use Rattle.road_time.specs.Lines.{without_cr}
use Rattle.road_time.specs.Text.{read_notice}
use Rattle.road_time.specs.declared.road.Notice.{Notice}
use Rattle.day_reading.specs.declared.whole_day.ReadStop.{ReadStop}
use Rattle.road_io.specs.Cutter.{ahead, line_of}
use Rattle.ways_audit.specs.Seconds.{still}
use Rattle.office_commands.specs.declared.turns.Turn.{Turn}
use Rattle.office_commands.specs.declared.turns.Turn.TheVariants.{Came, Stayed, Behind, Ended}
use Rattle.office_commands.specs.Asides.{entry_of, found_as}
use Rattle.office_commands.specs.AnyOrder.{is_later, is_wanted, without_found}
use Rattle.office_commands.specs.Turns.{TurnsTo}
use Rattle.office_commands.proofs.ListingLaws.{named_short, ready_there}
use Rattle.office_commands.proofs.TurnLaws.{turn_behind}
use Rattle.office_commands.proofs.turns.line_turn.Goals as goal

pub returns-then-is_later-clause-exact : goal.returns-then-is_later-clause-exact
returns-then-is_later-clause-exact g c = λ all behind left some h.
    let spot = c.args.spot.now in
    let line = line_of c.args.cutter.now in
    let run = c.args.run.now in
    let brief : length line ≤ 200 = (ready_there _ _ _ c.requires.at_line c.requires.ready).1 in
    let lined : c.line.result.now ≡ line = search rules in
    let named : c.entry_of-found.result ≡ found_as line =
    c.entry_of-found.ensures ∙ ap (λ l. entry_of (read_notice (without_cr l))) lined ∙ named_short line brief in
    let met : c.is_later.result ≡ true = search rules in
    let later : is_later run (found_as line) ≡ true = ap (is_later run) (sym named) ∙ sym c.is_later.ensures ∙ met in
    turn_behind all c.args.list.now.items run behind left (still c.args.coming.now) spot.line some line
    (ahead c.args.cutter.now (g.A.Source.left c.args.aside.now)) spot.entry c.requires.at_line later h

pub returns-then-take_found-clause-exact : goal.returns-then-take_found-clause-exact
returns-then-take_found-clause-exact g c = λ all behind left some h.
    let line = line_of c.args.cutter.now in
    let run = c.args.run.now in
    let coming = still c.args.coming.now in
    let now = c.came_turn.new in
    let listed = c.args.list.now.items in
    let brief : length line ≤ 200 = (ready_there _ _ _ c.requires.at_line c.requires.ready).1 in
    let lined : c.line.result.now ≡ line = search rules in
    let named : c.entry_of-found.result ≡ found_as line =
    c.entry_of-found.ensures ∙ ap (λ l. entry_of (read_notice (without_cr l))) lined ∙ named_short line brief in
    let not_met : c.is_later.result ≡ false = search rules in
    let here : is_later run (found_as line) ≡ false =
    ap (is_later run) (sym named) ∙ sym c.is_later.ensures ∙ not_met in
    let took : c.take_found.result ≡ true = search rules in
    let wanted : is_wanted coming (found_as line) ≡ true =
    ap (is_wanted coming) (sym named) ∙ sym c.take_found.ensures.wanted ∙ took in
    let fewer : still c.take_found.new.coming ≡ without_found coming (found_as line) =
    c.take_found.ensures.taken took ∙ ap (without_found coming) named in
    subst (λ (cm : Notice → ℕ). IfOk c.came_turn.result (λ t. TurnsTo t all listed run behind left cm now.spot.line
    now.spot.entry (line_of now.cutter) (ahead now.cutter (g.A.Source.left now.aside)))) (sym fewer)
    (c.came_turn.ensures.exact all listed run behind left coming some here wanted h)

pub returns-then-take_found-clause-unread : goal.returns-then-take_found-clause-unread
returns-then-take_found-clause-unread g c = λ e.
    let other : Behind ≡ Came = subst (λ (r : Result Turn ReadStop). IfOk r (λ t. t ≡ Came)) e c.came_turn.ensures.came in
    let no : ⊥ = cc in
    absurd no

pub returns-then-take_found-clause-going : goal.returns-then-take_found-clause-going
returns-then-take_found-clause-going g c = λ e.
    let other : Ended ≡ Came = subst (λ (r : Result Turn ReadStop). IfOk r (λ t. t ≡ Came)) e c.came_turn.ensures.came in
    cc

pub returns-clause-exact : goal.returns-clause-exact
returns-clause-exact g c = λ all behind left some h.
    let line = line_of c.args.cutter.now in
    let run = c.args.run.now in
    let coming = still c.args.coming.now in
    let now = c.over_turn.new in
    let not_met : c.is_later.result ≡ false = search rules in
    let here : is_later run c.entry_of-found.result ≡ false = sym c.is_later.ensures ∙ not_met in
    let left_there : c.take_found.result ≡ false = search rules in
    let needless : is_wanted coming c.entry_of-found.result ≡ false =
    sym c.take_found.ensures.wanted ∙ left_there in
    let same : still c.take_found.new.coming ≡ coming = ap still (c.take_found.ensures.kept left_there) in
    subst (λ (cm : Notice → ℕ). IfOk c.over_turn.result (λ t. TurnsTo t all now.list.items run behind left cm
    now.spot.line now.spot.entry (line_of now.cutter) (ahead now.cutter (g.A.Source.left now.aside)))) (sym same)
    (c.over_turn.ensures.exact all run behind left coming some here needless h)

pub returns-clause-unread : goal.returns-clause-unread
returns-clause-unread g c = λ e.
    let other : Behind ≡ Stayed =
    subst (λ (r : Result Turn ReadStop). IfOk r (λ t. t ≡ Stayed)) e c.over_turn.ensures.stayed in
    let no : ⊥ = cc in
    absurd no

pub returns-clause-going : goal.returns-clause-going
returns-clause-going g c = λ e.
    let other : Ended ≡ Stayed =
    subst (λ (r : Result Turn ReadStop). IfOk r (λ t. t ≡ Stayed)) e c.over_turn.ensures.stayed in
    cc
