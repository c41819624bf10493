use Rattle.std.proofs.Common.{◌≡◌, ◌∙◌, ◌≤◌, ◌<◌, ◌+◌, length, rules, sym, ap, arith, true, false}
use Rattle.std.proofs.lemmas.List.{length_push}
use Rattle.ways_audit.specs.Seconds.{still}
use Rattle.office_commands.proofs.SecondLaws.{full_taken, list_passes, list_tells, list_passed}
use Rattle.office_commands.proofs.second.missing.Goals as goal

pub loop-notice-init : goal.loop-notice-init
loop-notice-init c = record { told = λ all rest e. e; few = c.requires.few; more = omega arith }

pub loop-notice-preserved-then-not-take : goal.loop-notice-preserved-then-not-take
loop-notice-preserved-then-not-take c =
    let inv = c.loop-notice.invariant in
    let none : c.take.result ≡ false = search rules in
    let same = c.take.ensures.kept none in
    record {
      told = λ all rest e. list_passes c.args.line c.args.found (still c.loop-notice.coming) c.args.run.now
          c.loop-notice.notice-index _ (search rules) all c.loop-notice.list.items rest (inv.told all rest e)
          (still c.take.new.self) (ap still same) (sym c.take.ensures.found ∙ none);
      few = inv.few;
      more = inv.more;
    }

pub loop-notice-preserved : goal.loop-notice-preserved
loop-notice-preserved c =
    let inv = c.loop-notice.invariant in
    let some : c.take.result ≡ true = search rules in
    let room : length c.loop-notice.list.items < c.args.most = search rules in
    let told = c.in-Ok.ensures.told in
    let size : length c.tell_missing.new.list.items ≡ length c.loop-notice.list.items + 1 =
    ap length told ∙ length_push c.loop-notice.list.items _ in
    record {
      told = λ all rest e. list_tells c.args.line c.args.found (still c.loop-notice.coming) c.args.run.now
          c.loop-notice.notice-index _ (search rules) all c.loop-notice.list.items rest (inv.told all rest e)
          (still c.take.new.self) c.tell_missing.new.list.items (λ i y. c.take.ensures.taken some y i)
          told (sym c.take.ensures.found ∙ some);
      few = omega (arith, room, size);
      more = omega (arith, inv.more, size);
    }

pub returns-then-as_slice-most-clause-exact : goal.returns-then-as_slice-most-clause-exact
returns-then-as_slice-most-clause-exact c = λ all rest e.
    let full : length c.loop-notice.list.items ≡ c.args.most = search rules in
    full_taken c.args.most all c.loop-notice.list.items _ (c.loop-notice.invariant.told all rest e) full

pub returns-clause-exact : goal.returns-clause-exact
returns-clause-exact c = λ all rest e.
    let run = c.args.run.now in
    let past : length run ≤ c.loop-notice.notice-index = search rules in
    list_passed c.args.line c.args.found (still c.loop-notice.coming) run c.loop-notice.notice-index all
    c.loop-notice.list.items rest past (c.loop-notice.invariant.told all rest e)
