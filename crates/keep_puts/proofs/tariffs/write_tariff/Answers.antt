use Rattle.std.proofs.Common.{◌≡◌, true, false, sym, ◌∙◌, arith}
use Rattle.std.proofs.lemmas.Result.{on_ok_weaker}
use Rattle.road_time.specs.Rates.{benchmark, same_tariff}
use Rattle.keep_puts.proofs.TariffLaws.{tariff_written}
use Rattle.keep_puts.proofs.WriteLaws.{taken_so, given_so}
use Rattle.keep_puts.proofs.tariffs.write_tariff.Goals as goal

pub returns-clause-wrote : goal.returns-clause-wrote
returns-clause-wrote g c clean =
    let own : same_tariff c.args.tariff.now benchmark ≡ false = sym c.eq.ensures ∙ c.if-eq.false in
    on_ok_weaker c.give.result
    (λ gave. tariff_written _ _ _ c.args.xway c.args.tariff.now own
    (c.in_ok-take.ensures.took (omega (arith, c.give.ensures.quiet.clean))) gave)
    (c.give.ensures.gave clean own)

pub returns-then-eq-clause-puts : goal.returns-then-eq-clause-puts
returns-then-eq-clause-puts g c clean =
    let same : same_tariff c.args.tariff.now benchmark ≡ true = sym c.eq.ensures ∙ c.if-eq.true in
    taken_so c.args.xway c.args.tariff.now _ _ same (c.in_ok-take.ensures.edits clean)

pub returns-clause-puts : goal.returns-clause-puts
returns-clause-puts g c clean =
    let own : same_tariff c.args.tariff.now benchmark ≡ false = sym c.eq.ensures ∙ c.if-eq.false in
    on_ok_weaker c.give.result
    (λ gave. given_so c.args.xway c.args.tariff.now _ _ _ own
    (c.in_ok-take.ensures.edits (omega (arith, c.give.ensures.quiet.clean))) gave)
    (c.give.ensures.edits clean)
