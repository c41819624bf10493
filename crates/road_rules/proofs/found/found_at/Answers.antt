use Rattle.std.proofs.Common.{◌≡◌, arith, sym, ap, ◌∙◌, w16, to_z, of_z, rules}
use Rattle.road_time.specs.Rates.{whole_of, tariff_of, toll_of}
use Rattle.road_time.specs.Tuples.{reports}
use Rattle.road_time.specs.Tolls.{toll_at, near_at}
use Rattle.road_time.proofs.LavLaws.{lav_is}
use Rattle.road_time.proofs.PrefixLaws.{toll_same}
use Rattle.road_time.proofs.DayLaws.{finding_parts}
use Rattle.road_time.specs.declared.day.TheConstants.Limits.{DAY}
use Rattle.road_rules.proofs.HaltLaws.{near_halts}
use Rattle.road_rules.proofs.found.found_at.Goals as goal

pub whole-requires : goal.whole-requires
whole-requires c = record {
  small = λ f e. let a =
      lav_is c.args.gathered.now.tuples.now DAY c.requires.fit (omega arith) c.args.in_minute c.args.stretch f
      (sym c.in_ok-average.ensures.lav ∙ e) in (a.0, a.2);
}

pub returns : goal.returns
returns c =
    let day = c.args.gathered.now.tuples.now in
    let near_is : c.in_ok-alert.alert ≡ near_at (reports day) c.args.in_minute c.args.stretch =
    c.in_ok-alert.ensures ∙ near_halts day c.requires.fit.in_order c.args.in_minute c.args.stretch in
    let k = c.args.stretch in
    let lav_is : to_z w16 (of_z w16 c.whole.result) ≡ whole_of c.in_ok-average.average.lav =
    (let same : to_z w16 (of_z w16 c.whole.result) ≡ c.whole.result = search rules in same) ∙ c.whole.ensures in
    let toll_is : c.toll_of.result ≡ toll_at (reports day) c.args.tariffs.now c.args.in_minute k =
    c.toll_of.ensures ∙ ap (λ t. toll_of t c.in_ok-average.average.cars c.in_ok-average.average.lav c.is_some.result)
    c.of.ensures.tariff
    ∙ ap (toll_of (tariff_of c.args.tariffs.now k.xway) c.in_ok-average.average.cars c.in_ok-average.average.lav)
    c.is_some.ensures
    ∙ toll_same (tariff_of c.args.tariffs.now k.xway) c.in_ok-average.ensures.cars c.in_ok-average.ensures.lav
    near_is in
    ap (λ z. record { lav = z; toll = c.toll_of.result; alert = c.in_ok-alert.alert }) lav_is
    ∙ finding_parts c.in_ok-average.ensures.lav toll_is near_is
