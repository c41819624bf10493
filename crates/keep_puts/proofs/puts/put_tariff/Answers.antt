use Rattle.std.proofs.Common.{true, refl, arith}
use Rattle.sqlite_trees.specs.View.{IsClean}
use Rattle.sqlite.proofs.StateLemmas.{clean_if_open}
use Rattle.sqlite.proofs.StreamLemmas.{is_open_now}
use Rattle.keep_office.specs.Kept.{with_tariff_of}
use Rattle.keep_tables.specs.Steps.{FitsAny}
use Rattle.keep_puts.specs.Room.{RoomForTariff}
use Rattle.keep_puts.proofs.CauseLaws.{commit_err}
use Rattle.keep_puts.specs.Puts.{PutsTariff}
use Rattle.keep_puts.proofs.StoreLaws.{finished}
use Rattle.keep_puts.proofs.WriteLaws.{written}
use Rattle.keep_puts.proofs.puts.put_tariff.Goals as goal

pub returns-clause-stores : goal.returns-clause-stores
returns-clause-stores g c =
    let written = c.write_tariff.new.store in
    finished g.S.Store RoomForTariff FitsAny (with_tariff_of c.args.xway c.args.tariff.now) c.args.store.now
    c.begin.new.store written
    c.finish.new.store true c.finish.result (λ clean. (c.in_ok-begin.ensures.settled clean).1) c.begin.ensures.stays
    c.begin.ensures.quiet.outcomes (λ clean. omega (arith, c.write_tariff.ensures.quiet.clean))
    c.in_ok-write_tariff.ensures.wrote c.in_ok-write_tariff.ensures.frame c.write_tariff.ensures.quiet.outcomes
    (λ sound. clean_if_open (g.S.Store.view written) (g.met.S.Store.shut_if_dirty written)
    (is_open_now g.S.Store written (g.met.S.Store.broken_if_shut written) sound))
    (λ clean. omega (arith, c.finish.ensures.clean)) c.finish.ensures.same c.finish.ensures.commits
    c.finish.ensures.stays c.finish.ensures.crash (λ late room. refl)
    (λ clean.
    let late : IsClean (g.S.Store.view written) = omega (arith, clean, c.finish.ensures.clean) in
    let early : IsClean (g.S.Store.view c.begin.new.store) = omega (arith, late, c.write_tariff.ensures.quiet.clean) in
    commit_err g.S.Store c.finish.result c.args.store.now c.begin.new.store written c.finish.new.store
    c.begin.ensures.quiet.counts c.write_tariff.ensures.quiet.counts (c.in_ok-begin.ensures.sound early)
    (c.in_ok-write_tariff.ensures.frame late) (c.finish.ensures.why clean))

pub returns-clause-writes : goal.returns-clause-writes
returns-clause-writes g c =
    let written_now = c.write_tariff.new.store in
    written g.S.Store (PutsTariff c.args.xway c.args.tariff.now) c.args.store.now c.begin.new.store written_now c.finish.new.store true c.finish.result
    (λ clean. (c.in_ok-begin.ensures.settled clean).1) c.begin.ensures.quiet.outcomes
    (λ clean. omega (arith, c.write_tariff.ensures.quiet.clean)) c.in_ok-write_tariff.ensures.puts
    c.write_tariff.ensures.quiet.outcomes
    (λ sound. clean_if_open (g.S.Store.view written_now) (g.met.S.Store.shut_if_dirty written_now)
    (is_open_now g.S.Store written_now (g.met.S.Store.broken_if_shut written_now) sound))
    (λ clean. omega (arith, c.finish.ensures.clean)) c.finish.ensures.same c.finish.ensures.commits
    c.finish.ensures.crash
