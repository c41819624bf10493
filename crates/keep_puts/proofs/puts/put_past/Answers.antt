use Rattle.std.proofs.Common.{sym, subst, arith}
use Rattle.sqlite_trees.specs.View.{IsClean}
use Rattle.sqlite.proofs.StateLemmas.{clean_if_open}
use Rattle.sqlite.proofs.StreamLemmas.{is_open_now}
use Rattle.keep_office.specs.Kept.{HasNoDays, with_past}
use Rattle.keep_puts.specs.Steps.{IsFreshPast}
use Rattle.keep_puts.specs.Room.{TakesPast, RoomForPast}
use Rattle.keep_puts.proofs.CauseLaws.{commit_err}
use Rattle.keep_puts.proofs.OfficeLaws.{told_so}
use Rattle.keep_puts.specs.Puts.{PutsPast}
use Rattle.keep_puts.proofs.StoreLaws.{finished}
use Rattle.keep_puts.proofs.WriteLaws.{written}
use Rattle.keep_puts.proofs.puts.put_past.Goals as goal

pub returns-clause-stores : goal.returns-clause-stores
returns-clause-stores g c =
    let written = c.write_past.new.store in
    finished g.S.Store (RoomForPast c.args.rows.now) HasNoDays
    (with_past c.args.kept.now c.args.rows.now)
    c.args.store.now c.begin.new.store written c.finish.new.store c.in_ok-done.done c.finish.result
    (λ clean. (c.in_ok-begin.ensures.settled clean).1) c.begin.ensures.stays c.begin.ensures.quiet.outcomes
    (λ clean. omega (arith, c.write_past.ensures.quiet.clean)) c.in_ok-done.ensures.wrote
    c.in_ok-done.ensures.frame c.write_past.ensures.quiet.outcomes
    (λ sound. clean_if_open (g.S.Store.view written) (g.met.S.Store.shut_if_dirty written)
    (is_open_now g.S.Store written (g.met.S.Store.broken_if_shut written) sound))
    (λ clean. omega (arith, c.finish.ensures.clean)) c.finish.ensures.same c.finish.ensures.commits
    c.finish.ensures.stays c.finish.ensures.crash
    (λ late room.
    let early : IsClean (g.S.Store.view c.begin.new.store) = omega (arith, late, c.write_past.ensures.quiet.clean) in
    c.in_ok-done.ensures.room late
    (subst (TakesPast c.args.rows.now) (sym (c.in_ok-begin.ensures.settled early).1) room.takes))
    (λ clean.
    let late : IsClean (g.S.Store.view written) = omega (arith, clean, c.finish.ensures.clean) in
    let early : IsClean (g.S.Store.view c.begin.new.store) = omega (arith, late, c.write_past.ensures.quiet.clean) in
    commit_err g.S.Store c.finish.result c.args.store.now c.begin.new.store written c.finish.new.store
    c.begin.ensures.quiet.counts c.write_past.ensures.quiet.counts (c.in_ok-begin.ensures.sound early)
    (c.in_ok-done.ensures.frame late) (c.finish.ensures.why clean))

pub returns-clause-fresh : goal.returns-clause-fresh
returns-clause-fresh g c clean =
    let mid = g.S.Store.view c.write_past.new.store in
    let late : IsClean mid = omega (arith, c.finish.ensures.clean) in
    let early : IsClean (g.S.Store.view c.begin.new.store) = omega (arith, late, c.write_past.ensures.quiet.clean) in
    told_so c.finish.result c.in_ok-done.done _ _ c.finish.ensures.same (c.in_ok-done.ensures.fresh late)
    (subst (IsFreshPast c.args.rows.now) (c.in_ok-begin.ensures.settled early).1)

pub returns-clause-writes : goal.returns-clause-writes
returns-clause-writes g c =
    let written_now = c.write_past.new.store in
    written g.S.Store (PutsPast c.args.kept.now c.args.rows.now) c.args.store.now c.begin.new.store written_now c.finish.new.store c.in_ok-done.done c.finish.result
    (λ clean. (c.in_ok-begin.ensures.settled clean).1) c.begin.ensures.quiet.outcomes
    (λ clean. omega (arith, c.write_past.ensures.quiet.clean)) c.in_ok-done.ensures.puts
    c.write_past.ensures.quiet.outcomes
    (λ sound. clean_if_open (g.S.Store.view written_now) (g.met.S.Store.shut_if_dirty written_now)
    (is_open_now g.S.Store written_now (g.met.S.Store.broken_if_shut written_now) sound))
    (λ clean. omega (arith, c.finish.ensures.clean)) c.finish.ensures.same c.finish.ensures.commits
    c.finish.ensures.crash
