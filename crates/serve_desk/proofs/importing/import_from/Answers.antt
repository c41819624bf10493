use Rattle.std.proofs.Common.{◌≡◌, subst, ap, ◌∙◌, sym, arith, rules}
use Rattle.road_io.specs.Within.{ReadsWithin}
use Rattle.day_import.specs.Imports.{most_imported}
use Rattle.keep_office.specs.Office.{record_of}
use Rattle.serve_requests.specs.AskedBodies.{body_left, filled}
use Rattle.serve_requests.proofs.AskedBodyLaws.{body_told, none_left}
use Rattle.serve_desk.proofs.ImportLaws.{alone_as, not_answered}
use Rattle.serve_desk.specs.declared.imported.ReadTo.TheVariants.{Open}
use Rattle.serve_desk.proofs.ReadLaws.{few_read, stored_unfailed, unless_whole}
use Rattle.serve_desk.proofs.importing.import_from.Goals as goal

pub returns-clause-imports : goal.returns-clause-imports
returns-clause-imports g c = λ all o was is told posted.
    let starts = body_told c.args.count c.args.early.now all (g.L.Link.left c.args.link.now) (c.requires.bytes ∙ is) in
    let i = c.import-outcome in
    record {
      does = λ exact. i.ensures.does exact _ o starts told;
      publishes = λ exact. i.ensures.published exact _ o was starts told posted;
      puts = i.ensures.puts o told;
      alone = alone_as i.result (λ _. tt) (λ left. ap (λ p. g.P.Publisher.posted p) left.1 ∙ posted) i.ensures.alone;
    }

pub returns-clause-few : goal.returns-clause-few
returns-clause-few g c = λ all o left is told is_open.
    let starts = body_told c.args.count c.args.early.now all (g.L.Link.left c.args.link.now) (c.requires.bytes ∙ is) in
    let b = c.import-outcome.new.source in
    let within = subst (λ l. ReadsWithin (most_imported (record_of o c.args.work.day) c.args.work.limits) l
    (body_left b.left b.early.now (g.L.Link.left b.link.now))) starts (c.import-outcome.ensures.bounded o told) in
    let few = few_read c.args.count b.left _ b.early.now all (g.L.Link.left b.link.now) within in
    let same = c.read_to-read.ensures.rest left is_open in
    omega (arith, few, same)

pub returns-clause-unread : goal.returns-clause-unread
returns-clause-unread g c = λ o told none passed.
    let same = c.import-outcome.ensures.unread o told none passed in
    let ended : c.import-outcome.new.source.link.now ≡ c.link-1.given.0 = search rules in (
      ap (λ l. g.L.Link.left l) (sym ended) ∙ ap (λ b. g.L.Link.left b.link.now) same,
      c.read_to-read.ensures.quiet (ap (λ b. b.faults) same) (ap (λ b. b.cut) same) ∙ ap (λ b. Open b.left) same,
      ap (λ b. b.early.now) same,
    )

pub returns-clause-stored : goal.returns-clause-stored
returns-clause-stored g c = λ all kept is stored.
    let told = body_told c.args.count c.args.early.now all (g.L.Link.left c.args.link.now) (c.requires.bytes ∙ is) in
    let b = c.import-outcome.new.source in
    let sound = stored_unfailed c.import-outcome.result kept stored in
    c.read_to-read.ensures.over (none_left b.left b.early.now (g.L.Link.left b.link.now)
    (c.import-outcome.ensures.whole (filled c.args.count all) kept told stored))
    (c.import-outcome.ensures.source.still sound.0 sound.1)

pub returns-clause-read_first : goal.returns-clause-read_first
returns-clause-read_first g c = λ all is.
    let told = body_told c.args.count c.args.early.now all (g.L.Link.left c.args.link.now) (c.requires.bytes ∙ is) in
    let b = c.import-outcome.new.source in
    unless_whole _ b.left b.faults b.early.now (g.L.Link.left b.link.now) c.read_to-read.result
    (c.import-outcome.ensures.read_first (filled c.args.count all) told) c.read_to-read.ensures.over

pub returns-clause-posted : goal.returns-clause-posted
returns-clause-posted g c = λ kept is.
    let i = c.import-outcome in
    not_answered i.result kept (alone_as i.result (λ _. tt) (λ _. tt) i.ensures.alone) is
