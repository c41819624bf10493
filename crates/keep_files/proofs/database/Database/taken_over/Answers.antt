use Rattle.keep_files.specs.Openings.{AsTrees}
use Rattle.keep_files.specs.Origins.{by_taking_out, of_store}
use Rattle.keep_files.proofs.database.Database.taken_over.Goals as goal

-- the trees are those of the file of the connection's store
pub returns-in-Ok-clause-ready : goal.returns-in-Ok-clause-ready
returns-in-Ok-clause-ready g c = (
  c.in-Ok.ensures.found,
  of_store c.into_store.result (AsTrees c.in-Ok.trees)
      (by_taking_out c.args.conn c.into_store.result c.requires
      (record { undone = c.into_store.ensures.undone; quiet = c.into_store.ensures.quiet }))
      c.in-Ok.ensures.opened,
)
