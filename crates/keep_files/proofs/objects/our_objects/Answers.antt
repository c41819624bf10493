use Rattle.std.proofs.Common.{[], ◌∷◌, sym}
use Rattle.keep_trees.specs.Pages.{listed_key}
use Rattle.keep_files.proofs.objects.our_objects.Goals as goal

-- each is listed as ours is
pub returns : goal.returns
returns c = λ i.
    sym c.table.ensures i ∷ sym c.table-2.ensures i ∷ listed_key ∷ sym c.table-3.ensures i ∷ sym c.table-4.ensures i ∷
    sym c.table-5.ensures i ∷ sym c.table-6.ensures i ∷ []
