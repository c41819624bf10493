use Rattle.std.proofs.Common.{sym, ◌∙◌}
use Rattle.sqlite_store.specs.Catalog.{describes, is_about}
use Rattle.keep_trees.proofs.listing.is_table.Goals as goal

pub returns : goal.returns
unfolding describes is_about
returns c h =
    rw (
      sym c.is_text.ensures ∙ c.if-not-is_text.false,
      sym c.is_text-2.ensures ∙ c.if-not-is_text-2.false,
      sym c.is_text-3.ensures ∙ c.if-not-is_text-3.false,
    ) (sym c.is_text-4.ensures ∙ h)
