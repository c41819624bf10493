use Rattle.std.proofs.Common.{◌∙◌, sym}
use Rattle.std.proofs.lemmas.Bool.{and_from}
use Rattle.sqlite_pool.specs.Pool as pool
use Rattle.keep_files.proofs.page_files.folded.Goals as goal

-- pages that are ready and clean are open, so they show what they showed
pub returns-then-is_open-clause-same : goal.returns-then-is_open-clause-same
returns-then-is_open-clause-same g c clean =
    let now = pool.state c.checkpoint.new.self in
    c.checkpoint.ensures.pages
    (now.open_is ∙ and_from now.is_ready now.is_clean (sym c.is_open.ensures ∙ c.if-is_open.true) clean)
