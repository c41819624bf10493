use Rattle.std.proofs.Common.{inl, inr, subst}
use Rattle.keep_files.specs.Causes.{IsOfChecking}
use Rattle.keep_files.specs.Files.{AreLeft}
use Rattle.keep_files.specs.Refusals.{IfFailed, IfForeign}
use Rattle.keep_files.proofs.page_files.open_to_read.Goals as goal

-- the whole file is found in what the look for the trees left
pub returns-in-Ok-connected-clause-opened : goal.returns-in-Ok-connected-clause-opened
returns-in-Ok-connected-clause-opened g c =
    let left : _ =
    subst (IfForeign (AreLeft g.D.Disk c.in-Ok-open.files)) c.in-Err-Foreign.field-0-is c.in-Err-Foreign.ensures.left
    in
    (c.in-Ok-open.files, c.in-Ok-open.ensures.opened, (c.in-Err-Foreign.files, left, c.in-Ok-connected.ensures.opened))

-- no number was drawn
pub returns-in-Err-clause-refused : goal.returns-in-Err-clause-refused
returns-in-Err-clause-refused g c = inr (inl c.in-Err.ensures)

-- the disk gave none
pub returns-in-Err-open-clause-refused : goal.returns-in-Err-open-clause-refused
returns-in-Err-open-clause-refused g c = inl c.in-Err-open.ensures.refused

-- what the look left was refused
pub returns-in-Err-connected-clause-refused : goal.returns-in-Err-connected-clause-refused
returns-in-Err-connected-clause-refused g c =
    let left : _ =
    subst (IfForeign (AreLeft g.D.Disk c.in-Ok-open.files)) c.in-Err-Foreign.field-0-is c.in-Err-Foreign.ensures.left
    in
    inr
    (inr (
      c.in-Ok-open.files,
      c.in-Ok-open.ensures.opened,
      inr (c.in-Err-Foreign.files, left, c.in-Err-connected.ensures.refused),
    ))

-- the look failed
pub returns-in-Err-Failed-clause-refused : goal.returns-in-Err-Failed-clause-refused
returns-in-Err-Failed-clause-refused g c =
    inr
    (inr (
      c.in-Ok-open.files,
      c.in-Ok-open.ensures.opened,
      inl (subst (IfFailed IsOfChecking) c.in-Err-Failed.field-0-is c.in-Err-Failed.ensures.failed),
    ))
