use Rattle.std.proofs.Common.{rules, ◌≡◌, Bool, inl, inr, false, refl, subst}
use Rattle.keep_files.specs.Causes.{IsOfChecking}
use Rattle.keep_files.specs.Files.{AreLeft}
use Rattle.keep_files.specs.Refusals.{IfFailed, IfForeign}
use Rattle.keep_files.proofs.LeftLaws.{left_alone}
use Rattle.keep_files.proofs.page_files.listed_again.Goals as goal

-- files that an earlier failure left not to be used
pub returns-then-not-may_be_used-clause-lost : goal.returns-then-not-may_be_used-clause-lost
returns-then-not-may_be_used-clause-lost g c =
    let spent : c.may_be_used.result ≡ false = search rules in
    inr
    (inr (
      c.args.files,
      left_alone g.D.Disk g.met.D.Disk.seen_may_stay c.args.files,
      inl (subst (λ (b : Bool). b ≡ false) c.may_be_used.ensures spent, refl),
    ))

-- no number was drawn
pub returns-in-Err-clause-lost : goal.returns-in-Err-clause-lost
returns-in-Err-clause-lost g c = inl c.in-Err.ensures

-- the files are another's
pub returns-in-Err-Foreign-clause-lost : goal.returns-in-Err-Foreign-clause-lost
returns-in-Err-Foreign-clause-lost g c =
    let left : _ =
    subst (IfForeign (AreLeft g.D.Disk c.args.files)) c.in-Err-Foreign.field-0-is c.in-Err-Foreign.ensures.left in
    (c.in-Err-Foreign.files, left)

-- the look failed
pub returns-in-Err-Failed-clause-lost : goal.returns-in-Err-Failed-clause-lost
returns-in-Err-Failed-clause-lost g c =
    inr (inl (subst (IfFailed IsOfChecking) c.in-Err-Failed.field-0-is c.in-Err-Failed.ensures.failed))
