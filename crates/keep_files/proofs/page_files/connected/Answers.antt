use Rattle.std.proofs.Common.{rules, ◌≡◌, Bool, inl, inr, false, subst, refl}
use Rattle.keep_files.proofs.page_files.connected.Goals as goal

-- files that an earlier failure left not to be used
pub returns-then-not-may_be_used-clause-refused : goal.returns-then-not-may_be_used-clause-refused
returns-then-not-may_be_used-clause-refused g c =
    let spent : c.may_be_used.result ≡ false = search rules in
    inl (subst (λ (b : Bool). b ≡ false) c.may_be_used.ensures spent, refl)

-- files that the database refused
pub returns-in-Err-clause-refused : goal.returns-in-Err-clause-refused
returns-in-Err-clause-refused g c =
    inr (record {
      error = c.in-Err.error;
      left = c.in-Err._left;
      fails = c.in-Err.ensures.cause;
      harmless = c.in-Err.ensures.unharmed;
      names = c.cause_of.ensures;
    })

-- files that it opened
pub returns-in-Ok-clause-opened : goal.returns-in-Ok-clause-opened
returns-in-Ok-clause-opened g c = c.in-Ok.ensures.found
