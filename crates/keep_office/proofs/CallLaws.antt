-- What a keeper's calls that read leave.
use Rattle.std.proofs.Common.{◌≡◌, Option, Some, None, Result, Ok, Err, IfOk, ap, sym, subst, ◌∙◌}
use Rattle.keep_office.specs.declared.kept.KeepFault.{KeepFault}
use Rattle.keep_office.specs.Office.{Office}
use Rattle.keep_office.specs.Calls.{Reads}

-- a call that reads leaves what is told
pub reads_same : {T : Type 0} (before after : Option Office) (r : Result T KeepFault) (P : Office → T → Type 0) →
    Reads before after r P → after ≡ before
reads_same None after r P h = h
reads_same (Some o) None r P h = absurd h
reads_same (Some o) (Some p) r P h = ap Some h.0

-- what an exact answer says of the office that is told
pub reads_ok : {T : Type 0} (before after : Option Office) (r : Result T KeepFault) (P : Office → T → Type 0)
    (o : Office) (x : T) → Reads before after r P → before ≡ Some o → r ≡ Ok x → P o x
reads_ok None after r P o x h e f = let bad : ⊥ = cc in absurd bad
reads_ok (Some p) None r P o x h e f = absurd h
reads_ok (Some p) (Some q) (Ok y) P o x h e f = let same : p ≡ o = cc in let value : y ≡ x = cc in
    subst (λ z. P o z) value (subst (λ s. P s y) same h.1)
reads_ok (Some p) (Some q) (Err k) P o x h e f = let bad : ⊥ = cc in absurd bad

-- the same of an answer that is not looked at yet
pub reads_if_ok : {T : Type 0} (before after : Option Office) (r : Result T KeepFault) (P : Office → T → Type 0)
    (o : Office) → Reads before after r P → before ≡ Some o → IfOk r (λ x. P o x)
reads_if_ok None after r P o h e = let bad : ⊥ = cc in absurd bad
reads_if_ok (Some p) None r P o h e = absurd h
reads_if_ok (Some p) (Some q) r P o h e = let same : p ≡ o = cc in subst (λ s. IfOk r (λ x. P s x)) same h.1
