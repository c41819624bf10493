-- How the steps of a put make of trees what the put does.
use Rattle.std.proofs.Common.{◌≡◌, ◌⊎◌, inl, inr, ℕ, pos, Bool, true, false, Result, Ok, Err, IfOk, List, sym, ap, subst}
use Rattle.std.proofs.Common.{subst₂, ◌∙◌}
use Rattle.sqlite_value.specs.Order.{Row}
use Rattle.sqlite_trees.specs.declared.error.StoreError.{StoreError}
use Rattle.sqlite_trees.specs.declared.store.Store.{Ghosts}
use Rattle.sqlite_trees.specs.Tree.{Trees, put_row, without_rowid}
use Rattle.sqlite_trees.specs.View.{View, IsClean, SetsTree}
use Rattle.road_time.specs.declared.tariff.Tariff.{Tariff}
use Rattle.road_time.specs.Rates.{benchmark, same_tariff}
use Rattle.keep_tables.specs.Codec.{tariff_row}
use Rattle.keep_puts.specs.Steps.{IfDone}
use Rattle.keep_puts.specs.Stores.{IsNotDone}
use Rattle.keep_puts.specs.Puts.{Edits, rows_with, Writes}
use Rattle.keep_puts.proofs.TreeLaws.{with_same, with_other}

-- a put that was not done wrote nothing
pub unwritten : {S : Type 0} (g : Ghosts S) (makes : Trees → Trees → Type 0) (old new : S) (r : Result Bool StoreError)
    → IsNotDone r → ((db : Trees) → g.recovers new db → g.recovers old db) → Writes g makes old new r
unwritten g makes old new r none outcomes =
    record { done = λ clean. nothing r none; crash = λ db found. inr (outcomes db found) }
  where
    nothing : (x : Result Bool StoreError) → IsNotDone x →
        IfOk x (λ done. IfDone done (makes (g.view old).committed (g.view new).committed))
    nothing (Ok true) bad = absurd bad
    nothing (Ok false) bad = tt
    nothing (Err e) bad = tt

-- what was written is what is committed
written_so : (makes : Trees → Trees → Type 0) (was old now new : Trees) (done : Bool) (r : Result Bool StoreError)
    → old ≡ was → IfDone done (makes old now) → IfOk r (λ is. is ≡ done) → IfOk r (λ is. IfDone is (new ≡ now))
    → IfOk r (λ is. IfDone is (makes was new))
written_so makes was old now new done (Ok true) p wrote same q =
    subst₂ makes p (sym q) (subst (λ b. IfDone b (makes old now)) (sym same) wrote)
written_so makes was old now new done (Ok false) p wrote same q = tt
written_so makes was old now new done (Err e) p wrote same q = tt

-- a put that was begun, written and committed wrote what its steps made of the trees
pub written : {S : Type 0} (g : Ghosts S) (makes : Trees → Trees → Type 0) (a b c d : S) (done : Bool)
    (r : Result Bool StoreError)
    → (IsClean (g.view b) → (g.view b).trees ≡ (g.view a).committed)
    → ((db : Trees) → g.recovers b db → g.recovers a db)
    → (IsClean (g.view c) → IsClean (g.view b))
    → (IsClean (g.view c) → IfDone done (makes (g.view b).trees (g.view c).trees))
    → ((db : Trees) → g.recovers c db → g.recovers b db)
    → ((g.view c).is_broken ≡ false → IsClean (g.view c))
    → (IsClean (g.view d) → IsClean (g.view c))
    → IfOk r (λ is. is ≡ done)
    → (IsClean (g.view d) → IfOk r (λ is. IfDone is ((g.view d).committed ≡ (g.view c).trees)))
    → ((db : Trees) → g.recovers d db → (((g.view c).is_broken ≡ false) × (db ≡ (g.view c).trees) × (done ≡ true))
    ⊎ g.recovers c db)
    → Writes g makes a d r
written g makes a b c d done r settled quiet clean_b wrote quieter sound clean_c same commits crash =
    record {
      done = λ clean.
          let in_c = clean_c clean in
          written_so makes (g.view a).committed (g.view b).trees (g.view c).trees (g.view d).committed done r
          (settled (clean_b in_c)) (wrote in_c) same (commits clean);
      crash = λ db found. elim (crash db found) [
        | inl now ↦
            let in_c = sound now.0 in
            inl (subst₂ makes (settled (clean_b in_c)) (sym now.1)
            (subst (λ is. IfDone is (makes (g.view b).trees (g.view c).trees)) now.2 (wrote in_c)))
        | inr before ↦ inr (quiet db (quieter db before))
      ];
    }

-- a tree that a store set is edited
pub edits : (old new : View) (tree : ℕ) (edit : List Row → List Row) → SetsTree old new tree edit
    → Edits tree edit old.trees new.trees
edits old new tree edit sets =
    let at = λ (t : ℕ). let e : new.trees t ≡ _ = ap (λ (v : View). v.trees t) sets.is in e in
    record {
      rows = at tree ∙ with_same old.trees tree _;
      others = λ t apart. at t ∙ with_other old.trees tree _ t apart;
    }

module _ (xway : ℕ) (t : Tariff) where
  -- the benchmark's tariff takes the expressway's own away
  pub taken_so : (old new : Trees) → same_tariff t benchmark ≡ true → Edits 5 (without_rowid (pos xway)) old new
      → Edits 5 (rows_with xway t) old new
  taken_so old new same took = record { rows = rw same took.rows; others = took.others }

  -- another one is put then
  pub given_so : (old mid new : Trees) → same_tariff t benchmark ≡ false
      → Edits 5 (without_rowid (pos xway)) old mid → Edits 5 (put_row (tariff_row (xway, t))) mid new
      → Edits 5 (rows_with xway t) old new
  given_so old mid new own took gave = record {
    rows = rw own (gave.rows ∙ ap (put_row (tariff_row (xway, t))) took.rows);
    others = λ n apart. gave.others n apart ∙ took.others n apart;
  }
