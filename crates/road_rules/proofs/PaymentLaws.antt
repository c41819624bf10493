-- entries that say what the rows of a history say
use Rattle.std.proofs.Common.{◌≡◌, ℕ, ◌==◌, ◌&&◌, Bool, true, false, cond, List, ◌∷◌, Some, refl, ap, ◌∙◌}
use Rattle.std.specs.Option.{unwrap_or}
use Rattle.std.specs.List.{find}
use Rattle.std.specs.Map.{lookup}
use Rattle.road_time.specs.declared.day.SpentRow.{SpentRow}
use Rattle.road_time.specs.History.{is_row, tolls_of, paid}
use Rattle.road_rules.specs.Payments.{same_key, amounts_of}

-- entries have the amounts that rows say
abbrev pub Pays : List ((ℕ × ℕ × ℕ) × ℕ) → List SpentRow → Type 0
Pays entries rows = (day vid xway : ℕ) → amounts_of entries day vid xway ≡ paid rows day vid xway

-- of three, all hold
three : (a b c : Bool) → (a && b) && c ≡ a && (b && c)
three true b c = refl
three false b c = refl

-- with the amount of a row put in, they have those with the row in front
pub pays_more : (es fs : List ((ℕ × ℕ × ℕ) × ℕ)) (r : SpentRow) (rows : List SpentRow) →
    ((q : ℕ × ℕ × ℕ) → lookup (same_key q) fs ≡ cond (same_key (r.day, r.vid, r.xway) q) (Some r.tolls)
    (lookup (same_key q) es)) → Pays es rows → Pays fs (r ∷ rows)
pays_more es fs r rows more had day vid xway =
    ap (λ o. unwrap_or o 0) (more (day, vid, xway))
    ∙ (ap (λ b. unwrap_or (cond b (Some r.tolls) (lookup (same_key (day, vid, xway)) es)) 0)
    (three (r.day == day) (r.vid == vid) (r.xway == xway))
    ∙ pick (is_row day vid xway r))
  where
    pick : (b : Bool) → unwrap_or (cond b (Some r.tolls) (lookup (same_key (day, vid, xway)) es)) 0 ≡ tolls_of
        (cond b (Some r) (find (is_row day vid xway) rows))
    pick true = refl
    pick false = had day vid xway
