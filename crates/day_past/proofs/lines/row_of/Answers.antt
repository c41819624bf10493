use Rattle.std.proofs.Common.{◌≡◌, ◌∷◌, [], List, ℤ, pos, get_or, to_z, of_z, w64, rules, sym, subst}
use Rattle.road_time.specs.Form.{first_out}
use Rattle.keep_office.specs.PastReads.{past_in_ranges, past_uses}
use Rattle.day_past.specs.Causes.{ReadsRow}
use Rattle.day_past.proofs.LineLaws.{all_four}
use Rattle.day_past.proofs.lines.row_of.Goals as goal

pub returns-clause-reads : goal.returns-clause-reads
returns-clause-reads c =
    let ns = c.args.n.now in
    let base = c.args.base in
    let a = get_or ns 0 (pos 0) in
    let b = get_or ns 1 (pos 0) in
    let d = get_or ns 2 (pos 0) in
    let e = get_or ns 3 (pos 0) in
    let wa : to_z w64 (of_z w64 a) ≡ a = search rules in
    let wb : to_z w64 (of_z w64 b) ≡ b = search rules in
    let wd : to_z w64 (of_z w64 d) ≡ d = search rules in
    let we : to_z w64 (of_z w64 e) ≡ e = search rules in
    let one =
    subst (λ (z : ℤ). ReadsRow
    (past_in_ranges base (z ∷ to_z w64 (of_z w64 b) ∷ to_z w64 (of_z w64 d) ∷ to_z w64 (of_z w64 e) ∷ [])
    (first_out 1 past_uses (z ∷ to_z w64 (of_z w64 b) ∷ to_z w64 (of_z w64 d) ∷ to_z w64 (of_z w64 e) ∷ [])))
    c.row.result) wa c.row.ensures.reads in
    let two =
    subst (λ (z : ℤ). ReadsRow
    (past_in_ranges base (a ∷ z ∷ to_z w64 (of_z w64 d) ∷ to_z w64 (of_z w64 e) ∷ [])
    (first_out 1 past_uses (a ∷ z ∷ to_z w64 (of_z w64 d) ∷ to_z w64 (of_z w64 e) ∷ []))) c.row.result) wb one in
    let three =
    subst (λ (z : ℤ). ReadsRow
    (past_in_ranges base (a ∷ b ∷ z ∷ to_z w64 (of_z w64 e) ∷ [])
    (first_out 1 past_uses (a ∷ b ∷ z ∷ to_z w64 (of_z w64 e) ∷ []))) c.row.result) wd two in
    let four =
    subst (λ (z : ℤ). ReadsRow
    (past_in_ranges base (a ∷ b ∷ d ∷ z ∷ []) (first_out 1 past_uses (a ∷ b ∷ d ∷ z ∷ []))) c.row.result) we
    three in
    subst (λ (zs : List ℤ). ReadsRow (past_in_ranges base zs (first_out 1 past_uses zs)) c.row.result)
    (sym (all_four ns c.told-n)) four
