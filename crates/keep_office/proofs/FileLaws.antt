-- Amounts that are written as a history's file are read as that history.
use Rattle.std.specs.Prelude.{is_none}
use Rattle.std.proofs.Common.{◌≡◌, ℕ, ◌+◌, ◌-◌, ◌*◌, ◌^◌, ◌≤◌, ◌<◌, ◌==◌, ◌&&◌, true, false, Bool, List, [], ◌∷◌, ◌++◌}
use Rattle.std.proofs.Common.{length-append, length, map, refl, sym, ap, subst, ◌∙◌, arith, Some, None, Ok, ℤ, pos, nat_le, nat_lt}
use Rattle.std.specs.List.{AllByRecursion, filter_map, list_any, position_from}
use Rattle.std.specs.declared.cmp.Ordering.TheVariants.{Less}
use Rattle.std.specs.Fmt.{signed_decimal}
use Rattle.std.proofs.lemmas.List.{append_assoc, length-map, map-append}
use Rattle.std.proofs.lemmas.Bool.{and_from, cond-true, cond-false, le-leb, ne_eqb, eq-eqb}
use Rattle.road_time.specs.declared.day.Limits.{Limits}
use Rattle.road_time.specs.declared.day.SpentRow.{SpentRow}
use Rattle.road_time.specs.Lines.{lines_of, without_cr}
use Rattle.road_time.specs.History.{is_row}
use Rattle.road_time.specs.Numbers.{number_of, fields_of_text}
use Rattle.road_time.specs.Form.{Use, From, is_allowed, first_odd, first_out, name}
use Rattle.road_time.proofs.EachLaws as each
use Rattle.road_time.proofs.NumberLaws.{Written, number_back, fields_all, text_bytes, text_length}
use Rattle.road_time.proofs.TextLaws.{numbers_back, line_back}
use Rattle.keep_office.specs.Office.{row_cmp, RowsRise}
use Rattle.keep_office.specs.PastReads.{past_amount, past_in_ranges, past_of_fields, past_form, past_formed, past_amounts}
use Rattle.keep_office.specs.PastReads.{fault_of_past, past_fault, past_at, past_after, past_reads, past_uses, PastReading}
use Rattle.keep_office.proofs.RowOrder.{not_row, less_apart}
use Rattle.keep_office.specs.Renewed.{history_rows, history_line, ended_line, history_text, is_fit, are_fit}
use Rattle.keep_office.specs.RenewalLaws.{FileLaw}
use Rattle.keep_office.proofs.RenewalHistoryLaws.{IsFit, fits, before_below, history_rise}

-- the numbers of a line
abbrev numbers : ℕ → SpentRow → List ℤ
numbers base r = pos r.vid ∷ pos (base - r.day) ∷ pos r.xway ∷ pos r.tolls ∷ []

-- an amount that a line may have
abbrev IsLine : ℕ → SpentRow → Type 0
IsLine base r = IsFit base r × (r.xway ≤ 255)

small : (n : ℕ) → n ≤ 9999999999 → (n < 10 ^ 10) × (n < 2 ^ 64)
small n h = (omega arith, omega arith)

written : (base : ℕ) (r : SpentRow) → IsLine base r → AllByRecursion (Written 10) (numbers base r)
written base r v = (
  small r.vid (omega (arith, v.0.vid)),
  (
    small (base - r.day) (omega (arith, v.0.from)),
    (small r.xway (omega (arith, v.1)), (small r.tolls v.0.few, tt)),
  ),
)

none_odd : (n : ℕ) (zs : List ℤ) → AllByRecursion (Written 10) zs →
    position_from (λ f. is_none (number_of 10 f)) n (map signed_decimal zs) ≡ None
none_odd n [] h = refl
none_odd n (z ∷ zs) h = rw (number_back 10 z (omega arith) h.0, none_odd (n + 1) zs h.1) refl

allowed : (low high n : ℕ) → low ≤ n → n ≤ high → is_allowed (From low high) (pos n) ≡ true
allowed low high n l h = and_from (nat_le low n) (nat_le n high) (le-leb low n l) (le-leb n high h)

in_range : (base : ℕ) (r : SpentRow) → IsLine base r → first_out 1 past_uses (numbers base r) ≡ None
in_range base r v =
    rw (
      allowed 0 2147483647 r.vid (omega arith) v.0.vid,
      allowed 1 69 (base - r.day) (omega (arith, v.0.to)) (omega (arith, v.0.from)),
      allowed 0 255 r.xway (omega arith) v.1,
      allowed 0 9999999999 r.tolls (omega arith) v.0.few,
    ) refl

-- the amount of the numbers
amount_back : (base : ℕ) (r : SpentRow) → IsLine base r → past_amount base (numbers base r) ≡ Some r
amount_back base r v =
    let day : base - (base - r.day) ≡ r.day = omega (arith, v.0.to) in
    ap (λ (d : ℕ). let x : SpentRow = record { day = d; vid = r.vid; xway = r.xway; tolls = r.tolls } in Some x) day

-- a text of four fields is read by its numbers
form_fields : (base : ℕ) (text : List ℕ) → (length (fields_of_text text) == 4) ≡ true →
    past_form base text ≡ past_of_fields base (fields_of_text text) (first_odd (fields_of_text text))
form_fields base [] e = cc
form_fields base (b ∷ bs) e = cond-true (length (fields_of_text (b ∷ bs)) == 4) _ _ e

fields : (base : ℕ) (r : SpentRow) → IsLine base r →
    fields_of_text (history_line base r) ≡ map signed_decimal (numbers base r)
fields base r v = fields_all 10 (numbers base r) (omega arith) (written base r v)

text_form : (base : ℕ) (r : SpentRow) → IsLine base r → past_form base (history_line base r) ≡ Ok (Some r)
text_form base r v =
    let cut = fields base r v in
    let long : length (fields_of_text (history_line base r)) ≡ 4 = ap length cut
    ∙ length-map (numbers base r) signed_decimal in
    form_fields base (history_line base r) (eq-eqb (length (fields_of_text (history_line base r))) 4 long)
    ∙ ap (λ fs. past_of_fields base fs (first_odd fs)) cut
    ∙ ap (past_of_fields base (map signed_decimal (numbers base r))) (none_odd 1 (numbers base r) (written base r v))
    ∙ ap (λ zs. past_in_ranges base zs (first_out 1 past_uses zs))
    (numbers_back 10 (numbers base r) (omega arith) (written base r v))
    ∙ ap (past_in_ranges base (numbers base r)) (in_range base r v) ∙ ap Ok (amount_back base r v)

no_cr : (text : List ℕ) → AllByRecursion (λ c. 44 ≤ c) text → without_cr text ≡ text
no_cr [] h = refl
no_cr (b ∷ []) h = cond-false (b == 13) _ _ (ne_eqb b 13 (λ e. absurd (omega (arith, h.0, e))))
no_cr (b ∷ c ∷ bs) h = ap (λ cs. b ∷ cs) (no_cr (c ∷ bs) h.1)

line_bytes : (base : ℕ) (r : SpentRow) → IsLine base r → AllByRecursion (λ c. 44 ≤ c) (history_line base r)
line_bytes base r v = text_bytes 10 (numbers base r) (written base r v)

line_form : (base : ℕ) (r : SpentRow) → IsLine base r → past_form base (without_cr (history_line base r)) ≡ Ok (Some r)
line_form base r v = ap (past_form base) (no_cr (history_line base r) (line_bytes base r v)) ∙ text_form base r v

-- a line is short
line_short : (base : ℕ) (r : SpentRow) → IsLine base r → length (history_line base r) ≤ 44
line_short base r v = let few = text_length (numbers base r) (written base r v) in omega (arith, few)

-- so is one with its LF, whatever its numbers are
pub ended_short : (base : ℕ) (r : SpentRow) → base < 2 ^ 32 → r.vid < 2 ^ 32 → r.xway < 2 ^ 8 → r.tolls ≤ 9999999999 →
    length (ended_line base r) ≤ 45
ended_short base r a b c d =
    let few = text_length (numbers base r) (
      small r.vid (omega (arith, b)),
      (small (base - r.day) (omega (arith, a)), (small r.xway (omega (arith, c)), (small r.tolls d, tt))),
    ) in omega (arith, few, length-append (history_line base r) (10 ∷ []))

-- the lines of the file
pub lines_back : (base : ℕ) (rows : List SpentRow) → AllByRecursion (IsLine base) rows →
    lines_of (history_text base rows) ≡ map (history_line base) rows
lines_back base [] h = refl
lines_back base (r ∷ rs) h =
    ap lines_of (append_assoc (history_line base r) (10 ∷ []) (history_text base rs))
    ∙ line_back (history_line base r) (history_text base rs) (line_bytes base r h.0)
    ∙ ap (λ ls. history_line base r ∷ ls) (lines_back base rs h.1)

-- the amounts of the lines
amounts_back : (base : ℕ) (rows : List SpentRow) → AllByRecursion (IsLine base) rows →
    past_amounts base (map (history_line base) rows) ≡ rows
amounts_back base [] h = refl
amounts_back base (r ∷ rs) h = rw (line_form base r h.0, amounts_back base rs h.1) refl

-- no amount before one that is above them is of its day, vehicle and expressway
no_twin : (before : List SpentRow) (r : SpentRow) → AllByRecursion (λ b. row_cmp b r ≡ Less) before →
    list_any (is_row r.day r.vid r.xway) before ≡ false
no_twin [] r h = refl
no_twin (b ∷ bs) r h =
    rw (not_row r.day r.vid r.xway b (λ e. less_apart (sym h.0 ∙ e)), no_twin bs r h.1) refl

-- a line is not refused behind those before it
line_passes : (base : ℕ) (limits : Limits) (before : List SpentRow) (r : SpentRow) →
    AllByRecursion (IsLine base) before → IsLine base r → AllByRecursion (λ b. row_cmp b r ≡ Less) before →
    length before < limits.past →
    past_fault base limits (map (history_line base) before) (history_line base r) ≡ None
line_passes base limits before r fit v below few =
    let short = line_short base r v in
    let long : nat_lt 200 (length (history_line base r)) ≡ false = grind (arith, short) in
    let count : length (map (history_line base) before) ≡ length before = length-map before (history_line base) in
    let many : nat_le limits.past (length (map (history_line base) before)) ≡ false = grind (arith, count, few) in
    cond-false (nat_lt 200 (length (history_line base r))) _ _ long
    ∙ cond-false (nat_le limits.past (length (map (history_line base) before))) _ _ many
    ∙ ap (fault_of_past (past_amounts base (map (history_line base) before))) (line_form base r v)
    ∙ cond-false (list_any (is_row r.day r.vid r.xway) (past_amounts base (map (history_line base) before))) _ _
    (ap (list_any (is_row r.day r.vid r.xway)) (amounts_back base before fit) ∙ no_twin before r below)

-- a list and one more, and a list behind it
append_next : (front : List SpentRow) (r : SpentRow) (rest : List SpentRow) →
    (front ++ r ∷ []) ++ rest ≡ front ++ r ∷ rest
append_next [] r rest = refl
append_next (s ∷ ss) r rest = ap (λ l. s ∷ l) (append_next ss r rest)

append_none : (rows : List SpentRow) → rows ++ [] ≡ rows
append_none [] = refl
append_none (r ∷ rs) = ap (λ l. r ∷ l) (append_none rs)

-- what was read
abbrev read : List SpentRow → PastReading
read rows = record { rows = rows; refused = None }

-- the lines behind others are read
all_pass : (base : ℕ) (limits : Limits) (before rest : List SpentRow) → AllByRecursion (IsLine base) before →
    AllByRecursion (IsLine base) rest → RowsRise (before ++ rest) → length before + length rest ≤ limits.past →
    past_after base limits (map (history_line base) before) (map (history_line base) rest) ≡ read (before ++ rest)
all_pass base limits before [] fit none rise few =
    ap read (amounts_back base before fit ∙ sym (append_none before))
all_pass base limits before (r ∷ rs) fit more rise few =
    let lines = map (history_line base) before in
    let passes =
    line_passes base limits before r fit more.0 (before_below before r rs rise) (omega (arith, few)) in
    let next : map (history_line base) (before ++ r ∷ []) ≡ lines ++ history_line base r ∷ [] =
    map-append (history_line base) before (r ∷ []) in
    let join = append_next before r rs in
    let count = length-append before (r ∷ []) in
    ap (λ f. past_at base lines f (past_after base limits (lines ++ history_line base r ∷ [])
    (map (history_line base) rs))) passes
    ∙ ap (λ ls. past_after base limits ls (map (history_line base) rs)) (sym next)
    ∙ all_pass base limits (before ++ r ∷ []) rs (each.joined (IsLine base) before (r ∷ []) fit (more.0, tt)) more.1
    (subst RowsRise (sym join) rise) (omega (arith, count, few)) ∙ ap read join

-- both of each
both : {X : Type 0} (P Q : X → Type 0) (xs : List X) → AllByRecursion P xs → AllByRecursion Q xs →
    AllByRecursion (λ x. P x × Q x) xs
both P Q [] h g = tt
both P Q (x ∷ xs) h g = ((h.0, g.0), both P Q xs h.1 g.1)

pub file_law : FileLaw
file_law base limits o sound fit narrow few =
    let rows = history_rows base o in
    let lines = both (IsFit base) (λ r. r.xway ≤ 255) rows (fits base rows fit).1 narrow in
    ap (past_after base limits []) (lines_back base rows lines)
    ∙ all_pass base limits [] rows tt lines (history_rise base o sound) (omega (arith, few))
