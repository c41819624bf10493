-- Laws of the notice that a line may be: where the line is a notice's text, it is that notice.
use Rattle.std.proofs.Common.{◌≡◌, ℕ, ◌^◌, ◌<◌, ◌≤◌, ◌&&◌, true, false, List, [], ◌∷◌, length, map, Option, Some, None}
use Rattle.std.proofs.Common.{FitsSigned, w16, ℤ, pos, negsuc, nat_le, arith, refl, sym, ap, ◌∙◌}
use Rattle.std.specs.Str.{bytes_eq}
use Rattle.std.specs.Int.Signed.{mag}
use Rattle.std.specs.Fmt.{decimal, signed_decimal}
use Rattle.std.proofs.lemmas.List.{length-map}
use Rattle.std.proofs.lemmas.Bool.{and_parts, leb-true, ltb-true, eqb-true, cond-true, false≢true}
use Rattle.std.proofs.lemmas.Slice.Eq.{bytes_eq-Decides}
use Rattle.road_time.specs.declared.road.Notice.{Notice}
use Rattle.road_time.specs.declared.road.Notice.TheVariants.{Toll as TollNotice, Alert as AlertNotice}
use Rattle.road_time.specs.declared.road.Notice.TheVariants.{Balance as BalanceNotice, Spent as SpentNotice}
use Rattle.road_time.specs.Numbers.{fields_of_text}
use Rattle.road_time.specs.Text.{is_lav, is_name, is_time, is_amount, is_notice, notice_numbers, notice_text}
use Rattle.road_time.specs.Text.{read_notice}
use Rattle.road_time.proofs.NumberLaws.{fields_all}
use Rattle.road_time.proofs.NoticeTextLaws.{notice_written, notice_read}
use Rattle.road_time.proofs.EachLaws.{some_is}
use Rattle.tuples_text.specs.Candidates.{IsNatural, IsLav, short_candidate}

-- a notice has four numbers or five
some_numbers : (n : Notice) → (4 ≤ length (notice_numbers n)) × (length (notice_numbers n) ≤ 5)
some_numbers (TollNotice vid time lav toll) = (omega arith, omega arith)
some_numbers (AlertNotice time vid seg) = (omega arith, omega arith)
some_numbers (BalanceNotice time qid amount) = (omega arith, omega arith)
some_numbers (SpentNotice time qid amount) = (omega arith, omega arith)

-- the fields of a notice's text are its numbers
pub notice_fields : (line : List ℕ) (n : Notice) → is_notice n ≡ true → notice_text n ≡ line →
    fields_of_text line ≡ map signed_decimal (notice_numbers n)
notice_fields line n e is =
    let some = some_numbers n in
    ap fields_of_text (sym is) ∙ fields_all 20 (notice_numbers n) (omega (arith, some.0)) (notice_written n e)

-- so it has four fields or five
pub notice_count : (line : List ℕ) (n : Notice) → is_notice n ≡ true → notice_text n ≡ line →
    (4 ≤ length (fields_of_text line)) × (length (fields_of_text line) ≤ 5)
notice_count line n e is =
    let some = some_numbers n in
    let count = ap length (notice_fields line n e is) ∙ length-map (notice_numbers n) signed_decimal in
    (omega (arith, some.0, count), omega (arith, some.1, count))

-- the numbers of a notice have 32 bits
name_small : (n : ℕ) → is_name n ≡ true → n < 2 ^ 32
name_small n e = let h = leb-true n 2147483647 e in omega (arith, h)

-- its Time too
time_small : (n : ℕ) → is_time n ≡ true → n < 2 ^ 32
time_small n e = let h = leb-true n 86399 e in omega (arith, h)

-- and its kind
kind_small : (n : ℕ) → n ≤ 3 → n < 2 ^ 32
kind_small n h = omega (arith, h)

-- equal lists have equal heads and tails
first_is : {X : Type 0} (x y : X) (xs ys : List X) → x ∷ xs ≡ y ∷ ys → (x ≡ y) × (xs ≡ ys)
first_is x y xs ys e = (cc, cc)

-- a line of four fields that is a notice's text is that notice's
pub short_is : (n : Notice) (k a b c : List ℕ) (kind first second third : ℕ) → is_notice n ≡ true →
    map signed_decimal (notice_numbers n) ≡ k ∷ a ∷ b ∷ c ∷ [] →
    IsNatural 32 k kind → IsNatural 32 a first → IsNatural 32 b second → IsNatural 64 c third →
    short_candidate kind first second third ≡ Some n
short_is (TollNotice vid time lav toll) k a b c kind first second third e is hk ha hb hc =
    absurd (omega (arith, ap length is))
short_is (AlertNotice time vid seg) k a b c kind first second third e is hk ha hb hc =
    let p = and_parts (is_time time) (is_name vid && nat_le seg 99) e in
    let q = and_parts (is_name vid) (nat_le seg 99) p.1 in
    let s = leb-true seg 99 q.1 in
    let i = first_is (decimal 1) k _ _ is in
    let j = first_is (decimal time) a _ _ i.1 in
    let l = first_is (decimal vid) b _ _ j.1 in
    let m = first_is (decimal seg) c _ _ l.1 in
    rw (
      hk 1 (kind_small 1 (omega arith)) (sym i.0),
      ha time (time_small time p.0) (sym j.0),
      hb vid
          (name_small vid q.0) (sym l.0),
      hc seg (omega (arith, s)) (sym m.0),
    ) (cond-true (nat_le seg 99) _ _ q.1)
short_is (BalanceNotice time qid amount) k a b c kind first second third e is hk ha hb hc =
    let p = and_parts (is_time time) (is_name qid && is_amount amount) e in
    let q = and_parts (is_name qid) (is_amount amount) p.1 in
    let i = first_is (decimal 2) k _ _ is in
    let j = first_is (decimal time) a _ _ i.1 in
    let l = first_is (decimal qid) b _ _ j.1 in
    let m = first_is (decimal amount) c _ _ l.1 in
    rw (
      hk 2 (kind_small 2 (omega arith)) (sym i.0),
      ha time (time_small time p.0) (sym j.0),
      hb qid
          (name_small qid q.0) (sym l.0),
      hc amount (ltb-true amount (2 ^ 64) q.1) (sym m.0),
    ) refl
short_is (SpentNotice time qid amount) k a b c kind first second third e is hk ha hb hc =
    let p = and_parts (is_time time) (is_name qid && is_amount amount) e in
    let q = and_parts (is_name qid) (is_amount amount) p.1 in
    let i = first_is (decimal 3) k _ _ is in
    let j = first_is (decimal time) a _ _ i.1 in
    let l = first_is (decimal qid) b _ _ j.1 in
    let m = first_is (decimal amount) c _ _ l.1 in
    rw (
      hk 3 (kind_small 3 (omega arith)) (sym i.0),
      ha time (time_small time p.0) (sym j.0),
      hb qid
          (name_small qid q.0) (sym l.0),
      hc amount (ltb-true amount (2 ^ 64) q.1) (sym m.0),
    ) refl

-- and a line of five fields
pub toll_is : (n : Notice) (k a b c d : List ℕ) (ds : List (List ℕ)) (first second fourth : ℕ) (third : ℤ) →
    is_notice n ≡ true → map signed_decimal (notice_numbers n) ≡ k ∷ a ∷ b ∷ c ∷ d ∷ ds →
    IsNatural 32 a first → IsNatural 32 b second → IsLav c third → IsNatural 64 d fourth →
    TollNotice first second third fourth ≡ n
toll_is (AlertNotice time vid seg) k a b c d ds first second fourth third e is ha hb hc hd =
    absurd (omega (arith, ap length is))
toll_is (BalanceNotice time qid amount) k a b c d ds first second fourth third e is ha hb hc hd =
    absurd (omega (arith, ap length is))
toll_is (SpentNotice time qid amount) k a b c d ds first second fourth third e is ha hb hc hd =
    absurd (omega (arith, ap length is))
toll_is (TollNotice vid time lav toll) k a b c d ds first second fourth third e is ha hb hc hd =
    let p = and_parts (is_name vid) (is_time time && (is_lav lav && is_amount toll)) e in
    let q = and_parts (is_time time) (is_lav lav && is_amount toll) p.1 in
    let r = and_parts (is_lav lav) (is_amount toll) q.1 in
    let i = first_is (decimal 0) k _ _ is in
    let j = first_is (decimal vid) a _ _ i.1 in
    let l = first_is (decimal time) b _ _ j.1 in
    let m = first_is (signed_decimal lav) c _ _ l.1 in
    let o = first_is (decimal toll) d _ _ m.1 in
    rw (
      ha vid (name_small vid p.0) (sym j.0),
      hb time (time_small time q.0) (sym l.0),
      hc lav r.0 (sym m.0),
      hd toll
          (ltb-true toll (2 ^ 64) r.1) (sym o.0),
    ) refl

-- an average is a small number
pub lav_small : (z : ℤ) → is_lav z ≡ true → mag z < 2 ^ 63
lav_small (pos n) e = let h = leb-true n 100 e in omega (arith, h)
lav_small (negsuc n) e = let h = eqb-true n 0 e in omega (arith, h)

-- and fits its type
pub lav_fits : (z : ℤ) → is_lav z ≡ true → FitsSigned w16 z
lav_fits (pos n) e = let h = leb-true n 100 e in omega (arith, h)
lav_fits (negsuc n) e = let h = eqb-true n 0 e in omega (arith, h)

-- where no valid notice has the line as its text, none is read
pub none_from : (line : List ℕ) → ((n : Notice) → is_notice n ≡ true → notice_text n ≡ line → ⊥) →
    None ≡ read_notice line
none_from line out = from_option (read_notice line) (λ n e. let h = notice_read line n e in out n h.0 h.1)
  where
    from_option : (o : Option Notice) → ((n : Notice) → o ≡ Some n → ⊥) → None ≡ o
    from_option None out = refl
    from_option (Some n) out = absurd (out n refl)

-- a notice whose test fails is not the one that is valid and has the line as its text
pub not_valid : (n m : Notice) → is_notice n ≡ false → Some n ≡ Some m → is_notice m ≡ true → ⊥
not_valid n m test same is = false≢true (sym test ∙ ap is_notice (some_is n m same) ∙ is)

-- nor is one whose text the line is not
pub not_text : (line : List ℕ) (n m : Notice) → bytes_eq (notice_text n) line ≡ false → Some n ≡ Some m →
    notice_text m ≡ line → ⊥
not_text line n m test same is =
    false≢true (sym test ∙ (bytes_eq-Decides (notice_text n) line).1 (ap notice_text (some_is n m same) ∙ is))
