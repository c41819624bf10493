-- A notice printed number by number is its text.
use Rattle.std.proofs.Common.{◌≡◌, ◌<◌, ◌+◌, ℕ, List, ◌∷◌, ◌++◌, codes, lit<, sym, ap}
use Rattle.std.proofs.lemmas.Fmt.{decimal_digit}
use Rattle.std.specs.Fmt.{decimal, signed_decimal}
use Rattle.road_time.specs.declared.road.Notice.{Notice}
use Rattle.road_time.specs.declared.road.Notice.TheVariants.{Toll, Alert, Balance, Spent}
use Rattle.road_time.specs.Text.{notice_text}

-- a notice as it is printed, number by number
abbrev pub notice_shown : Notice → List ℕ
notice_shown (Toll vid time lav toll) =
    codes "0,"
    ++ (decimal vid
    ++ (codes "," ++ (decimal time ++ (codes "," ++ (signed_decimal lav ++ (codes "," ++ decimal toll))))))
notice_shown (Alert time vid seg) =
    codes "1," ++ (decimal time ++ (codes "," ++ (decimal vid ++ (codes "," ++ decimal seg))))
notice_shown (Balance time qid amount) =
    codes "2," ++ (decimal time ++ (codes "," ++ (decimal qid ++ (codes "," ++ decimal amount))))
notice_shown (Spent time qid amount) =
    codes "3," ++ (decimal time ++ (codes "," ++ (decimal qid ++ (codes "," ++ decimal amount))))

-- the kind before the other fields
kind : (k : ℕ) (rest : List ℕ) → k < 10 → (48 + k) ∷ 44 ∷ rest ≡ decimal k ++ 44 ∷ rest
kind k rest h = ap (λ ds. ds ++ 44 ∷ rest) (sym (decimal_digit k h))

-- that is its text
pub shown : (notice : Notice) → notice_shown notice ≡ notice_text notice
shown (Toll vid time lav toll) =
    kind 0 (decimal vid ++ (44 ∷ (decimal time ++ (44 ∷ (signed_decimal lav ++ (44 ∷ decimal toll)))))) (lit< tt)
shown (Alert time vid seg) = kind 1 (decimal time ++ (44 ∷ (decimal vid ++ (44 ∷ decimal seg)))) (lit< tt)
shown (Balance time qid amount) = kind 2 (decimal time ++ (44 ∷ (decimal qid ++ (44 ∷ decimal amount)))) (lit< tt)
shown (Spent time qid amount) = kind 3 (decimal time ++ (44 ∷ (decimal qid ++ (44 ∷ decimal amount)))) (lit< tt)
