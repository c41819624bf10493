use Rattle.std.proofs.Common.{rules, ◌≡◌, ◌∙◌, ◌<◌, ◌^◌, Some, None, Result, Ok, Err, length, true, false, Bool, cond}
use Rattle.std.proofs.Common.{nat_lt, ℕ, refl, ap, lt-ltb, ltb-true}
use Rattle.std.specs.Char.{is_ascii_digit}
use Rattle.std.specs.List.{list_all}
use Rattle.std.specs.Result.{OkIff, result_ok}
use Rattle.std.specs.Str.Parse.{digits_value}
use Rattle.std.proofs.lemmas.Str.Parse.{IsNumeralModel, numerals_by_value, parse_digits}
use Rattle.office_ends.proofs.words.value_of.Goals as goal

own : IsNumeralModel (λ ds. list_all is_ascii_digit ds ≡ true) (digits_value 10)
own = numerals_by_value _ (search rules)

read : {E : Type 0} (r : Result ℕ E) (n l most : ℕ) → 0 < l → OkIff r ((0 < l) × (n < most)) n →
    result_ok r ≡ cond (nat_lt n most) (Some n) None
read (Ok x) n l most some h = rw (lt-ltb n most h.0.1) (ap (λ y. Some y) h.1)
read (Err e) n l most some h = go (nat_lt n most) refl
  where
    go : (b : Bool) → nat_lt n most ≡ b → None ≡ cond b (Some n) None
    go true e = absurd (h (some, ltb-true n most e))
    go false e = refl

pub returns : goal.returns
returns c =
    c.ok.ensures.value
    ∙ read c.parse.result (digits_value 10 c.args.text.now) (length c.args.text.now) (2 ^ 64) c.requires.some
    (parse_digits own 64 c.args.text.now c.parse.result c.parse.ensures.value.0 c.requires.digits)
