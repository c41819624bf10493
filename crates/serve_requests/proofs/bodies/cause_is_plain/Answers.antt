use Rattle.std.proofs.Common.{codes, decimal, ◌++◌, refl, ap, ◌∙◌, sym}
use Rattle.tuples_text.specs.Causes.{cause_text}
use Rattle.serve_requests.specs.Plain.{is_plain}
use Rattle.serve_requests.proofs.bodies.cause_is_plain.Goals as goal

pub returns-in-Many : goal.returns-in-Many
returns-in-Many c = ap (λ cause. is_plain (cause_text cause)) c.in-Many.is ∙ c.is_word.ensures (codes "many ") refl

pub returns-in-Fields : goal.returns-in-Fields
returns-in-Fields c = ap (λ cause. is_plain (cause_text cause)) c.in-Fields.is
    ∙ c.is_word-in-Fields.ensures (codes "fields ") refl

pub returns-in-Number : goal.returns-in-Number
returns-in-Number c = ap (λ cause. is_plain (cause_text cause)) c.in-Number.is
    ∙ ap (λ n. is_plain (codes "number " ++ decimal n)) (sym c.from.ensures)
    ∙ c.is_word-in-Number.ensures (codes "number ") refl

pub returns-in-Range : goal.returns-in-Range
returns-in-Range c = ap (λ cause. is_plain (cause_text cause)) c.in-Range.is
    ∙ ap (λ n. is_plain (codes "range " ++ decimal n)) (sym c.from-in-Range.ensures)
    ∙ c.is_word-in-Range.ensures (codes "range ") refl

pub returns-in-Late : goal.returns-in-Late
returns-in-Late c = ap (λ cause. is_plain (cause_text cause)) c.in-Late.is ∙ c.are_words.ensures (codes "late ") refl

pub returns-in-TooOften : goal.returns-in-TooOften
returns-in-TooOften c = ap (λ cause. is_plain (cause_text cause)) c.in-TooOften.is
    ∙ c.are_words-in-TooOften.ensures (codes "too-often ") refl

pub returns-in-Vehicles : goal.returns-in-Vehicles
returns-in-Vehicles c = ap (λ cause. is_plain (cause_text cause)) c.in-Vehicles.is
    ∙ c.is_word-in-Vehicles.ensures (codes "vehicles ") refl
