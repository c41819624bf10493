use Rattle.std.proofs.Common.{◌≡◌, ◌-◌, ◌*◌, ◌+◌, [], ◌∷◌, List, length, arith, sym, ap, ◌∙◌, rules, refl}
use Rattle.road_time.specs.Stops.{stood as defined_stood, has_accident}
use Rattle.road_time.proofs.StoodLaws.{stood_at, stood_never, stood_zero}
use Rattle.road_rules.specs.declared.halts.Halt.{Halt}
use Rattle.road_time.specs.Tuples.{reports}
use Rattle.road_rules.specs.Halts.{halting, halts_of}
use Rattle.road_rules.proofs.AboutLaws.{accident_about}
use Rattle.road_rules.proofs.blocked.stood_by.Goals as goal

none_left : (xs : List Halt) → length xs ≡ 0 → xs ≡ []
none_left [] e = refl
none_left (x ∷ xs) e = absurd (omega arith)

pub returns-then-in_minute-eq0 : goal.returns-then-in_minute-eq0
returns-then-in_minute-eq0 c =
    sym (ap (λ m. defined_stood (halting (halts_of (reports c.args.gathered.now.tuples.now))) m c.args.stretch)
    c.if-in_minute-eq0.true
    ∙ stood_zero (halting (halts_of (reports c.args.gathered.now.tuples.now))) c.args.stretch)

pub returns-then-is_empty : goal.returns-then-is_empty
returns-then-is_empty c =
    let empty : length c.in_ok-some.some.items ≡ 0 = search rules in
    let none : ◌≡◌ {A = List Halt} c.in_ok-some.some.items [] = none_left c.in_ok-some.some.items empty in
    sym (stood_never (halting (halts_of (reports c.args.gathered.now.tuples.now))) c.args.in_minute c.args.stretch
    (omega arith)
    (λ t low high. sym
    (accident_about (halts_of (reports c.args.gathered.now.tuples.now)) (60 * (c.args.in_minute - 1)) t
    c.args.stretch low high)
    ∙ ap (λ hs. has_accident (halting hs t) c.args.stretch) (sym c.in_ok-some.ensures ∙ none)))

pub returns-then-branch : goal.returns-then-branch
returns-then-branch c =
    let t = c.loop-second.second in
    let same : c.as_slice.result.now ≡ c.in_ok-some.some.items = search rules in
    sym (stood_at (halting (halts_of (reports c.args.gathered.now.tuples.now))) c.args.in_minute c.args.stretch t
    (omega arith) (omega arith) (omega arith)
    (sym (accident_about (halts_of (reports c.args.gathered.now.tuples.now)) (60 * (c.args.in_minute - 1)) t
    c.args.stretch (omega arith) (omega arith))
    ∙ ap (λ hs. has_accident (halting hs t) c.args.stretch) (sym c.in_ok-some.ensures ∙ sym same)
    ∙ sym c.in_ok-accident_by.ensures ∙ c.if-branch.true))

pub returns : goal.returns
returns c =
    let end : c.loop-second.second ≡ 60 * (c.args.in_minute - 1) + 60 = omega arith in
    sym (stood_never (halting (halts_of (reports c.args.gathered.now.tuples.now))) c.args.in_minute c.args.stretch
    (omega arith)
    (λ t low high. sym
    (accident_about (halts_of (reports c.args.gathered.now.tuples.now)) (60 * (c.args.in_minute - 1)) t
    c.args.stretch low high) ∙ ap (λ hs. has_accident (halting hs t) c.args.stretch) (sym c.in_ok-some.ensures)
    ∙ c.loop-second.invariant t low (omega arith)))
