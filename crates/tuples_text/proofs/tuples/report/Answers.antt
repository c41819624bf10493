use Rattle.std.proofs.Common.{◌≡◌, ◌<◌, ℕ, get_or, drop, Ok, None, arith, refl, sym, ap, ◌∙◌, lit<}
use Rattle.road_time.specs.Form.{ReportLine, From, Unused, uses_of, first_out, in_ranges, tuple_of}
use Rattle.tuples_text.specs.Causes.{reader_answer}
use Rattle.tuples_text.proofs.UseLaws.{field_below, all_fifteen}
use Rattle.tuples_text.proofs.tuples.report.Goals as goal

pub returns-in-None : goal.returns-in-None
returns-in-None c =
    let ns = c.args.n.now in
    let us = uses_of ReportLine in
    let e : first_out 2 us (drop 1 ns) ≡ None = sym c.first_out.ensures ∙ c.in-None.is in
    let below = λ (k low high : ℕ) (h : k < 14) (is : get_or us k Unused ≡ From low high). field_below us ns k low high
    e refl c.told-n h is in
    let time = c.natural.ensures (omega (arith, below 0 0 86399 (lit< tt) refl)) in
    let vid = c.natural-in-None.ensures (omega (arith, below 1 0 2147483647 (lit< tt) refl)) in
    let spd = c.small.ensures (omega (arith, below 2 0 100 (lit< tt) refl)) in
    let xway = c.small-in-None.ensures (omega (arith, below 3 0 255 (lit< tt) refl)) in
    let lane = c.small-in-None-2.ensures (omega (arith, below 4 0 4 (lit< tt) refl)) in
    let dir = c.small-in-None-3.ensures (omega (arith, below 5 0 1 (lit< tt) refl)) in
    let seg = c.small-in-None-4.ensures (omega (arith, below 6 0 99 (lit< tt) refl)) in
    let at = c.natural-in-None-2.ensures (omega (arith, below 7 0 527999 (lit< tt) refl)) in
    let found = ap (λ o. reader_answer (in_ranges ReportLine (drop 1 ns) o)) e
    ∙ ap (λ xs. reader_answer (Ok (tuple_of ReportLine (drop 1 xs)))) (all_fifteen ns c.told-n) in
    cc
