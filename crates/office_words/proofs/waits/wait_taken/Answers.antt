use Rattle.std.proofs.Common.{◌∙◌, sym, ap, map, drop, string_bytes}
use Rattle.std.specs.List.{position, remove}
use Rattle.office_words.specs.Waits.{is_met, without}
use Rattle.office_words.proofs.WaitTaken.{unsaid, said_there, seconds_said, left_by, map_remove, twice}
use Rattle.office_words.proofs.waits.wait_taken.Goals as goal

pub returns-in_default-clause-seconds : goal.returns-in_default-clause-seconds
returns-in_default-clause-seconds c =
    let at = c.place_met.ensures.value ∙ ap (λ xs. position (λ word. is_met (string_bytes word)) xs) c.as_slice.ensures.value in
    sym (seconds_said (map string_bytes c.args.words.items) _ (unsaid c.args.words.items _ at c.in_default.is))

pub returns-in_default-clause-words : goal.returns-in_default-clause-words
returns-in_default-clause-words c =
    let at = c.place_met.ensures.value ∙ ap (λ xs. position (λ word. is_met (string_bytes word)) xs) c.as_slice.ensures.value in
    sym (left_by (map string_bytes c.args.words.items) _ (unsaid c.args.words.items _ at c.in_default.is))

pub returns-in_default-from-clause-seconds : goal.returns-in_default-from-clause-seconds
returns-in_default-from-clause-seconds c =
    let at = c.place_met.ensures.value ∙ ap (λ xs. position (λ word. is_met (string_bytes word)) xs) c.as_slice.ensures.value in
    let back = c.split_at.ensures.back ∙ ap (drop c.in-Some.place) c.as_slice-2.ensures.value in
    sym (seconds_said (map string_bytes c.args.words.items) _ (said_there c.args.words.items _ _ _ _ at c.in-Some.is back (sym c.in_default-from.is ∙ c.from.ensures.value)))

pub returns-in_default-from-clause-words : goal.returns-in_default-from-clause-words
returns-in_default-from-clause-words c =
    let at = c.place_met.ensures.value ∙ ap (λ xs. position (λ word. is_met (string_bytes word)) xs) c.as_slice.ensures.value in
    let back = c.split_at.ensures.back ∙ ap (drop c.in-Some.place) c.as_slice-2.ensures.value in
    sym (left_by (map string_bytes c.args.words.items) _ (said_there c.args.words.items _ _ _ _ at c.in-Some.is back (sym c.in_default-from.is ∙ c.from.ensures.value)))

pub returns-then-apart-clause-seconds : goal.returns-then-apart-clause-seconds
returns-then-apart-clause-seconds c =
    let at = c.place_met.ensures.value ∙ ap (λ xs. position (λ word. is_met (string_bytes word)) xs) c.as_slice.ensures.value in
    let back = c.split_at.ensures.back ∙ ap (drop c.in-Some.place) c.as_slice-2.ensures.value in
    sym (seconds_said (map string_bytes c.args.words.items) _ (said_there c.args.words.items _ _ _ _ at c.in-Some.is back (sym c.in-Some-from.is ∙ c.from.ensures.value)))

pub returns-then-apart-clause-words : goal.returns-then-apart-clause-words
returns-then-apart-clause-words c =
    let at = c.place_met.ensures.value ∙ ap (λ xs. position (λ word. is_met (string_bytes word)) xs) c.as_slice.ensures.value in
    let back = c.split_at.ensures.back ∙ ap (drop c.in-Some.place) c.as_slice-2.ensures.value in
    let said = said_there c.args.words.items _ _ _ _ at c.in-Some.is back (sym c.in-Some-from.is ∙ c.from.ensures.value) in
    let texts = map string_bytes c.args.words.items in
    ap (map string_bytes) (c.remove-then-apart.ensures.items ∙ ap (λ xs. remove xs c.in-Some.place) c.remove.ensures.items)
    ∙ twice string_bytes c.args.words.items c.in-Some.place
    ∙ ap (without texts c.in-Some.place) (sym c.if-apart.true)
    ∙ sym (left_by (map string_bytes c.args.words.items) _ said)

pub returns-clause-seconds : goal.returns-clause-seconds
returns-clause-seconds c =
    let at = c.place_met.ensures.value ∙ ap (λ xs. position (λ word. is_met (string_bytes word)) xs) c.as_slice.ensures.value in
    let back = c.split_at.ensures.back ∙ ap (drop c.in-Some.place) c.as_slice-2.ensures.value in
    sym (seconds_said (map string_bytes c.args.words.items) _ (said_there c.args.words.items _ _ _ _ at c.in-Some.is back (sym c.in-Some-from.is ∙ c.from.ensures.value)))

pub returns-clause-words : goal.returns-clause-words
returns-clause-words c =
    let at = c.place_met.ensures.value ∙ ap (λ xs. position (λ word. is_met (string_bytes word)) xs) c.as_slice.ensures.value in
    let back = c.split_at.ensures.back ∙ ap (drop c.in-Some.place) c.as_slice-2.ensures.value in
    let said = said_there c.args.words.items _ _ _ _ at c.in-Some.is back (sym c.in-Some-from.is ∙ c.from.ensures.value) in
    let texts = map string_bytes c.args.words.items in
    ap (map string_bytes) c.remove.ensures.items
    ∙ map_remove string_bytes c.args.words.items c.in-Some.place
    ∙ ap (without texts c.in-Some.place) (sym c.if-apart.false)
    ∙ sym (left_by (map string_bytes c.args.words.items) _ said)
