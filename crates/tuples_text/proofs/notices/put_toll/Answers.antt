use Rattle.std.proofs.Common.{◌≡◌, [], ◌∷◌, pos, ap, refl, lit<, to_z, of_z, w16, rules}
use Rattle.tuples_text.proofs.NoticeLaws.{field_before, kind_before, end_at}
use Rattle.tuples_text.proofs.notices.put_toll.Goals as goal

pub returns-clause-written : goal.returns-clause-written
returns-clause-written c =
    let none = end_at 96 _ c.args.line.now c.put_byte-at.ensures.written c.told-line in
    let one = field_before _ (pos c.args.toll) _ _ [] c.put_field-at.ensures.written refl none in
    let whole : to_z w16 (of_z w16 c.args.lav) ≡ c.args.lav = search rules in
    let two = field_before _ c.args.lav _ _ (pos c.args.toll ∷ []) c.put_signed-at.ensures.written whole one in
    let three =
    field_before _ (pos c.args.time) _ _ (c.args.lav ∷ pos c.args.toll ∷ []) c.put_field-at-2.ensures.written
    (ap pos c.from.ensures) two in
    let four =
    field_before _ (pos c.args.vid) _ _ (pos c.args.time ∷ c.args.lav ∷ pos c.args.toll ∷ [])
    c.put_field-at-3.ensures.written (ap pos c.from-2.ensures) three in
    kind_before _ 0 _ _ (pos c.args.vid ∷ pos c.args.time ∷ c.args.lav ∷ pos c.args.toll ∷ [])
    c.put_byte.ensures.written refl (lit< tt) four
