use Rattle.std.proofs.Common.{[], ◌∷◌, pos, ap, refl}
use Rattle.tuples_text.proofs.NoticeLaws.{field_before, kind_before, end_at}
use Rattle.tuples_text.proofs.notices.put_short.Goals as goal

pub returns-clause-written : goal.returns-clause-written
returns-clause-written c =
    let none = end_at 96 _ c.args.line.now c.put_byte-at.ensures.written c.told-line in
    let one = field_before _ (pos c.args.c) _ _ [] c.put_field-at.ensures.written refl none in
    let two = field_before _ (pos c.args.b) _ _ (pos c.args.c ∷ []) c.put_field-at-2.ensures.written
    (ap pos c.from.ensures) one in
    let three = field_before _ (pos c.args.a) _ _ (pos c.args.b ∷ pos c.args.c ∷ []) c.put_field-at-3.ensures.written
    (ap pos c.from-2.ensures) two in
    kind_before _ c.args.kind _ _ (pos c.args.a ∷ pos c.args.b ∷ pos c.args.c ∷ []) c.put_byte.ensures.written refl
    c.requires three
