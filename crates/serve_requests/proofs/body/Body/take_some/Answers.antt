use Rattle.std.proofs.Common.{◌≡◌, ◌-◌, ◌≤◌, ◌++◌, length, take, drop, subst, sym, ap, ◌∙◌, arith}
use Rattle.std.specs.Io.KnownBytes.{Consumes, IsAtEnd}
use Rattle.std.proofs.lemmas.List.{take_all, take-append-le, take-take, length-drop, length-take-le}
use Rattle.std.proofs.lemmas.Bool.{eqb-false}
use Rattle.serve_requests.specs.AskedBodies.{body_left, IsBehind}
use Rattle.serve_requests.proofs.AskedBodyLaws.{behind_kept, behind_read, behind_early, sure_on, not_sure}
use Rattle.serve_requests.proofs.FrontLaws.{keeps_none}
use Rattle.serve_requests.proofs.AskedBodyLaws.{takes_link, takes_early, empty, rose_from}
use Rattle.serve_requests.proofs.body.Body.take_some.Goals as goal

pub invariant_of-self-in-Ok-eq0-clause-behind : goal.invariant_of-self-in-Ok-eq0-clause-behind
invariant_of-self-in-Ok-eq0-clause-behind g c =
    let none =
    subst (λ n. Consumes (g.L.Link.left c.args.self.now.link.now) (g.L.Link.left c.read.new.self)
    (take n c.read.new.buf)) c.in-Ok-eq0.field-0-test c.in-Ok-eq0.ensures.bytes.0 in
    behind_kept _ _ _ _ _ c.args.self.now.behind (keeps_none _ _ none)

pub invariant_of-self-in-Ok-eq0-clause-sure : goal.invariant_of-self-in-Ok-eq0-clause-sure
invariant_of-self-in-Ok-eq0-clause-sure g c = λ never. sure_on _ _ _ c.read.ensures.planned (c.args.self.now.sure never)

pub invariant_of-self-in-Ok-eq0-clause-cut_off : goal.invariant_of-self-in-Ok-eq0-clause-cut_off
invariant_of-self-in-Ok-eq0-clause-cut_off g c = λ _. (
  omega (arith, c.if-room-eq0.false, c.min-room.ensures),
  empty _ c.if-is_empty.ensures,
  λ all is. subst IsAtEnd is
      (c.in-Ok-eq0.ensures.bytes.1 c.in-Ok-eq0.field-0-test
      (omega (
        arith,
        c.if-room-eq0.false,
        c.min-room.ensures,
        c.read.auto.buf,
        length-take-le c.min-room.result
            c.args.buf.now (omega (arith, c.min-room.ensures)),
      ))),
)

pub invariant_of-self-in-Ok-clause-behind : goal.invariant_of-self-in-Ok-clause-behind
invariant_of-self-in-Ok-clause-behind g c =
    let s = c.args.self.now in
    let n = c.in-Ok.count in
    let em = empty _ c.if-is_empty.ensures in
    let before =
    subst (λ e. IsBehind (g.N.Start.total - s.left) g.N.Start.bytes e (g.L.Link.left s.link.now)) em s.behind in
    let few : n ≤ s.left =
    omega (
      arith,
      c.in-Ok.ensures.bound.0,
      c.min-room.ensures,
      c.read.auto.buf,
      length-take-le c.min-room.result
          c.args.buf.now (omega (arith, c.min-room.ensures)),
    ) in
    subst (λ e. IsBehind (g.N.Start.total - (s.left - n)) g.N.Start.bytes e (g.L.Link.left c.read.new.self)) (sym em)
    (behind_read (g.N.Start.total - s.left) n _ g.N.Start.bytes (take n c.read.new.buf) _ _ before
    c.in-Ok.ensures.bytes.0 (sym c.in-Ok.ensures.bound.1) (omega (arith, few, s.inside)))

pub invariant_of-self-in-Ok-clause-sure : goal.invariant_of-self-in-Ok-clause-sure
invariant_of-self-in-Ok-clause-sure g c = λ never. sure_on _ _ _ c.read.ensures.planned (c.args.self.now.sure never)

pub invariant_of-self-in-Err-clause-behind : goal.invariant_of-self-in-Err-clause-behind
invariant_of-self-in-Err-clause-behind g c = behind_kept _ _ _ _ _ c.args.self.now.behind c.in-Err.ensures.bytes

pub invariant_of-self-in-Err-clause-sure : goal.invariant_of-self-in-Err-clause-sure
invariant_of-self-in-Err-clause-sure g c = λ never. sure_on _ _ _ c.read.ensures.planned (c.args.self.now.sure never)

pub invariant_of-self-in-Err-clause-causes : goal.invariant_of-self-in-Err-clause-causes
invariant_of-self-in-Err-clause-causes g c = λ some off. (
  rose_from _ _ _ c.args.self.now.later c.in-Err.ensures.cause.failed,
  λ never. not_sure _ _ _ c.in-Err.failed c.in-Err.ensures.planned (c.args.self.now.sure never),
)

pub invariant_of-self-else-is_empty-clause-behind : goal.invariant_of-self-else-is_empty-clause-behind
invariant_of-self-else-is_empty-clause-behind g c =
    let s = c.args.self.now in
    let n = c.min-count.result in
    let le : n ≤ length s.early.now = omega (arith, c.min-count.ensures) in
    let rest = take_all (length s.early.now - n) (drop n s.early.now) (omega (arith, length-drop n s.early.now)) in
    behind_early (g.N.Start.total - s.left) n _ g.N.Start.bytes s.early.now _ (g.L.Link.left s.link.now) s.behind le
    rest (omega (arith, le, s.few, s.inside))

pub returns-in-Ok-clause-bytes : goal.returns-in-Ok-clause-bytes
returns-in-Ok-clause-bytes g c =
    let s = c.args.self.now in
    let n = c.in-Ok.count in
    let em = empty _ c.if-is_empty.ensures in
    let few : n ≤ s.left =
    omega (
      arith,
      c.in-Ok.ensures.bound.0,
      c.min-room.ensures,
      c.read.auto.buf,
      length-take-le c.min-room.result
          c.args.buf.now (omega (arith, c.min-room.ensures)),
    ) in
    let front = take-append-le n c.read.new.buf (drop c.min-room.result c.args.buf.now) c.in-Ok.ensures.bound.0 in (
      subst (λ t. Consumes (body_left s.left s.early.now (g.L.Link.left s.link.now))
          (body_left (s.left - n) s.early.now (g.L.Link.left c.read.new.self)) t) (sym front)
          (subst (λ e. Consumes (body_left s.left e (g.L.Link.left s.link.now))
          (body_left (s.left - n) e (g.L.Link.left c.read.new.self)) (take n c.read.new.buf)) (sym em)
          (takes_link s.left (s.left - n) (take n c.read.new.buf) _ _ c.in-Ok.ensures.bytes.0
          (omega (arith, few, c.in-Ok.ensures.bound.1)))),
      λ z. absurd (c.in-Ok.count-test.1 z),
    )

pub returns-else-is_empty-clause-bytes : goal.returns-else-is_empty-clause-bytes
returns-else-is_empty-clause-bytes g c =
    let s = c.args.self.now in
    let n = c.min-count.result in
    let le : n ≤ length s.early.now = omega (arith, c.min-count.ensures) in
    let rest = take_all (length s.early.now - n) (drop n s.early.now) (omega (arith, length-drop n s.early.now)) in
    let long = eqb-false (length s.early.now) 0 (sym c.is_empty.ensures ∙ c.if-is_empty.false) in
    let some : n ≡ 0 → ⊥ = λ z. omega (arith, z, c.min-count.ensures, c.if-room-eq0.false, long) in
    let size : length c.copy_from_slice.new.self ≡ n = ap length c.copy_from_slice.ensures.after
    ∙ length-take-le n s.early.now le in
    let wrote : take n (c.copy_from_slice.new.self ++ drop n c.args.buf.now) ≡ take n s.early.now =
    take-append-le n c.copy_from_slice.new.self (drop n c.args.buf.now) (omega (arith, size))
    ∙ ap (take n) c.copy_from_slice.ensures.after ∙ take-take n n s.early.now (omega arith) in (
      subst (λ t. Consumes (body_left s.left s.early.now (g.L.Link.left s.link.now))
          (body_left (s.left - n) (take (length s.early.now - n) (drop n s.early.now)) (g.L.Link.left s.link.now)) t)
          (sym wrote)
          (takes_early s.left (s.left - n) n s.early.now _ (g.L.Link.left s.link.now) le rest
          (omega (arith, le, s.few))),
      λ z. absurd (some z),
    )
