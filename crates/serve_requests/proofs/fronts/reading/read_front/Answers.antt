use Rattle.std.proofs.Common.{◌≡◌, ◌+◌, ◌≤◌, ◌++◌, length, take, drop, ap, subst, ◌∙◌, arith, Some}
use Rattle.std.specs.Io.KnownBytes.{Keeps, Consumes, prepend_known}
use Rattle.std.proofs.lemmas.List.{length-take-le, length-drop}
use Rattle.road_io.proofs.LineLaws.{take_sum}
use Rattle.serve_requests.proofs.FrontLaws.{known_front, known_end, known_on, known_kept, keeps_none, read_within}
use Rattle.serve_requests.proofs.FrontLaws.{sure_on, soon_on, soon_left}
use Rattle.road_io.specs.Portions.{Moves}
use Rattle.serve_requests.proofs.FrontLaws.{never_bad, open_bad, open_cut}
use Rattle.serve_requests.proofs.fronts.reading.read_front.Goals as goal

pub returns-in-Never-clause-front : goal.returns-in-Never-clause-front
returns-in-Never-clause-front g c = λ bytes is.
    let h = take c.loop-held.held c.loop-held.buffer in
    let k = known_front h bytes _
    (subst (λ o. Keeps o (prepend_known h (g.L.Link.left c.loop-held.link))) is c.loop-held.invariant.ahead) in
    let long : length h ≤ 8192 = omega (arith, length-take-le c.loop-held.held c.loop-held.buffer (omega arith)) in
    never_bad h bytes k.0 long k.2 c.in-Never.ensures.look

pub returns-in-Ok-eq0-clause-front : goal.returns-in-Ok-eq0-clause-front
returns-in-Ok-eq0-clause-front g c = λ bytes is.
    let h = take c.loop-held.held c.loop-held.buffer in
    let after = g.L.Link.left c.read_behind.new.link in
    let behind = drop c.loop-held.held c.read_behind.new.buffer in
    let k = subst (λ o. Keeps o (prepend_known h (g.L.Link.left c.loop-held.link))) is c.loop-held.invariant.ahead in
    let size = length-take-le c.loop-held.held c.loop-held.buffer (omega arith) in
    let some = length-drop c.loop-held.held c.read_behind.new.buffer in
    let none = subst (λ n. Consumes (g.L.Link.left c.loop-held.link) after (take n behind)) c.in-Ok-eq0.field-0-test
    c.in-Ok-eq0.ensures.bytes.0 in
    let end =
    known_end h bytes (g.L.Link.left c.loop-held.link) after k none
    (c.in-Ok-eq0.ensures.bytes.1 c.in-Ok-eq0.field-0-test (omega (arith, some, c.in-Ok-eq0.ensures.len))) in
    open_cut h bytes (omega (arith, size)) end c.in-Open.ensures.look.0 c.in-Open.ensures.look.1

pub returns-in-Open-look-clause-front : goal.returns-in-Open-look-clause-front
returns-in-Open-look-clause-front g c = λ bytes is.
    let h = take c.loop-held.held c.loop-held.buffer in
    let k = known_front h bytes _
    (subst (λ o. Keeps o (prepend_known h (g.L.Link.left c.loop-held.link))) is c.loop-held.invariant.ahead) in
    let size = length-take-le c.loop-held.held c.loop-held.buffer (omega arith) in
    open_bad h bytes k.0 (omega (arith, size)) k.2 c.in-Open-look.ensures.look.0

pub returns-in-Never-look-clause-front : goal.returns-in-Never-look-clause-front
returns-in-Never-look-clause-front g c = λ bytes is.
    let h = take c.loop-held.held c.loop-held.buffer in
    let k = known_front h bytes _
    (subst (λ o. Keeps o (prepend_known h (g.L.Link.left c.loop-held.link))) is c.loop-held.invariant.ahead) in
    let long : length h ≤ 8192 = omega (arith, length-take-le c.loop-held.held c.loop-held.buffer (omega arith)) in
    never_bad h bytes k.0 long k.2 c.in-Never-look.ensures.look

pub loop-held-preserved : goal.loop-held-preserved
loop-held-preserved g c =
    let held = c.loop-held.held in
    let n = c.in-Ok.count in
    let was = c.loop-held.buffer in
    let now = c.read_behind.new.buffer in
    let read = c.in-Ok.ensures in
    let front : take (held + n) now ≡ take held was ++ take n (drop held now) =
    take_sum now held n (omega (arith, read.len)) ∙ ap (λ l. l ++ take n (drop held now)) read.kept in
    record {
      size = read.len ∙ c.loop-held.invariant.size;
      fields = c.look.ensures.room;
      inside = omega (arith, read.count, c.loop-held.invariant.size);
      ahead = known_on (take held was) (take n (drop held now)) _ _ _ _ c.loop-held.invariant.ahead read.bytes.0 front;
      unwritten = read.unwritten ∙ c.loop-held.invariant.unwritten;
      room = read.room_kept ∙ c.loop-held.invariant.room;
      sure = λ never. sure_on _ _ _ (c.loop-held.invariant.sure never) read.planned;
      later = omega (arith, read.cause.later);
      most_kept = read.most_kept ∙ c.loop-held.invariant.most_kept;
      soon = λ bytes most is up.
          let h = take held was in
          let size : length h ≡ held = length-take-le held was (omega (arith, c.loop-held.invariant.size)) in
          soon_on h bytes (g.L.Link.left c.loop-held.link) most held n
          (subst (λ o. Keeps o (prepend_known h (g.L.Link.left c.loop-held.link))) is c.loop-held.invariant.ahead) size
          c.in-Open.ensures.look.0 c.in-Open.ensures.look.1
          (subst (λ p. Moves p (length (drop held was)) n) (c.loop-held.invariant.most_kept ∙ up) read.portion);
    }

pub returns-in-Whole-clause-bounded : goal.returns-in-Whole-clause-bounded
returns-in-Whole-clause-bounded g c = λ bytes is.
    let h = take c.loop-held.held c.loop-held.buffer in
    let long : length h ≤ 8192 = omega (arith, length-take-le c.loop-held.held c.loop-held.buffer (omega arith)) in
    read_within h bytes _ long
    (subst (λ o. Keeps o (prepend_known h (g.L.Link.left c.loop-held.link))) is c.loop-held.invariant.ahead)

pub returns-in-Never-clause-bounded : goal.returns-in-Never-clause-bounded
returns-in-Never-clause-bounded g c = λ bytes is.
    let h = take c.loop-held.held c.loop-held.buffer in
    let long : length h ≤ 8192 = omega (arith, length-take-le c.loop-held.held c.loop-held.buffer (omega arith)) in
    read_within h bytes _ long
    (subst (λ o. Keeps o (prepend_known h (g.L.Link.left c.loop-held.link))) is c.loop-held.invariant.ahead)

pub returns-in-Whole-look-clause-bounded : goal.returns-in-Whole-look-clause-bounded
returns-in-Whole-look-clause-bounded g c = λ bytes is.
    let h = take c.loop-held.held c.loop-held.buffer in
    let long : length h ≤ 8192 = omega (arith, length-take-le c.loop-held.held c.loop-held.buffer (omega arith)) in
    read_within h bytes _ long
    (subst (λ o. Keeps o (prepend_known h (g.L.Link.left c.loop-held.link))) is c.loop-held.invariant.ahead)

pub returns-in-Open-look-clause-bounded : goal.returns-in-Open-look-clause-bounded
returns-in-Open-look-clause-bounded g c = λ bytes is.
    let h = take c.loop-held.held c.loop-held.buffer in
    let long : length h ≤ 8192 = omega (arith, length-take-le c.loop-held.held c.loop-held.buffer (omega arith)) in
    read_within h bytes _ long
    (subst (λ o. Keeps o (prepend_known h (g.L.Link.left c.loop-held.link))) is c.loop-held.invariant.ahead)

pub returns-in-Never-look-clause-bounded : goal.returns-in-Never-look-clause-bounded
returns-in-Never-look-clause-bounded g c = λ bytes is.
    let h = take c.loop-held.held c.loop-held.buffer in
    let long : length h ≤ 8192 = omega (arith, length-take-le c.loop-held.held c.loop-held.buffer (omega arith)) in
    read_within h bytes _ long
    (subst (λ o. Keeps o (prepend_known h (g.L.Link.left c.loop-held.link))) is c.loop-held.invariant.ahead)

pub returns-in-Ok-eq0-clause-bounded : goal.returns-in-Ok-eq0-clause-bounded
returns-in-Ok-eq0-clause-bounded g c = λ bytes is.
    let h = take c.loop-held.held c.loop-held.buffer in
    let long : length h ≤ 8192 = omega (arith, length-take-le c.loop-held.held c.loop-held.buffer (omega arith)) in
    let none =
    subst (λ n. Consumes (g.L.Link.left c.loop-held.link) (g.L.Link.left c.read_behind.new.link)
    (take n (drop c.loop-held.held c.read_behind.new.buffer))) c.in-Ok-eq0.field-0-test
    c.in-Ok-eq0.ensures.bytes.0 in
    let k = subst (λ o. Keeps o (prepend_known h (g.L.Link.left c.loop-held.link))) is c.loop-held.invariant.ahead in
    read_within h bytes _ long (known_kept h (Some bytes) _ _ k (keeps_none _ _ none))

pub returns-in-Err-clause-bounded : goal.returns-in-Err-clause-bounded
returns-in-Err-clause-bounded g c = λ bytes is.
    let h = take c.loop-held.held c.loop-held.buffer in
    let long : length h ≤ 8192 = omega (arith, length-take-le c.loop-held.held c.loop-held.buffer (omega arith)) in
    let k = subst (λ o. Keeps o (prepend_known h (g.L.Link.left c.loop-held.link))) is c.loop-held.invariant.ahead in
    read_within h bytes _ long (known_kept h (Some bytes) _ _ k c.in-Err.ensures.bytes)

pub returns-in-Ok-eq0-clause-still : goal.returns-in-Ok-eq0-clause-still
returns-in-Ok-eq0-clause-still g c =
    λ never. sure_on _ _ _ (c.loop-held.invariant.sure never) c.in-Ok-eq0.ensures.planned

pub returns-in-Err-clause-still : goal.returns-in-Err-clause-still
returns-in-Err-clause-still g c = λ never. sure_on _ _ _ (c.loop-held.invariant.sure never) c.in-Err.ensures.planned

pub returns-in-Whole-clause-soon : goal.returns-in-Whole-clause-soon
returns-in-Whole-clause-soon g c = λ bytes most is up.
    let h = take c.loop-held.held c.loop-held.buffer in
    let size = length-take-le c.loop-held.held c.loop-held.buffer (omega arith) in
    let k = subst (λ o. Keeps o (prepend_known h (g.L.Link.left c.loop-held.link))) is c.loop-held.invariant.ahead in
    soon_left h bytes _ most c.loop-held.held k size (c.loop-held.invariant.soon bytes most is up)

pub returns-in-Never-clause-soon : goal.returns-in-Never-clause-soon
returns-in-Never-clause-soon g c = λ bytes most is up.
    let h = take c.loop-held.held c.loop-held.buffer in
    let size = length-take-le c.loop-held.held c.loop-held.buffer (omega arith) in
    let k = subst (λ o. Keeps o (prepend_known h (g.L.Link.left c.loop-held.link))) is c.loop-held.invariant.ahead in
    soon_left h bytes _ most c.loop-held.held k size (c.loop-held.invariant.soon bytes most is up)

pub returns-in-Whole-look-clause-soon : goal.returns-in-Whole-look-clause-soon
returns-in-Whole-look-clause-soon g c = λ bytes most is up.
    let h = take c.loop-held.held c.loop-held.buffer in
    let size = length-take-le c.loop-held.held c.loop-held.buffer (omega arith) in
    let k = subst (λ o. Keeps o (prepend_known h (g.L.Link.left c.loop-held.link))) is c.loop-held.invariant.ahead in
    soon_left h bytes _ most c.loop-held.held k size (c.loop-held.invariant.soon bytes most is up)

pub returns-in-Open-look-clause-soon : goal.returns-in-Open-look-clause-soon
returns-in-Open-look-clause-soon g c = λ bytes most is up.
    let h = take c.loop-held.held c.loop-held.buffer in
    let size = length-take-le c.loop-held.held c.loop-held.buffer (omega arith) in
    let k = subst (λ o. Keeps o (prepend_known h (g.L.Link.left c.loop-held.link))) is c.loop-held.invariant.ahead in
    soon_left h bytes _ most c.loop-held.held k size (c.loop-held.invariant.soon bytes most is up)

pub returns-in-Never-look-clause-soon : goal.returns-in-Never-look-clause-soon
returns-in-Never-look-clause-soon g c = λ bytes most is up.
    let h = take c.loop-held.held c.loop-held.buffer in
    let size = length-take-le c.loop-held.held c.loop-held.buffer (omega arith) in
    let k = subst (λ o. Keeps o (prepend_known h (g.L.Link.left c.loop-held.link))) is c.loop-held.invariant.ahead in
    soon_left h bytes _ most c.loop-held.held k size (c.loop-held.invariant.soon bytes most is up)

pub returns-in-Ok-eq0-clause-soon : goal.returns-in-Ok-eq0-clause-soon
returns-in-Ok-eq0-clause-soon g c = λ bytes most is up.
    let h = take c.loop-held.held c.loop-held.buffer in
    let size = length-take-le c.loop-held.held c.loop-held.buffer (omega arith) in
    let before = subst (λ o. Keeps o (prepend_known h (g.L.Link.left c.loop-held.link))) is c.loop-held.invariant.ahead in
    let none =
    subst (λ n. Consumes (g.L.Link.left c.loop-held.link) (g.L.Link.left c.read_behind.new.link)
    (take n (drop c.loop-held.held c.read_behind.new.buffer))) c.in-Ok-eq0.field-0-test
    c.in-Ok-eq0.ensures.bytes.0 in
    let k = known_kept h (Some bytes) _ _ before (keeps_none _ _ none) in
    soon_left h bytes _ most c.loop-held.held k size (c.loop-held.invariant.soon bytes most is up)

pub returns-in-Err-clause-soon : goal.returns-in-Err-clause-soon
returns-in-Err-clause-soon g c = λ bytes most is up.
    let h = take c.loop-held.held c.loop-held.buffer in
    let size = length-take-le c.loop-held.held c.loop-held.buffer (omega arith) in
    let before = subst (λ o. Keeps o (prepend_known h (g.L.Link.left c.loop-held.link))) is c.loop-held.invariant.ahead in
    let k = known_kept h (Some bytes) _ _ before c.in-Err.ensures.bytes in
    soon_left h bytes _ most c.loop-held.held k size (c.loop-held.invariant.soon bytes most is up)
