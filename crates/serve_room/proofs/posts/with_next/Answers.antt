use Rattle.std.proofs.Common.{◌≡◌, Some, slice_get, length, refl, sym, ap, ◌∙◌, subst, rules}
use Rattle.std.proofs.lemmas.Option.{slice_get_read}
use Rattle.road_time.proofs.EachLaws.{some_is, no_some}
use Rattle.serve_room.specs.Posts.{is_meant, IsFirstBelow}
use Rattle.serve_room.proofs.PostLaws.{stays, stays_before, begins, overtakes}
use Rattle.serve_room.proofs.posts.with_next.Goals as goal

pub returns-in_default : goal.returns-in_default
returns-in_default c =
    let here : slice_get c.args.seats.now c.args.at ≡ Some c.index-seats-at.result =
    slice_get_read c.args.seats.now (length c.args.seats.now) c.args.at _ refl c.requires.at (search rules) in
    stays c.args.who c.args.seats.now c.args.at c.args.first c.requires.below
    (λ seat is. absurd (no_some seat (sym c.in_default.is ∙ some_is _ _ (sym here ∙ is))))

pub returns-in_default-first : goal.returns-in_default-first
returns-in_default-first c =
    let seats = c.args.seats.now in
    let here : slice_get seats c.args.at ≡ Some c.index-seats-at.result =
    slice_get_read seats (length seats) c.args.at _ refl c.requires.at (search rules) in
    begins c.args.who seats c.args.at c.in-Some.seat
    (subst (IsFirstBelow c.args.who seats c.args.at) c.in_default-first.is c.requires.below)
    (here ∙ ap Some c.in-Some.is) (sym c.is_meant.ensures ∙ c.if-is_meant.true)

pub returns-then-precedes : goal.returns-then-precedes
returns-then-precedes c =
    let seats = c.args.seats.now in
    let here : slice_get seats c.args.at ≡ Some c.index-seats-at.result =
    slice_get_read seats (length seats) c.args.at _ refl c.requires.at (search rules) in
    stays_before c.args.who seats c.args.at c.in-Some-first.before c.in-Some.seat
    (subst (IsFirstBelow c.args.who seats c.args.at) c.in-Some-first.is c.requires.below)
    (here ∙ ap Some c.in-Some.is) (c.precedes.ensures.before c.if-precedes.true)

pub returns-then-is_meant : goal.returns-then-is_meant
returns-then-is_meant c =
    let seats = c.args.seats.now in
    let here : slice_get seats c.args.at ≡ Some c.index-seats-at.result =
    slice_get_read seats (length seats) c.args.at _ refl c.requires.at (search rules) in
    overtakes c.args.who seats c.args.at c.in-Some-first.before c.in-Some.seat
    (subst (IsFirstBelow c.args.who seats c.args.at) c.in-Some-first.is c.requires.below)
    (here ∙ ap Some c.in-Some.is) (sym c.is_meant.ensures ∙ c.if-is_meant.true)
    (c.precedes.ensures.behind c.if-precedes.false)

pub returns : goal.returns
returns c =
    let seats = c.args.seats.now in
    let here : slice_get seats c.args.at ≡ Some c.index-seats-at.result =
    slice_get_read seats (length seats) c.args.at _ refl c.requires.at (search rules) in
    stays c.args.who seats c.args.at c.args.first c.requires.below
    (λ seat is. ap (is_meant c.args.who)
    (some_is _ _ (some_is _ _ (sym is ∙ here ∙ ap Some c.in-Some.is)))
    ∙ sym c.is_meant.ensures ∙ c.if-is_meant.false)
