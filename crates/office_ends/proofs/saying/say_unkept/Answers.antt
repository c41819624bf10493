use Rattle.std.proofs.Common.{◌≡◌, ℕ, List, Option, String, Global, refl, sym, subst}
use Rattle.std.specs.Prelude.{string_bytes}
use Rattle.office_ends.specs.Says.{Said, SaysCause}
use Rattle.office_ends.proofs.saying.say_unkept.Goals as goal

pub returns-in-Some : goal.returns-in-Some
returns-in-Some g c =
    let room = g.E.Sink.room c.args.err.now in
    let old = g.E.Sink.written c.args.err.now in
    let new = g.E.Sink.written c.say.new.err in
    let line : Said room old new (string_bytes c.in-Some.line) =
    subst (λ (l : List ℕ). Said room old new l) c.as_bytes.ensures.value c.say.ensures in (
      c.why.result,
      record { shown = c.args.keeper; shows = refl; says = record { met = c.why.ensures } },
      subst (λ (cause : Option (String Global)). SaysCause cause (Said room old new)
          (c.say.new.err ≡ c.args.err.now)) (sym c.in-Some.is) line,
    )

pub returns-in-None : goal.returns-in-None
returns-in-None g c =
    let room = g.E.Sink.room c.args.err.now in
    let old = g.E.Sink.written c.args.err.now in (
      c.why.result,
      record { shown = c.args.keeper; shows = refl; says = record { met = c.why.ensures } },
      subst (λ (cause : Option (String Global)). SaysCause cause (Said room old old)
          (c.args.err.now ≡ c.args.err.now)) (sym c.in-None.is) refl,
    )
