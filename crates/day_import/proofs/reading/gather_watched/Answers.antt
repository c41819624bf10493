use Rattle.std.proofs.Common.{◌≡◌, ◌∷◌, ◌++◌, [], Some, None, Ok, true, false, length, refl, sym, ap, ◌∙◌, subst}
use Rattle.std.proofs.Common.{arith}
use Rattle.std.specs.Prelude.{IfOk, is_some}
use Rattle.std.proofs.lemmas.Bool.{cond-true}
use Rattle.std.proofs.lemmas.List.{length_push, append-nil}
use Rattle.day_reading.specs.Ahead.{has_more}
use Rattle.day_import.specs.Readers.{HasGiven}
use Rattle.day_import.proofs.ReaderLaws.{given_more, given_one, both_are}
use Rattle.day_import.proofs.reading.gather_watched.Goals as goal

pub gathering-init : goal.gathering-init
gathering-init g c = record {
  given = λ limits late first all h. h;
  few = λ low. low;
  longer = omega arith;
  same = λ e. refl;
  ended = λ none. (refl, none);
  source_same = refl;
  named = refl;
  read = λ lines bytes h. h;
  unfailed = c.requires.unfailed;
  stands = refl;
  still = λ never. never;
}

pub gathering-preserved : goal.gathering-preserved
gathering-preserved g c =
    let left = g.S.Source.left in
    let old = c.gathering.ahead in
    let new = c.next.new.self in
    let before = c.gathering.these.items in
    let x = c.in-Ok-Some.tuple in
    let inv = c.gathering.invariant in
    let is : c.next.result ≡ Ok (Some x) = cc in
    let more : true ≡ has_more old = subst (λ r. IfOk r (λ given. is_some given ≡ has_more old)) is
    c.next.ensures.some in
    let pushed : c.push.new.self.items ≡ before ++ x ∷ [] = c.push.ensures.items
    ∙ cond-true _ _ _ c.if-is_err.ensures.negation in
    let longer = ap length pushed ∙ length_push before x in
    let names = both_are _ _ _ _ c.next.ensures.same in
    record {
      given = λ limits late first all h. subst
          (λ xs. HasGiven limits late xs first new all (left c.next.new.source.source.now)) (sym pushed)
          (given_more limits late before (x ∷ []) first old new all (left c.gathering.watched.source.now)
          (left c.next.new.source.source.now) (inv.given limits late first all h)
          (given_one limits late c.next.result (Some x) old new (left c.gathering.watched.source.now)
          (left c.next.new.source.source.now) is (c.next.ensures.gathers limits late)
          (c.next.ensures.gives limits late) c.next.ensures.digested));
      few = λ low. (let t = c.gathering-test.true in omega (arith, longer, t));
      longer = (let l = inv.longer in omega (arith, longer, l));
      same = λ e. absurd (let l = inv.longer in omega (arith, longer, l, e));
      ended = λ none. absurd (let gone = inv.ended none in let no : ⊥ = cc in no);
      source_same = names.0 ∙ inv.source_same;
      named = names.1 ∙ inv.named;
      read = λ lines bytes h. c.next.ensures.read lines bytes (inv.read lines bytes h);
      unfailed = c.next.ensures.unfailed inv.unfailed (λ e. let no : ⊥ = cc in no);
      stands = c.next.ensures.source.still (λ f. let read = f.1 in let no : ⊥ = cc in no) ∙ inv.stands;
      still = λ never. c.next.ensures.still inv.unfailed (inv.still never);
    }

pub returns-then-is_err-clause-read : goal.returns-then-is_err-clause-read
returns-then-is_err-clause-read g c lines bytes h =
    c.next.ensures.read lines bytes (c.gathering.invariant.read lines bytes h)

pub returns-then-is_err-clause-source_same : goal.returns-then-is_err-clause-source_same
returns-then-is_err-clause-source_same g c = (both_are _ _ _ _ c.next.ensures.same).0 ∙ c.gathering.invariant.source_same

pub returns-then-is_err-clause-same : goal.returns-then-is_err-clause-same
returns-then-is_err-clause-same g c = (both_are _ _ _ _ c.next.ensures.same).1 ∙ c.gathering.invariant.named

pub returns-in-Ok-None-clause-read : goal.returns-in-Ok-None-clause-read
returns-in-Ok-None-clause-read g c lines bytes h =
    c.next.ensures.read lines bytes (c.gathering.invariant.read lines bytes h)

pub returns-in-Ok-None-clause-source_same : goal.returns-in-Ok-None-clause-source_same
returns-in-Ok-None-clause-source_same g c = (both_are _ _ _ _ c.next.ensures.same).0 ∙ c.gathering.invariant.source_same

pub returns-in-Ok-None-clause-same : goal.returns-in-Ok-None-clause-same
returns-in-Ok-None-clause-same g c = (both_are _ _ _ _ c.next.ensures.same).1 ∙ c.gathering.invariant.named

pub returns-in-Err-clause-read : goal.returns-in-Err-clause-read
returns-in-Err-clause-read g c lines bytes h =
    c.next.ensures.read lines bytes (c.gathering.invariant.read lines bytes h)

pub returns-in-Err-clause-source_same : goal.returns-in-Err-clause-source_same
returns-in-Err-clause-source_same g c = (both_are _ _ _ _ c.next.ensures.same).0 ∙ c.gathering.invariant.source_same

pub returns-in-Err-clause-same : goal.returns-in-Err-clause-same
returns-in-Err-clause-same g c = (both_are _ _ _ _ c.next.ensures.same).1 ∙ c.gathering.invariant.named

pub returns-in-Ok-None-clause-gathered : goal.returns-in-Ok-None-clause-gathered
returns-in-Ok-None-clause-gathered g c =
    let left = g.S.Source.left in
    let old = c.gathering.ahead in
    let new = c.next.new.self in
    let these = c.gathering.these.items in
    let inv = c.gathering.invariant in
    let is : c.next.result ≡ Ok None = cc in
    let same : new ≡ old = subst (λ r. IfOk r (λ given. given ≡ None → new ≡ old)) is c.next.ensures.none refl in
    let none : false ≡ has_more old = subst (λ r. IfOk r (λ given. is_some given ≡ has_more old)) is
    c.next.ensures.some in
    let over : has_more new ≡ false = ap has_more same ∙ sym none in
    record {
      given = λ limits late first all h. subst
          (λ xs. HasGiven limits late xs first new all (left c.next.new.source.source.now)) (append-nil these)
          (given_more limits late these [] first old new all (left c.gathering.watched.source.now)
          (left c.next.new.source.source.now) (inv.given limits late first all h)
          (given_one limits late c.next.result None old new (left c.gathering.watched.source.now)
          (left c.next.new.source.source.now) is (c.next.ensures.gathers limits late)
          (c.next.ensures.gives limits late) c.next.ensures.digested));
      few = inv.few;
      some = λ whole more low.
          (let l = inv.longer in
          (let differ : length these ≡ length c.args.these.now.items → ⊥ =
          λ e. (let no = none ∙ (inv.same e ∙ more) in let bad : ⊥ = cc in bad) in
          omega (arith, l, differ)));
      full = λ whole less. over;
      ended = λ gone. ((inv.ended gone).0, over);
      unfailed = c.next.ensures.unfailed inv.unfailed (λ e. let no : ⊥ = cc in no);
    }
