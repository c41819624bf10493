use Rattle.std.proofs.Common.{◌≡◌, ◌+◌, ◌<◌, ◌≤◌, length, [], Some, None, Ok, refl, sym, ap, ◌∙◌, arith, rules}
use Rattle.std.specs.Io.KnownBytes.{prepend_known}
use Rattle.std.proofs.lemmas.List.{drop_all}
use Rattle.std.proofs.lemmas.Result.{IfOk-weaker}
use Rattle.office_commands.specs.Asides.{compared_from}
use Rattle.office_commands.specs.Entries.{entered, most_compared}
use Rattle.office_commands.proofs.AsideLaws.{goes_on, parts_at}
use Rattle.office_commands.proofs.BoundLaws.{lines_within}
use Rattle.office_commands.proofs.aside.compare.Goals as goal

pub loop-notice-init : goal.loop-notice-init
loop-notice-init g c =
    let left = g.A.Source.left c.args.aside.now in
    record {
      line = refl;
      number = c.in-Ok.ensures.3;
      none = c.in-Ok.ensures.4;
      told = λ bytes told. (bytes, ap (λ h. prepend_known h left) c.in-Ok.ensures.0 ∙ ap (prepend_known []) told, refl);
      read = λ bytes told. record {
        taken = [];
        now = bytes;
        ahead_is = ap (λ h. prepend_known h left) c.in-Ok.ensures.0 ∙ ap (prepend_known []) told;
        bytes_are = refl;
        few = omega arith;
      };
      stands = refl;
      still = λ never. never;
    }

pub loop-notice-preserved : goal.loop-notice-preserved
loop-notice-preserved g c =
    let inv = c.loop-notice.invariant in
    let none : c.compare_one.result ≡ Ok None = cc in
    let next = c.compare_one.ensures.next none in
    record {
      line = omega (arith, inv.line);
      number = next.0 ∙ ap (λ n. n + 1) inv.number;
      none = next.1;
      told = λ bytes told. goes_on c.args.wanted.now bytes c.loop-notice.notice-index c.loop-notice.line _ inv.line
          (search rules) _ _ (inv.told bytes told) (c.compare_one.ensures.same none);
      read = λ bytes told. c.compare_one.ensures.read c.loop-notice.notice-index bytes (inv.read bytes told);
      stands = c.compare_one.ensures.aside.still (λ e. let no : ⊥ = cc in no) ∙ inv.stands;
      still = λ never. c.compare_one.ensures.still (inv.still never);
    }

pub returns-in-Ok-Some-clause-exact : goal.returns-in-Ok-Some-clause-exact
returns-in-Ok-Some-clause-exact g c = λ bytes told.
    let inv = c.loop-notice.invariant in
    let some : c.compare_one.result ≡ Ok (Some c.in-Ok-Some.closing) = cc in
    parts_at c.args.wanted.now bytes c.loop-notice.notice-index c.loop-notice.line _ inv.line
    (search rules) _ c.in-Ok-Some.closing (inv.told bytes told)
    (c.compare_one.ensures.other c.in-Ok-Some.closing some)

pub returns-clause-exact : goal.returns-clause-exact
returns-clause-exact g c = λ bytes told.
    let i = c.loop-notice.notice-index in
    let wanted = c.args.wanted.now in
    let inv = c.loop-notice.invariant in
    let at = inv.told bytes told in
    let whole : compared_from c.loop-notice.line [] (entered at.0) ≡ compared_from 1 wanted (entered bytes) =
    ap (λ n. compared_from n [] (entered at.0)) inv.line
    ∙ sym (at.2 ∙ ap (λ ws. compared_from (i + 1) ws (entered at.0)) (drop_all i wanted (search rules))) in
    IfOk-weaker c.compare_end.result _ _ (λ k h. h ∙ whole) (c.compare_end.ensures.exact at.0 at.1)

-- what was read of an aside where the comparison ends at a notice
pub returns-in-Ok-Some-clause-bounded : goal.returns-in-Ok-Some-clause-bounded
returns-in-Ok-Some-clause-bounded g c = λ bytes told.
    let i = c.loop-notice.notice-index in
    let read = c.compare_one.ensures.read i bytes (c.loop-notice.invariant.read bytes told) in
    let within : i < length c.args.wanted.now = search rules in
    lines_within c.compare_one.new.cutter (g.A.Source.left c.compare_one.new.aside) bytes (i + 1)
    (most_compared (length c.args.wanted.now)) read (omega (arith, within))

pub returns-in-Err-clause-bounded : goal.returns-in-Err-clause-bounded
returns-in-Err-clause-bounded g c = λ bytes told.
    let i = c.loop-notice.notice-index in
    let read = c.compare_one.ensures.read i bytes (c.loop-notice.invariant.read bytes told) in
    let within : i < length c.args.wanted.now = search rules in
    lines_within c.compare_one.new.cutter (g.A.Source.left c.compare_one.new.aside) bytes (i + 1)
    (most_compared (length c.args.wanted.now)) read (omega (arith, within))

pub returns-clause-bounded : goal.returns-clause-bounded
returns-clause-bounded g c = λ bytes told.
    let i = c.loop-notice.notice-index in
    let all : i ≤ length c.args.wanted.now = search rules in
    let x = c.compare_end.ensures.bounded i bytes (c.loop-notice.invariant.read bytes told) in
    (x.0, omega (arith, x.1, all), x.2)
