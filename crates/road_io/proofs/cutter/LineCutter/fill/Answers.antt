use Rattle.std.proofs.Common.{◌+◌, ◌-◌, ◌≡◌, ◌++◌, length, take, drop, vec_len, arith, ap, ◌∙◌}
use Rattle.std.specs.List.{slice_range}
use Rattle.std.proofs.lemmas.List.{with_items_is}
use Rattle.road_io.specs.Cutter.{held}
use Rattle.road_io.proofs.LineLaws.{take_sum, keeps_more}
use Rattle.road_io.proofs.cutter.LineCutter.fill.Goals as goal

pub returns-clause-ahead : goal.returns-clause-ahead
returns-clause-ahead g c =
    let s = c.args.self.now in
    let kept = s.end - s.start in
    let n = c.in_ok-count.count in
    let buf = c.read_behind-answer.new.buf in
    let t = take n (drop kept buf) in
    let long : length buf ≡ vec_len s.buf = c.read_behind-answer.ensures.len ∙ c.as_mut_slice.ensures.len in
    let size : kept + n - 0 ≡ kept + n = omega arith in
    let now = ap (take (kept + n - 0)) (with_items_is s.buf buf long) ∙ ap (λ m. take m buf) size
    ∙ take_sum buf kept n (omega arith)
    ∙ ap (λ ys. ys ++ t)
    (c.read_behind-answer.ensures.kept ∙ ap (λ b. slice_range b s.start s.end) c.as_mut_slice.ensures.value) in
    keeps_more (held s) t _ (g.S.Source.left c.args.source.now) (g.S.Source.left c.read_behind-answer.new.source)
    c.in_ok-count.ensures.bytes.0 now
