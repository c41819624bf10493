use Rattle.std.proofs.Common.{◌+◌, ap, ◌∙◌, arith}
use Rattle.std.specs.List.{slice_range}
use Rattle.std.proofs.lemmas.List.{drop_all}
use Rattle.road_io.proofs.PlanLaws.{moved}
use Rattle.road_io.proofs.memory.bytes_in.MemSourceSource.read.Goals as goal

pub returns-clause-bytes : goal.returns-clause-bytes
returns-clause-bytes c =
    let s = c.args.self.now in
    let n = c.min-count.result in (
      moved s.bytes.items _ _ s.at n (omega arith)
          (c.copy_from_slice.ensures.after ∙ ap (λ l. slice_range l s.at (s.at + n)) c.deref-2.ensures.value),
      λ none some. drop_all (s.at + n) s.bytes.items (omega arith),
    )
