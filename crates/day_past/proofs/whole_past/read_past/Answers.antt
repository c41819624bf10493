use Rattle.std.proofs.Common.{◌≡◌, List, ℕ, Option, Some, None, refl, sym, subst}
use Rattle.day_past.specs.declared.judging.PastStop.{PastStop}
use Rattle.day_past.specs.Readings.{IsReadingPast, HasReadPastOf, EndsReadingPast}
use Rattle.day_past.proofs.ReadLaws.{reads_stopped, reads_kept, past_within, past_soon}
use Rattle.day_past.proofs.whole_past.read_past.Goals as goal

pub returns-in-Some-clause-reads : goal.returns-in-Some-clause-reads
returns-in-Some-clause-reads g c = λ bytes told.
    let limits = c.args.limits.now in
    let left = g.S.Source.left c.read_all.new.source in
    let reader = c.in-Ok.reader in
    let some : c.read_all.result ≡ Some c.in-Some.stop = cc in
    let reading = subst (λ (o : Option (List ℕ)). IsReadingPast reader c.args.base limits o bytes) (sym told)
    (c.in-Ok.ensures.reading c.args.base limits bytes) in
    let ends = subst (λ (r : Option PastStop). EndsReadingPast r c.read_all.new.self c.args.base limits left bytes) some
    (c.read_all.ensures.ends limits bytes refl reading) in
    reads_stopped c.in-Some.stop c.read_all.new.self c.args.base limits left bytes ends

pub returns-clause-reads : goal.returns-clause-reads
returns-clause-reads g c = λ bytes told.
    let limits = c.args.limits.now in
    let left = g.S.Source.left c.read_all.new.source in
    let reader = c.in-Ok.reader in
    let none : c.read_all.result ≡ None = cc in
    let reading = subst (λ (o : Option (List ℕ)). IsReadingPast reader c.args.base limits o bytes) (sym told)
    (c.in-Ok.ensures.reading c.args.base limits bytes) in
    let ends = subst (λ (r : Option PastStop). EndsReadingPast r c.read_all.new.self c.args.base limits left bytes) none
    (c.read_all.ensures.ends limits bytes refl reading) in
    reads_kept c.kept.result c.read_all.new.self c.args.base limits left bytes ends
    (c.kept.ensures.exact limits left bytes ends) c.kept.ensures.stops

pub returns-in-Some-clause-bounded : goal.returns-in-Some-clause-bounded
returns-in-Some-clause-bounded g c = λ bytes told.
    let left = g.S.Source.left c.read_all.new.source in
    let start = subst (λ (o : Option (List ℕ)). HasReadPastOf c.in-Ok.reader o bytes) (sym told)
    (c.in-Ok.ensures.read bytes) in
    past_within c.read_all.new.self c.args.limits.now left bytes (c.read_all.ensures.read bytes start)
    c.read_all.ensures.bounded

pub returns-clause-bounded : goal.returns-clause-bounded
returns-clause-bounded g c = λ bytes told.
    let left = g.S.Source.left c.read_all.new.source in
    let start = subst (λ (o : Option (List ℕ)). HasReadPastOf c.in-Ok.reader o bytes) (sym told)
    (c.in-Ok.ensures.read bytes) in
    past_within c.read_all.new.self c.args.limits.now left bytes (c.read_all.ensures.read bytes start)
    c.read_all.ensures.bounded

pub returns-in-Some-clause-soon : goal.returns-in-Some-clause-soon
returns-in-Some-clause-soon g c = λ bytes told.
    let left = g.S.Source.left c.read_all.new.source in
    let start = subst (λ (o : Option (List ℕ)). HasReadPastOf c.in-Ok.reader o bytes) (sym told)
    (c.in-Ok.ensures.read bytes) in
    past_soon c.in-Some.stop c.read_all.new.self left bytes (c.read_all.ensures.read bytes start)
    c.in-Some.ensures.after
