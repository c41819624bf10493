use Rattle.std.proofs.Common.{◌≡◌, sym, subst}
use Rattle.ways_audit.specs.Seconds.{still}
use Rattle.office_commands.specs.declared.entry_text.EntryText.{EntryText}
use Rattle.office_commands.specs.AnyOrder.{without_found}
use Rattle.office_commands.proofs.turns.take_found.Goals as goal

pub returns-in-Read-clause-taken : goal.returns-in-Read-clause-taken
returns-in-Read-clause-taken c = λ e.
    subst (λ (t : EntryText). still c.take.new.self ≡ without_found (still c.args.coming.now) t) (sym c.in-Read.is)
    (λ i y. c.take.ensures.taken e y i)
