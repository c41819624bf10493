use Rattle.std.proofs.Common.{refl}
use Rattle.serve_desk.proofs.import_desk.ImportDesk.import.Goals as goal

pub returns-clause-imports : goal.returns-clause-imports
returns-clause-imports g c = λ all o known told.
    c.import_only.ensures.imports all o c.args.self.now.writer.posted known told refl
