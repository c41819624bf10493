use Rattle.std.proofs.Common.{◌≡◌, Bool, true, false, Result, Ok, rules}
use Rattle.keep_office.specs.declared.kept.KeepFault.{KeepFault}
use Rattle.keep_files.proofs.whys.oddity.Goals as goal

pub returns-in-Ok-true : goal.returns-in-Ok-true
returns-in-Ok-true g c =
    let is : ◌≡◌ {A = Result Bool KeepFault} (Ok c.in-Ok-true.field-0) (Ok true) = search rules in
    record { last = c.has_second.new.self.conn; odd = λ clean. c.in-Ok-true.ensures.second clean is }

pub returns-in-Ok-false : goal.returns-in-Ok-false
returns-in-Ok-false g c =
    let is : ◌≡◌ {A = Result Bool KeepFault} (Ok c.in-Ok-false.field-0) (Ok false) = search rules in
    record { last = c.has_second.new.self.conn; odd = λ clean. c.in-Ok-false.ensures.other clean is }

pub returns-in-Err : goal.returns-in-Err
returns-in-Err g c =
    record { last = c.has_second.new.self.conn; odd = λ clean. (c.in-Err.field-0, c.in-Err.ensures.why clean) }
