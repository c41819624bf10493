use Rattle.keep_office.proofs.FileLaws.{file_law}
use Rattle.keep_office.proofs.renewal_laws.file_law.Goals as goal

pub returns : goal.returns
returns c = file_law
