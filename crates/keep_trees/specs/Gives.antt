-- What a call by the pages answers, where it has a value, finds no memory, or failed for a cause.

use Rattle.std.specs.Prelude.{Result, Ok, Err}
use Rattle.sqlite_pages.specs.declared.error.Error.{Error}
use Rattle.sqlite_pages.specs.declared.error.Error.TheVariants as pages
use Rattle.keep_office.specs.declared.kept.KeepFault.{KeepFault}
use Rattle.keep_office.specs.declared.kept.KeepFault.TheVariants.{Failed, NoMemory}

-- an answer is so, finds no memory, or failed for a cause
abbrev pub AnswersUnless : {T : Type 0} → Type 0 → (T → Type 0) → Result T KeepFault → Type 0
AnswersUnless cause P (Ok x) = P x
AnswersUnless cause P (Err NoMemory) = Unit {0}
AnswersUnless cause P (Err Failed) = cause

-- want of memory is want of memory, each other error a failure
abbrev pub keep_fault_of : Error → KeepFault
keep_fault_of pages.Corrupt = Failed
keep_fault_of pages.Io = Failed
keep_fault_of pages.Full = Failed
keep_fault_of pages.OutOfMemory = NoMemory
