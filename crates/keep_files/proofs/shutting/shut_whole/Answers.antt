use Rattle.keep_files.proofs.shutting.shut_whole.Goals as goal

pub returns-in-Ok-clause-copied : goal.returns-in-Ok-clause-copied
returns-in-Ok-clause-copied g c = record { files = c.in-Ok.files; copied = c.in-Ok.ensures.copied }

pub returns-in-Err-clause-failed : goal.returns-in-Err-clause-failed
returns-in-Err-clause-failed g c = record {
  last = c.in-Err.store;
  error = c.in-Err.error;
  closed = c.in-Err.ensures.err.0;
  fails = c.in-Err.ensures.err.1;
  names = c.cause_of.ensures;
}
