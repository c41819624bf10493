use Rattle.keep_puts.proofs.KeyLaws.{free_keys}
use Rattle.keep_puts.proofs.keys.no_key_is_taken.Goals as goal

pub returns : goal.returns
returns c = free_keys
