use Rattle.keep_files.proofs.puts.PutPastPutting.store.Goals as goal

pub returns : goal.returns
returns g c = record {
  stores = c.put_past.ensures.stores;
  found = c.put_past.ensures.fresh;
  writes = c.put_past.ensures.writes;
}
