use Rattle.keep_files.proofs.puts.PutDayPutting.store.Goals as goal

pub returns : goal.returns
returns g c = record {
  stores = c.put_day.ensures.stores;
  found = c.put_day.ensures.fresh;
  writes = c.put_day.ensures.writes;
}
