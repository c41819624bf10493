-- What the texts of queries and writes are understood as, over all tables.
use Rattle.std.proofs.Common.{◌≡◌, refl, false, codes, [], ◌∷◌, Err}
use Rattle.sqlite_tied.specs.Compute.{everything}
use Rattle.sqlite.specs.Listing.{understood, reads_listing, listing_schema}
use Rattle.sqlite.proofs.Callers.{IsPlain, command_of}
use Rattle.sqlite_resolve.specs.declared.error.CompileError.TheVariants.{NoSuchTable}
use Rattle.keep_tables.specs.Layout.{no_tables, old_tables, all_tables}
use Rattle.keep_tables.specs.Texts.{find_spent, find_tariffs, list_spent, list_vehicle, find_last, find_day, find_seal}
use Rattle.keep_tables.specs.Texts.{find_past, list_days, find_version, drop_tariff, put_tariff, put_day, put_seal}
use Rattle.keep_tables.specs.Texts.{put_past, put_version}
use Rattle.keep_tables.specs.Select.{spent_compiled, rows_compiled, tariffs_compiled, drop_compiled, put_compiled}
use Rattle.keep_tables.specs.Select.{asks_by, vehicle_query, last_query, day_query, seal_query, past_query, days_query}
use Rattle.keep_tables.specs.Select.{version_query, day_compiled, seal_compiled, past_compiled, version_compiled}

-- the query for an amount is understood so
pub find_spent_is : command_of (understood all_tables find_spent) ≡ spent_compiled
unfolding understood everything
find_spent_is = refl

-- and has no more to it
pub find_spent_plain : IsPlain (understood all_tables find_spent) × (reads_listing all_tables find_spent ≡ false)
unfolding understood everything
find_spent_plain = ((refl, refl), refl)

-- the query for amounts is understood so
pub list_spent_is : command_of (understood all_tables list_spent) ≡ rows_compiled
unfolding understood everything
list_spent_is = refl

-- and has no more to it
pub list_spent_plain : IsPlain (understood all_tables list_spent) × (reads_listing all_tables list_spent ≡ false)
unfolding understood everything
list_spent_plain = ((refl, refl), refl)

-- the query for the tariffs is understood so
pub find_tariffs_is : command_of (understood all_tables find_tariffs) ≡ tariffs_compiled
unfolding understood everything
find_tariffs_is = refl

-- and has no more to it
pub find_tariffs_plain : IsPlain (understood all_tables find_tariffs) × (reads_listing all_tables find_tariffs ≡ false)
unfolding understood everything
find_tariffs_plain = ((refl, refl), refl)

-- the text that takes a tariff away is understood so
pub drop_tariff_is : command_of (understood all_tables drop_tariff) ≡ drop_compiled
unfolding understood everything
drop_tariff_is = refl

-- and has no more to it
pub drop_tariff_plain : IsPlain (understood all_tables drop_tariff)
unfolding understood everything
drop_tariff_plain = (refl, refl)

-- the text that puts a tariff is understood so
pub put_tariff_is : command_of (understood all_tables put_tariff) ≡ put_compiled
unfolding understood everything
put_tariff_is = refl

-- and has no more to it
pub put_tariff_plain : IsPlain (understood all_tables put_tariff)
unfolding understood everything
put_tariff_plain = (refl, refl)

-- the query for the amounts of a vehicle is understood so
pub list_vehicle_is : command_of (understood all_tables list_vehicle) ≡ asks_by vehicle_query
    (codes "day" ∷ codes "vid" ∷ codes "xway" ∷ codes "tolls" ∷ [])
unfolding understood everything
list_vehicle_is = refl

-- and has no more to it
pub list_vehicle_plain : IsPlain (understood all_tables list_vehicle) × (reads_listing all_tables list_vehicle ≡ false)
unfolding understood everything
list_vehicle_plain = ((refl, refl), refl)

-- the query for the last day is understood so
pub find_last_is : command_of (understood all_tables find_last) ≡ asks_by last_query (codes "day" ∷ [])
unfolding understood everything
find_last_is = refl

-- and has no more to it
pub find_last_plain : IsPlain (understood all_tables find_last) × (reads_listing all_tables find_last ≡ false)
unfolding understood everything
find_last_plain = ((refl, refl), refl)

-- the query for a day is understood so
pub find_day_is : command_of (understood all_tables find_day) ≡ asks_by day_query
    (codes "digest" ∷ codes "bytes" ∷ codes "tuples" ∷ codes "notices" ∷ codes "notices_digest" ∷ codes "total" ∷ [])
unfolding understood everything
find_day_is = refl

-- and has no more to it
pub find_day_plain : IsPlain (understood all_tables find_day) × (reads_listing all_tables find_day ≡ false)
unfolding understood everything
find_day_plain = ((refl, refl), refl)

-- the query for a seal is understood so
pub find_seal_is : command_of (understood all_tables find_seal) ≡ asks_by seal_query (codes "digest" ∷ [])
unfolding understood everything
find_seal_is = refl

-- and has no more to it
pub find_seal_plain : IsPlain (understood all_tables find_seal) × (reads_listing all_tables find_seal ≡ false)
unfolding understood everything
find_seal_plain = ((refl, refl), refl)

-- the query for the history is understood so
pub find_past_is : command_of (understood all_tables find_past) ≡ asks_by past_query
    (codes "base" ∷ codes "digest" ∷ codes "bytes" ∷ codes "rows_kept" ∷ [])
unfolding understood everything
find_past_is = refl

-- and has no more to it
pub find_past_plain : IsPlain (understood all_tables find_past) × (reads_listing all_tables find_past ≡ false)
unfolding understood everything
find_past_plain = ((refl, refl), refl)

-- the query for all days is understood so
pub list_days_is : command_of (understood all_tables list_days) ≡ asks_by days_query (codes "day" ∷ [])
unfolding understood everything
list_days_is = refl

-- and has no more to it
pub list_days_plain : IsPlain (understood all_tables list_days) × (reads_listing all_tables list_days ≡ false)
unfolding understood everything
list_days_plain = ((refl, refl), refl)

-- the query for the version is understood so
pub find_version_is : command_of (understood all_tables find_version) ≡ asks_by version_query (codes "version" ∷ [])
unfolding understood everything
find_version_is = refl

-- and has no more to it
pub find_version_plain : IsPlain (understood all_tables find_version) × (reads_listing all_tables find_version ≡ false)
unfolding understood everything
find_version_plain = ((refl, refl), refl)

-- the text that puts a day is understood so
pub put_day_is : command_of (understood all_tables put_day) ≡ day_compiled
unfolding understood everything
put_day_is = refl

-- and has no more to it
pub put_day_plain : IsPlain (understood all_tables put_day)
unfolding understood everything
put_day_plain = (refl, refl)

-- the text that puts a seal is understood so
pub put_seal_is : command_of (understood all_tables put_seal) ≡ seal_compiled
unfolding understood everything
put_seal_is = refl

-- and has no more to it
pub put_seal_plain : IsPlain (understood all_tables put_seal)
unfolding understood everything
put_seal_plain = (refl, refl)

-- the text that puts a history is understood so
pub put_past_is : command_of (understood all_tables put_past) ≡ past_compiled
unfolding understood everything
put_past_is = refl

-- and has no more to it
pub put_past_plain : IsPlain (understood all_tables put_past)
unfolding understood everything
put_past_plain = (refl, refl)

-- the text that puts the version is understood so
pub put_version_is : command_of (understood all_tables put_version) ≡ version_compiled
unfolding understood everything
put_version_is = refl

-- and has no more to it
pub put_version_plain : IsPlain (understood all_tables put_version)
unfolding understood everything
put_version_plain = (refl, refl)

-- where the version is not kept, its query is not understood
pub no_version : understood no_tables find_version ≡ Err NoSuchTable
unfolding understood everything listing_schema
no_version = refl

-- nor is it over the tables of version 1
pub no_old_version : understood old_tables find_version ≡ Err NoSuchTable
unfolding understood everything listing_schema
no_old_version = refl

-- without tables, all days are not understood
pub no_days : understood no_tables list_days ≡ Err NoSuchTable
unfolding understood everything listing_schema
no_days = refl

-- over the tables of version 1 they are
pub old_days_plain : IsPlain (understood old_tables list_days)
unfolding understood everything
old_days_plain = (refl, refl)
