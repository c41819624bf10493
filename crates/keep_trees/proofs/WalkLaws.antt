-- How a walk over sorted entries goes on.
use Rattle.std.proofs.Common.{◌≡◌, ℕ, Bool, true, false, List, [], ◌∷◌, ◌++◌, map, refl, sym, ap, ap₂, subst, ◌∙◌, inl}
use Rattle.std.proofs.Common.{inr, is_lt, is_gt}
use Rattle.std.proofs.lemmas.List.{map-append}
use Rattle.std.proofs.lemmas.Bool.{cases_Bool}
use Rattle.sqlite_pages.specs.PageMap.{PageMap}
use Rattle.sqlite_value.specs.Order.{Row}
use Rattle.sqlite_value.specs.Keys.{plain, prefix_cmp, entry_cmp}
use Rattle.sqlite_record.specs.Record.{decode}
use Rattle.sqlite_trees.specs.declared.store.Shape.TheVariants.{Index}
use Rattle.sqlite_trees.specs.Tree.{from_key, IsIndex}
use Rattle.sqlite_trees.proofs.ListLemmas.{map-map}
use Rattle.sqlite_btree.specs.Chain.{Layout, Entry}
use Rattle.sqlite_btree.specs.Cut.{from_cut}
use Rattle.sqlite_btree.specs.Stored.{as_record}
use Rattle.sqlite_btree.specs.Batch.{left_in, IsFilled}
use Rattle.sqlite_btree.specs.declared.batch.Batch.{Batch}
use Rattle.sqlite_store.specs.Cursor.{rows_after}
use Rattle.sqlite_store.specs.Sides.{below_or_above, up_to_or_above}
use Rattle.sqlite_store.proofs.OrderLemmas.{below_is, up_to_is}
use Rattle.sqlite_store.proofs.RowLemmas.{from_key-map, rows_after-map, after_mark}
use Rattle.keep_trees.specs.Walks.{entries_left, HasAhead, StartsAt, Advances, TakesEntry}

-- what follows a key, and what follows an entry, ends the list
pub key_ends : (key : Row) (es ys : List Row) → from_key plain key es ≡ ys → (front : List Row) × (es ≡ front ++ ys)
key_ends key [] ys h = ([], h)
key_ends key (e ∷ es) ys h =
    elim (cases_Bool (is_lt (prefix_cmp plain e key))) [
      | inl low ↦ let r = key_ends key es ys (rw low at h) in (e ∷ r.0, ap (λ (l : List Row). e ∷ l) r.1)
      | inr high ↦ ([], rw high at h)
    ]

-- entries behind another end the list as well
pub after_ends : (mark : Row) (es ys : List Row) → rows_after (Index plain) mark es ≡ ys → (front : List Row)
    × (es ≡ front ++ ys)
after_ends mark [] ys h = ([], h)
after_ends mark (e ∷ es) ys h =
    elim (cases_Bool (is_gt (entry_cmp plain e mark))) [
      | inl high ↦ ([], rw high at h)
      | inr low ↦ let r = after_ends mark es ys (rw low at h) in (e ∷ r.0, ap (λ (l : List Row). e ∷ l) r.1)
    ]

-- what stands behind an entry is what comes after it
pub behind_it : (es front : List Row) (x : Row) (rest : List Row) → IsIndex plain es → es ≡ front ++ x ∷ rest
    → rows_after (Index plain) x es ≡ rest
behind_it es front x rest up is =
    ap (rows_after (Index plain) x) is ∙ after_mark (Index plain) front x rest (subst (IsIndex plain) is up)

-- a batch's entries as they are read
read_left : (pages : PageMap) (batch : Batch)
    → map decode (map as_record (left_in pages batch)) ≡ entries_left pages batch
read_left pages batch = map-map decode as_record (left_in pages batch)

-- a batch that was filled from a key on
pub filled_from : (key : Row) (raw : List (List ℕ)) (layout : Layout) (size : ℕ) (pages : PageMap) (batch : Batch)
    → IsFilled as_record (from_cut (λ x. below_or_above (prefix_cmp plain (decode x) key)) raw) layout size pages batch
    → (rest : List Row) × (from_key plain key (map decode raw) ≡ entries_left pages batch ++ rest)
    × (entries_left pages batch ≡ [] → rest ≡ [])
filled_from key raw layout size pages batch filled = (
  map decode filled.rest,
  sym (from_key-map decode _ plain key (λ x. below_is _) raw) ∙ ap (map decode) filled.parts
      ∙ map-append decode (map as_record (left_in pages batch)) filled.rest
      ∙ ap (λ (l : List Row). l ++ map decode filled.rest) (read_left pages batch),
  λ none. ap (map decode) (filled.ends (no_entries (left_in pages batch) none)),
)
  where
    no_entries : (es : List Entry) → map (λ (e : Entry). decode e.payload) es ≡ [] → es ≡ []
    no_entries [] h = refl
    no_entries (e ∷ es) h = absurd (cc)

-- and from behind an entry on
pub filled_behind : (mark : Row) (raw : List (List ℕ)) (layout : Layout) (size : ℕ) (pages : PageMap) (batch : Batch)
    → IsFilled as_record (from_cut (λ x. up_to_or_above (entry_cmp plain (decode x) mark)) raw) layout size pages batch
    → (rest : List Row) × (rows_after (Index plain) mark (map decode raw) ≡ entries_left pages batch ++ rest)
    × (entries_left pages batch ≡ [] → rest ≡ [])
filled_behind mark raw layout size pages batch filled = (
  map decode filled.rest,
  sym (rows_after-map decode _ (Index plain) mark (λ x. up_to_is _) raw) ∙ ap (map decode) filled.parts
      ∙ map-append decode (map as_record (left_in pages batch)) filled.rest
      ∙ ap (λ (l : List Row). l ++ map decode filled.rest) (read_left pages batch),
  λ none. ap (map decode) (filled.ends (no_entries (left_in pages batch) none)),
)
  where
    no_entries : (es : List Entry) → map (λ (e : Entry). decode e.payload) es ≡ [] → es ≡ []
    no_entries [] h = refl
    no_entries (e ∷ es) h = absurd (cc)

module _ (layout : Layout) (size : ℕ) (pages : PageMap) (entries : List Row) (up : IsIndex plain entries) where
  -- the first of a batch that was filled from a key on
  pub starts : (key : Row) (old new : Batch) (before entry : Row) (found : Bool) (rest : List Row)
      → from_key plain key entries ≡ entries_left pages old ++ rest → (entries_left pages old ≡ [] → rest ≡ [])
      → TakesEntry layout size pages old new before entry found → StartsAt layout size pages entries key new entry found
  starts key old new before entry true rest parts ends took =
      let all : from_key plain key entries ≡ entry ∷ (entries_left pages new ++ rest) =
      parts ∙ ap (λ (l : List Row). l ++ rest) took.0 in
      let split = key_ends key entries _ all in
      let behind = behind_it entries split.0 entry _ up split.1 in
      (all ∙ ap (λ (l : List Row). entry ∷ l) (sym behind), record { valid = took.1; rest = rest; ahead = behind })
  starts key old new before entry false rest parts ends took =
      parts ∙ ap₂ (λ (l r : List Row). l ++ r) took.0 (ends took.0)

  -- the next of what a batch has left
  pub goes_on : (old new : Batch) (last entry : Row) → HasAhead layout size pages entries old last
      → TakesEntry layout size pages old new last entry true → Advances layout size pages entries last new entry true
  goes_on old new last entry ahead took =
      let all : rows_after (Index plain) last entries ≡ entry ∷ (entries_left pages new ++ ahead.rest) =
      ahead.ahead ∙ ap (λ (l : List Row). l ++ ahead.rest) took.0 in
      let split = after_ends last entries _ all in
      let behind = behind_it entries split.0 entry _ up split.1 in (
        all ∙ ap (λ (l : List Row). entry ∷ l) (sym behind),
        record { valid = took.1; rest = ahead.rest; ahead = behind },
      )

  -- the first of a batch that was filled from behind an entry on
  pub goes_over : (old new : Batch) (last before entry : Row) (found : Bool) (rest : List Row)
      → rows_after (Index plain) last entries ≡ entries_left pages old ++ rest
      → (entries_left pages old ≡ [] → rest ≡ [])
      → TakesEntry layout size pages old new before entry found
      → Advances layout size pages entries last new entry found
  goes_over old new last before entry true rest parts ends took =
      let all : rows_after (Index plain) last entries ≡ entry ∷ (entries_left pages new ++ rest) =
      parts ∙ ap (λ (l : List Row). l ++ rest) took.0 in
      let split = after_ends last entries _ all in
      let behind = behind_it entries split.0 entry _ up split.1 in
      (all ∙ ap (λ (l : List Row). entry ∷ l) (sym behind), record { valid = took.1; rest = rest; ahead = behind })
  goes_over old new last before entry false rest parts ends took =
      parts ∙ ap₂ (λ (l r : List Row). l ++ r) took.0 (ends took.0)
