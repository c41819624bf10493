-- what was told to the shards is taken from them, position by position
use Rattle.std.proofs.Common.{◌≡◌, ℕ, ◌<◌, false, List, [], ◌∷◌, ◌++◌, length, map, All, Option, refl, sym, ap}
use Rattle.std.proofs.Common.{subst, ◌∙◌, slice_index_or}
use Rattle.std.proofs.lemmas.List.{append-nil, append_assoc, map-append}
use Rattle.road_time.specs.declared.road.Tuple.{Tuple}
use Rattle.road_time.specs.Sights.{moments_after}
use Rattle.road_time.proofs.SightLaws.{moments-append}
use Rattle.day_floor.specs.declared.tracked.Tracked.{Tracked}
use Rattle.day_floor.specs.Stands.{StandsFor}
use Rattle.ways_audit.specs.declared.shard.Shard.{Shard}
use Rattle.ways_audit.specs.Seen.{tracked_by, tracked_after}
use Rattle.ways_audit.specs.Stands.{HaveSeen, WentOver, Awaits, Await}

-- what one more tuple tells
pub tracked_push : (before xs : List Tuple) (x : Tuple) →
    tracked_after before (xs ++ x ∷ []) ≡ tracked_after before xs ++ tracked_by (before ++ xs, x) ∷ []
tracked_push before xs x = ap (map tracked_by) (moments-append before xs (x ∷ []))
    ∙ map-append tracked_by (moments_after before xs) ((before ++ xs, x) ∷ [])

-- of tuples that were told to the shards, those done were taken: the rest waits, and the list has what those done told
pub record Taken (was : List Shard) (tuples : List Tuple) (now : List Shard) (list : List (Option Tracked))
    (done rest : List Tuple) : Type 0 where
  pub many : length now ≡ length was
  pub wait : (whole given : List Tuple) → Await whole given tuples was → Await whole (given ++ done) rest now
  pub list_is : (whole given : List Tuple) → Await whole given tuples was → list ≡ tracked_after given done

pub taken_none : (shards : List Shard) (tuples : List Tuple) → Taken shards tuples shards [] [] tuples
taken_none shards tuples = record {
  many = refl;
  wait = λ whole given w. subst (λ g. Await whole g tuples shards) (sym (append-nil given)) w;
  list_is = λ whole given w. refl;
}

-- one tuple more
pub taken_more : (was : List Shard) (tuples : List Tuple) (now next : List Shard) (list : List (Option Tracked))
    (done rest : List Tuple) (x : Tuple) (told : Option Tracked) →
    Taken was tuples now list done (x ∷ rest) → length next ≡ length now →
    ((whole given later : List Tuple) → Await whole given (x ∷ later) now → told ≡ tracked_by (given, x)) →
    ((whole given later : List Tuple) → Await whole given (x ∷ later) now → Await whole (given ++ x ∷ []) later next) →
    Taken was tuples next (list ++ told ∷ []) (done ++ x ∷ []) rest
taken_more was tuples now next list done rest x told h len is left = record {
  many = len ∙ h.many;
  wait = λ whole given w. subst (λ g. Await whole g rest next) (append_assoc given done (x ∷ []))
      (left whole (given ++ done) rest (h.wait whole given w));
  list_is = λ whole given w.
      ap (λ l. l ++ told ∷ []) (h.list_is whole given w)
      ∙ ap (λ t. tracked_after given done ++ t ∷ []) (is whole (given ++ done) rest (h.wait whole given w))
      ∙ sym (tracked_push given done x);
}

-- where all are done nothing waits
pub none_wait : (shards : List Shard) (whole given : List Tuple) → Await whole given [] shards → HaveSeen shards whole
none_wait shards whole given w =
    λ place d within. (let s = w place d within in record { tracks = s.tracks; nothing = s.told; serves = s.serves })

-- a shard of which no vehicle was seen
pub record IsNew (s : Shard) : Type 0 where
  pub tracks : StandsFor s.tracker []
  pub nothing : s.told.items ≡ []
  pub serves : s.refused ≡ false

pub new_have_seen : (shards : List Shard) → All IsNew shards → HaveSeen shards []
new_have_seen shards h =
    λ place d within. (let s = h place d within in record { tracks = s.tracks; nothing = s.nothing; serves = s.serves })

-- shards that went over tuples, none of them refused memory, have them waiting
pub went_over : (was now : List Shard) (tuples : List Tuple) → length now ≡ length was →
    ((place : ℕ) (d : Shard) → place < length was →
    WentOver place (length was) tuples (slice_index_or was place d) (slice_index_or now place d)) →
    ((place : ℕ) (d : Shard) → place < length now → (slice_index_or now place d).refused ≡ false) →
    (given : List Tuple) → HaveSeen was given → Await (given ++ tuples) given tuples now
went_over was now tuples len over serve given seen = λ place d within.
    (let inside : place < length was = subst (λ n. place < n) len within in
    let o = over place d inside in
    let ok = serve place d within in
    subst (λ n. Awaits place n (given ++ tuples) given tuples (slice_index_or now place d)) (sym len)
    (record {
      tracks = o.over ok given (seen place d inside);
      told = o.told ok given (seen place d inside);
      serves =
          ok;
    }))
