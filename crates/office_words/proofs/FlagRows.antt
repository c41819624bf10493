-- The rows that clap has of flags that are not said, behind those of what is.
use Rattle.std.proofs.Common.{◌≡◌, ◌∙◌, ◌||◌, Bool, cond, true, false, refl, ap, subst, List, [], ◌∷◌, ◌++◌, Option}
use Rattle.std.proofs.Common.{Some, None, find, option_and_then, slice_get, bytes_eq, true≢false}
use Rattle.std.specs.Option.{option_map_or}
use Rattle.std.proofs.lemmas.Slice.Eq.{bytes_eq-Decides}
use Rattle.clap.specs.Facts.{explicit_source}
use Rattle.clap.specs.Takes.{is_given}
use Rattle.clap.specs.Walk.{Row, at_row, first_of, has_row, more_values, with_default, with_values}
use Rattle.clap.specs.declared.builder.value_parser.Reading.TheVariants.{AsWritten}
use Rattle.clap.specs.declared.parser.matches.ValueSource.TheVariants.{DefaultValue}
use Rattle.office_words.specs.Grammar.{Text, contains, lacks}
use Rattle.office_words.specs.Laws.{row_unsaid, with_flags}
use Rattle.office_words.proofs.Leaf.{flag_made}

-- no row has the name
pub no_row : (n : Text) (change : Row → List Row) (missing r : List Row) → has_row n r ≡ false →
    at_row n change missing r ≡ r ++ missing
no_row n change missing [] new = refl
no_row n change missing (x ∷ r) new = go (bytes_eq x.id n) refl (no_row n change missing r)
  where
    go : (b : Bool) → bytes_eq x.id n ≡ b → (has_row n r ≡ false → at_row n change missing r ≡ r ++ missing)
        → at_row n change missing (x ∷ r) ≡ (x ∷ r) ++ missing
    go true e rest =
        let bad : true ≡ false = rw e at new in
        absurd (true≢false bad)
    go false e rest =
        let none : has_row n r ≡ false = rw e at new in
        rw e (ap (λ y. x ∷ y) (rest none))

-- a flag that has no row has one behind all from then on, and says that it is not said
pub flag_row : (n : Text) (r : List Row) → with_default r (flag_made n) ≡ cond (has_row n r) r (r ++ row_unsaid n ∷ [])
flag_row n r = go (has_row n r) refl
  where
    go : (b : Bool) → has_row n r ≡ b → cond b r (with_values n AsWritten DefaultValue (lacks ∷ []) r)
        ≡ cond b r (r ++ row_unsaid n ∷ [])
    go true e = refl
    go false e = no_row n (more_values DefaultValue (lacks ∷ [])) (row_unsaid n ∷ []) r e

-- a row that no words gave makes no name given
given_more : (n m : Text) (r : List Row) → is_given n (r ++ row_unsaid m ∷ []) ≡ is_given n r
given_more n m [] = go (bytes_eq m n)
  where
    go : (b : Bool) → option_map_or (λ x. explicit_source x.source) (cond b (Some (row_unsaid m)) None) false ≡ false
    go true = refl
    go false = refl
given_more n m (x ∷ r) = go (bytes_eq x.id n) (given_more n m r)
  where
    go : (b : Bool) → is_given n (r ++ row_unsaid m ∷ []) ≡ is_given n r
        → option_map_or (λ y. explicit_source y.source)
        (cond b (Some x) (find (λ y. bytes_eq y.id n) (r ++ row_unsaid m ∷ []))) false
        ≡ option_map_or (λ y. explicit_source y.source) (cond b (Some x) (find (λ y. bytes_eq y.id n) r)) false
    go true e = refl
    go false e = e

-- nor do the rows of all flags that are not said
pub given_still : (flags : List Text) (n : Text) (r : List Row) → is_given n (with_flags flags r) ≡ is_given n r
given_still [] n r = refl
given_still (m ∷ ms) n r = given_still ms n (cond (has_row m r) r (r ++ row_unsaid m ∷ [])) ∙ go (has_row m r)
  where
    go : (b : Bool) → is_given n (cond b r (r ++ row_unsaid m ∷ [])) ≡ is_given n r
    go true = refl
    go false = given_more n m r

-- a name has a row more where that row has its name
has_more : (n : Text) (r : List Row) (x : Row) → has_row n (r ++ x ∷ []) ≡ (has_row n r || bytes_eq x.id n)
has_more n [] x = go (bytes_eq x.id n)
  where
    go : (b : Bool) → (b || false) ≡ b
    go true = refl
    go false = refl
has_more n (y ∷ r) x = go (bytes_eq y.id n) (has_more n r x)
  where
    go : (b : Bool) → has_row n (r ++ x ∷ []) ≡ (has_row n r || bytes_eq x.id n) →
        (b || has_row n (r ++ x ∷ [])) ≡ ((b || has_row n r) || bytes_eq x.id n)
    go true e = refl
    go false e = e

-- the value of a name that has a row is that row's, also with a row more behind it
first_more : (n : Text) (r : List Row) (x : Row) → first_of n (r ++ x ∷ [])
    ≡ cond (has_row n r) (first_of n r) (cond (bytes_eq x.id n) (slice_get x.values 0) None)
first_more n [] x = go (bytes_eq x.id n)
  where
    go : (b : Bool) → option_and_then (λ (y : Row). slice_get y.values 0) (cond b (Some x) None) ≡
        cond b (slice_get x.values 0) None
    go true = refl
    go false = refl
first_more n (y ∷ r) x = go (bytes_eq y.id n) (first_more n r x)
  where
    tail : Option Text
    tail = cond (bytes_eq x.id n) (slice_get x.values 0) None

    go : (b : Bool) → first_of n (r ++ x ∷ []) ≡ cond (has_row n r) (first_of n r) tail
        → option_and_then (λ (z : Row). slice_get z.values 0) (cond b (Some y) (find (λ z. bytes_eq z.id n) (r ++ x ∷ [])))
        ≡ cond (b || has_row n r)
        (option_and_then (λ (z : Row). slice_get z.values 0) (cond b (Some y) (find (λ z. bytes_eq z.id n) r))) tail
    go true e = refl
    go false e = e

-- what a flag that is not said has
abbrev pub unsaid : List Text → Text → Option Text
unsaid flags n = cond (contains flags n) (Some lacks) None

-- a name without a row has no value
first_none : (n : Text) (r : List Row) → has_row n r ≡ false → first_of n r ≡ None
first_none n [] e = refl
first_none n (y ∷ r) e = go (bytes_eq y.id n) refl (first_none n r)
  where
    go : (b : Bool) → bytes_eq y.id n ≡ b → (has_row n r ≡ false → first_of n r ≡ None) → first_of n (y ∷ r) ≡ None
    go true hit rest =
        let bad : true ≡ false = rw hit at e in
        absurd (true≢false bad)
    go false hit rest =
        let none : has_row n r ≡ false = rw hit at e in
        rw hit (rest none)

-- the value of a name: that of its row, and where it has none, that a flag is not said
pub first_by : (flags : List Text) (n : Text) (r : List Row) →
    first_of n (with_flags flags r) ≡ cond (has_row n r) (first_of n r) (unsaid flags n)
first_by [] n r = go (has_row n r) refl
  where
    go : (b : Bool) → has_row n r ≡ b → first_of n r ≡ cond b (first_of n r) None
    go true e = refl
    go false e = first_none n r e
first_by (m ∷ ms) n r =
    here (has_row m r) refl (first_by ms n (cond (has_row m r) r (r ++ row_unsaid m ∷ [])))
  where
    same_name : (b : Bool) → bytes_eq m n ≡ b → has_row m r ≡ true
        → cond (has_row n r) (first_of n r) (unsaid ms n)
        ≡ cond (has_row n r) (first_of n r) (cond (b || contains ms n) (Some lacks) None)
    same_name true e has =
        let it : has_row n r ≡ true = subst (λ x. has_row x r ≡ true) ((bytes_eq-Decides m n).0 e) has in
        rw it refl
    same_name false e has = refl

    more : (h b : Bool)
        → cond (h || b) (cond h (first_of n r) (cond b (Some lacks) None)) (unsaid ms n)
        ≡ cond h (first_of n r) (cond (b || contains ms n) (Some lacks) None)
    more true b = refl
    more false true = refl
    more false false = refl

    here : (h : Bool) → has_row m r ≡ h
        → first_of n (with_flags ms (cond (has_row m r) r (r ++ row_unsaid m ∷ [])))
        ≡ cond (has_row n (cond (has_row m r) r (r ++ row_unsaid m ∷ [])))
        (first_of n (cond (has_row m r) r (r ++ row_unsaid m ∷ []))) (unsaid ms n)
        → first_of n (with_flags ms (cond (has_row m r) r (r ++ row_unsaid m ∷ [])))
        ≡ cond (has_row n r) (first_of n r) (unsaid (m ∷ ms) n)
    here true has rest =
        let it : first_of n (with_flags ms r) ≡ cond (has_row n r) (first_of n r) (unsaid ms n) = rw has at rest in
        rw has (it ∙ same_name (bytes_eq m n) refl has)
    here false has rest =
        let it : first_of n (with_flags ms (r ++ row_unsaid m ∷ []))
        ≡ cond (has_row n (r ++ row_unsaid m ∷ [])) (first_of n (r ++ row_unsaid m ∷ [])) (unsaid ms n) =
        rw has at rest in
        rw has (it
        ∙ rw (has_more n r (row_unsaid m), first_more n r (row_unsaid m)) (more (has_row n r) (bytes_eq m n)))
