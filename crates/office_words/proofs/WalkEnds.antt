-- The end of a subcommand's walk, and what is held on it, against what the grammar says.
use Rattle.std.proofs.Common.{◌≡◌, ◌∙◌, ◌&&◌, ◌||◌, ◌+◌, ℕ, Bool, cond, not, true, false, refl, sym, ap, subst, List}
use Rattle.std.proofs.Common.{[], ◌∷◌, ◌++◌, map, min, Option, Some, None, find, fold, option_map, option_and_then}
use Rattle.std.proofs.Common.{bytes_eq, append-nil}
use Rattle.std.specs.List.{list_any, list_all}
use Rattle.std.specs.Option.{option_map_or}
use Rattle.std.proofs.lemmas.List.{map-append}
use Rattle.clap.specs.Lexer.{usize_max}
use Rattle.clap.specs.Kinds.{Kinds, or_else, check_kinds}
use Rattle.clap.specs.Facts.{explicit_source}
use Rattle.clap.specs.declared.error.kind.ErrorKind.{ErrorKind}
use Rattle.std.proofs.Math.Bool.{or-true}
use Rattle.office_words.specs.App.{unless}
use Rattle.clap.specs.Walk.{Rule, Row, Held, Walk, Waiting, idle, arg_by_id, walked, with_default, settled}
use Rattle.clap.specs.Walk.{settled_rows, has_row, finished, used, at_row, with_values, without, more_values}
use Rattle.clap.specs.declared.parser.matches.ValueSource.TheVariants.{CommandLine}
use Rattle.clap.specs.declared.builder.value_parser.Reading.TheVariants.{AsWritten}
use Rattle.clap.specs.declared.error.kind.ErrorKind.TheVariants.{ArgumentConflict}
use Rattle.clap.specs.Simple.{Shape}
use Rattle.clap.specs.Takes.{is_given}
use Rattle.clap.specs.Faults.{walk_fault, turn_fault, settle_fault, defaults_fault, check_fault, use_fault}
use Rattle.office_words.specs.Grammar.{Form, Text, Said, is_said, give, whole}
use Rattle.office_words.specs.Laws.{row_said, row_unsaid, with_flags}
use Rattle.office_words.proofs.FlagRows.{no_row, given_still, flag_row}
use Rattle.office_words.proofs.Leaf.{place_made, option_made, flag_made, places_made, named_made, flags_made, made, leaf, Knows}
use Rattle.office_words.proofs.Leaf.{as_place, as_option}

-- the rows of what was said
abbrev pub rows : Said → List Row
rows = map row_said

-- a name that is held with its values, if one is
abbrev pub Pending : Type 0
Pending = Option (Text × List Text)

-- a walk that holds these rows and this name
abbrev pub hold : List Row → Pending → Held
hold r p = record { rows = r; pending = p; skip = 0 }

-- a walk that stands there
abbrev pub at : List Row → Pending → Waiting → ℕ → Bool → Walk
at r p waiting i trailing =
    record { held = hold r p; waiting = waiting; position = i; is_trailing = trailing; stopped = None }

-- the faults at the end of a walk
abbrev end_fault : Shape → Held → Kinds
end_fault s h =
    or_else (settle_fault s.rules false h)
    (or_else (defaults_fault (settled s.rules h).rows s.rules) (check_fault s (finished s.rules h) false))

-- the rows at the end of a walk over these words, if it has no fault
abbrev pub outcome : Shape → Walk → List Text → Option (List Row)
outcome s w words =
    let end = (fold (walked s.rules []) w words).held in
    unless (or_else (walk_fault s [] w words) (end_fault s end)) (Some (finished s.rules end))

-- a word more
pub step : (s : Shape) (w : Walk) (word : Text) (words : List Text) →
    outcome s w (word ∷ words) ≡ unless (turn_fault s [] w word) (outcome s (walked s.rules [] w word) words)
unfolding walk_fault
step s w word words = go (turn_fault s [] w word)
  where
    next : Walk
    next = walked s.rules [] w word

    end : Held
    end = (fold (walked s.rules []) next words).held

    go : (k : Kinds) → unless (or_else (or_else k (walk_fault s [] next words)) (end_fault s end))
        (Some (finished s.rules end)) ≡ unless k (outcome s next words)
    go [] = refl
    go (k ∷ ks) = refl

-- no option of ours has a default
no_default_fault : (b : Bool) → cond (b || true) [] (Rattle.clap.specs.Faults.given_default_fault (option_made []) [])
    ≡ []
no_default_fault true = refl
no_default_fault false = refl

-- the same in both cases
either : {X : Type 0} (b : Bool) (x : X) → cond b x x ≡ x
either true x = refl
either false x = refl

-- there is no fault of a default
no_defaults : (i : ℕ) (places options flags : List Text) (r : List Row) →
    defaults_fault r (places_made i places (named_made options flags)) ≡ []
unfolding defaults_fault
no_defaults i (p ∷ ps) os fs r =
    rw (or-true (has_row p r)) (no_defaults (min (i + 1) usize_max) ps os fs (with_default r (place_made i p)))
no_defaults i [] (o ∷ os) fs r =
    rw (or-true (has_row o r)) (no_defaults i [] os fs (with_default r (option_made o)))
no_defaults i [] [] (n ∷ fs) r =
    let none : Kinds = [] in
    rw (either (has_row n r || false) none) (no_defaults i [] [] fs (with_default r (flag_made n)))
no_defaults i [] [] [] r = refl

-- only flags that have no row get one by default
flags_only : (i : ℕ) (places options flags : List Text) (r : List Row) →
    fold with_default r (places_made i places (named_made options flags)) ≡ with_flags flags r
flags_only i (p ∷ ps) os fs r = ap (λ x. fold with_default x (places_made (min (i + 1) usize_max) ps (named_made os fs)))
    (either (has_row p r) r) ∙ flags_only (min (i + 1) usize_max) ps os fs r
flags_only i [] (o ∷ os) fs r = ap (λ x. fold with_default x (named_made os fs)) (either (has_row o r) r)
    ∙ flags_only i [] os fs r
flags_only i [] [] (n ∷ fs) r = ap (λ x. fold with_default x (flags_made fs)) (flag_row n r)
    ∙ flags_only i [] [] fs (cond (has_row n r) r (r ++ row_unsaid n ∷ []))
flags_only i [] [] [] r = refl

-- a row is given where its name is said
given_is : (n : Text) (said : Said) → is_given n (rows said) ≡ is_said n said
given_is n [] = refl
given_is n (p ∷ said) = go (bytes_eq p.0 n) (given_is n said)
  where
    go : (b : Bool) → is_given n (rows said) ≡ is_said n said
        → option_map_or (λ r. explicit_source r.source)
        (cond b (Some (row_said p)) (find (λ r. bytes_eq r.id n) (rows said))) false ≡ (b || is_said n said)
    go true e = refl
    go false e = e

-- with the rows of the flags that are not said, a name is given where it is said
given_by : (flags : List Text) (said : Said) (n : Text) → is_given n (with_flags flags (rows said)) ≡ is_said n said
given_by flags said n = given_still flags n (rows said) ∙ given_is n said

-- a place that lacks its word, or one that is wanted
wants : (i : ℕ) (places options flags : List Text) (said : Said) (r : List Row)
    → ((n : Text) → is_given n r ≡ is_said n said)
    → list_any (λ a. a.required && not (is_given a.id r)) (places_made i places (named_made options flags))
    ≡ not (list_all (λ place. is_said place said) places)
wants i [] [] [] said r same = refl
wants i [] [] (n ∷ fs) said r same = wants i [] [] fs said r same
wants i [] (o ∷ os) fs said r same = wants i [] os fs said r same
wants i (p ∷ ps) os fs said r same =
    rw (same p) (go (is_said p said) (wants (min (i + 1) usize_max) ps os fs said r same))
  where
    go : (b : Bool) → list_any (λ a. a.required && not (is_given a.id r))
        (places_made (min (i + 1) usize_max) ps (named_made os fs)) ≡ not (list_all (λ place. is_said place said) ps)
        → (not b || list_any (λ a. a.required && not (is_given a.id r))
        (places_made (min (i + 1) usize_max) ps (named_made os fs)))
        ≡ not (b && list_all (λ place. is_said place said) ps)
    go true e = e
    go false e = refl

-- a name has a row where it is said
pub has_row_is : (n : Text) (said : Said) → has_row n (rows said) ≡ is_said n said
has_row_is n [] = refl
has_row_is n (p ∷ said) = ap (λ b. bytes_eq p.0 n || b) (has_row_is n said)

-- no row has the name that was not said
absent : (n : Text) (change : Row → List Row) (missing : List Row) (said : Said) → is_said n said ≡ false →
    at_row n change missing (rows said) ≡ rows said ++ missing
absent n change missing said without_it = no_row n change missing (rows said) (has_row_is n said ∙ without_it)

-- the rows with one more
abbrev pub set_row : Text → Text → List Row → List Row
set_row n v r = with_values n AsWritten CommandLine (v ∷ []) (without n r)

-- a name that was not said has one row more
pub one_more : (n v : Text) (said : Said) → is_said n said ≡ false →
    set_row n v (rows said) ≡ rows (said ++ (n, v) ∷ [])
one_more n v said new =
    ap (with_values n AsWritten CommandLine (v ∷ [])) (absent n (λ _. []) [] said new ∙ append-nil (rows said))
    ∙ absent n (more_values CommandLine (v ∷ [])) (row_said (n, v) ∷ []) said new
    ∙ sym (map-append row_said said ((n, v) ∷ []))

-- the rows of what was said, if anything was, and behind them those of the flags that were not
abbrev pub result : List Text → Option Said → Option (List Row)
result flags = option_map (λ said. with_flags flags (rows said))

-- a name that has a row is given twice
abbrev pub repeats : Text → List Row → Kinds
repeats n r = or_else (cond (has_row n r && true) (ArgumentConflict ∷ []) []) []

module _ (f : Form) where
  -- what is held comes to what was said, or fails
  abbrev pub Settles : List Row → Pending → Option Said → Type 0
  Settles r p None = (k : ErrorKind) × (ks : Kinds) × (settle_fault (made f) false (hold r p) ≡ k ∷ ks)
  Settles r p (Some said) = (settle_fault (made f) false (hold r p) ≡ []) × (settled_rows (made f) p r ≡ rows said)

  -- the end of a walk comes to what was said, if all places are
  pub at_end : (r : List Row) (p : Pending) (o : Option Said) (waiting : Waiting) (i : ℕ) (trailing : Bool) →
      Settles r p o
      → outcome (leaf f) (at r p waiting i trailing) [] ≡ result f.flags (option_and_then (whole f) o)
  unfolding walk_fault
  at_end r p None waiting i trailing s = rw s.2 refl
  at_end r p (Some said) waiting i trailing s =
      rw (
        s.0,
        s.1,
        no_defaults 1 f.places f.options f.flags (rows said),
        flags_only 1 f.places f.options f.flags (rows said),
        wants 1 f.places f.options f.flags said (with_flags f.flags (rows said)) (given_by f.flags said),
      ) (go (list_all (λ place. is_said place said) f.places))
    where
      go : (b : Bool) → unless (check_kinds false false (not b)) (Some (with_flags f.flags (rows said)))
          ≡ result f.flags (cond b (Some said) None)
      go true = refl
      go false = refl

  -- one more name with its value, which is held and not yet settled
  pub gives : (n v : Text) (r : List Row) (said : Said) → r ≡ rows said → Knows (made f) n →
      Settles r (Some (n, v ∷ [])) (give n v said)
  gives n v r said e k = subst (λ x. Settles x (Some (n, v ∷ [])) (give n v said)) (sym e) (by k)
    where
      from : (a : Rule) → arg_by_id (made f) n ≡ Some a → use_fault false a (v ∷ []) (rows said) ≡ repeats n (rows said)
          → used a (v ∷ []) (rows said) ≡ set_row n v (rows said) →
          Settles (rows said) (Some (n, v ∷ [])) (give n v said)
      from a found fault takes = go (is_said n said) refl
        where
          go : (b : Bool) → is_said n said ≡ b → Settles (rows said) (Some (n, v ∷ [])) (give n v said)
          go true has = rw has (ArgumentConflict, [], rw (found, fault, has_row_is n said, has) refl)
          go false new =
              rw new (rw (found, fault, has_row_is n said, new) refl, rw (found, takes) (one_more n v said new))

      by : Knows (made f) n → Settles (rows said) (Some (n, v ∷ [])) (give n v said)
      by (as_place i found) = from (place_made i n) found refl refl
      by (as_option found) = from (option_made n) found refl refl

  -- nothing comes of what fails
  pub none_said : (o : Option Said) → None ≡ result f.flags (option_and_then (λ said. None) o)
  none_said None = refl
  none_said (Some said) = refl

  -- the word goes to the place
  pub to_place : (r : List Row) (p : Pending) (o : Option Said) (place word : Text) (i : ℕ) (trailing : Bool)
      (words : List Text) (F : Said → Option Said) → Settles r p o → Knows (made f) place
      → ((x : List Row) (q : Pending) (y : Option Said) → Settles x q y →
      outcome (leaf f) (at x q idle i trailing) words ≡ result f.flags (option_and_then F y))
      → unless (settle_fault (made f) false (hold r p))
      (outcome (leaf f) (at (settled_rows (made f) p r) (Some (place, word ∷ [])) idle i trailing) words)
      ≡ result f.flags (option_and_then (λ said. option_and_then F (give place word said)) o)
  to_place r p None place word i trailing words F s k next = rw s.2 refl
  to_place r p (Some said) place word i trailing words F s k next =
      rw s.0 (next _ _ (give place word said) (gives place word _ said s.1 k))
