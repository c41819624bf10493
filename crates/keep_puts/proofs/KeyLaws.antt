-- Amounts that follow the entries of an index have keys that none of these has.
use Rattle.std.proofs.Common.{◌≡◌, true, false, List, [], ◌∷◌, ◌++◌, length, take, refl, sym, ap, subst, ◌∙◌}
use Rattle.std.proofs.Common.{Ordering, Less, Equal, Greater, is_lt, is_eq}
use Rattle.std.specs.List.{AllByRecursion}
use Rattle.std.specs.List.Sorted.{IsStrictlySortedBy}
use Rattle.std.specs.Ordering.{ordering_then}
use Rattle.sqlite_value.specs.declared.keys.Order.{Order}
use Rattle.sqlite_value.specs.Order.{Row}
use Rattle.sqlite_value.specs.Keys.{plain, by_key, first_key, later, entry_cmp, prefix_cmp}
use Rattle.sqlite_value.proofs.KeyLemmas.{entry_cmp_total}
use Rattle.sqlite_trees.specs.Tree.{IsIndex}
use Rattle.sqlite_trees.proofs.TreeLemmas.{prefix_cmp_follows}
use Rattle.sqlite_trees.proofs.ListLemmas.{all-append}
use Rattle.sqlite_keyed.proofs.ListLemmas.{filter_none, all_weaker}
use Rattle.road_time.specs.declared.day.SpentRow.{SpentRow}
use Rattle.keep_office.specs.Office.{row_cmp}
use Rattle.keep_trees.specs.Finds.{opens_with}
use Rattle.keep_trees.proofs.EntryLaws.{under}
use Rattle.keep_trees.proofs.IndexLaws.{keyed_so}
use Rattle.keep_puts.specs.Steps.{key_of, MayFollow}
use Rattle.keep_puts.proofs.ListLaws.{below_end}
use Rattle.keep_puts.specs.Keys.{IsFree, FreeKeys}

-- what is below is not level
below_apart : (o : Ordering) → is_lt o ≡ true → is_eq o ≡ false
below_apart Less h = refl
below_apart Equal h = absurd (cc)
below_apart Greater h = refl

-- what is told to be below is below
is_below : (o : Ordering) → is_lt o ≡ true → o ≡ Less
is_below Less h = refl
is_below Equal h = absurd (cc)
is_below Greater h = absurd (cc)

-- an entry compares with a key by as many columns as that has
by_columns : (o : Order) (e key : Row) → prefix_cmp o e key ≡ entry_cmp o (take (length key) e) key
by_columns o [] [] = refl
by_columns o (v ∷ e) [] = refl
by_columns o [] (k ∷ key) = refl
by_columns o (v ∷ e) (k ∷ key) = ap (ordering_then (by_key (first_key o) v k)) (by_columns (later o) e key)

-- each entry is below the key of an amount
abbrev AreBelow : List Row → SpentRow → Type 0
AreBelow entries r = AllByRecursion (λ e. is_lt (prefix_cmp plain e (key_of r)) ≡ true) entries

-- what is below the key of an amount is below that of one that comes after it
lower : (r s : SpentRow) (e : Row) → row_cmp r s ≡ Less → is_lt (prefix_cmp plain e (key_of r)) ≡ true
    → is_lt (prefix_cmp plain e (key_of s)) ≡ true
lower r s e up low =
    let first : entry_cmp plain (take 3 e) (key_of r) ≡ Less =
    sym (by_columns plain e (key_of r)) ∙ is_below (prefix_cmp plain e (key_of r)) low in
    let second : entry_cmp plain (key_of r) (key_of s) ≡ Less = keyed_so r s ∙ up in
    ap is_lt (by_columns plain e (key_of s) ∙ (entry_cmp_total plain).trans (take 3 e) (key_of r) (key_of s) first second)

-- a list that has one has a last one
record HasEnd (es : List Row) : Type 0 where
  front : List Row
  last : Row
  parts : es ≡ front ++ last ∷ []

-- what comes last of some after one
with_end : (e : Row) (es : List Row) → HasEnd (e ∷ es)
with_end e [] = record { front = []; last = e; parts = refl }
with_end e (x ∷ es) =
    let more = with_end x es in
    record { front = e ∷ more.front; last = more.last; parts = ap (λ l. e ∷ l) more.parts }

-- entries up to the last are below the key of an amount that may follow
up_to_end : (front : List Row) (last : Row) (r : SpentRow) → IsIndex plain (front ++ last ∷ [])
    → prefix_cmp plain last (key_of r) ≡ Less
    → AreBelow (front ++ last ∷ []) r
up_to_end front last r up low =
    let end : is_lt (prefix_cmp plain last (key_of r)) ≡ true = ap is_lt low in
    all-append (λ (e : Row). is_lt (prefix_cmp plain e (key_of r)) ≡ true) front (last ∷ [])
    (all_weaker (λ (e : Row). entry_cmp plain e last ≡ Less)
    (λ (e : Row). is_lt (prefix_cmp plain e (key_of r)) ≡ true)
    (λ e less. (prefix_cmp_follows plain (key_of r) e last (under _ less)).0 end) front
    (below_end (λ (a b : Row). entry_cmp plain a b ≡ Less) front last up))
    (end, tt)

-- all entries are below the first key
all_below : (entries : List Row) (r : SpentRow) (rows : List SpentRow) → IsIndex plain entries
    → MayFollow entries (r ∷ rows) → AreBelow entries r
all_below [] r rows up follow = tt
all_below (e ∷ es) r rows up follow =
    let has = with_end e es in
    subst (λ l. AreBelow l r) (sym has.parts)
    (up_to_end has.front has.last r (subst (IsIndex plain) has.parts up) (follow has.front has.last has.parts))

-- what is below a key does not begin with it
none_begins : (entries : List Row) (r : SpentRow) → AreBelow entries r → IsFree entries r
none_begins entries r low =
    filter_none (opens_with (key_of r)) entries
    (all_weaker (λ (e : Row). is_lt (prefix_cmp plain e (key_of r)) ≡ true)
    (λ (e : Row). opens_with (key_of r) e ≡ false)
    (λ e less. below_apart (prefix_cmp plain e (key_of r)) less) entries low)

-- so no key of the amounts is taken
pub free_keys : FreeKeys
unfolding IsStrictlySortedBy
free_keys entries [] up rise follow = tt
free_keys entries (r ∷ rows) up rise follow =
    let low = all_below entries r rows up follow in (
      none_begins entries r low,
      all_weaker (λ (s : SpentRow). row_cmp r s ≡ Less) (IsFree entries)
          (λ s less. none_begins entries s
          (all_weaker (λ (e : Row). is_lt (prefix_cmp plain e (key_of r)) ≡ true)
          (λ (e : Row). is_lt (prefix_cmp plain e (key_of s)) ≡ true)
          (λ e below. lower r s e less below) entries low)) rows rise.0,
    )
