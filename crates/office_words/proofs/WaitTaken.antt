-- What is left of words where those are taken off that say the wait.
use Rattle.std.proofs.Common.{◌≡◌, ◌∙◌, ◌+◌, ℕ, Bool, zero, suc, refl, sym, ap, List, [], ◌∷◌, Option, Some, None}
use Rattle.std.proofs.Common.{map, length, drop, not, cond, nat_lt, option_and_then, option_map, string_bytes, String, Global}
use Rattle.std.specs.Option.{option_map_or}
use Rattle.std.specs.List.{position, prefix_len, remove}
use Rattle.std.proofs.lemmas.List.{length-map, drop-map}
use Rattle.office_words.specs.Grammar.{Text}
use Rattle.office_words.specs.Waits.{is_met, wait_at, wait_from, wait_of, wait_said, without, words_left}

-- as many pass from the front on
prefix_map : {X Y : Type 0} (p : Y → Bool) (f : X → Y) (xs : List X) → prefix_len p (map f xs) ≡ prefix_len (λ x. p (f x)) xs
prefix_map p f [] = refl
prefix_map p f (x ∷ xs) = ap (λ n. cond (p (f x)) (1 + n) 0) (prefix_map p f xs)

-- the first that passes stands where it stood
pub position_map : {X Y : Type 0} (p : Y → Bool) (f : X → Y) (xs : List X) → position p (map f xs) ≡ position (λ x. p (f x)) xs
position_map p f xs =
    ap (λ n. cond (nat_lt n (length (map f xs))) (Some n) None) (prefix_map (λ y. not (p y)) f xs)
    ∙ ap (λ l. cond (nat_lt (prefix_len (λ x. not (p (f x))) xs) l) (Some (prefix_len (λ x. not (p (f x))) xs)) None)
    (length-map xs f)

-- what is taken out is taken out of what each becomes
pub map_remove : {X Y : Type 0} (f : X → Y) (xs : List X) (i : ℕ) → map f (remove xs i) ≡ remove (map f xs) i
map_remove f [] zero = refl
map_remove f [] (suc i) = refl
map_remove f (x ∷ xs) zero = refl
map_remove f (x ∷ xs) (suc i) = ap (λ ys. f x ∷ ys) (map_remove f xs i)

-- the words of the line, as text
abbrev texts : List (String Global) → List Text
texts words = map string_bytes words

-- where no word is met, nothing is said
pub unsaid : (words : List (String Global)) (o : Option ℕ) → o ≡ position (λ word. is_met (string_bytes word)) words → o ≡ None →
    wait_said (texts words) ≡ None
unsaid words o at none = ap (λ p. option_and_then (wait_at (texts words)) p) (position_map is_met string_bytes words ∙ sym at ∙ none)

-- what is said at the place that is met is what the words from there on begin with
pub said_there : (words rest : List (String Global)) (i : ℕ) (o : Option ℕ) (r : Option (ℕ × Bool)) →
    o ≡ position (λ word. is_met (string_bytes word)) words → o ≡ Some i → rest ≡ drop i words → r ≡ wait_from (texts rest) →
    wait_said (texts words) ≡ option_map (λ said. (i, said.0, said.1)) r
said_there words rest i o r at some back from =
    ap (λ p. option_and_then (wait_at (texts words)) p) (position_map is_met string_bytes words ∙ sym at ∙ some)
    ∙ ap (λ xs. option_map (λ said. (i, said.0, said.1)) (wait_from xs)) (drop-map string_bytes i words)
    ∙ ap (λ xs. option_map (λ said. (i, said.0, said.1)) (wait_from (texts xs))) (sym back)
    ∙ ap (λ x. option_map (λ said. (i, said.0, said.1)) x) (sym from)

-- the seconds of what is said
pub seconds_said : (words : List Text) (r : Option (ℕ × ℕ × Bool)) → wait_said words ≡ r →
    wait_of words ≡ option_map_or (λ said. said.1) r 5
seconds_said words r e = ap (λ x. option_map_or (λ said. said.1) x 5) e

-- the words that are left by it
pub left_by : (words : List Text) (r : Option (ℕ × ℕ × Bool)) → wait_said words ≡ r →
    words_left words ≡ option_map_or (λ said. without words said.0 said.2) r words
left_by words r e = ap (λ x. option_map_or (λ said. without words said.0 said.2) x words) e

-- two words taken out at one place
pub twice : {X Y : Type 0} (f : X → Y) (xs : List X) (i : ℕ) →
    map f (remove (remove xs i) i) ≡ remove (remove (map f xs) i) i
twice f xs i = map_remove f (remove xs i) i ∙ ap (λ ys. remove ys i) (map_remove f xs i)
