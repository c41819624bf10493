-- what is written of the positions that are settled
use Rattle.std.proofs.Common.{◌≡◌, ℕ, zero, suc, ◌+◌, ◌<◌, ◌≤◌, ◌==◌, List, [], ◌∷◌, ◌++◌, length, take, drop, get_or}
use Rattle.std.proofs.Common.{slice_get, Option, Some, None, Bool, true, false, cond, refl, arith, ap, sym, ◌∙◌, subst}
use Rattle.std.specs.List.{AllByRecursion, filter_map, cons_option}
use Rattle.std.specs.Map.{lookup}
use Rattle.std.specs.Option.{unwrap_or}
use Rattle.std.proofs.lemmas.List.{append-nil, take-append-le, take-append-drop, length_push, length-take-le}
use Rattle.std.proofs.lemmas.List.Concat.{flat_map-append}
use Rattle.std.proofs.lemmas.Bool.{ne_eqb}
use Rattle.road_time.specs.declared.road.Tuple.{Tuple}
use Rattle.road_time.specs.declared.road.Tuple.TheVariants.{Report as ReportTuple, Balance, Spent, Travel}
use Rattle.road_time.specs.declared.day.Limits.{Limits}
use Rattle.road_time.specs.Sights.{Sight, Moment, moments, moments_after, sights_of, previous}
use Rattle.road_time.specs.Stays.{is_told}
use Rattle.road_time.specs.Tolls.{StretchTold}
use Rattle.road_time.specs.Day.{told_if, told_sight, told_by, answer_by, owed_by, given, no_finding, notices_by}
use Rattle.road_time.specs.Day.{charges_by, merged}
use Rattle.road_time.specs.Text.{out}
use Rattle.road_time.proofs.EachLaws.{left_part}
use Rattle.road_time.proofs.SightLaws.{moments_take, moments_more, length-moments}
use Rattle.road_time.proofs.AccountLaws.{take_shorter, charges_step}
use Rattle.road_time.proofs.FindingLaws.{AgreeAt, notices_same, charges_same}
use Rattle.ways_expressway.specs.Events.{position_told}
use Rattle.day_floor.specs.Shares.{State}
use Rattle.day_floor.specs.Steps.{after_settle}
use Rattle.day_floor.specs.Sound.{SoundState, CanBack}
use Rattle.day_floor.specs.Written.{notices_between, written_to, settled_text, charged_to, settled_charges}
use Rattle.day_floor.proofs.Shapes.{told_all, found_all}
use Rattle.day_floor.proofs.Events.{all_ahead}
use Rattle.day_floor.proofs.PrintLaws.{out_both}

-- findings of later positions are not looked at
look_step : (b : Bool) (f : StretchTold) (o o' : Option StretchTold) → o ≡ o' → cond b (Some f) o ≡ cond b (Some f) o'
look_step true f o o' h = refl
look_step false f o o' h = h

none_later : (p n : ℕ) (fs : List (ℕ × StretchTold)) → p < n → AllByRecursion (λ f. n ≤ f.0) fs →
    lookup (λ at. at == p) fs ≡ None
none_later p n [] h l = refl
none_later p n (f ∷ fs) h l =
    ap (λ b. cond b (Some f.1) (lookup (λ at. at == p) fs)) (ne_eqb f.0 p (λ e. absurd (omega (arith, h, l.0, e))))
    ∙ none_later p n fs h l.1

look_same : (p n : ℕ) (found fs : List (ℕ × StretchTold)) → p < n → AllByRecursion (λ f. n ≤ f.0) fs →
    lookup (λ at. at == p) (found ++ fs) ≡ lookup (λ at. at == p) found
look_same p n [] fs h l = none_later p n fs h l
look_same p n (f ∷ found) fs h l = look_step (f.0 == p) f.1 _ _ (look_same p n found fs h l)

-- what is told at a moment is told at its position
told_when : (b : Bool) (s t : Sight) → told_if b s ≡ Some t → s.0 ≡ t.0
told_when true s t e = cc
told_when false s t e = cc

told_at : (before : List Tuple) (x : Tuple) (s : Sight) → told_sight (before, x) ≡ Some s → length before ≡ s.0
told_at before (ReportTuple r) s e = told_when (is_told (previous (sights_of before r.vid)) r) (length before, r) s e
told_at before (Balance time vid qid) s e = cc
told_at before (Spent time vid xway qid of_day) s e = cc
told_at before (Travel time) s e = cc

module _ (found fs : List (ℕ × StretchTold)) (n : ℕ) (later : AllByRecursion (λ f. n ≤ f.0) fs) where
  -- so findings of later positions agree at earlier moments with those without them
  agree_after : (before xs : List Tuple) → length before + length xs ≤ n →
      AllByRecursion (AgreeAt (given (found ++ fs)) (given found)) (moments_after before xs)
  agree_after before [] h = tt
  agree_after before (x ∷ xs) h = (
    λ s e. ap (λ o. unwrap_or o no_finding)
        (look_same s.0 n found fs (let at = told_at before x s e in omega (arith, h, at)) later),
    agree_after (before ++ x ∷ []) xs (omega (arith, h, length_push before x)),
  )

  agree_first : (day : List Tuple) → length day ≤ n →
      AllByRecursion (AgreeAt (given (found ++ fs)) (given found)) (moments day)
  agree_first day h = agree_after [] day (omega (arith, h))

  -- and make the same notices and charges of them
  pub merged_same : (day : List Tuple) → length day ≤ n → (number : ℕ) (kept : ℕ → ℕ → ℕ → ℕ) →
      merged day (found ++ fs) number kept ≡ merged day found number kept
  merged_same day h number kept = notices_same (given (found ++ fs)) (given found) number kept day (agree_first day h)

  pub charged_same : (day : List Tuple) → length day ≤ n →
      charges_by (given (found ++ fs)) (moments day) ≡ charges_by (given found) (moments day)
  charged_same day h = charges_same (given (found ++ fs)) (given found) day (agree_first day h)

  -- for the same reports that are told they give the same
  same_when : (o : Option Sight) (ts : List Sight) → ((t : Sight) → o ≡ Some t → given (found ++ fs) t ≡ given found t)
      → AllByRecursion (λ t. given found t ≡ given (found ++ fs) t) ts →
      AllByRecursion (λ t. given found t ≡ given (found ++ fs) t) (cons_option o ts)
  same_when None ts h g = g
  same_when (Some t) ts h g = (sym (h t refl), g)

  same_each : (ms : List Moment) → AllByRecursion (AgreeAt (given (found ++ fs)) (given found)) ms →
      AllByRecursion (λ t. given found t ≡ given (found ++ fs) t) (filter_map told_sight ms)
  same_each [] h = tt
  same_each (m ∷ ms) h = same_when (told_sight m) (filter_map told_sight ms) h.0 (same_each ms h.1)

  pub same_told : (day : List Tuple) → length day ≤ n →
      AllByRecursion (λ t. given found t ≡ given (found ++ fs) t) (filter_map told_sight (moments day))
  same_told day h = same_each (moments day) (agree_first day h)

-- one tuple more leaves the first ones
pub first_stay : (n : ℕ) (day : List Tuple) (x : Tuple) → n ≤ length day → take n (day ++ x ∷ []) ≡ take n day
first_stay n day x h = take-append-le n day (x ∷ []) h

-- findings that come back are of no settled position
pub not_settled : (width : ℕ) (limits : Limits) (s : State) (worker number : ℕ) (fs : List (ℕ × StretchTold)) →
    SoundState width limits s → CanBack width s worker number fs → AllByRecursion (λ f. s.settled ≤ f.0) fs
not_settled width limits s worker number fs sound can =
    let sh = s.share worker in
    found_all (λ p. s.settled ≤ p) fs
    (subst (AllByRecursion (λ p. s.settled ≤ p)) (sym can.shape)
    (told_all (λ p. s.settled ≤ p) sh.out
    (left_part (λ e. s.settled ≤ position_told e) sh.out sh.waiting
    (all_ahead width limits s sound worker can.within))))

-- so many first ones
pub long_first : (width : ℕ) (limits : Limits) (s : State) → SoundState width limits s →
    length (take s.settled s.fed) ≤ s.settled
long_first width limits s sound = let e = length-take-le s.settled s.fed sound.settled in omega (arith, e)

-- the notices up to one position, and from there to another
pub notices_step : (finding : Sight → StretchTold) (number : ℕ) (kept : ℕ → ℕ → ℕ → ℕ) (day : List Tuple) (a b : ℕ) →
    a ≤ b → b ≤ length day →
    notices_by finding number kept (moments (take b day)) ≡ notices_by finding number kept (moments (take a day))
    ++ notices_between finding number kept day a b
notices_step finding number kept day a b h g =
    let each = λ (m : Moment). told_by finding m ++ answer_by finding number kept m in
    let parts : take a (take b (moments day)) ++ drop a (take b (moments day)) ≡ take b (moments day) =
    take-append-drop a (take b (moments day)) in
    ap (notices_by finding number kept) (sym (moments_take b day g) ∙ sym parts)
    ∙ flat_map-append each (take a (take b (moments day))) (drop a (take b (moments day)))
    ∙ ap (λ ms. notices_by finding number kept ms ++ notices_between finding number kept day a b)
    (take_shorter a b (moments day) h ∙ moments_take a day (omega (arith, h, g)))

pub text_goes_on : (s : State) (n : ℕ) → s.settled ≤ n → n ≤ length s.fed → (number : ℕ) (kept : ℕ → ℕ → ℕ → ℕ) →
    settled_text number kept (after_settle s n) ≡ settled_text number kept s ++ written_to number kept s n
text_goes_on s n h g number kept =
    ap out (notices_step (given s.found) number kept s.fed s.settled n h g)
    ∙ out_both (merged (take s.settled s.fed) s.found number kept)
    (notices_between (given s.found) number kept s.fed s.settled n)

pub charges_go_on : (s : State) (n : ℕ) → s.settled ≤ n → n ≤ length s.fed →
    settled_charges (after_settle s n) ≡ settled_charges s ++ charged_to s n
charges_go_on s n h g = charges_step (given s.found) s.fed s.settled n h g

-- an element that is there
there : {X : Type 0} (xs : List X) (i : ℕ) (x : X) → slice_get xs i ≡ Some x → (i < length xs) × (get_or xs i x ≡ x)
there [] i x e = cc
there (y ∷ ys) zero x e = (omega arith, cc)
there (y ∷ ys) (suc i) x e = let rest = there ys i x e in (omega (arith, rest.0), rest.1)

-- what is left behind the first ones
drop_first : {X : Type 0} (xs ys : List X) (n : ℕ) → length xs ≡ n → drop n (xs ++ ys) ≡ ys
drop_first [] ys zero h = refl
drop_first [] ys (suc n) h = absurd (omega (arith, h))
drop_first (x ∷ xs) ys zero h = absurd (omega (arith, h))
drop_first (x ∷ xs) ys (suc n) h = drop_first xs ys n (omega (arith, h))

-- the moments from a position to the next
pub one_moment : (day : List Tuple) (i : ℕ) (x : Tuple) → slice_get day i ≡ Some x →
    drop i (take (i + 1) (moments day)) ≡ (take i day, x) ∷ []
one_moment day i x e =
    let is = there day i x e in
    let long : length (take i (moments day)) ≡ i =
    length-take-le i (moments day) (let all = length-moments [] day in omega (arith, all, is.0)) in
    ap (drop i) (moments_more day i x is.0)
    ∙ drop_first (take i (moments day)) ((take i day, get_or day i x) ∷ []) i long
    ∙ ap (λ y. (take i day, y) ∷ []) is.1

pub one_written : (s : State) (x : Tuple) → slice_get s.fed s.settled ≡ Some x → (number : ℕ) (kept : ℕ → ℕ → ℕ → ℕ) →
    written_to number kept s (s.settled + 1)
    ≡ out (told_by (given s.found) (take s.settled s.fed, x) ++ answer_by (given s.found) number kept
    (take s.settled s.fed, x))
one_written s x e number kept =
    ap (λ ms. out (notices_by (given s.found) number kept ms)) (one_moment s.fed s.settled x e)
    ∙ ap out (append-nil
    (told_by (given s.found) (take s.settled s.fed, x) ++ answer_by (given s.found) number kept
    (take s.settled s.fed, x)))

pub one_charged : (s : State) (x : Tuple) → slice_get s.fed s.settled ≡ Some x →
    charged_to s (s.settled + 1) ≡ owed_by (given s.found) (take s.settled s.fed, x)
one_charged s x e = ap (charges_by (given s.found)) (one_moment s.fed s.settled x e)
    ∙ append-nil (owed_by (given s.found) (take s.settled s.fed, x))
