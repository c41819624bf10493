-- Answers that give more.
use Rattle.std.proofs.Common.{Result, Ok, Err, MatchResult, IfOk}

-- what follows from an answer is had of it
pub so_then : {T E : Type 0} (r : Result T E) (P Q : T → Type 0) (F : E → Type 0) → MatchResult r P F
    → ((x : T) → P x → Q x) → MatchResult r Q F
so_then (Ok x) P Q F h f = f x h
so_then (Err e) P Q F h f = h

-- also where nothing is said of an error
pub if_so : {T E : Type 0} (r : Result T E) (P Q : T → Type 0) (F : E → Type 0) → MatchResult r P F
    → ((x : T) → P x → Q x) → IfOk r Q
if_so (Ok x) P Q F h f = f x h
if_so (Err e) P Q F h f = tt

-- the same from what holds of an answer alone
pub if_then : {T E : Type 0} (r : Result T E) (P Q : T → Type 0) → IfOk r P → ((x : T) → P x → Q x) → IfOk r Q
if_then (Ok x) P Q h f = f x h
if_then (Err e) P Q h f = tt
