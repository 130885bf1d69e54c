-- A list that grows at the front of its slots.
use Rattle.std.proofs.Common.{◌≡◌, ℕ, zero, suc, ◌+◌, List, [], ◌∷◌, take, set, refl, ap, add-one, min, length}
use native.Mathlib.Numerals.{unary_clauses}
use Rattle.event.specs.Fronts.{front}

-- a count past the slots takes them all
pub take_min : {X : Type 0} (n : ℕ) (xs : List X) → take (min n (length xs)) xs ≡ take n xs
take_min zero xs = simp unary_clauses
take_min (suc n) [] = simp unary_clauses
take_min (suc n) (x ∷ xs) = simp unary_clauses (ap (λ l. x ∷ l) (take_min n xs))

-- what is taken from the front stands there
pub front_same : {X : Type 0} (n : ℕ) (xs : List X) → xs ≡ front (take n xs) xs
front_same zero xs = refl
front_same (suc n) [] = refl
front_same (suc n) (x ∷ xs) = ap (λ l. x ∷ l) (front_same n xs)

front_suc : {X : Type 0} (xs : List X) (i : ℕ) (y : X) → set xs i y ≡ front (take (suc i) (set xs i y)) xs
front_suc [] i y = refl
front_suc (x ∷ xs) zero y = refl
front_suc (x ∷ xs) (suc i) y = ap (λ l. x ∷ l) (front_suc xs i y)

-- one more in the front, and everything behind it stays
pub front_more : {X : Type 0} (xs : List X) (i : ℕ) (y : X) → set xs i y ≡ front (take (i + 1) (set xs i y)) xs
front_more xs i y = rw (add-one i) (front_suc xs i y)
