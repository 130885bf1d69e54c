-- Where a test stops passing.
use Rattle.std.proofs.Common.{◌≡◌, ℕ, zero, suc, ◌-◌, ◌<◌, ◌≤◌, Bool, true, false, not, List, [], ◌∷◌, length, get_or, sym, refl, inl, inr, arith}
use Rattle.std.proofs.lemmas.Bool.{cond_both, and_parts, not-true, both_ways, cases_Bool, cases_lt}
use denote.Ref.{Bor}
use Rattle.std.specs.Fn.{Called, ComputesKey, Mut}
use Rattle.std.proofs.lemmas.List.Sorted.{IsPartitionPoint-from_clause}
use Rattle.std.specs.Prelude.{MatchBool}
use Rattle.std.specs.List.{AllWithin, HoldsAt}
use Rattle.std.specs.List.Sorted.{IsPartitionedBy, IsPartitionPoint}
use Rattle.tables.specs.Tables.{none, any, leading, prefix}

pub none_get_or : {X : Type 0} (p : X → Bool) (xs : List X) (i : ℕ) (d : X) → none p xs ≡ true → i < length xs → p (get_or xs i d) ≡ false
none_get_or p [] i d h l = absurd (omega arith)
none_get_or p (x ∷ xs) zero d h l = not-true (p x) (and_parts (not (p x)) (none p xs) h).0
none_get_or p (x ∷ xs) (suc i) d h l = none_get_or p xs i d (and_parts (not (p x)) (none p xs) h).1 (omega arith)

pub prefix_within : {X : Type 0} (p : X → Bool) (xs : List X) → prefix p xs ≤ length xs
prefix_within p [] = omega arith
prefix_within p (x ∷ xs) = let ih = prefix_within p xs in cond_both (p x) (suc (prefix p xs)) 0 (λ n. n ≤ suc (length xs)) (λ e. omega arith) (λ e. omega arith)

pub prefix_fails : {X : Type 0} (p : X → Bool) (xs : List X) (i : ℕ) (d : X) → i < length xs → p (get_or xs i d) ≡ false → prefix p xs ≤ i
prefix_fails p [] i d l e = absurd (omega arith)
prefix_fails p (x ∷ xs) zero d l e = rw e (omega arith)
prefix_fails p (x ∷ xs) (suc i) d l e = let ih = prefix_fails p xs i d (omega arith) e in cond_both (p x) (suc (prefix p xs)) 0 (λ n. n ≤ suc i) (λ _. omega arith) (λ _. omega arith)

pub prefix_passes : {X : Type 0} (p : X → Bool) (xs : List X) (i : ℕ) (d : X) → leading p xs ≡ true → i < length xs → p (get_or xs i d) ≡ true → i < prefix p xs
prefix_passes p [] i d h l e = absurd (omega arith)
prefix_passes p (x ∷ xs) zero d h l e = rw e (omega arith)
prefix_passes p (x ∷ xs) (suc i) d h l e =
    elim (cases_Bool (p x)) [
      | inl t ↦ let ih = prefix_passes p xs i d (rw t at h) (omega arith) e in rw t (omega arith)
      | inr f ↦ absurd (both_ways (p (get_or xs i d)) (none_get_or p xs i d (rw f at h) (omega arith)) e)
    ]

pub prefix_below : {X : Type 0} (p : X → Bool) (xs : List X) (i : ℕ) (d : X) → i < prefix p xs → p (get_or xs i d) ≡ true
prefix_below p [] i d h = absurd (omega arith)
prefix_below p (x ∷ xs) zero d h = elim (cases_Bool (p x)) [ inl t ↦ t | inr f ↦ let k : 0 < 0 = rw f at h in absurd (omega arith) ]
prefix_below p (x ∷ xs) (suc i) d h =
    elim (cases_Bool (p x)) [
      | inl t ↦ let k : suc i < suc (prefix p xs) = rw t at h in prefix_below p xs i d (omega arith)
      | inr f ↦ let k : suc i < 0 = rw f at h in absurd (omega arith)
    ]

pub none_from_get_or : {X : Type 0} (p : X → Bool) (xs : List X) (d : X) → ((i : ℕ) → i < length xs → p (get_or xs i d) ≡ false) → none p xs ≡ true
none_from_get_or p [] d h = refl
none_from_get_or p (x ∷ xs) d h =
    let here : p x ≡ false = h 0 (omega arith) in
    rw here (none_from_get_or p xs d (λ i l. h (suc i) (omega arith)))

pub any_at : {X : Type 0} (p : X → Bool) (xs : List X) (i : ℕ) (d : X) → i < length xs → p (get_or xs i d) ≡ true → any p xs ≡ true
any_at p xs i d l e =
    elim (cases_Bool (none p xs)) [ inl t ↦ absurd (both_ways (p (get_or xs i d)) (none_get_or p xs i d t l) e) | inr f ↦ rw f ]

pub any_none : {X : Type 0} (p : X → Bool) (xs : List X) (d : X) → ((i : ℕ) → i < length xs → p (get_or xs i d) ≡ false) → any p xs ≡ false
any_none p xs d h = rw (none_from_get_or p xs d h)

-- what a search from the front answers
pub any_decided : {X : Type 0} (p : X → Bool) (xs : List X) (r : Bool) →
    MatchBool r ((k : ℕ) × (k < length xs) × HoldsAt (λ x. p x ≡ true) xs k) (AllWithin (λ x. p x ≡ false) xs 0 (length xs)) → r ≡ any p xs
any_decided p [] true h = absurd (omega (arith, h.1))
any_decided p (x ∷ xs) true h = sym (any_at p (x ∷ xs) h.0 x h.1 (h.2 x))
any_decided p [] false h = refl
any_decided p (x ∷ xs) false h = sym (any_none p (x ∷ xs) x (λ i l. h i x (omega arith) l))

pub none_weaker : {X : Type 0} (p q : X → Bool) (xs : List X) → ((x : X) → p x ≡ false → q x ≡ false) → none p xs ≡ true → none q xs ≡ true
none_weaker p q [] f h = refl
none_weaker p q (x ∷ xs) f h =
    let parts = and_parts (not (p x)) (none p xs) h in
    rw (f x (not-true (p x) parts.0)) (none_weaker p q xs f parts.1)

-- what passes p stands in front, as a search by halving asks it
leading_partitioned : {X : Type 0} (p : X → Bool) (xs : List X) → leading p xs ≡ true → IsPartitionedBy p xs
leading_partitioned p xs h i j d a b e = prefix_below p xs i d (let k = prefix_passes p xs j d h b e in omega arith)

-- and the place that the search finds
point_is_prefix : {X : Type 0} (p : X → Bool) (xs : List X) (i : ℕ) → leading p xs ≡ true → i ≤ length xs → IsPartitionPoint (λ y. p y ≡ true) (λ y. p y ≡ false) xs i → i ≡ prefix p xs
point_is_prefix p [] i h b point = omega arith
point_is_prefix p (x ∷ xs) i h b point =
    let within = prefix_within p (x ∷ xs) in
    let not_past : prefix p (x ∷ xs) ≤ i = elim (cases_lt i (length (x ∷ xs))) [ inl l ↦ prefix_fails p (x ∷ xs) i x l (point.1 i x (omega arith) l) | inr l ↦ omega arith ] in
    let passes : (k : ℕ) → k < i → k < prefix p (x ∷ xs) = λ k l. prefix_passes p (x ∷ xs) k x h (omega arith) (point.0 k x (omega arith) l) in
    elim (cases_lt 0 i) [ inl l ↦ (let k = passes (i - 1) (omega arith) in omega arith) | inr l ↦ omega arith ]

pub search_prefix : {X : Type 0} (p : X → Bool) (xs : List X) → leading p xs ≡ true → {F : Type 0} {g : Mut F (Bor X × Unit {0}) Bool} {f : F} (i : ℕ) → i ≤ length xs →
    ((q : X → Bool) → ComputesKey g q f → IsPartitionedBy q xs → IsPartitionPoint (λ y. q y ≡ true) (λ y. q y ≡ false) xs i) →
    ((a : Bor X × Unit {0}) (r : Bool) (f' : F) → Called g f a r f' → (r ≡ p a.0.now) × (f' ≡ f)) → i ≡ prefix p xs
search_prefix p xs leads i bound found calls = point_is_prefix p xs i leads bound (IsPartitionPoint-from_clause p xs i found (leading_partitioned p xs leads) calls)
