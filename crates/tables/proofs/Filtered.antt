-- Lists, and what a test picks of them.
use Rattle.std.proofs.Common.{◌≡◌, ℕ, zero, suc, ◌+◌, ◌≤◌, Bool, true, cond, not, List, [], ◌∷◌, length, take, filter, refl, inl, inr, arith, ◌<◌, get_or, sym, ap, ◌∙◌}
use Rattle.std.proofs.lemmas.List.Filters.{length-filter_more}
use Rattle.std.proofs.lemmas.Bool.{and_from, and_parts, cases_Bool}
use Rattle.tables.specs.Tables.{none, placed, sorted}

pub none_filtered : {X : Type 0} (p q : X → Bool) (xs : List X) → none q xs ≡ true → none q (filter p xs) ≡ true
none_filtered p q [] h = refl
none_filtered p q (x ∷ xs) h =
    let parts = and_parts (not (q x)) (none q xs) h in
    let ih = none_filtered p q xs parts.1 in
    elim (cases_Bool (p x)) [ inl t ↦ rw t (and_from (not (q x)) (none q (filter p xs)) parts.0 ih) | inr f ↦ rw f ih ]

pub sorted_filtered : {X : Type 0} (before : X → X → Bool) (p : X → Bool) (xs : List X) → sorted before xs ≡ true → sorted before (filter p xs) ≡ true
sorted_filtered before p [] h = refl
sorted_filtered before p (x ∷ xs) h =
    let parts = and_parts (none (λ y. before y x) xs) (sorted before xs) h in
    let ih = sorted_filtered before p xs parts.1 in
    elim (cases_Bool (p x)) [
      | inl t ↦ rw t (and_from (none (λ y. before y x) (filter p xs)) (sorted before (filter p xs)) (none_filtered p (λ y. before y x) xs parts.0) ih)
      | inr f ↦ rw f ih
    ]

none_take : {X : Type 0} (p : X → Bool) (xs : List X) (k n : ℕ) → k ≤ n → none p (take n xs) ≡ true → none p (take k xs) ≡ true
none_take p xs zero n b h = refl
none_take p [] (suc k) n b h = refl
none_take p (x ∷ xs) (suc k) zero b h = absurd (omega arith)
none_take p (x ∷ xs) (suc k) (suc n) b h =
    let parts = and_parts (not (p x)) (none p (take n xs)) h in
    and_from (not (p x)) (none p (take k xs)) parts.0 (none_take p xs k n (omega arith) parts.1)

-- a shorter front of a list in order
pub sorted_take : {X : Type 0} (before : X → X → Bool) (xs : List X) (k n : ℕ) → k ≤ n → sorted before (take n xs) ≡ true → sorted before (take k xs) ≡ true
sorted_take before xs zero n b h = refl
sorted_take before [] (suc k) n b h = refl
sorted_take before (x ∷ xs) (suc k) zero b h = absurd (omega arith)
sorted_take before (x ∷ xs) (suc k) (suc n) b h =
    let parts = and_parts (none (λ y. before y x) (take n xs)) (sorted before (take n xs)) h in
    and_from (none (λ y. before y x) (take k xs)) (sorted before (take k xs)) (none_take (λ y. before y x) xs k n (omega arith) parts.0) (sorted_take before xs k n (omega arith) parts.1)

-- one more in a table is one more of those that pass, where it passes
pub count_placed : {X : Type 0} (before : X → X → Bool) (p : X → Bool) (x : X) (ys : List X) → length (filter p (placed before x ys)) ≡ length (filter p ys) + cond (p x) 1 0
count_placed before p x [] = elim (cases_Bool (p x)) [ inl t ↦ rw t | inr f ↦ rw f ]
count_placed before p x (y ∷ ys) =
    let ih = count_placed before p x ys in
    elim (cases_Bool (before x y)) [
      | inl t ↦ rw t (elim (cases_Bool (p x)) [
        | inl a ↦ rw a (elim (cases_Bool (p y)) [ inl b ↦ rw b (omega arith) | inr b ↦ rw b (omega arith) ])
        | inr a ↦ rw a (elim (cases_Bool (p y)) [ inl b ↦ rw b (omega arith) | inr b ↦ rw b (omega arith) ])
      ])
      | inr f ↦ rw f (elim (cases_Bool (p y)) [ inl b ↦ rw b (omega (arith, ih)) | inr b ↦ rw b ih ])
    ]

-- counting
pub counted_more : {X : Type 0} (p : X → Bool) (xs : List X) (i : ℕ) (x : X) (b : Bool) → i < length xs → x ≡ get_or xs i x → p x ≡ b → length (filter p (take (i + 1) xs)) ≡ length (filter p (take i xs)) + cond b 1 0
counted_more p xs i x b l read e = length-filter_more p xs i x l ∙ ap (λ c. length (filter p (take i xs)) + cond c 1 0) (ap p (sym read) ∙ e)
