-- How often an id is used, kept and told.
use Rattle.std.proofs.Common.{◌≡◌, ℕ, suc, ◌+◌, Bool, true, false, cond, not, ◌&&◌, ◌||◌, eqb, List, [], ◌∷◌, map, length, Some, None, filter, Option, refl, ap, ◌∙◌, inl, inr, arith}
use Rattle.std.proofs.lemmas.Bool.{and_parts, cases_Bool, eqb-true, not-false, not-true, or_parts, false≢true}
use Rattle.std.proofs.lemmas.Bool.Decides.{nat_tests}
use Rattle.event.specs.declared.times.Time.{Time}
use Rattle.tables.proofs.Filtered.{count_placed}
use Rattle.tables.specs.declared.elements.Kept.{Kept}
use Rattle.tables.specs.declared.elements.UsedId.{UsedId}
use Rattle.calls.specs.Draws.{known, known_as, marked, marked_as}
use Rattle.tables.specs.Elements.{id_before, kept_as, name_of, same_id, used_as}
use Rattle.calls.specs.Once.{tells_id}
use Rattle.calls.specs.Plays.{marked_all, told_by}
use Rattle.calls.specs.State.{State}
use Rattle.tables.specs.Tables.{any, none, without}

-- how many elements pass
abbrev pub count : {X : Type 0} → (X → Bool) → List X → ℕ
count p xs = length (filter p xs)

pub count_none : {X : Type 0} (p : X → Bool) (xs : List X) → none p xs ≡ true → count p xs ≡ 0
count_none p [] h = refl
count_none p (x ∷ xs) h =
    let parts = and_parts (not (p x)) (none p xs) h in
    rw (not-true (p x) parts.0) (count_none p xs parts.1)

-- a filter parts what passes
pub count_apart : {X : Type 0} (q p : X → Bool) (xs : List X) → count q (filter p xs) + count q (without p xs) ≡ count q xs
count_apart q p [] = refl
count_apart q p (x ∷ xs) =
    let ih = count_apart q p xs in
    elim (cases_Bool (p x)) [
      | inl t ↦ rw t (elim (cases_Bool (q x)) [ inl a ↦ rw a (omega (arith, ih)) | inr a ↦ rw a ih ])
      | inr f ↦ rw f (elim (cases_Bool (q x)) [ inl a ↦ rw a (omega (arith, ih)) | inr a ↦ rw a ih ])
    ]

-- what a filter keeps of a list in which nothing passes q
pub none_of : {X : Type 0} (p q r : X → Bool) (xs : List X) → ((x : X) → q x ≡ false → p x ≡ true → r x ≡ false) → none q xs ≡ true → none r (filter p xs) ≡ true
none_of p q r [] f h = refl
none_of p q r (x ∷ xs) f h =
    let parts = and_parts (not (q x)) (none q xs) h in
    let ih = none_of p q r xs f parts.1 in
    elim (cases_Bool (p x)) [ inl t ↦ rw t (rw (f x (not-true (q x) parts.0) t) ih) | inr e ↦ rw e ih ]

-- a filter that removes nothing of what passes
pub count_unhurt : {X : Type 0} (q p : X → Bool) (xs : List X) → ((x : X) → q x ≡ true → p x ≡ false) → count q (without p xs) ≡ count q xs
count_unhurt q p [] f = refl
count_unhurt q p (x ∷ xs) f =
    let ih = count_unhurt q p xs f in
    elim (cases_Bool (q x)) [
      | inl t ↦ rw (f x t) (rw t (ap suc ih))
      | inr e ↦ rw e (elim (cases_Bool (p x)) [ inl a ↦ rw a ih | inr a ↦ rw a (rw e ih) ])
    ]

same_name : (s i r j : ℕ) → used_as s i (name_of r j) ≡ (eqb j i && eqb r s)
same_name s i r j = grind (arith, nat_tests)

marks_one_as : (s i : ℕ) (o : Option ℕ) (r : ℕ) (u : List UsedId) → count (used_as s i) (marked_as o r u) ≡ count (used_as s i) u + cond (same_id o i && eqb r s) 1 0
marks_one_as s i None r u = omega arith
marks_one_as s i (Some j) r u = count_placed id_before (used_as s i) (name_of r j) u ∙ ap (λ b. count (used_as s i) u + cond b 1 0) (same_name s i r j)

pub marks_one : (s i : ℕ) (k : Kept) (u : List UsedId) → count (used_as s i) (marked k u) ≡ count (used_as s i) u + cond (kept_as s i k) 1 0
marks_one s i k u = marks_one_as s i k.id k.stream u

pub marks_all : (s i : ℕ) (ks : List Kept) (u : List UsedId) → count (used_as s i) (marked_all ks u) ≡ count (used_as s i) u + count (kept_as s i) ks
marks_all s i [] u = omega arith
marks_all s i (k ∷ ks) u =
    let ih = marks_all s i ks (marked k u) in
    elim (cases_Bool (kept_as s i k)) [
      | inl t ↦ let one : count (used_as s i) (marked k u) ≡ count (used_as s i) u + 1 = marks_one s i k u ∙ ap (λ b. count (used_as s i) u + cond b 1 0) t in rw t (omega arith)
      | inr f ↦ let one : count (used_as s i) (marked k u) ≡ count (used_as s i) u + 0 = marks_one s i k u ∙ ap (λ b. count (used_as s i) u + cond b 1 0) f in rw f (omega arith)
    ]

-- told kept events, by their ids
pub tells_all : (s i : ℕ) (f : Kept → Time) (ks : List Kept) → count (tells_id s i) (map (told_by f) ks) ≡ count (kept_as s i) ks
tells_all s i f [] = refl
tells_all s i f (k ∷ ks) =
    let ih = tells_all s i f ks in
    elim (cases_Bool (kept_as s i k)) [ inl t ↦ rw t (ap suc ih) | inr e ↦ rw e ih ]

-- an event that is not known has its id neither used nor kept
none_as : (s i : ℕ) (o : Option ℕ) (r : ℕ) (w : State) → known_as o r w ≡ false → (same_id o i && eqb r s) ≡ true → count (used_as s i) w.used + count (kept_as s i) w.kept ≡ 0
none_as s i None r w new same = absurd (false≢true same)
none_as s i (Some j) r w new same =
    let parts = and_parts (eqb j i) (eqb r s) same in
    let a : j ≡ i = eqb-true j i parts.0 in
    let b : r ≡ s = eqb-true r s parts.1 in
    let here : (any (used_as s i) w.used || any (kept_as s i) w.kept) ≡ false = rw (a, b) at new in
    let both = or_parts (any (used_as s i) w.used) (any (kept_as s i) w.kept) here in
    omega (arith, count_none (used_as s i) w.used (not-false (none (used_as s i) w.used) both.0), count_none (kept_as s i) w.kept (not-false (none (kept_as s i) w.kept) both.1))

pub none_known : (s i : ℕ) (k : Kept) (w : State) → known k w ≡ false → kept_as s i k ≡ true → count (used_as s i) w.used + count (kept_as s i) w.kept ≡ 0
none_known s i k w new same = none_as s i k.id k.stream w new same
