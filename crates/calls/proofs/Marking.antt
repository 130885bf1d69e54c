-- Telling and marking event after event.
use Rattle.std.proofs.Common.{◌≡◌, ℕ, ◌+◌, ◌-◌, ◌≤◌, Bool, cond, List, [], ◌∷◌, ◌++◌, length, take, drop, Some, None, filter, is_some, Option, sym, refl, ap, ◌∙◌, inl, inr, arith, true}
use Rattle.std.proofs.lemmas.List.Elements.{filter-append}
use Rattle.std.proofs.lemmas.List.{append_assoc, append-nil, length-append, length_push, take-append-drop, take-take}
use Rattle.std.proofs.lemmas.Bool.{cases_Bool}
use Rattle.event.specs.declared.dispatches.Dispatch.{Dispatch}
use Rattle.event.specs.Sinks.{Held, more}
use Rattle.tables.specs.declared.elements.Kept.{Kept}
use Rattle.tables.specs.declared.elements.UsedId.{UsedId}
use Rattle.calls.specs.Draws.{marked, marked_as}
use Rattle.tables.specs.Elements.{has_id, id_before, name_of}
use Rattle.calls.specs.Plays.{marked_all, told_to}
use Rattle.calls.specs.State.{ids}
use Rattle.tables.specs.Tables.{without, sorted}
use Rattle.calls.proofs.Drawing.{marked_sorted}
use Rattle.tables.proofs.InOrder.{length_placed}

pub marked_all_push : (ks : List Kept) (k : Kept) (u : List UsedId) → marked_all (ks ++ (k ∷ [])) u ≡ marked k (marked_all ks u)
marked_all_push [] k u = refl
marked_all_push (j ∷ ks) k u = marked_all_push ks k (marked j u)

pub marked_all_sorted : (ks : List Kept) (u : List UsedId) → sorted id_before u ≡ true → sorted id_before (marked_all ks u) ≡ true
marked_all_sorted [] u h = h
marked_all_sorted (k ∷ ks) u h = marked_all_sorted ks (marked k u) (marked_sorted k u h)

length_marked_as : (o : Option ℕ) (s : ℕ) (u : List UsedId) → length (marked_as o s u) ≡ length u + cond (is_some o) 1 0
length_marked_as None s u = omega arith
length_marked_as (Some i) s u = omega (arith, length_placed id_before (name_of s i) u)

pub length_marked : (k : Kept) (u : List UsedId) → length (marked k u) ≡ length u + cond (has_id k) 1 0
length_marked k u = length_marked_as k.id k.stream u

pub length_marked_all : (ks : List Kept) (u : List UsedId) → length (marked_all ks u) ≡ length u + ids ks
length_marked_all [] u = omega arith
length_marked_all (k ∷ ks) u =
    let ih = length_marked_all ks (marked k u) in
    let one = length_marked k u in
    elim (cases_Bool (has_id k)) [ inl t ↦ rw t (let e : length (marked k u) ≡ length u + 1 = rw t at one in omega (arith, ih, e)) | inr f ↦ rw f (let e : length (marked k u) ≡ length u + 0 = rw f at one in omega (arith, ih, e)) ]

pub told_to_more : (h : Held) (ds : List Dispatch) (d : Dispatch) → more (told_to h ds) d ≡ told_to h (ds ++ (d ∷ []))
told_to_more h ds d =
    let a = append_assoc h.told ds (d ∷ []) in
    let f : h.free - length ds - 1 ≡ h.free - length (ds ++ (d ∷ [])) = omega (arith, length_push ds d) in
    cc

pub ids_push : (ks : List Kept) (k : Kept) → ids (ks ++ (k ∷ [])) ≡ ids ks + cond (has_id k) 1 0
ids_push ks k =
    let e = ap length (filter-append has_id ks (k ∷ [])) ∙ length-append (filter has_id ks) (filter has_id (k ∷ [])) in
    elim (cases_Bool (has_id k)) [ inl t ↦ rw t (rw t at e) | inr f ↦ rw f (rw f at e) ]

-- fewer are picked from less
module _ {X : Type 0} (p : X → Bool) (xs : List X) (i n : ℕ) (h : i ≤ n) where
  take_apart : take n xs ≡ take i xs ++ drop i (take n xs)
  take_apart = sym (ap (λ l. l ++ drop i (take n xs)) (sym (take-take i n xs h)) ∙ take-append-drop i (take n xs))

  pub picked_apart : filter p (take n xs) ≡ filter p (take i xs) ++ filter p (drop i (take n xs))
  picked_apart = ap (filter p) take_apart ∙ filter-append p (take i xs) (drop i (take n xs))

  pub fewer_picked : length (filter p (take i xs)) ≤ length (filter p (take n xs))
  fewer_picked = omega (arith, ap length picked_apart, length-append (filter p (take i xs)) (filter p (drop i (take n xs))))

pub fewer_ids : (p : Kept → Bool) (xs : List Kept) (i n : ℕ) → i ≤ n → ids (filter p (take i xs)) ≤ ids (filter p (take n xs))
fewer_ids p xs i n h =
    let e = ap ids (picked_apart p xs i n h) ∙ ap length (filter-append has_id (filter p (take i xs)) (filter p (drop i (take n xs)))) in
    omega (arith, e, length-append (filter has_id (filter p (take i xs))) (filter has_id (filter p (drop i (take n xs)))))

pub told_to_none : (h : Held) → h ≡ told_to h []
told_to_none h =
    let made : List Dispatch → ℕ → Held = λ t n. record { told = t; free = n } in
    let none : h.free ≡ h.free - 0 = omega arith in
    ap (λ t. made t h.free) (sym (append-nil h.told)) ∙ ap (made (h.told ++ [])) none

-- a filter and what it leaves
pub ids_apart : (p : Kept → Bool) (ks : List Kept) → ids (filter p ks) + ids (without p ks) ≡ ids ks
ids_apart p [] = refl
ids_apart p (k ∷ ks) =
    let ih = ids_apart p ks in
    elim (cases_Bool (p k)) [
      | inl t ↦ rw t (elim (cases_Bool (has_id k)) [ inl a ↦ rw a (omega (arith, ih)) | inr a ↦ rw a ih ])
      | inr f ↦ rw f (elim (cases_Bool (has_id k)) [ inl a ↦ rw a (omega (arith, ih)) | inr a ↦ rw a ih ])
    ]
