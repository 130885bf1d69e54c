-- Telling kept events one after the other.
use Rattle.std.proofs.Common.{◌≡◌, ℕ, ◌+◌, ◌-◌, ◌<◌, ◌≤◌, Bool, true, false, cond, List, [], ◌∷◌, ◌++◌, map, length, get_or, take, drop, filter, sym, refl, ap, ◌∙◌, arith}
use Rattle.std.proofs.lemmas.List.Elements.{filter_more}
use Rattle.std.proofs.lemmas.List.{append-nil, length-map, length-take-le, length_push, map_push, take-append-drop, take_all}
use Rattle.std.proofs.lemmas.Slice.{drop-append-drop}
use Rattle.event.specs.declared.dispatches.Dispatch.{Dispatch}
use Rattle.event.specs.Fronts.{front}
use Rattle.event.specs.Sinks.{Held, more}
use Rattle.tables.specs.declared.elements.Kept.{Kept}
use Rattle.tables.specs.declared.elements.UsedId.{UsedId}
use Rattle.player.specs.declared.rows.Rows.{Rows}
use Rattle.calls.specs.Draws.{marked}
use Rattle.tables.specs.Elements.{has_id}
use Rattle.calls.specs.Plays.{marked_all, told_to}
use Rattle.player.specs.Rows.{Behind, items}
use Rattle.calls.specs.State.{ids}
use Rattle.calls.proofs.Marking.{fewer_ids, fewer_picked, ids_push, length_marked, length_marked_all, marked_all_push, told_to_more, told_to_none}

-- nothing written
pub behind_same : {X : Type 0} {o : _} (r : Rows X o) → Behind r r
behind_same r = (sym (ap (λ k. take r.len r.slots.now ++ drop k r.slots.now) (length-take-le r.len r.slots.now r.within) ∙ take-append-drop r.len r.slots.now), refl)

-- written where nothing was changed before
pub behind_after : {X : Type 0} {o : _} (r q s : Rows X o) → Behind r q → items q ≡ items r → Behind q s → Behind r s
behind_after r q s h is w =
    let same : q.slots.now ≡ r.slots.now = h.0 ∙ ap (λ l. front l r.slots.now) is ∙ sym (behind_same r).0 in
    (w.0 ∙ ap (front (items s)) same, w.1 ∙ h.1)

-- one more marked
pub behind_marked : {o : _} (r q s : Rows UsedId o) (k : Kept) → Behind r q → items s ≡ marked k (items q) → Behind q s → Behind r s
behind_marked r q s k h is w =
    (w.0 ∙ ap (front (items s)) h.0 ∙ ap (λ m. items s ++ m) (drop-append-drop (length (items q)) r.slots.now (items q) (length (items s)) (omega (arith, ap length is, length_marked k (items q))) refl), w.1 ∙ h.1)

-- the first i of xs gone through: what passes p is told and marked
pub record Told {o : _} (p : Kept → Bool) (f : Kept → Dispatch) (xs : List Kept) (u v : Rows UsedId o) (h g : Held) (i : ℕ) : Type 0 where
  pub held : g ≡ told_to h (map f (filter p (take i xs)))
  pub used : items v ≡ marked_all (filter p (take i xs)) (items u)

module _ {o : _} {p : Kept → Bool} {f : Kept → Dispatch} {xs : List Kept} {u v : Rows UsedId o} {h g : Held} {i : ℕ} (so_far : Told p f xs u v h g i)
    (below : i < length xs) {x : Kept} (read : x ≡ get_or xs i x) where
  more_is : (b : Bool) → p x ≡ b → filter p (take (i + 1) xs) ≡ filter p (take i xs) ++ cond b (x ∷ []) []
  more_is b e =
      filter_more p xs i x below
      ∙ ap (λ y. filter p (take i xs) ++ cond (p y) (y ∷ []) []) (sym read)
      ∙ ap (λ c. filter p (take i xs) ++ cond c (x ∷ []) []) e

  pub told_skip : p x ≡ false → Told p f xs u v h g (i + 1)
  told_skip e =
      let same : filter p (take i xs) ≡ filter p (take (i + 1) xs) = sym (more_is false e ∙ append-nil (filter p (take i xs))) in
      record {
        held = so_far.held ∙ ap (λ l. told_to h (map f l)) same;
        used = so_far.used ∙ ap (λ l. marked_all l (items u)) same;
      }

  -- the event passes
  module _ (passes : p x ≡ true) where
    more_picked : filter p (take (i + 1) xs) ≡ filter p (take i xs) ++ (x ∷ [])
    more_picked = more_is true passes

    pub place_left : length (filter p xs) ≤ h.free → 0 < g.free
    place_left fits =
        let k = fewer_picked p xs (i + 1) (length xs) (omega arith) in
        let all = ap (λ l. length (filter p l)) (take_all (length xs) xs (omega arith)) in
        let e = ap length more_picked ∙ length_push (filter p (take i xs)) x in
        let g' : g.free ≡ h.free - length (map f (filter p (take i xs))) = ap (λ q. q.free) so_far.held in
        omega (arith, k, all, e, g', length-map (filter p (take i xs)) f)

    pub room_left : length v.slots.now ≡ length u.slots.now → length (items u) + ids (filter p xs) ≤ length u.slots.now → length (items v) + cond (has_id x) 1 0 ≤ length v.slots.now
    room_left places fits =
        let k = fewer_ids p xs (i + 1) (length xs) (omega arith) in
        let all = ap (λ l. ids (filter p l)) (take_all (length xs) xs (omega arith)) in
        let e = ap ids more_picked ∙ ids_push (filter p (take i xs)) x in
        let used = ap length so_far.used ∙ length_marked_all (filter p (take i xs)) (items u) in
        omega (arith, k, all, e, used)

    pub told_one : (v' : Rows UsedId o) (g' : Held) (d : Dispatch) → d ≡ f x → g' ≡ more g d → items v' ≡ marked x (items v) → Told p f xs u v' h g' (i + 1)
    told_one v' g' d is told used = record {
      held = told ∙ ap (λ q. more q d) so_far.held ∙ told_to_more h (map f (filter p (take i xs))) d
          ∙ ap (λ e. told_to h (map f (filter p (take i xs)) ++ (e ∷ []))) is
          ∙ ap (told_to h) (sym (map_push f (filter p (take i xs)) x) ∙ ap (map f) (sym more_picked));
      used = used ∙ ap (marked x) so_far.used ∙ sym (marked_all_push (filter p (take i xs)) x (items u)) ∙ ap (λ l. marked_all l (items u)) (sym more_picked);
    }

pub told_none : {o : _} (p : Kept → Bool) (f : Kept → Dispatch) (xs : List Kept) (u : Rows UsedId o) (h : Held) → Told p f xs u u h h 0
told_none p f xs u h = record { held = told_to_none h; used = refl }
