-- Two plays, one after the other, are one play.
use Rattle.std.proofs.Common.{◌≡◌, ℕ, zero, suc, ◌-◌, ◌<◌, ◌≤◌, Bool, true, false, not, ◌&&◌, List, [], ◌∷◌, ◌++◌, map, length, drop, filter, sym, refl, ap, ◌∙◌, inl, inr, arith}
use Rattle.std.proofs.lemmas.List.{append_assoc, length-append, length-map, map-append}
use Rattle.std.proofs.lemmas.Bool.{and_parts, cases_Bool, cases_lt, not-true}
use Rattle.std.proofs.lemmas.Bool.Decides.{nat_tests}
use Rattle.event.specs.declared.dispatches.Dispatch.{Dispatch}
use Rattle.event.specs.Times.{latest, time}
use Rattle.event.proofs.Clock.{ms_time}
use Rattle.tables.specs.declared.elements.Kept.{Kept}
use Rattle.tables.specs.declared.elements.UsedId.{UsedId}
use Rattle.calls.specs.Draws.{marked}
use Rattle.tables.specs.Elements.{earlier}
use Rattle.calls.specs.Plays.{at_start, due, marked_all, plays_to, reach, reach_before}
use Rattle.tables.specs.Picks.{starts_by, starts_in}
use Rattle.calls.specs.Runs.{World, after, world}
use Rattle.calls.specs.Runs.CallOn.{play}
use Rattle.tables.specs.Tables.{fails, none, sorted, without}
use Rattle.calls.proofs.Outcomes.{reach_within}
use Rattle.calls.proofs.Playing.{plays_back, plays_on}
use Rattle.tables.proofs.Prefixes.{none_weaker}
use Rattle.calls.proofs.Reaching.{due_fits}

-- filters over a list in which nothing passes n
kept_alike : {X : Type 0} (n p q : X → Bool) (xs : List X) → ((x : X) → n x ≡ false → p x ≡ q x) → none n xs ≡ true → filter p xs ≡ filter q xs
kept_alike n p q [] f h = refl
kept_alike n p q (x ∷ xs) f h =
    let parts = and_parts (not (n x)) (none n xs) h in
    let ih = kept_alike n p q xs f parts.1 in
    let e = f x (not-true (n x) parts.0) in
    elim (cases_Bool (q x)) [ inl t ↦ rw (e, t) (ap (λ l. x ∷ l) ih) | inr t ↦ rw (e, t) ih ]

kept_none : {X : Type 0} (p : X → Bool) (xs : List X) → none p xs ≡ true → filter p xs ≡ []
kept_none p [] h = refl
kept_none p (x ∷ xs) h =
    let parts = and_parts (not (p x)) (none p xs) h in
    rw (not-true (p x) parts.0) (kept_none p xs parts.1)

-- one filter after the other
kept_both : {X : Type 0} (p q r : X → Bool) (xs : List X) → ((x : X) → (q x && p x) ≡ r x) → filter p (filter q xs) ≡ filter r xs
kept_both p q r [] f = refl
kept_both p q r (x ∷ xs) f =
    let ih = kept_both p q r xs f in
    elim (cases_Bool (q x)) [
      | inl t ↦ let e : p x ≡ r x = rw t at (f x) in rw t (elim (cases_Bool (r x)) [ inl a ↦ rw (e, a) (ap (λ l. x ∷ l) ih) | inr a ↦ rw (e, a) ih ])
      | inr t ↦ let e : false ≡ r x = rw t at (f x) in rw (t, sym e) ih
    ]

-- what starts after a and up to b, in two stretches
module _ (a r b : ℕ) (up : a ≤ r) (on : r ≤ b) where
  later : (k y : Kept) → starts_by r k ≡ false → earlier y k ≡ false → starts_by r y ≡ false
  later k y e f = grind (arith, nat_tests)

  not_first : (k : Kept) → starts_by r k ≡ false → starts_in a r k ≡ false
  not_first k e = grind (arith, nat_tests)

  in_second : (k : Kept) → starts_by r k ≡ false → starts_in r b k ≡ starts_in a b k
  in_second k e = grind (arith, nat_tests)

  in_first : (k : Kept) → starts_by r k ≡ true → starts_in a r k ≡ starts_in a b k
  in_first k e = grind (arith, nat_tests)

  not_second : (k : Kept) → starts_by r k ≡ true → starts_in r b k ≡ false
  not_second k e = grind (arith, nat_tests)

  pub stretches : (ks : List Kept) → sorted earlier ks ≡ true → filter (starts_in a r) ks ++ filter (starts_in r b) ks ≡ filter (starts_in a b) ks
  stretches [] h = refl
  stretches (k ∷ ks) h =
      let parts = and_parts (none (λ y. earlier y k) ks) (sorted earlier ks) h in
      let ih = stretches ks parts.1 in
      elim (cases_Bool (starts_by r k)) [
        | inl t ↦ elim (cases_Bool (starts_in a b k)) [
          | inl m ↦ rw (in_first k t, not_second k t, m) (ap (λ l. k ∷ l) ih)
          | inr m ↦ rw (in_first k t, not_second k t, m) ih
        ]
        | inr f ↦
            let past : none (starts_by r) ks ≡ true = none_weaker (λ y. earlier y k) (starts_by r) ks (λ y e. later k y f e) parts.0 in
            let empty : filter (starts_in a r) ks ≡ [] = kept_none (starts_in a r) ks (none_weaker (starts_by r) (starts_in a r) ks (λ y e. not_first y e) past) in
            let same : filter (starts_in r b) ks ≡ filter (starts_in a b) ks = kept_alike (starts_by r) (starts_in r b) (starts_in a b) ks (λ y e. in_second y e) past in
            elim (cases_Bool (starts_in a b k)) [
              | inl m ↦ rw (not_first k f, in_second k f, m, empty) (ap (λ l. k ∷ l) same)
              | inr m ↦ rw (not_first k f, in_second k f, m, empty) same
            ]
      ]

  outside : (k : Kept) → (fails (starts_in a r) k && fails (starts_in r b) k) ≡ fails (starts_in a b) k
  outside k = grind (arith, nat_tests)

  still_due : (k : Kept) → (fails (starts_in a r) k && starts_in r b k) ≡ starts_in r b k
  still_due k = grind (arith, nat_tests)

  pub left_twice : (ks : List Kept) → without (starts_in r b) (without (starts_in a r) ks) ≡ without (starts_in a b) ks
  left_twice ks = kept_both (fails (starts_in r b)) (fails (starts_in a r)) (fails (starts_in a b)) ks outside

  pub due_then : (ks : List Kept) → filter (starts_in r b) (without (starts_in a r) ks) ≡ filter (starts_in r b) ks
  due_then ks = kept_both (starts_in r b) (fails (starts_in a r)) (starts_in r b) ks still_due

marked_append : (xs ys : List Kept) (u : List UsedId) → marked_all ys (marked_all xs u) ≡ marked_all (xs ++ ys) u
marked_append [] ys u = refl
marked_append (x ∷ xs) ys u = marked_append xs ys (marked x u)

drop_past : {X : Type 0} (n : ℕ) (xs ys : List X) → length xs ≤ n → drop n (xs ++ ys) ≡ drop (n - length xs) ys
drop_past n [] ys h = ap (λ m. drop m ys) (let e : n ≡ n - 0 = omega arith in e)
drop_past zero (x ∷ xs) ys h = absurd (omega arith)
drop_past (suc n) (x ∷ xs) ys h = drop_past n xs ys (omega arith) ∙ ap (λ m. drop m ys) (let e : n - length xs ≡ suc n - suc (length xs) = omega arith in e)

-- a play that comes to u
abbrev to : ℕ → World → World
to u w = let r = plays_to u w.player w.sink in world r.1 r.2

module _ (t : ℕ) (w : World) where
  after_on : t ≤ latest → w.player.playhead.ms ≤ t → after (play t) w ≡ to (reach w.player w.sink.free t) w
  after_on l b = ap (λ r. world r.1 r.2) (sym (plays_on t w.player w.sink l b))

  after_back : t ≤ latest → t < w.player.playhead.ms → after (play t) w ≡ w
  after_back l b = ap (λ r. world r.1 r.2) (sym (plays_back t w.player w.sink l b))

-- first to u, then to r
module _ (w : World) (ordered : sorted earlier w.player.kept ≡ true) (u : ℕ) (from : w.player.playhead.ms ≤ u) (within : u ≤ latest) where
  at_u : (to u w).player.playhead.ms ≡ u
  at_u = ms_time u within

  due_on : (t : ℕ) → u ≤ t → due (to u w).player t ≡ filter (starts_in u t) w.player.kept
  due_on t l =
      ap (λ q. filter (starts_in q t) (without (starts_in w.player.playhead.ms u) w.player.kept)) at_u
      ∙ due_then w.player.playhead.ms u t from l w.player.kept

  to_twice : (r : ℕ) → u ≤ r → to r (to u w) ≡ to r w
  to_twice r l =
      let a : ℕ = w.player.playhead.ms in
      let ks : List Kept = w.player.kept in
      let xs : List Kept = filter (starts_in a u) ks in
      let ys : List Kept = filter (starts_in u r) ks in
      let build : List Kept → List UsedId → List Dispatch → ℕ → World = λ k v d n. world
      (record { streams = w.player.streams; playhead = time r; modes = w.player.modes; kept = k; used = v; places = w.player.places; id_places = w.player.id_places })
      (record { told = d; free = n }) in
      let made : ℕ → List Kept → World = λ q ds. build (without (starts_in q r) (without (starts_in a u) ks)) (marked_all ds (marked_all xs w.player.used))
      ((w.sink.told ++ map at_start xs) ++ map at_start ds) (w.sink.free - length (map at_start xs) - length (map at_start ds)) in
      let joined : xs ++ ys ≡ filter (starts_in a r) ks = stretches a u r from l ks ordered in
      let told : (w.sink.told ++ map at_start xs) ++ map at_start ys ≡ w.sink.told ++ map at_start (filter (starts_in a r) ks) =
      append_assoc w.sink.told (map at_start xs) (map at_start ys) ∙ ap (λ d. w.sink.told ++ d) (sym (map-append at_start xs ys) ∙ ap (map at_start) joined) in
      let free : w.sink.free - length (map at_start xs) - length (map at_start ys) ≡ w.sink.free - length (map at_start (filter (starts_in a r) ks)) =
      omega (arith, ap length told, length-append (w.sink.told ++ map at_start xs) (map at_start ys), length-append w.sink.told (map at_start xs), length-append w.sink.told (map at_start (filter (starts_in a r) ks))) in
      let used : marked_all ys (marked_all xs w.player.used) ≡ marked_all (filter (starts_in a r) ks) w.player.used =
      marked_append xs ys w.player.used ∙ ap (λ d. marked_all d w.player.used) joined in
      let kept : without (starts_in u r) (without (starts_in a u) ks) ≡ without (starts_in a r) ks = left_twice a u r from l ks in
      ap (λ ds. made (to u w).player.playhead.ms ds) (due_on r l)
      ∙ ap (λ q. made q ys) at_u
      ∙ ap (λ k. build k (marked_all ys (marked_all xs w.player.used)) ((w.sink.told ++ map at_start xs) ++ map at_start ys) (w.sink.free - length (map at_start xs) - length (map at_start ys))) kept
      ∙ ap (λ v. build (without (starts_in a r) ks) v ((w.sink.told ++ map at_start xs) ++ map at_start ys) (w.sink.free - length (map at_start xs) - length (map at_start ys))) used
      ∙ ap (λ d. build (without (starts_in a r) ks) (marked_all (filter (starts_in a r) ks) w.player.used) d (w.sink.free - length (map at_start xs) - length (map at_start ys))) told
      ∙ ap (λ n. build (without (starts_in a r) ks) (marked_all (filter (starts_in a r) ks) w.player.used) (w.sink.told ++ map at_start (filter (starts_in a r) ks)) n) free

  -- once what is due up to u fits, a play from u comes as far as one from the start
  reach_on : (t : ℕ) → u ≤ t → length (filter (starts_in w.player.playhead.ms u) w.player.kept) ≤ w.sink.free →
      reach (to u w).player (to u w).sink.free t ≡ reach w.player w.sink.free t
  reach_on t l fits =
      let a : ℕ = w.player.playhead.ms in
      let ks : List Kept = w.player.kept in
      let xs : List Kept = filter (starts_in a u) ks in
      let ys : List Kept = filter (starts_in u t) ks in
      let free : w.sink.free - length (map at_start xs) ≡ w.sink.free - length xs = ap (λ n. w.sink.free - n) (length-map xs at_start) in
      ap (λ ds. reach_before (drop (w.sink.free - length (map at_start xs)) ds) t) (due_on t l)
      ∙ ap (λ n. reach_before (drop n ys) t) free
      ∙ ap (λ ds. reach_before ds t) (sym (drop_past w.sink.free xs ys fits))
      ∙ ap (λ ds. reach_before (drop w.sink.free ds) t) (stretches a u t from l ks ordered)

-- a stop on the way changes nothing
pub play_twice : (u t : ℕ) (w : World) → sorted earlier w.player.kept ≡ true → u ≤ t → t ≤ latest → after (play t) (after (play u) w) ≡ after (play t) w
play_twice u t w ordered l m =
    elim (cases_lt u w.player.playhead.ms) [
      | inl back ↦ ap (after (play t)) (after_back u w (omega arith) back)
      | inr on ↦
          let r1 : ℕ = reach w.player w.sink.free u in
          let r2 : ℕ = reach w.player w.sink.free t in
          let near = reach_within w.player w.sink.free u on in
          let fits = due_fits w.player.playhead.ms u w.sink.free w.player.kept ordered in
          let first : after (play u) w ≡ to r1 w = after_on u w (omega arith) on in
          let here : (to r1 w).player.playhead.ms ≡ r1 = at_u w ordered r1 near.0 (omega arith) in
          let second : after (play t) (to r1 w) ≡ to (reach (to r1 w).player (to r1 w).sink.free t) (to r1 w) = after_on t (to r1 w) m (omega arith) in
          let same : reach (to r1 w).player (to r1 w).sink.free t ≡ r2 = reach_on w ordered r1 near.0 (omega arith) t (omega arith) fits in
          let further = reach_within (to r1 w).player (to r1 w).sink.free t (omega arith) in
          ap (after (play t)) first ∙ second ∙ ap (λ r. to r (to r1 w)) same ∙ to_twice w ordered r1 near.0 (omega arith) r2 (omega arith) ∙ sym (after_on t w m (omega arith))
    ]
