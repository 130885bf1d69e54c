-- How far a play comes.
use Rattle.std.proofs.Common.{◌≡◌, ℕ, zero, suc, ◌+◌, ◌-◌, ◌<◌, ◌≤◌, Bool, true, false, not, ◌&&◌, List, [], ◌∷◌, length, get_or, take, drop, filter, sym, refl, ap, ◌∙◌, inl, inr, add-zero, arith}
use Rattle.std.proofs.ByRecursion.{All-get_or, kept_by_passes}
use Rattle.std.proofs.lemmas.List.{drop_all, drop_more, get_or-drop, get_or-take, length-drop, length-take, length-take-le}
use Rattle.std.proofs.lemmas.Bool.{and_parts, cases_Bool, le-leb, leb-false, lt-leb, not-true}
use Rattle.std.proofs.lemmas.Bool.Decides.{nat_tests}
use Rattle.tables.specs.declared.elements.Kept.{Kept}
use Rattle.tables.specs.Elements.{earlier, starts}
use Rattle.calls.specs.Plays.{reach_before}
use Rattle.tables.specs.Picks.{starts_by, starts_in}
use Rattle.tables.specs.Tables.{leading, none, prefix, sorted}
use Rattle.tables.proofs.Prefixes.{none_weaker, prefix_fails, prefix_passes, prefix_within}

not_earlier : (t : ℕ) (y z : Kept) → starts_by t y ≡ false → earlier z y ≡ false → starts_by t z ≡ false
not_earlier t y z a b = grind (arith, nat_tests)

-- what starts by t stands in front
pub starts_lead : (t : ℕ) (ks : List Kept) → sorted earlier ks ≡ true → leading (starts_by t) ks ≡ true
starts_lead t [] h = refl
starts_lead t (k ∷ ks) h =
    let parts = and_parts (none (λ y. earlier y k) ks) (sorted earlier ks) h in
    elim (cases_Bool (starts_by t k)) [
      | inl a ↦ rw a (starts_lead t ks parts.1)
      | inr a ↦ rw a (none_weaker (λ y. earlier y k) (starts_by t) ks (λ z e. not_earlier t k z a e) parts.0)
    ]

pub sorted_drop : {X : Type 0} (before : X → X → Bool) (n : ℕ) (xs : List X) → sorted before xs ≡ true → sorted before (drop n xs) ≡ true
sorted_drop before zero xs h = h
sorted_drop before (suc n) [] h = refl
sorted_drop before (suc n) (x ∷ xs) h = sorted_drop before n xs (and_parts (none (λ y. before y x) xs) (sorted before xs) h).1

none_kept : {X : Type 0} (p q : X → Bool) (xs : List X) → none q xs ≡ true → filter (λ x. p x && q x) xs ≡ []
none_kept p q [] h = refl
none_kept p q (x ∷ xs) h =
    let parts = and_parts (not (q x)) (none q xs) h in
    let e : q x ≡ false = not-true (q x) parts.0 in
    let f : (p x && q x) ≡ false = grind (arith, nat_tests) in
    rw f (none_kept p q xs parts.1)

-- once all start after a
later_due : (a b : ℕ) (ks : List Kept) → none (starts_by a) ks ≡ true → sorted earlier ks ≡ true → filter (starts_in a b) ks ≡ take (prefix (starts_by b) ks) ks
later_due a b [] h s = refl
later_due a b (k ∷ ks) h s =
    let parts = and_parts (not (starts_by a k)) (none (starts_by a) ks) h in
    let sparts = and_parts (none (λ y. earlier y k) ks) (sorted earlier ks) s in
    let e : starts_by a k ≡ false = not-true (starts_by a k) parts.0 in
    elim (cases_Bool (starts_by b k)) [
      | inl t ↦ rw (e, t) (ap (λ l. k ∷ l) (later_due a b ks parts.1 sparts.1))
      | inr f ↦ rw (e, f) (none_kept (λ x. not (starts_by a x)) (starts_by b) ks (none_weaker (λ y. earlier y k) (starts_by b) ks (λ z w. not_earlier b k z f w) sparts.0))
    ]

-- what is due stands together, behind what starts by a
pub due_together : (a b : ℕ) (ks : List Kept) → sorted earlier ks ≡ true →
    filter (starts_in a b) ks ≡ take (prefix (starts_by b) (drop (prefix (starts_by a) ks) ks)) (drop (prefix (starts_by a) ks) ks)
due_together a b [] h = refl
due_together a b (k ∷ ks) h =
    let parts = and_parts (none (λ y. earlier y k) ks) (sorted earlier ks) h in
    elim (cases_Bool (starts_by a k)) [
      | inl t ↦ rw t (due_together a b ks parts.1)
      | inr f ↦
          let none-by : none (starts_by a) (k ∷ ks) ≡ true = rw f (none_weaker (λ y. earlier y k) (starts_by a) ks (λ z w. not_earlier a k z f w) parts.0) in
          let all = later_due a b (k ∷ ks) none-by h in
          rw f (rw f at all)
    ]

-- the events behind what starts by a, and the first of them that has no place
module _ (a t free : ℕ) (ks : List Kept) (ordered : sorted earlier ks ≡ true) where
  behind : List Kept
  behind = drop (prefix (starts_by a) ks) ks

  behind_leads : (u : ℕ) → leading (starts_by u) behind ≡ true
  unfolding behind
  behind_leads u = starts_lead u (drop (prefix (starts_by a) ks) ks) (sorted_drop earlier (prefix (starts_by a) ks) ks ordered)

  due_is : (u : ℕ) → filter (starts_in a u) ks ≡ take (prefix (starts_by u) behind) behind
  unfolding behind
  due_is u = due_together a u ks ordered

  length_behind : length behind ≡ length ks - prefix (starts_by a) ks
  unfolding behind
  length_behind = length-drop (prefix (starts_by a) ks) ks

  none_left : prefix (starts_by t) behind ≤ free → t ≡ reach_before (drop free (filter (starts_in a t) ks)) t
  none_left l =
      let short = length-take (prefix (starts_by t) behind) behind in
      sym (ap (λ d. reach_before (drop free d) t) (due_is t) ∙ ap (λ d. reach_before d t) (drop_all free (take (prefix (starts_by t) behind) behind) (omega arith)))

  pub reach_all : length ks - prefix (starts_by a) ks ≤ free → t ≡ reach_before (drop free (filter (starts_in a t) ks)) t
  reach_all l = none_left (omega (arith, prefix_within (starts_by t) behind, length_behind))

  -- the event at the first place that is missing
  module _ (k : Kept) (within : prefix (starts_by a) ks + free < length ks) (read : k ≡ get_or ks (prefix (starts_by a) ks + free) k) where
    here : get_or behind free k ≡ k
    unfolding behind
    here = get_or-drop (prefix (starts_by a) ks) ks free k ∙ sym read

    inside : free < length behind
    inside = omega (arith, length_behind)

    pub reach_later : t < starts k → t ≡ reach_before (drop free (filter (starts_in a t) ks)) t
    reach_later l = none_left (prefix_fails (starts_by t) behind free k inside (ap (starts_by t) here ∙ lt-leb (starts k) t l))

    pub reach_held : starts k ≤ t → starts k - 1 ≡ reach_before (drop free (filter (starts_in a t) ks)) t
    reach_held l =
        let n : free < prefix (starts_by t) behind = prefix_passes (starts_by t) behind free k (behind_leads t) inside (ap (starts_by t) here ∙ le-leb (starts k) t l) in
        let w = prefix_within (starts_by t) behind in
        let long : free < length (take (prefix (starts_by t) behind) behind) = omega (arith, length-take-le (prefix (starts_by t) behind) behind w) in
        let first : drop free (take (prefix (starts_by t) behind) behind) ≡ get_or (take (prefix (starts_by t) behind) behind) free k ∷ drop (free + 1) (take (prefix (starts_by t) behind) behind) =
        drop_more (take (prefix (starts_by t) behind) behind) free k long in
        let is : get_or (take (prefix (starts_by t) behind) behind) free k ≡ k = get_or-take (prefix (starts_by t) behind) behind free k n ∙ here in
        sym (ap (λ d. reach_before (drop free d) t) (due_is t) ∙ ap (λ d. reach_before d t) first ∙ ap (λ j. starts j - 1) is)

  -- what is due up to the reach fits
  fits_to : (l : List Kept) → drop free (filter (starts_in a t) ks) ≡ l → length (filter (starts_in a (reach_before l t)) ks) ≤ free
  fits_to [] s = omega (arith, ap length s, length-drop free (filter (starts_in a t) ks))
  fits_to (k ∷ rest) s =
      let d : List Kept = filter (starts_in a t) ks in
      let n : ℕ = prefix (starts_by t) behind in
      let w = prefix_within (starts_by t) behind in
      let long : length (take n behind) ≡ n = length-take-le n behind w in
      let below : free < length d = omega (arith, ap length s, length-drop free d) in
      let below-n : free < n = omega (arith, ap length (due_is t)) in
      let first : get_or d free k ≡ k = ap (λ m. get_or d m k) (sym (add-zero free)) ∙ sym (get_or-drop free d 0 k) ∙ ap (λ l. get_or l 0 k) s in
      let at : get_or behind free k ≡ k = sym (get_or-take n behind free k below-n) ∙ ap (λ l. get_or l free k) (sym (due_is t)) ∙ first in
      let passes : starts_in a t (get_or d free k) ≡ true = All-get_or (λ x. starts_in a t x ≡ true) d free k below (kept_by_passes (starts_in a t) ks) in
      let after : starts_by a k ≡ false = not-true (starts_by a k) (and_parts (not (starts_by a k)) (starts_by t k) (sym (ap (starts_in a t) first) ∙ passes)).0 in
      let positive : a < starts k = leb-false (starts k) a after in
      let stops : prefix (starts_by (starts k - 1)) behind ≤ free =
      prefix_fails (starts_by (starts k - 1)) behind free k (omega arith) (ap (starts_by (starts k - 1)) at ∙ lt-leb (starts k) (starts k - 1) (omega arith)) in
      omega (arith, ap length (due_is (starts k - 1)), length-take (prefix (starts_by (starts k - 1)) behind) behind)

  pub due_fits : length (filter (starts_in a (reach_before (drop free (filter (starts_in a t) ks)) t)) ks) ≤ free
  due_fits = fits_to (drop free (filter (starts_in a t) ks)) refl

  -- what is due up to any later time does not fit
  further_to : (l : List Kept) → drop free (filter (starts_in a t) ks) ≡ l → (v : ℕ) → reach_before l t < v → v ≤ t → free < length (filter (starts_in a v) ks)
  further_to [] s v b e = absurd (omega arith)
  further_to (k ∷ rest) s v b e =
      let d : List Kept = filter (starts_in a t) ks in
      let n : ℕ = prefix (starts_by t) behind in
      let w = prefix_within (starts_by t) behind in
      let long : length (take n behind) ≡ n = length-take-le n behind w in
      let below : free < length d = omega (arith, ap length s, length-drop free d) in
      let below-n : free < n = omega (arith, ap length (due_is t)) in
      let first : get_or d free k ≡ k = ap (λ m. get_or d m k) (sym (add-zero free)) ∙ sym (get_or-drop free d 0 k) ∙ ap (λ l. get_or l 0 k) s in
      let at : get_or behind free k ≡ k = sym (get_or-take n behind free k below-n) ∙ ap (λ l. get_or l free k) (sym (due_is t)) ∙ first in
      let passes : free < prefix (starts_by v) behind = prefix_passes (starts_by v) behind free k (behind_leads v) (omega arith) (ap (starts_by v) at ∙ le-leb (starts k) v (omega arith)) in
      omega (arith, passes, ap length (due_is v), length-take-le (prefix (starts_by v) behind) behind (prefix_within (starts_by v) behind))

  pub none_further : (v : ℕ) → reach_before (drop free (filter (starts_in a t) ks)) t < v → v ≤ t → free < length (filter (starts_in a v) ks)
  none_further = further_to (drop free (filter (starts_in a t) ks)) refl

-- what stands behind the first events, and the event read there where the first place is missing
module _ (a t free : ℕ) (ks : List Kept) (ordered : sorted earlier ks ≡ true) (first : ℕ) (is : first ≡ prefix (starts_by a) ks) where
  later : List Kept
  later = take (length ks - first) (drop first ks)

  length_later : length later ≡ length ks - first
  unfolding later
  length_later = omega (arith, length-take (length ks - first) (drop first ks), length-drop first ks)

  pub all_reached : length (take (length ks - first) (drop first ks)) ≤ free → t ≡ reach_before (drop free (filter (starts_in a t) ks)) t
  unfolding later
  all_reached l = reach_all a t free ks ordered (omega (arith, length_later))

  module _ (k : Kept) (below : free < length (take (length ks - first) (drop first ks))) (read : k ≡ get_or (take (length ks - first) (drop first ks)) free k) where
    within : prefix (starts_by a) ks + free < length ks
    unfolding later
    within = omega (arith, length_later)

    found : k ≡ get_or ks (prefix (starts_by a) ks + free) k
    unfolding later
    found = read ∙ get_or-take (length ks - first) (drop first ks) free k (omega (arith, length_later)) ∙ get_or-drop first ks free k ∙ ap (λ m. get_or ks (m + free) k) is

    pub reaches_target : t < starts k → t ≡ reach_before (drop free (filter (starts_in a t) ks)) t
    reaches_target l = reach_later a t free ks ordered k within found l

    pub halts_before : starts k ≤ t → starts k - 1 ≡ reach_before (drop free (filter (starts_in a t) ks)) t
    halts_before l = reach_held a t free ks ordered k within found l
