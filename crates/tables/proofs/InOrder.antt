-- What an order gives of a list that is sorted by it.
use Rattle.std.proofs.Common.{◌≡◌, ℕ, zero, suc, ◌<◌, ◌≤◌, Bool, true, false, not, List, [], ◌∷◌, ◌++◌, length, get_or, take, drop, sym, refl, ap, ◌∙◌, inl, inr, arith}
use Rattle.std.proofs.lemmas.Bool.{and_parts, and_from, not_from_false, not_from_true, both_ways, cases_Bool, cases_lt}
use Rattle.std.specs.Prelude.{Ok, Err, Result, is_ok, cond}
use Rattle.std.proofs.Common.{Less, Equal, Greater}
use Rattle.std.specs.declared.cmp.Ordering.{Ordering}
use Rattle.std.specs.Ordering.{ordering_index}
use Rattle.std.specs.List.Sorted.{IsBinarySearchResult, IsNonDecreasingBy, IsSearchInRange}
use Rattle.tables.specs.Tables.{none, any, sorted, tied, placed, leading, prefix}
use Rattle.tables.proofs.Prefixes.{none_get_or, none_weaker, any_at, any_none}

pub sorted_get_or : {X : Type 0} (before : X → X → Bool) (xs : List X) (i j : ℕ) (d : X) → sorted before xs ≡ true → i < j → j < length xs → before (get_or xs j d) (get_or xs i d) ≡ false
sorted_get_or before [] i j d h a b = absurd (omega arith)
sorted_get_or before (x ∷ xs) i zero d h a b = absurd (omega arith)
sorted_get_or before (x ∷ xs) zero (suc j) d h a b =
    none_get_or (λ y. before y x) xs j d (and_parts (none (λ y. before y x) xs) (sorted before xs) h).0 (omega arith)
sorted_get_or before (x ∷ xs) (suc i) (suc j) d h a b =
    sorted_get_or before xs i j d (and_parts (none (λ y. before y x) xs) (sorted before xs) h).1 (omega arith) (omega arith)

-- an order with its two laws
module _ {X : Type 0} (before : X → X → Bool)
    (opposite : (x y : X) → before x y ≡ true → before y x ≡ false)
    (further : (x y z : X) → before x y ≡ true → before z y ≡ false → before x z ≡ true) where
  -- what x is not before stands in front
  pub sorted_leads : (x : X) (ys : List X) → sorted before ys ≡ true → leading (λ y. not (before x y)) ys ≡ true
  sorted_leads x [] h = refl
  sorted_leads x (y ∷ ys) h =
      let parts = and_parts (none (λ z. before z y) ys) (sorted before ys) h in
      elim (cases_Bool (before x y)) [
        | inl t ↦ rw t (none_weaker (λ z. before z y) (λ z. not (before x z)) ys (λ z e. not_from_true (before x z) (further x y z t e)) parts.0)
        | inr f ↦ rw f (sorted_leads x ys parts.1)
      ]

  -- a search by halving for what is tied with x
  module _ (x : X) (xs : List X) (h : sorted before xs ≡ true) (order : X → Ordering) (is : (y : X) → order y ≡ cond (before y x) Less (cond (before x y) Greater Equal)) where
    less : (y : X) → before y x ≡ true → order y ≡ Less
    less y e = is y ∙ ap (λ b. cond b Less (cond (before x y) Greater Equal)) e

    greater : (y : X) → before x y ≡ true → order y ≡ Greater
    greater y e = is y ∙ ap (λ b. cond b Less (cond (before x y) Greater Equal)) (opposite x y e) ∙ ap (λ b. cond b Greater Equal) e

    equal : (y : X) → before y x ≡ false → before x y ≡ false → order y ≡ Equal
    equal y e f = is y ∙ ap (λ b. cond b Less (cond (before x y) Greater Equal)) e ∙ ap (λ b. cond b Greater Equal) f

    index : X → ℕ
    index y = ordering_index (order y)

    tied_at : (y : X) → order y ≡ Equal → tied before x y ≡ true
    tied_at y e =
        elim (cases_Bool (before x y)) [
          | inl t ↦ absurd (omega (arith, ap ordering_index (sym e ∙ greater y t)))
          | inr f ↦ elim (cases_Bool (before y x)) [ inl u ↦ absurd (omega (arith, ap ordering_index (sym e ∙ less y u))) | inr v ↦ rw (f, v) ]
        ]

    apart_at : (y : X) → (index y ≡ 1 → ⊥) → tied before x y ≡ false
    unfolding index
    apart_at y n =
        elim (cases_Bool (before x y)) [
          | inl t ↦ rw t
          | inr f ↦ elim (cases_Bool (before y x)) [ inl u ↦ rw (f, u) | inr v ↦ absurd (n (ap ordering_index (equal y v f))) ]
        ]

    rises : (y z : X) → before z y ≡ false → index y ≤ index z
    unfolding index
    rises y z e =
        elim (cases_Bool (before z x)) [
          | inl t ↦ elim (cases_Bool (before y x)) [
            | inl u ↦ omega (arith, ap ordering_index (less y u), ap ordering_index (less z t))
            | inr v ↦ absurd (both_ways (before z y) e (further z x y t v))
          ]
          | inr f ↦ elim (cases_Bool (before x y)) [
            | inl u ↦ omega (arith, ap ordering_index (greater y u), ap ordering_index (greater z (further x y z u e)))
            | inr v ↦ elim (cases_Bool (before x z)) [
              | inl a ↦ elim (cases_Bool (before y x)) [
                | inl b ↦ omega (arith, ap ordering_index (greater z a), ap ordering_index (less y b))
                | inr b ↦ omega (arith, ap ordering_index (greater z a), ap ordering_index (equal y b v))
              ]
              | inr a ↦ elim (cases_Bool (before y x)) [
                | inl b ↦ omega (arith, ap ordering_index (equal z f a), ap ordering_index (less y b))
                | inr b ↦ omega (arith, ap ordering_index (equal z f a), ap ordering_index (equal y b v))
              ]
            ]
          ]
        ]

    rising : IsNonDecreasingBy (λ y. ordering_index (order y)) xs
    unfolding index
    rising i j d a b =
        elim (cases_lt i j) [
          | inl l ↦ rises (get_or xs i d) (get_or xs j d) (sorted_get_or before xs i j d h l b)
          | inr l ↦ let e : i ≡ j = omega arith in omega (arith, ap (λ k. ordering_index (order (get_or xs k d))) e)
        ]

    pub search_decides : (r : Result ℕ ℕ) → IsSearchInRange r (length xs) → IsBinarySearchResult order xs r → is_ok r ≡ any (tied before x) xs
    unfolding index
    search_decides (Ok i) within found = sym (any_at (tied before x) xs i x within (tied_at (get_or xs i x) (found x)))
    search_decides (Err i) within found =
        let point = found rising in
        sym (any_none (tied before x) xs x (λ k l. apart_at (get_or xs k x) (λ e.
        elim (cases_lt k i) [
          | inl a ↦ omega (arith, e, ap ordering_index (point.0 k x (omega arith) a))
          | inr a ↦ omega (arith, e, ap ordering_index (point.1 k x a l))
        ])))

  pub none_placed : (p : X → Bool) (x : X) (ys : List X) → p x ≡ false → none p ys ≡ true → none p (placed before x ys) ≡ true
  none_placed p x [] e h = rw e
  none_placed p x (y ∷ ys) e h =
      elim (cases_Bool (before x y)) [
        | inl t ↦ rw (t, e) h
        | inr f ↦ let parts = and_parts (not (p y)) (none p ys) h in rw f (and_from (not (p y)) (none p (placed before x ys)) parts.0 (none_placed p x ys e parts.1))
      ]

  pub placed_sorted : (x : X) (ys : List X) → sorted before ys ≡ true → sorted before (placed before x ys) ≡ true
  placed_sorted x [] h = refl
  placed_sorted x (y ∷ ys) h =
      let parts = and_parts (none (λ z. before z y) ys) (sorted before ys) h in
      elim (cases_Bool (before x y)) [
        | inl t ↦
            let later : (z : X) → before z y ≡ false → before z x ≡ false = λ z e.
            elim (cases_Bool (before z x)) [ inl u ↦ absurd (both_ways (before z y) e (further z x y u (opposite x y t))) | inr v ↦ v ] in
            rw t (and_from (none (λ z. before z x) (y ∷ ys)) (sorted before (y ∷ ys))
            (and_from (not (before y x)) (none (λ z. before z x) ys) (not_from_false (before y x) (opposite x y t)) (none_weaker (λ z. before z y) (λ z. before z x) ys later parts.0))
            h)
        | inr f ↦ rw f (and_from (none (λ z. before z y) (placed before x ys)) (sorted before (placed before x ys))
            (none_placed (λ z. before z y) x ys f parts.0)
            (placed_sorted x ys parts.1))
      ]

-- placing is an insertion behind all that x is not before
pub placed_at : {X : Type 0} (before : X → X → Bool) (x : X) (ys : List X) →
    placed before x ys ≡ take (prefix (λ y. not (before x y)) ys) ys ++ (x ∷ drop (prefix (λ y. not (before x y)) ys) ys)
placed_at before x [] = refl
placed_at before x (y ∷ ys) =
    elim (cases_Bool (before x y)) [ inl t ↦ rw t | inr f ↦ rw f (ap (λ zs. y ∷ zs) (placed_at before x ys)) ]

pub length_placed : {X : Type 0} (before : X → X → Bool) (x : X) (ys : List X) → length (placed before x ys) ≡ suc (length ys)
length_placed before x [] = refl
length_placed before x (y ∷ ys) = elim (cases_Bool (before x y)) [ inl t ↦ rw t | inr f ↦ rw f (ap suc (length_placed before x ys)) ]
