-- Lists in order.
--   sorted before xs     no element stands before one in front of it
--   tied before x y      neither stands before the other
--   placed before x xs   x put in front of the first element that it is before
--   none p xs            no element passes p
--   any p xs             some element passes p
--   without p xs         the elements that do not pass p, in their order
--   leading p xs         what passes p stands in front of all that does not
--   prefix p xs          how many elements stand before the first that does not pass p
use Rattle.std.specs.Prelude.{ℕ, suc, Bool, true, cond, not, ◌&&◌, List, [], ◌∷◌, filter}

abbrev pub none : {X : Type 0} → (X → Bool) → List X → Bool
none p [] = true
none p (x ∷ xs) = not (p x) && none p xs

abbrev pub any : {X : Type 0} → (X → Bool) → List X → Bool
any p xs = not (none p xs)

abbrev pub sorted : {X : Type 0} → (X → X → Bool) → List X → Bool
sorted before [] = true
sorted before (x ∷ xs) = none (λ y. before y x) xs && sorted before xs

abbrev pub tied : {X : Type 0} → (X → X → Bool) → X → X → Bool
tied before x y = not (before x y) && not (before y x)

abbrev pub placed : {X : Type 0} → (X → X → Bool) → X → List X → List X
placed before x [] = x ∷ []
placed before x (y ∷ ys) = cond (before x y) (x ∷ y ∷ ys) (y ∷ placed before x ys)

abbrev pub fails : {X : Type 0} → (X → Bool) → X → Bool
fails p x = not (p x)

abbrev pub without : {X : Type 0} → (X → Bool) → List X → List X
without p xs = filter (fails p) xs

abbrev pub leading : {X : Type 0} → (X → Bool) → List X → Bool
leading p [] = true
leading p (x ∷ xs) = cond (p x) (leading p xs) (none p xs)

abbrev pub prefix : {X : Type 0} → (X → Bool) → List X → ℕ
prefix p [] = 0
prefix p (x ∷ xs) = cond (p x) (suc (prefix p xs)) 0
