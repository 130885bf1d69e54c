-- A text, four characters after four, and bytes, three after three.
use Rattle.std.proofs.Common.{◌≡◌, ◌≢◌, ℕ, zero, suc, ◌+◌, ◌*◌, ◌/◌, ◌%◌, ◌<◌, ◌≤◌, Bool, true, false, ◌&&◌, ◌||◌, List, [], ◌∷◌, ◌++◌, length, get_or, take, drop, sym, refl, ap, ◌∙◌, subst, arith}
use Rattle.std.proofs.Math.Bool.{and-true}
use Rattle.std.specs.List.{list_all, IsLastAndRest}
use Rattle.std.specs.Simd.{first_chunks}
use Rattle.std.proofs.lemmas.List.{drop-drop, length-drop}
use Rattle.base64_codec.specs.Texts.{accepted, decoded, encoded, digits, full, group, of_four, of_three, packed, padded}

pub goes_on_lem : (a b c d : ℕ) (rest : List ℕ) → full a b c d ≡ true → accepted rest ≡ accepted (a ∷ b ∷ c ∷ d ∷ rest)
unfolding accepted
goes_on_lem a b c d [] f = grind (arith)
goes_on_lem a b c d (x ∷ rest) f = grind (arith)

-- what is not fours alone is not accepted
pub uneven : (xs : List ℕ) → length xs % 4 ≢ 0 → false ≡ accepted xs
unfolding accepted
uneven [] h = absurd (omega arith)
uneven (a ∷ []) h = refl
uneven (a ∷ b ∷ []) h = refl
uneven (a ∷ b ∷ c ∷ []) h = refl
uneven (a ∷ b ∷ c ∷ d ∷ []) h = absurd (omega arith)
uneven (a ∷ b ∷ c ∷ d ∷ e ∷ rest) h =
    let ih = uneven (e ∷ rest) (omega arith) in grind (arith)

pub nothing : (xs : List ℕ) → length xs ≡ 0 → true ≡ accepted xs
unfolding accepted
nothing [] h = refl
nothing (x ∷ xs) h = absurd (omega arith)

-- fours are accepted if all before the last are of the alphabet, and the last is or is padded
abbrev pub by_last : List (List ℕ) → List ℕ → Bool
by_last before last = list_all (of_four full) before && (of_four full last || of_four padded last)

one : (x y : Bool) → (x || y) ≡ (x && true || y && true)
one true y = refl
one false y = sym (and-true y)

behind_none : (x p : Bool) → x ≡ (x || p && false)
behind_none true p = refl
behind_none false true = refl
behind_none false false = refl

more : (f l z p : Bool) → ((f && l) && z) ≡ (f && (l && z) || p && false)
more true l z p = behind_none (l && z) p
more false l z p = behind_none false p

fours_hold : (before : List (List ℕ)) (last xs : List ℕ) → first_chunks 4 (suc (length before)) xs ≡ before ++ last ∷ [] → length xs ≡ suc (length before) * 4 → by_last before last ≡ accepted xs
unfolding accepted
fours_hold before last [] e h = absurd (omega arith)
fours_hold before last (a ∷ []) e h = absurd (omega arith)
fours_hold before last (a ∷ b ∷ []) e h = absurd (omega arith)
fours_hold before last (a ∷ b ∷ c ∷ []) e h = absurd (omega arith)
fours_hold [] last (a ∷ b ∷ c ∷ d ∷ []) e h = let is : a ∷ b ∷ c ∷ d ∷ [] ≡ last = cc in rw (← is) (one (full a b c d) (padded a b c d))
fours_hold [] last (a ∷ b ∷ c ∷ d ∷ x ∷ rest) e h = absurd (omega arith)
fours_hold (four ∷ before) last (a ∷ b ∷ c ∷ d ∷ []) e h = absurd (omega arith)
fours_hold (four ∷ before) last (a ∷ b ∷ c ∷ d ∷ x ∷ rest) e h =
    let is : a ∷ b ∷ c ∷ d ∷ [] ≡ four = cc in
    let others : first_chunks 4 (suc (length before)) (x ∷ rest) ≡ before ++ last ∷ [] = cc in
    let ih = fours_hold before last (x ∷ rest) others (omega arith) in
    subst (λ f. by_last (f ∷ before) last ≡ accepted (a ∷ b ∷ c ∷ d ∷ x ∷ rest)) is
    (more (full a b c d) (list_all (of_four full) before) (of_four full last || of_four padded last) (padded a b c d)
    ∙ ap (λ on. full a b c d && on || padded a b c d && false) ih)

pub fours_end : (xs : List ℕ) (fours before : List (List ℕ)) (last : List ℕ) → fours ≡ first_chunks 4 (length xs / 4) xs → length xs % 4 ≡ 0 → IsLastAndRest fours last before → length fours ≡ length xs / 4 → by_last before last ≡ accepted xs
fours_end xs fours before last e even ends long =
    let k : length xs / 4 ≡ suc (length before) = omega (arith, ends.1) in
    fours_hold before last xs (ap (λ n. first_chunks 4 n xs) (sym k) ∙ sym e ∙ ends.0) (omega arith)

-- the first of a list alone are as in the list
pub of_four-take : {A : Type 0} (f : ℕ → ℕ → ℕ → ℕ → A) (xs : List ℕ) → of_four f (take 4 xs) ≡ of_four f xs
of_four-take f [] = refl
of_four-take f (a ∷ []) = refl
of_four-take f (a ∷ b ∷ []) = refl
of_four-take f (a ∷ b ∷ c ∷ []) = refl
of_four-take f (a ∷ b ∷ c ∷ d ∷ rest) = refl

of_three-take : {A : Type 0} (f : ℕ → ℕ → ℕ → A) (xs : List ℕ) → of_three f (take 3 xs) ≡ of_three f xs
of_three-take f [] = refl
of_three-take f (a ∷ []) = refl
of_three-take f (a ∷ b ∷ []) = refl
of_three-take f (a ∷ b ∷ c ∷ rest) = refl

decoded_front : (xs : List ℕ) → 4 ≤ length xs → decoded xs ≡ of_four group xs ++ decoded (drop 4 xs)
unfolding decoded
decoded_front [] h = absurd (omega arith)
decoded_front (a ∷ []) h = absurd (omega arith)
decoded_front (a ∷ b ∷ []) h = absurd (omega arith)
decoded_front (a ∷ b ∷ c ∷ []) h = absurd (omega arith)
decoded_front (a ∷ b ∷ c ∷ d ∷ rest) h = refl

pub decoded_end : (xs : List ℕ) → length xs < 4 → decoded xs ≡ []
unfolding decoded
decoded_end [] h = refl
decoded_end (a ∷ []) h = refl
decoded_end (a ∷ b ∷ []) h = refl
decoded_end (a ∷ b ∷ c ∷ []) h = refl
decoded_end (a ∷ b ∷ c ∷ d ∷ rest) h = absurd (omega arith)

encoded_front : (xs : List ℕ) → 3 ≤ length xs → encoded xs ≡ digits (of_three packed xs) ++ encoded (drop 3 xs)
unfolding encoded
encoded_front [] h = absurd (omega arith)
encoded_front (a ∷ []) h = absurd (omega arith)
encoded_front (a ∷ b ∷ []) h = absurd (omega arith)
encoded_front (a ∷ b ∷ c ∷ rest) h = refl

-- the chunk at i of a list
pub chunk_at : (size k : ℕ) (xs : List ℕ) (i : ℕ) (d : List ℕ) → i < k → get_or (first_chunks size k xs) i d ≡ take size (drop (i * size) xs)
chunk_at size zero xs i d h = absurd (omega arith)
chunk_at size (suc k) xs zero d h = let none : 0 ≡ 0 * size = omega arith in ap (λ n. take size (drop n xs)) none
chunk_at size (suc k) xs (suc i) d h = let further : size + i * size ≡ suc i * size = grind (arith) in chunk_at size k (drop size xs) i d (omega arith) ∙ ap (take size) (drop-drop (i * size) size xs ∙ ap (λ n. drop n xs) further)

pub next_drop : (size n : ℕ) (xs : List ℕ) → drop size (drop (n * size) xs) ≡ drop ((n + 1) * size) xs
next_drop size n xs = let further : n * size + size ≡ (n + 1) * size = grind (arith) in drop-drop size (n * size) xs ∙ ap (λ m. drop m xs) further

pub decoded_on : (xs : List ℕ) (fours : List (List ℕ)) (n : ℕ) → fours ≡ first_chunks 4 (length xs / 4) xs → n < length xs / 4 → decoded (drop (n * 4) xs) ≡ of_four group (get_or fours n []) ++ decoded (drop ((n + 1) * 4) xs)
decoded_on xs fours n e h =
    let four = ap (λ l. get_or l n []) e ∙ chunk_at 4 (length xs / 4) xs n [] h in
    decoded_front (drop (n * 4) xs) (omega (arith, length-drop (n * 4) xs))
    ∙ (λ i. (sym (ap (of_four group) four ∙ of_four-take group (drop (n * 4) xs))) i ++ ap decoded (next_drop 4 n xs) i)

pub encoded_on : (xs : List ℕ) (threes : List (List ℕ)) (n : ℕ) → threes ≡ first_chunks 3 (length xs / 3) xs → n < length xs / 3 → encoded (drop (n * 3) xs) ≡ digits (of_three packed (get_or threes n [])) ++ encoded (drop ((n + 1) * 3) xs)
encoded_on xs threes n e h =
    let three = ap (λ l. get_or l n []) e ∙ chunk_at 3 (length xs / 3) xs n [] h in
    encoded_front (drop (n * 3) xs) (omega (arith, length-drop (n * 3) xs))
    ∙ (λ i. ap digits (sym (ap (of_three packed) three ∙ of_three-take packed (drop (n * 3) xs))) i ++ ap encoded (next_drop 3 n xs) i)
