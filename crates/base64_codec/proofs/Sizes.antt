-- How many bytes a text stands for, and how many characters bytes take.
use Rattle.std.proofs.Common.{◌≡◌, ℕ, suc, ◌+◌, ◌-◌, ◌*◌, ◌/◌, Bool, true, false, cond, eqb, List, [], ◌∷◌, length, get_or, refl, ap, ◌∙◌, append-nil, arith}
use Rattle.std.proofs.lemmas.List.{length-append}
use Rattle.std.proofs.lemmas.Bool.{cond-false, false≢true}
use Rattle.base64_codec.specs.Alphabet.{padding}
use Rattle.base64_codec.specs.Texts.{accepted, decoded, digits, encoded, full, group, packed}
use Rattle.base64_codec.proofs.Digits.{unpadded}

-- how many characters of padding end a text
abbrev pub pads : List ℕ → ℕ
pads xs = cond (eqb (get_or xs (length xs - 1) 0) padding) (cond (eqb (get_or xs (length xs - 2) 0) padding) 2 1) 0

sized_by : (x y : Bool) (l m n : List ℕ) → length l ≡ 1 → length m ≡ 2 → length n ≡ 3 → length (cond x (cond y l m) n) + cond x (cond y 2 1) 0 ≡ 3
sized_by true true l m n p q r = omega arith
sized_by true false l m n p q r = omega arith
sized_by false y l m n p q r = omega arith

pub three : (a b c d : ℕ) → full a b c d ≡ true → length (group a b c d) ≡ 3
three a b c d f = ap length (cond-false _ _ _ (unpadded d (grind (arith))))

last : (n : ℕ) → suc (suc (suc (suc (suc (suc n))))) - 1 ≡ suc (suc (suc (suc (suc (suc n) - 1))))
last n = omega arith

last_but_one : (n : ℕ) → suc (suc (suc (suc (suc (suc n))))) - 2 ≡ suc (suc (suc (suc (suc (suc n) - 2))))
last_but_one n = omega arith

further : (a b c d e f : ℕ) (rest : List ℕ) → pads (a ∷ b ∷ c ∷ d ∷ e ∷ f ∷ rest) ≡ pads (e ∷ f ∷ rest)
further a b c d e f rest = rw (last (length rest), last_but_one (length rest))

pub sized : (xs : List ℕ) → accepted xs ≡ true → length (decoded xs) + pads xs ≡ length xs / 4 * 3
unfolding accepted decoded
sized [] h = refl
sized (a ∷ []) h = absurd (false≢true h)
sized (a ∷ b ∷ []) h = absurd (false≢true h)
sized (a ∷ b ∷ c ∷ []) h = absurd (false≢true h)
sized (a ∷ b ∷ c ∷ d ∷ []) h =
    ap (λ n. n + pads (a ∷ b ∷ c ∷ d ∷ [])) (ap length (append-nil (group a b c d))) ∙ sized_by (eqb d padding) (eqb c padding) _ _ _ refl refl refl
sized (a ∷ b ∷ c ∷ d ∷ e ∷ []) h = absurd (false≢true (grind (arith)))
sized (a ∷ b ∷ c ∷ d ∷ e ∷ f ∷ rest) h =
    let on : full a b c d ≡ true = grind (arith) in
    let ih = sized (e ∷ f ∷ rest) (grind (arith)) in
    omega (arith, ih, further a b c d e f rest, three a b c d on, length-append (group a b c d) (decoded (e ∷ f ∷ rest)))

pub encoded_sized : (xs : List ℕ) → length (encoded xs) ≡ (length xs + 2) / 3 * 4
unfolding encoded
encoded_sized [] = refl
encoded_sized (a ∷ []) = refl
encoded_sized (a ∷ b ∷ []) = refl
encoded_sized (a ∷ b ∷ c ∷ rest) =
    let ih = encoded_sized rest in
    omega (arith, ih, length-append (digits (packed a b c)) (encoded rest))
