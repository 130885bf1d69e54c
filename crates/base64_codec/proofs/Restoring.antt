-- Encoding undoes decoding, and the texts that are accepted are those of bytes.
use Rattle.std.proofs.Common.{◌≡◌, ℕ, ◌/◌, ◌%◌, ◌<◌, true, false, ◌&&◌, eqb, List, [], ◌∷◌, ◌++◌, sym, refl, ap, ◌∙◌, subst, ⊎_elim, append-nil, arith}
use Rattle.std.proofs.ByRecursion.{All-append, All-take}
use Rattle.std.proofs.lemmas.Bool.{and_parts, cases_Bool, cond_both, cond-false, eqb-true, false≢true, ltb-true, or_cases}
use Rattle.std.specs.List.{AllByRecursion}
use Rattle.base64_codec.specs.Alphabet.{padding, value}
use Rattle.base64_codec.specs.Laws.{Byte, Exact, Restored}
use Rattle.base64_codec.specs.Texts.{accepted, octets, decoded, digits, encoded, full, group, joined, known, packed, padded}
use Rattle.base64_codec.proofs.Bits.{packed_bytes, first_digit, second_digit, third_digit, fourth_digit}
use Rattle.base64_codec.proofs.Digits.{digit_value, unpadded}
use Rattle.base64_codec.proofs.Undoing.{undone}

below : (c : ℕ) → known c ≡ true → value c < 64
below c k = ltb-true (value c) 64 k

-- the characters of the 24 bits of four characters
digits_joined : (a b c d : ℕ) → full a b c d ≡ true → digits (joined (value a) (value b) (value c) (value d)) ≡ a ∷ b ∷ c ∷ d ∷ []
digits_joined a b c d f =
    let ka : known a ≡ true = grind (arith) in
    let kb : known b ≡ true = grind (arith) in
    let kc : known c ≡ true = grind (arith) in
    let kd : known d ≡ true = grind (arith) in
    let ha = below a ka in
    let hb = below b kb in
    let hc = below c kc in
    let hd = below d kd in
    rw (
      first_digit (value a) (value b) (value c) (value d) ha hb hc hd,
      second_digit (value a) (value b) (value c) (value d) ha hb hc hd,
      third_digit (value a) (value b) (value c) (value d) ha hb hc hd,
      fourth_digit (value a) (value b) (value c) (value d) ha hb hc hd,
      digit_value a ha,
      digit_value b hb,
      digit_value c hc,
      digit_value d hd,
    )

restored_full : (a b c d : ℕ) (bs rest : List ℕ) → full a b c d ≡ true → encoded bs ≡ rest → encoded (group a b c d ++ bs) ≡ a ∷ b ∷ c ∷ d ∷ rest
unfolding encoded
restored_full a b c d bs rest f e =
    let n : ℕ = joined (value a) (value b) (value c) (value d) in
    let kd : known d ≡ true = grind (arith) in
    let three : group a b c d ≡ octets n = cond-false _ _ _ (unpadded d kd) in
    let small : n < 16777216 = omega (arith, below a (grind (arith)), below b (grind (arith)), below c (grind (arith)), below d kd) in
    ap (λ l. encoded (l ++ bs)) three
    ∙ (λ i. (ap digits (packed_bytes n small) ∙ digits_joined a b c d f) i ++ e i)

restored_one : (a b : ℕ) → padded a b padding padding ≡ true → encoded (group a b padding padding) ≡ a ∷ b ∷ padding ∷ padding ∷ []
unfolding encoded
restored_one a b p =
    let ka : known a ≡ true = grind (arith) in
    let kb : known b ≡ true = grind (arith) in
    let eb : eqb (value b % 16) 0 ≡ true = grind (arith) in
    let ha = below a ka in
    let hb = below b kb in
    let unused = eqb-true (value b % 16) 0 eb in
    let n : ℕ = joined (value a) (value b) 0 0 in
    let no_second : n / 256 % 256 ≡ 0 = omega arith in
    let no_third : n % 256 ≡ 0 = omega arith in
    let whole : packed (n / 65536 % 256) 0 0 ≡ n =
    ap (packed (n / 65536 % 256) 0) (sym no_third) ∙ ap (λ m. packed (n / 65536 % 256) m (n % 256)) (sym no_second) ∙ packed_bytes n (omega arith) in
    let low : 0 < 64 = omega arith in
    rw (whole, first_digit (value a) (value b) 0 0 ha hb low low, second_digit (value a) (value b) 0 0 ha hb low low, digit_value a ha, digit_value b hb)

restored_two : (a b c : ℕ) → padded a b c padding ≡ true → eqb c padding ≡ false → encoded (group a b c padding) ≡ a ∷ b ∷ c ∷ padding ∷ []
unfolding encoded
restored_two a b c p u =
    let ka : known a ≡ true = grind (arith) in
    let kb : known b ≡ true = grind (arith) in
    let kc : known c ≡ true = grind (arith) in
    let ec : eqb (value c % 4) 0 ≡ true = grind (arith) in
    let ha = below a ka in
    let hb = below b kb in
    let hc = below c kc in
    let unused = eqb-true (value c % 4) 0 ec in
    let n : ℕ = joined (value a) (value b) (value c) 0 in
    let no_third : n % 256 ≡ 0 = omega arith in
    let whole : packed (n / 65536 % 256) (n / 256 % 256) 0 ≡ n = ap (packed (n / 65536 % 256) (n / 256 % 256)) (sym no_third) ∙ packed_bytes n (omega arith) in
    let low : 0 < 64 = omega arith in
    rw (u, whole, first_digit (value a) (value b) (value c) 0 ha hb hc low, second_digit (value a) (value b) (value c) 0 ha hb hc low, third_digit (value a) (value b) (value c) 0 ha hb hc low, digit_value a ha, digit_value b hb, digit_value c hc)

restored_padded : (a b c d : ℕ) → padded a b c d ≡ true → encoded (group a b c d) ≡ a ∷ b ∷ c ∷ d ∷ []
restored_padded a b c d p =
    let ed : eqb d padding ≡ true = grind (arith) in
    let is-d : d ≡ padding = eqb-true d padding ed in
    let at-d : (m : ℕ) → Type 0 = λ m. padded a b c m ≡ true → encoded (group a b c m) ≡ a ∷ b ∷ c ∷ m ∷ [] in
    let at_c : (m : ℕ) → Type 0 = λ m. padded a b m padding ≡ true → encoded (group a b m padding) ≡ a ∷ b ∷ m ∷ padding ∷ [] in
    subst at-d (sym is-d)
    (⊎_elim (λ ec. subst at_c (sym (eqb-true c padding ec)) (restored_one a b)) (λ u q. restored_two a b c q u) (cases_Bool (eqb c padding)))
    p

pub restored : (t : List ℕ) → Restored t
unfolding accepted decoded encoded
restored [] h = refl
restored (a ∷ []) h = absurd (false≢true h)
restored (a ∷ b ∷ []) h = absurd (false≢true h)
restored (a ∷ b ∷ c ∷ []) h = absurd (false≢true h)
restored (a ∷ b ∷ c ∷ d ∷ []) h =
    ⊎_elim (λ f. restored_full a b c d [] [] (and_parts _ _ f).0 refl) (λ p. ap encoded (append-nil (group a b c d)) ∙ restored_padded a b c d (and_parts _ _ p).0)
    (or_cases (full a b c d && true) (padded a b c d && true) h)
restored (a ∷ b ∷ c ∷ d ∷ e ∷ rest) h =
    let f : full a b c d ≡ true = grind (arith) in
    let on : accepted (e ∷ rest) ≡ true = grind (arith) in
    restored_full a b c d (decoded (e ∷ rest)) (e ∷ rest) f (restored (e ∷ rest) on)

-- what is decoded is bytes
eight : (n : ℕ) → AllByRecursion Byte (octets n)
eight n = (omega arith, (omega arith, (omega arith, tt)))

group_eight : (a b c d : ℕ) → AllByRecursion Byte (group a b c d)
group_eight a b c d =
    cond_both (eqb d padding) _ _ (AllByRecursion Byte)
    (λ _. cond_both (eqb c padding) _ _ (AllByRecursion Byte) (λ _. All-take Byte 1 (octets (joined (value a) (value b) 0 0)) (eight _)) (λ _. All-take Byte 2 (octets (joined (value a) (value b) (value c) 0)) (eight _)))
    (λ _. eight (joined (value a) (value b) (value c) (value d)))

pub decoded_bytes : (t : List ℕ) → AllByRecursion Byte (decoded t)
unfolding decoded
decoded_bytes [] = tt
decoded_bytes (a ∷ []) = tt
decoded_bytes (a ∷ b ∷ []) = tt
decoded_bytes (a ∷ b ∷ c ∷ []) = tt
decoded_bytes (a ∷ b ∷ c ∷ d ∷ rest) = All-append Byte (group a b c d) (decoded rest) (group_eight a b c d) (decoded_bytes rest)

pub exact : (t : List ℕ) → Exact t
exact t = (
  λ h. (decoded t, decoded_bytes t, restored t h),
  λ w. subst (λ l. accepted l ≡ true) w.2 (undone w.0 w.1).0,
)
