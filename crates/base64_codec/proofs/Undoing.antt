-- Decoding undoes encoding.
use Rattle.std.proofs.Common.{◌≡◌, ℕ, ◌/◌, ◌%◌, ◌<◌, true, false, eqb, List, [], ◌∷◌, ◌++◌, get_or, sym, refl, ap, ◌∙◌, Fits, w8, arith}
use Rattle.std.proofs.ByRecursion.{All-from_get_or}
use Rattle.std.proofs.lemmas.Bool.{cond-false, eq-eqb, lt-ltb}
use Rattle.std.specs.List.{AllByRecursion}
use Rattle.base64_codec.specs.Alphabet.{digit, padding, value}
use Rattle.base64_codec.specs.Laws.{Byte, Undone}
use Rattle.base64_codec.specs.Texts.{accepted, octets, decoded, encoded, full, group, joined, known, packed, padded}
use Rattle.base64_codec.proofs.Bits.{joined_digits, packed_below, first_byte, second_byte, third_byte}
use Rattle.base64_codec.proofs.Digits.{value_digit, unpadded}
use Rattle.base64_codec.proofs.Fours.{goes_on_lem}

known_digit : (n : ℕ) → n < 64 → known (digit n) ≡ true
known_digit n h = lt-ltb (value (digit n)) 64 (omega (arith, value_digit n h))

-- the four characters of 24 bits
module _ (n : ℕ) where
  abbrev w : ℕ
  w = n / 262144 % 64

  abbrev x : ℕ
  x = n / 4096 % 64

  abbrev y : ℕ
  y = n / 64 % 64

  abbrev z : ℕ
  z = n % 64

  full_digits : full (digit w) (digit x) (digit y) (digit z) ≡ true
  full_digits = rw (known_digit w (omega arith), known_digit x (omega arith), known_digit y (omega arith), known_digit z (omega arith))

  group_digits : n < 16777216 → group (digit w) (digit x) (digit y) (digit z) ≡ octets n
  group_digits h =
      cond-false _ _ _ (unpadded (digit z) (known_digit z (omega arith)))
      ∙ rw (value_digit w (omega arith), value_digit x (omega arith), value_digit y (omega arith), value_digit z (omega arith), joined_digits n h)

bytes_packed : (a b c : ℕ) → a < 256 → b < 256 → c < 256 → octets (packed a b c) ≡ a ∷ b ∷ c ∷ []
bytes_packed a b c ha hb hc = rw (first_byte a b c ha hb hc, second_byte a b c ha hb hc, third_byte a b c ha hb hc)

closed : (a b c d : ℕ) → padded a b c d ≡ true → accepted (a ∷ b ∷ c ∷ d ∷ []) ≡ true
unfolding accepted
closed a b c d e = grind (arith)

undone_one : (a : ℕ) → a < 256 → Undone (a ∷ [])
unfolding accepted decoded encoded
undone_one a h =
    let n : ℕ = packed a 0 0 in
    let small = packed_below a 0 0 h (omega arith) (omega arith) in
    let one : value (digit (w n)) ≡ w n = value_digit (w n) (omega arith) in
    let two : value (digit (x n)) ≡ x n = value_digit (x n) (omega arith) in
    let unused : x n % 16 ≡ 0 = omega arith in
    let no_third : y n ≡ 0 = omega arith in
    let no-fourth : z n ≡ 0 = omega arith in
    let whole : joined (w n) (x n) 0 0 ≡ n = ap (joined (w n) (x n) 0) (sym no-fourth) ∙ ap (λ m. joined (w n) (x n) m (z n)) (sym no_third) ∙ joined_digits n small in
    let ends : padded (digit (w n)) (digit (x n)) padding padding ≡ true =
    rw (known_digit (w n) (omega arith), known_digit (x n) (omega arith), two) (eq-eqb (x n % 16) 0 unused) in (
      closed (digit (w n)) (digit (x n)) padding padding ends,
      ap (λ m. m ∷ []) (rw (one, two, whole) (first_byte a 0 0 h (omega arith) (omega arith))),
    )

undone_two : (a b : ℕ) → a < 256 → b < 256 → Undone (a ∷ b ∷ [])
unfolding accepted decoded encoded
undone_two a b ha hb =
    let n : ℕ = packed a b 0 in
    let small = packed_below a b 0 ha hb (omega arith) in
    let one : value (digit (w n)) ≡ w n = value_digit (w n) (omega arith) in
    let two : value (digit (x n)) ≡ x n = value_digit (x n) (omega arith) in
    let three : value (digit (y n)) ≡ y n = value_digit (y n) (omega arith) in
    let known-three : known (digit (y n)) ≡ true = known_digit (y n) (omega arith) in
    let unused : y n % 4 ≡ 0 = omega arith in
    let no-fourth : z n ≡ 0 = omega arith in
    let whole : joined (w n) (x n) (y n) 0 ≡ n = ap (joined (w n) (x n) (y n)) (sym no-fourth) ∙ joined_digits n small in
    let unlike : eqb (digit (y n)) padding ≡ false = unpadded (digit (y n)) known-three in
    let ends : padded (digit (w n)) (digit (x n)) (digit (y n)) padding ≡ true =
    rw (known_digit (w n) (omega arith), known_digit (x n) (omega arith), unlike, known-three, three) (eq-eqb (y n % 4) 0 unused) in (
      closed (digit (w n)) (digit (x n)) (digit (y n)) padding ends,
      rw (unlike, one, two, three, whole, first_byte a b 0 ha hb (omega arith), second_byte a b 0 ha hb (omega arith)),
    )

pub undone : (bs : List ℕ) → AllByRecursion Byte bs → Undone bs
unfolding accepted decoded encoded
undone [] h = (refl, refl)
undone (a ∷ []) h = undone_one a h.0
undone (a ∷ b ∷ []) h = undone_two a b h.0 h.1.0
undone (a ∷ b ∷ c ∷ rest) h =
    let n : ℕ = packed a b c in
    let ih = undone rest h.1.1.1 in
    let small = packed_below a b c h.0 h.1.0 h.1.1.0 in (
      sym (goes_on_lem _ _ _ _ (encoded rest) (full_digits n)) ∙ ih.0,
      (λ i. (group_digits n small ∙ bytes_packed a b c h.0 h.1.0 h.1.1.0) i ++ ih.1 i),
    )

-- the same of a slice's bytes, each of which fits in eight bits
pub undone_all : (bs : List ℕ) → ((i : ℕ) → Fits w8 (get_or bs i 0)) → Undone bs
undone_all bs fits = undone bs (All-from_get_or Byte bs 0 (λ i _. (fits i).fits))
