-- Three bytes and four numbers of six bits are the same 24 bits.
use Rattle.std.proofs.Common.{◌≡◌, ℕ, ◌+◌, ◌*◌, ◌/◌, ◌%◌, ◌<◌, sym, ap, ◌∙◌, arith}
use native.Mathlib.Nat.{div-div-eq-div-mul}
use Rattle.std.proofs.lemmas.Nat.{div-add-mod'}
use Rattle.base64_codec.specs.Texts.{joined, packed}

pub packed_below : (a b c : ℕ) → a < 256 → b < 256 → c < 256 → packed a b c < 16777216
packed_below a b c ha hb hc = omega arith

pub joined_digits : (n : ℕ) → n < 16777216 → joined (n / 262144 % 64) (n / 4096 % 64) (n / 64 % 64) (n % 64) ≡ n
joined_digits n h =
    let one : n / 64 / 64 ≡ n / 4096 = div-div-eq-div-mul n 64 64 in
    let two : n / 4096 / 64 ≡ n / 262144 = div-div-eq-div-mul n 4096 64 in
    let low : n / 64 * 64 + n % 64 ≡ n = div-add-mod' n 64 in
    let mid : n / 4096 * 64 + n / 64 % 64 ≡ n / 64 = ap (λ q. q * 64 + n / 64 % 64) (sym one) ∙ div-add-mod' (n / 64) 64 in
    let high : n / 262144 * 64 + n / 4096 % 64 ≡ n / 4096 = ap (λ q. q * 64 + n / 4096 % 64) (sym two) ∙ div-add-mod' (n / 4096) 64 in
    let top : n / 262144 % 64 ≡ n / 262144 = omega arith in
    rw (top, high, mid, low)

pub packed_bytes : (n : ℕ) → n < 16777216 → packed (n / 65536 % 256) (n / 256 % 256) (n % 256) ≡ n
packed_bytes n h = omega arith

pub first_digit : (a b c d : ℕ) → a < 64 → b < 64 → c < 64 → d < 64 → joined a b c d / 262144 % 64 ≡ a
first_digit a b c d ha hb hc hd = omega arith

pub second_digit : (a b c d : ℕ) → a < 64 → b < 64 → c < 64 → d < 64 → joined a b c d / 4096 % 64 ≡ b
second_digit a b c d ha hb hc hd = omega arith

pub third_digit : (a b c d : ℕ) → a < 64 → b < 64 → c < 64 → d < 64 → joined a b c d / 64 % 64 ≡ c
third_digit a b c d ha hb hc hd = omega arith

pub fourth_digit : (a b c d : ℕ) → a < 64 → b < 64 → c < 64 → d < 64 → joined a b c d % 64 ≡ d
fourth_digit a b c d ha hb hc hd = omega arith

pub first_byte : (a b c : ℕ) → a < 256 → b < 256 → c < 256 → packed a b c / 65536 % 256 ≡ a
first_byte a b c ha hb hc = omega arith

pub second_byte : (a b c : ℕ) → a < 256 → b < 256 → c < 256 → packed a b c / 256 % 256 ≡ b
second_byte a b c ha hb hc = omega arith

pub third_byte : (a b c : ℕ) → a < 256 → b < 256 → c < 256 → packed a b c % 256 ≡ c
third_byte a b c ha hb hc = omega arith
