-- What the comparison of two times says of their milliseconds.
use Rattle.std.proofs.Common.{◌≡◌, ℕ, ◌<◌, ◌≤◌, true, false, arith}
use Rattle.std.proofs.lemmas.Bool.Decides.{nat_tests}
use Rattle.std.specs.Ordering.{is_le, is_lt, nat_cmp}

pub up_to : (x y : ℕ) → true ≡ is_le (nat_cmp x y) → x ≤ y
up_to x y e = grind (arith, nat_tests)

pub behind : (x y : ℕ) → false ≡ is_le (nat_cmp x y) → y < x
behind x y e = grind (arith, nat_tests)

pub not_before : (x y : ℕ) → false ≡ is_lt (nat_cmp x y) → y ≤ x
not_before x y e = grind (arith, nat_tests)
