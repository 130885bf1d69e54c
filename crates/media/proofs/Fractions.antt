-- Ticks in milliseconds.
use Rattle.std.proofs.Common.{◌≡◌, ℕ, ◌+◌, ◌*◌, ◌/◌, ◌%◌, ◌<◌, ◌≤◌, ap, ◌∙◌, div-add-mod', arith}
use mathlib.Core.HLevel.{is_prop→PathP}
use native.Mathlib.Bridge.{le_prop}
use native.Mathlib.Nat.{add-mul-div_right}
use Rattle.media.specs.Timescales.{millis, timescale}
use Rattle.media.specs.declared.timescales.Timescale.{Timescale}

-- the seconds and what is left of the ticks, each in milliseconds
pub by_seconds : (n s : ℕ) → 0 < s → n / s * 1000 + n % s * 1000 / s ≡ millis n s
by_seconds n s h =
    let whole : n % s * 1000 + n / s * 1000 * s ≡ 1000 * n = omega (arith, div-add-mod' n s) in
    let cut = add-mul-div_right (n % s * 1000) (n / s * 1000) {z = s} h in
    let sum : n / s * 1000 + n % s * 1000 / s ≡ (n % s * 1000 + n / s * 1000 * s) / s = omega arith in
    sum ∙ ap (λ m. m / s) whole

-- a timescale is known by its ticks
pub known_by_ticks : (s t : Timescale) → s.ticks ≡ t.ticks → s ≡ t
known_by_ticks s t e = λ i. record {
  ticks = e i;
  proper = (
    is_prop→PathP (λ j. 1 ≤ e j) (λ j. le_prop {n = 1} {m = e j}) s.proper.0 t.proper.0 i,
    is_prop→PathP (λ j. e j ≤ 10000000) (λ j. le_prop {n = e j} {m = 10000000}) s.proper.1 t.proper.1 i,
  );
}

pub timescale_of : (t : Timescale) (n : ℕ) → 1 ≤ n → n ≤ 10000000 → t.ticks ≡ n → t ≡ timescale n
timescale_of t n lo hi e = let k : t.ticks ≡ (timescale n).ticks = omega arith in known_by_ticks t (timescale n) k

-- more seconds than the latest time has
pub past : (n s : ℕ) → 0 < s → 4000000000 < n / s → 4000000000000 < millis n s
past n s h l = omega (arith, by_seconds n s h)
