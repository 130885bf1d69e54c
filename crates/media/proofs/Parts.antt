-- Parts of the media buffer.
use Rattle.std.proofs.Common.{◌≡◌, ℕ, ◌+◌, ◌-◌, ◌≤◌, List, length, take, drop, arith, rules}
use Rattle.std.specs.List.{between}
use Rattle.std.proofs.lemmas.List.{drop-drop, length-take, places, same_lists}
use Rattle.std.proofs.lemmas.Slice.{between_is}

-- what is left of a part behind its first k bytes
pub behind : (m : List ℕ) (a b k : ℕ) → drop k (between a b m) ≡ between (a + k) b m
behind m a b k = rw (between_is m a b, drop-drop k a, between_is m (a + k) b)

-- a part of a part
pub inside : (m : List ℕ) (a b i j : ℕ) → i + j ≤ length (between a b m) → between (a + i) (a + i + j) m ≡ take j (drop i (between a b m))
inside m a b i j h = same_lists _ _ (search (rules, places)) (λ k d l. grind (arith, places))

-- a part is no longer than its ends are apart
pub part_fits : (m : List ℕ) (a b : ℕ) → length (between a b m) ≤ b - a
part_fits m a b = simp length-take (omega arith)
