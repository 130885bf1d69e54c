-- The base 64 alphabet of RFC 4648.
--   alphabet   its 64 characters, in order
--   padding    the character that fills up the last four
--   digit n    the character that stands for n
--   place c    where c first stands in a list, or the list's length where it does not
--   value c    the number that c stands for, or 64 where c is not of the alphabet
use Rattle.std.specs.Prelude.{ℕ, suc, cond, List, [], ◌∷◌, codes, ◌==◌, slice_index}

unfoldable pub alphabet : List ℕ
alphabet = codes "ABCDEFGHIJKLMNOPQRSTUVWXYZabcdefghijklmnopqrstuvwxyz0123456789+/"

abbrev pub padding : ℕ
padding = 61

abbrev pub digit : ℕ → ℕ
digit n = slice_index alphabet n

unfoldable pub place : ℕ → List ℕ → ℕ
place c [] = 0
place c (x ∷ xs) = cond (c == x) 0 (suc (place c xs))

unfoldable pub value : ℕ → ℕ
value c = place c alphabet
