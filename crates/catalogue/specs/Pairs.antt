-- Streams, each named by a pair of scheme and value.
--   Stream           a scheme and a value
--   stream p         the stream that a pair names
--   front a b bs     the strings of a and b bytes at the front of bs
--   fronted a b bs   those, where bs is long enough
--   marked a b bs    the bytes begin with the two-byte mark a b
--   listing bs       the stream of an `SV` record at the front of bs, unless the mark is another or the record is cut
--   same s t         both strings are the same, byte for byte
--   blank bs         a 0 byte is among the bytes
--   proper s         the scheme is not empty, and neither string holds a 0 byte
use Rattle.std.specs.Prelude.{ℕ, ◌+◌, Bool, false, cond, not, ◌&&◌, ◌||◌, List, [], ◌∷◌, length, take, drop, Some, None, Option, ◌==◌, nat_le, slice_index}
use Rattle.std.specs.Str.{bytes_eq}
use Rattle.catalogue.specs.declared.pairs.Pair.{Pair}

pub record Stream : Type 0 where
  pub scheme : List ℕ
  pub value : List ℕ

abbrev pub stream : Pair → Stream
stream p = record { scheme = p.scheme.now; value = p.value.now }

abbrev pub front : ℕ → ℕ → List ℕ → Stream
front a b bs = record { scheme = take a bs; value = take b (drop a bs) }

abbrev pub fronted : ℕ → ℕ → List ℕ → Option Stream
fronted a b bs = cond (nat_le (a + b) (length bs)) (Some (front a b bs)) None

abbrev pub marked : ℕ → ℕ → List ℕ → Bool
marked a b bs = slice_index bs 0 == a && slice_index bs 1 == b

abbrev pub listing : List ℕ → Option Stream
listing bs =
    cond (marked 83 86 bs && nat_le 4 (length bs)) (fronted (slice_index bs 2) (slice_index bs 3) (drop 4 bs)) None

abbrev pub same : Stream → Stream → Bool
same s t = bytes_eq s.scheme t.scheme && bytes_eq s.value t.value

abbrev pub blank : List ℕ → Bool
blank [] = false
blank (b ∷ bs) = b == 0 || blank bs

abbrev pub proper : Stream → Bool
proper s = not (length s.scheme == 0) && not (blank s.scheme) && not (blank s.value)
