-- The boxes of a segment.
--   kind bs          the type of the box at the front of bs, where it is there
--   large_size bs    a size that stands in the bytes behind the type, where it is there
--   size_by n bs     how it says its size, where its first number is n
--   size_of bs       how that box says its size: a u32 at its front; 1 where a u64 behind its type says it, 0 where it reaches to the end
--   head z           the length of its head
--   span z n         its size, where n bytes are left
--   bad z n          its head is cut, or its size is below its head or past the n bytes that are left
--   body z bs        what stands behind its head
--   version bs       the version at the front of a body, where the flags behind it are there too
--   emsg             the type `emsg`
--   Judgement        the version of a box that gives a record, none where the box is stepped over, or what is wrong with it
--   judged_by v      what a reader finds an emsg box of such a version to be
--   typed k v        the same of a box of such a type
--   judged z n k v   what a reader finds a box to be: 7 where its size is bad; an emsg box without version and flags is 8;
--                    one of version 0 or 1 gives a record; every other box is stepped over
use Rattle.std.specs.Prelude.{ℕ, Bool, true, false, cond, ◌||◌, List, length, drop, Some, None, Ok, Err, Option, Result, ◌==◌, nat_le, nat_lt, slice_index}
use Rattle.std.specs.List.{between}
use Rattle.event.specs.BigEndian.{num32, num64}
use Rattle.event.specs.declared.faults.Defect.{Defect}
use Rattle.event.specs.declared.faults.Defect.TheVariants.{BoxSize, BoxFields}
use Rattle.segment.specs.declared.segments.boxes.Size.{Size}
use Rattle.segment.specs.declared.segments.boxes.Size.TheVariants.{Cut, Plain, Large, Rest}
use Rattle.segment.specs.declared.timings.Version.{Version}
use Rattle.segment.specs.declared.timings.Version.TheVariants.{Zero, One}

abbrev pub kind : List ℕ → Option ℕ
kind bs = cond (nat_le 8 (length bs)) (Some (num32 bs 4)) None

abbrev pub large_size : List ℕ → Size
large_size bs = cond (nat_le 8 (length bs)) (Large (num64 bs 0)) Cut

abbrev pub size_by : ℕ → List ℕ → Size
size_by n bs = cond (n == 0) Rest (cond (n == 1) (large_size (drop 8 bs)) (Plain n))

abbrev pub size_of : List ℕ → Size
size_of bs = cond (nat_le 8 (length bs)) (size_by (num32 bs 0) bs) Cut

abbrev pub head : Size → ℕ
head Cut = 8
head (Plain n) = 8
head (Large n) = 16
head Rest = 8

abbrev pub span : Size → ℕ → ℕ
span Cut left = 0
span (Plain n) left = n
span (Large n) left = n
span Rest left = left

abbrev pub bad : Size → ℕ → Bool
bad Cut left = true
bad (Plain n) left = nat_lt n 8 || nat_lt left n
bad (Large n) left = nat_lt n 16 || nat_lt left n
bad Rest left = false

abbrev pub body : Size → List ℕ → List ℕ
body z bs = between (head z) (span z (length bs)) bs

abbrev pub version : List ℕ → Option ℕ
version bs = cond (nat_le 4 (length bs)) (Some (slice_index bs 0)) None

abbrev pub emsg : ℕ
emsg = 1701671783

abbrev pub Judgement : Type 0
Judgement = Result (Option Version) Defect

abbrev pub judged_by : Option ℕ → Judgement
judged_by None = Err BoxFields
judged_by (Some v) = cond (v == 0) (Ok (Some Zero)) (cond (v == 1) (Ok (Some One)) (Ok None))

abbrev pub typed : Option ℕ → Option ℕ → Judgement
typed None v = Ok None
typed (Some k) v = cond (k == emsg) (judged_by v) (Ok None)

abbrev pub judged : Size → ℕ → Option ℕ → Option ℕ → Judgement
judged z n k v = cond (bad z n) (Err BoxSize) (typed k v)
