-- A command's record, and how long it is.
use Rattle.std.proofs.Common.{◌≡◌, ℕ, ◌+◌, ◌<◌, ◌≤◌, true, cond, ◌&&◌, eqb, leb, List, length, drop, Some, None, Option, refl, inl, inr, arith}
use Rattle.std.proofs.lemmas.List.{length-drop}
use Rattle.std.proofs.lemmas.Bool.{and_parts, cases_Bool, cond_both, eqb-true, le-leb, leb-true}
use Rattle.event.specs.BigEndian.{num16, num32, num64}
use Rattle.runsheet.specs.Commands.{Goes, Read, command, draw_sheet, marked, segment_length, segment_of, segment_times}
use Rattle.runsheet.specs.RunSheets.{length_of}
use Rattle.runsheet.specs.declared.commands.Command.{Command}
use Rattle.media.specs.declared.times.Times.{Times}

segment_fits : (bs : List ℕ) (n : ℕ) → Some n ≡ segment_length (drop 10 bs) → 44 + n ≤ length bs
segment_fits bs n e =
    let fs = drop 10 bs in
    let size = length-drop 10 bs in
    elim (cases_Bool (leb 34 (length fs) && leb (34 + num16 fs 32) (length fs))) [
      | inl y ↦
          let parts = and_parts (leb 34 (length fs)) (leb (34 + num16 fs 32) (length fs)) y in
          let s : Some n ≡ Some (num16 fs 32) = rw y at e in
          let q : n ≡ num16 fs 32 = cc in
          omega (arith, q, size, leb-true (34 + num16 fs 32) (length fs) parts.1)
      | inr f ↦
          let s : Some n ≡ None = rw f at e in
          let z : ◌≡◌ {A = ℕ} 0 1 = cc in
          absurd (omega arith)
    ]

-- the times of a segment, each by its place
pub times_read : (bs : List ℕ) (e o s p q : ℕ) → 32 ≤ length bs → e ≡ num64 bs 0 → o ≡ num64 bs 8 → s ≡ num32 bs 16 → p ≡ num64 bs 20 → q ≡ num32 bs 28 → Some (record { earliest = e; offset = o; media_ticks = s; inband = p; inband_ticks = q }) ≡ segment_times bs
times_read bs e o s p q h a b c d f = rw (le-leb 32 (length bs) h, a, b, c, d, f)

-- a record that was read has at least one byte, and at most n
abbrev pub Fits : ℕ → Read → Type 0
Fits n r = Goes r n

segment_goes : (at start : ℕ) (bs : List ℕ) (o : Option Times) (l : Option ℕ) → l ≡ segment_length (drop 10 bs) → Fits (length bs) (segment_of at start o l)
segment_goes at start bs None l e = tt
segment_goes at start bs (Some t) None e = tt
segment_goes at start bs (Some t) (Some n) e = (omega arith, segment_fits bs n e)

-- a command with a record of k bytes, where there are so many
long_enough : (c : Command) (k : ℕ) (bs : List ℕ) → 0 < k → Fits (length bs) (cond (leb k (length bs)) (Some (c, k)) None)
long_enough c k bs h = cond_both (leb k (length bs)) (Some (c, k)) None (Fits (length bs)) (λ e. (h, leb-true k (length bs) e)) (λ _. tt)

sheet_goes : (at : ℕ) (bs : List ℕ) → Fits (length bs) (draw_sheet at bs)
sheet_goes at bs =
    cond_both (leb 12 (length bs) && leb (12 + num16 bs 10) (length bs)) _ None (Fits (length bs))
    (λ e. (omega arith, leb-true (12 + num16 bs 10) (length bs) (and_parts (leb 12 (length bs)) (leb (12 + num16 bs 10) (length bs)) e).1))
    (λ _. tt)

by_mark : (a b n : ℕ) (bs : List ℕ) (r s : Read) → Fits n r → Fits n s → Fits n (cond (marked a b bs) r s)
by_mark a b n bs r s p q = cond_both (marked a b bs) r s (Fits n) (λ _. p) (λ _. q)

pub command_fits : (at : ℕ) (bs : List ℕ) → Fits (length bs) (command at bs)
command_fits at bs =
    let n = length bs in
    by_mark 70 79 n bs _ _ (long_enough _ 4 bs (omega arith))
    (by_mark 76 86 n bs _ _ (long_enough _ 3 bs (omega arith))
    (by_mark 80 76 n bs _ _ (long_enough _ 10 bs (omega arith))
    (by_mark 83 75 n bs _ _ (long_enough _ 10 bs (omega arith))
    (by_mark 69 88 n bs _ _ (long_enough _ 18 bs (omega arith))
    (by_mark 77 80 n bs _ _ (sheet_goes at bs)
    (by_mark 83 71 n bs _ _
    (cond_both (leb 10 (length bs)) _ None (Fits n) (λ _. segment_goes at (num64 bs 2) bs _ _ refl) (λ _. tt)) tt))))))

length_fits : (n : ℕ) (r : Read) → Fits n r → length_of r ≤ n
length_fits n None h = omega arith
length_fits n (Some (c, k)) h = h.1

-- where no byte is left, no record is
pub none_left : (at : ℕ) (bs : List ℕ) → eqb (length bs) 0 ≡ true → at ≡ at + length_of (command at bs)
none_left at bs h = omega (arith, length_fits (length bs) (command at bs) (command_fits at bs), eqb-true (length bs) 0 h)
