-- The numbers of chunks of bytes are those that stand there.
use Rattle.std.proofs.Common.{◌≡◌, ℕ, ◌+◌, ◌<◌, ◌≤◌, cond, leb, List, length, take, drop, Some, None, w32, w64, refl, ap, ◌∙◌, inl, inr, arith}
use Rattle.std.proofs.lemmas.Bool.{cases_Bool, leb-true}
use Rattle.std.specs.Prelude.{slice_index}
use Rattle.std.specs.Int.{from_be_bytes}
use Rattle.std.proofs.lemmas.List.{get_or-drop, get_or-take}
use Rattle.event.specs.BigEndian.{num32, num64}

-- a byte of a chunk of k bytes that begins at n
byte : (bs chunk : List ℕ) (k n : ℕ) → chunk ≡ take k (drop n bs) → (i m : ℕ) → i < k → n + i ≡ m → slice_index chunk i ≡ slice_index bs m
byte bs chunk k n e i m h p = ap (λ l. slice_index l i) e ∙ get_or-take k (drop n bs) i 0 h ∙ get_or-drop n bs i 0 ∙ ap (slice_index bs) p

pub number32 : (bs chunk : List ℕ) (n : ℕ) → chunk ≡ take 4 (drop n bs) → from_be_bytes w32 chunk ≡ num32 bs n
number32 bs chunk n e =
    let z : n + 0 ≡ n = omega arith in
    let b = byte bs chunk 4 n e in
    omega (arith, b 0 n (omega arith) z, b 1 _ (omega arith) refl, b 2 _ (omega arith) refl, b 3 _ (omega arith) refl)

pub number64 : (bs chunk : List ℕ) (n : ℕ) → chunk ≡ take 8 (drop n bs) → from_be_bytes w64 chunk ≡ num64 bs n
number64 bs chunk n e =
    let z : n + 0 ≡ n = omega arith in
    let b = byte bs chunk 8 n e in
    omega (arith, b 0 n (omega arith) z, b 1 _ (omega arith) refl, b 2 _ (omega arith) refl, b 3 _ (omega arith) refl, b 4 _ (omega arith) refl, b 5 _ (omega arith) refl, b 6 _ (omega arith) refl, b 7 _ (omega arith) refl)

-- a chunk that was found stands there
pub found : (bs chunk : List ℕ) (n k : ℕ) → Some chunk ≡ cond (leb (n + k) (length bs)) (Some (take k (drop n bs))) None → (n + k ≤ length bs) × (chunk ≡ take k (drop n bs))
found bs chunk n k e =
    elim (cases_Bool (leb (n + k) (length bs))) [
      | inl y ↦
          let s : Some chunk ≡ Some (take k (drop n bs)) = rw y at e in
          let q : chunk ≡ take k (drop n bs) = cc in
          (leb-true (n + k) (length bs) y, q)
      | inr f ↦
          let s : Some chunk ≡ None = rw f at e in
          let z : ◌≡◌ {A = ℕ} 0 1 = cc in
          absurd (omega arith)
    ]
