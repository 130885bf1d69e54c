-- Writing the bytes of a text four after four: each four but the last has three.
use Rattle.std.proofs.Common.{◌≡◌, ℕ, ◌+◌, ◌-◌, ◌*◌, ◌/◌, ◌<◌, ◌≤◌, ◌⊎◌, inl, inr, true, ◌||◌, List, [], ◌∷◌, ◌++◌, length, get_or, drop, min, sym, refl, ap, ◌∙◌, subst, ⊎_elim, arith}
use borrow.Rule.Slice.PartMut.{put_mid}
use Rattle.std.proofs.lemmas.List.{length-drop, length-append}
use Rattle.std.proofs.lemmas.Bool.{cond_both}
use Rattle.std.specs.Simd.{first_chunks}
use lib.Dec.{eqb}
use Rattle.event.specs.Fronts.{front}
use Rattle.base64_codec.specs.Alphabet.{padding}
use Rattle.base64_codec.specs.Texts.{accepted, decoded, full, group, of_four, padded}
use Rattle.base64_codec.proofs.Filling.{Filling, sum, left, next, room, done}
use Rattle.base64_codec.proofs.Fours.{decoded_on, decoded_end, next_drop, of_four-take, chunk_at}
use Rattle.base64_codec.proofs.Sizes.{three}

-- of a text, the bytes of the first n fours are written
pub record Unpacking (text first out : List ℕ) (n : ℕ) : Type 0 where
  pub on : accepted (drop (n * 4) text) ≡ true
  pub filling : Filling (decoded text) (decoded (drop (n * 4) text)) first out (min (n * 3) (length (decoded text)))

-- four characters that end a text, or three bytes and more text behind them
four_ends : (xs : List ℕ) → accepted xs ≡ true → 4 ≤ length xs → (accepted (drop 4 xs) ≡ true) × ((drop 4 xs ≡ []) ⊎ (length (of_four group xs) ≡ 3))
unfolding accepted
four_ends [] h l = absurd (omega arith)
four_ends (a ∷ []) h l = absurd (omega arith)
four_ends (a ∷ b ∷ []) h l = absurd (omega arith)
four_ends (a ∷ b ∷ c ∷ []) h l = absurd (omega arith)
four_ends (a ∷ b ∷ c ∷ d ∷ []) h l = (refl, inl refl)
four_ends (a ∷ b ∷ c ∷ d ∷ e ∷ rest) h l =
    let f : full a b c d ≡ true = grind (arith) in
    let on : accepted (e ∷ rest) ≡ true = grind (arith) in (on, inr (three a b c d f))

few : (four : List ℕ) → (0 < length (of_four group four)) × (length (of_four group four) ≤ 3)
few four =
    let Few : List ℕ → Type 0 = λ l. (0 < length l) × (length l ≤ 3) in
    cond_both (eqb (get_or four 3 0) padding) _ _ Few (λ _. cond_both (eqb (get_or four 2 0) padding) _ _ Few (λ _. (omega arith, omega arith)) (λ _. (omega arith, omega arith))) (λ _. (omega arith, omega arith))

valid : (xs : List ℕ) → accepted xs ≡ true → 4 ≤ length xs → (of_four full xs || of_four padded xs) ≡ true
unfolding accepted
valid [] h l = absurd (omega arith)
valid (a ∷ []) h l = absurd (omega arith)
valid (a ∷ b ∷ []) h l = absurd (omega arith)
valid (a ∷ b ∷ c ∷ []) h l = absurd (omega arith)
valid (a ∷ b ∷ c ∷ d ∷ rest) h l = grind (arith)

module _ {text first out : List ℕ} {n : ℕ} (h : Unpacking text first out n) (fours : List (List ℕ)) (e : fours ≡ first_chunks 4 (length text / 4) text) (more : n < length text / 4) where
  abbrev bytes : List ℕ
  bytes = of_four group (get_or fours n [])

  follow : decoded (drop (n * 4) text) ≡ bytes ++ decoded (drop ((n + 1) * 4) text)
  follow = decoded_on text fours n e more

  at_place : min (n * 3) (length (decoded text)) ≡ n * 3
  at_place =
      let some = (few (get_or fours n [])).0 in
      omega (arith, some, sum h.filling, ap length follow, length-append bytes (decoded (drop ((n + 1) * 4) text)))

  pub here : Filling (decoded text) (decoded (drop (n * 4) text)) first out (n * 3)
  here = subst (Filling (decoded text) (decoded (drop (n * 4) text)) first out) at_place h.filling

  pub starts : n * 3 ≤ length out
  starts = here.within

  pub fits : length (decoded text) ≤ length out → length bytes ≤ length (left here)
  fits f = room here bytes (decoded (drop ((n + 1) * 4) text)) follow f

  ends : (accepted (drop 4 (drop (n * 4) text)) ≡ true) × ((drop 4 (drop (n * 4) text) ≡ []) ⊎ (length (of_four group (drop (n * 4) text)) ≡ 3))
  ends = four_ends (drop (n * 4) text) h.on (omega (arith, length-drop (n * 4) text))

  same_four : {A : Type 0} (f : ℕ → ℕ → ℕ → ℕ → A) → of_four f (get_or fours n []) ≡ of_four f (drop (n * 4) text)
  same_four f = ap (λ l. of_four f (get_or l n [])) e ∙ ap (of_four f) (chunk_at 4 (length text / 4) text n [] more) ∙ of_four-take f (drop (n * 4) text)

  pub valid_four : (of_four full (get_or fours n []) || of_four padded (get_or fours n [])) ≡ true
  valid_four =
      (λ i. same_four full i || same_four padded i) ∙ valid (drop (n * 4) text) h.on (omega (arith, length-drop (n * 4) text))

  pub goes : (ys : List ℕ) → length (decoded text) ≤ length out → ys ≡ front bytes (left here) → Unpacking text first (put_mid (n * 3) (length out - n * 3) out ys) (n + 1)
  goes ys f is =
      let done : Filling (decoded text) (decoded (drop ((n + 1) * 4) text)) first (put_mid (n * 3) (length out - n * 3) out ys) (n * 3 + length bytes) = next here bytes _ ys _ follow f is refl in
      let next_is = next_drop 4 n text in
      let place : n * 3 + length bytes ≡ min ((n + 1) * 3) (length (decoded text)) =
      ⊎_elim
      (λ none. let last = decoded_end (drop ((n + 1) * 4) text) (omega (arith, ap length (sym next_is ∙ none))) in omega (arith, sum done, ap length last, few (get_or fours n [])))
      (λ whole. omega (arith, sum done, whole, ap length (same_four group)))
      ends.1 in
      record {
        on = rw next_is at ends.0;
        filling = subst (Filling (decoded text) (decoded (drop ((n + 1) * 4) text)) first (put_mid (n * 3) (length out - n * 3) out ys)) place done;
      }

pub unpacked : {text first out : List ℕ} {n : ℕ} → Unpacking text first out n → length text < (n + 1) * 4 → out ≡ front (decoded text) first
unpacked {text} {first} {out} {n} h e = done h.filling (decoded_end (drop (n * 4) text) (omega (arith, length-drop (n * 4) text)))
