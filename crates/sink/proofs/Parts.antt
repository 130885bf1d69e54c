-- A part that is written behind a front.
use Rattle.std.proofs.Common.{◌≡◌, ℕ, ◌+◌, ◌≤◌, List, ◌++◌, length, take, drop, sym, ap, ◌∙◌, arith}
use borrow.Rule.Slice.PartMut.{put_mid}
use Rattle.event.specs.Fronts.{front}
use Rattle.std.proofs.lemmas.List.{append_assoc, drop-drop, length-append, length-take-le}

-- the part from a on, of the length of ys, now holds ys
pub put_front : {X : Type 0} (a k : ℕ) (xs ys : List X) → a + length ys ≤ length xs → k ≡ length ys → put_mid a k xs ys ≡ front (take a xs ++ ys) xs
put_front a k xs ys h e =
    let t = length-take-le a xs (omega arith) in
    let n : a + k ≡ length (take a xs ++ ys) = omega (arith, length-append (take a xs) ys) in
    sym (append_assoc (take a xs) ys (drop k (drop a xs))) ∙ ap (λ rest. (take a xs ++ ys) ++ rest) (drop-drop k a xs ∙ ap (λ m. drop m xs) n)
