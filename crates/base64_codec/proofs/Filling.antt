-- Writing a list to the front of another, part after part.
use Rattle.std.proofs.Common.{◌≡◌, ℕ, ◌+◌, ◌-◌, ◌≤◌, List, [], ◌++◌, length, take, drop, sym, ap, ◌∙◌, subst, append_assoc, append-nil, arith, refl}
use borrow.Rule.Slice.PartMut.{put_mid}
use Rattle.std.proofs.lemmas.List.{length-append, length-drop, length-take-le, take_rest, take-append-drop, take_at, drop_at, drop-drop, drop_all}
use Rattle.event.specs.Fronts.{front}

-- out began as first; of whole, all but todo is written, up to at
pub record Filling (whole todo first out : List ℕ) (at : ℕ) : Type 0 where
  pub written : take at out ++ todo ≡ whole
  pub behind : drop at out ≡ drop at first
  pub within : at ≤ length out

pub start : (whole first : List ℕ) → Filling whole whole first first 0
start whole first = record { written = refl; behind = refl; within = omega arith }

module _ {whole todo first out : List ℕ} {at : ℕ} (h : Filling whole todo first out at) where
  pub done : todo ≡ [] → out ≡ front whole first
  done e =
      let is : take at out ≡ whole = sym (append-nil _) ∙ ap (λ l. take at out ++ l) (sym e) ∙ h.written in
      let long : length whole ≡ at = ap length (sym is) ∙ length-take-le at out h.within in
      sym (take-append-drop at out) ∙ (λ i. is i ++ (h.behind ∙ ap (λ n. drop n first) (sym long)) i)

  -- what a slice from at on has
  abbrev pub left : List ℕ
  left = take (length out - at) (drop at out)

  pub room : (xs more : List ℕ) → todo ≡ xs ++ more → length whole ≤ length out → length xs ≤ length left
  room xs more e fits =
      let long : length (take at out) + (length xs + length more) ≡ length whole =
      simp length-append at (ap length (ap (λ l. take at out ++ l) (sym e) ∙ h.written)) in
      rw take_rest (omega (arith, long, length-take-le at out h.within, length-drop at out))

  -- after xs is written
  abbrev more_out : List ℕ → List ℕ
  more_out xs = take at out ++ (xs ++ drop (length xs) (drop at out))

  step : (xs more : List ℕ) → todo ≡ xs ++ more → length xs ≤ length (drop at out) → Filling whole more first (more_out xs) (at + length xs)
  step xs more e fits =
      let front_long : length (take at out) ≡ at = length-take-le at out h.within in
      let long : length (take at out ++ xs) ≡ at + length xs = length-append (take at out) xs ∙ ap (λ n. n + length xs) front_long in
      let same : more_out xs ≡ (take at out ++ xs) ++ drop (length xs) (drop at out) =
      sym (append_assoc (take at out) xs (drop (length xs) (drop at out))) in
      record {
        written = ap (λ l. l ++ more) (ap (take (at + length xs)) same ∙ take_at _ _ _ long) ∙ append_assoc (take at out) xs more ∙ ap (λ l. take at out ++ l) (sym e) ∙ h.written;
        behind = ap (drop (at + length xs)) same ∙ drop_at _ _ _ long ∙ ap (drop (length xs)) h.behind ∙ drop-drop (length xs) at first;
        within = simp (length-append, length-drop) (omega (arith, front_long, h.within, length-drop at out));
      }

  pub sum : at + length todo ≡ length whole
  sum = let long = length-take-le at out h.within in omega (arith, long, length-append (take at out) todo, ap length h.written)

  -- the part that starts at at has become ys, with which whole is written up to to
  pub next : (xs more ys : List ℕ) (to : ℕ) → todo ≡ xs ++ more → length whole ≤ length out → ys ≡ front xs left → to ≡ at + length xs → Filling whole more first (put_mid at (length out - at) out ys) to
  next xs more ys to e fits is long =
      let all : left ≡ drop at out = take_rest out at in
      let gone : drop (length out - at) (drop at out) ≡ [] = drop_all (length out - at) (drop at out) (omega (arith, length-drop at out)) in
      let goes : Filling whole more first (more_out xs) (at + length xs) = step xs more e (subst (λ l. length xs ≤ length l) all (room xs more e fits)) in
      let tail : xs ++ drop (length xs) (drop at out) ≡ ys = ap (λ l. xs ++ drop (length xs) l) (sym all) ∙ sym is in
      let same : more_out xs ≡ put_mid at (length out - at) out ys = ap (λ l. take at out ++ l) (sym (append-nil _) ∙ (λ i. tail i ++ sym gone i)) in
      subst (λ l. Filling whole more first l to) same (subst (Filling whole more first (more_out xs)) (sym long) goes)
