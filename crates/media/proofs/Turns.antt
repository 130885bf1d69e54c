-- A walk is its first turn and then the walk over what is left.
use Rattle.std.proofs.Common.{◌≡◌, ℕ, zero, suc, ◌+◌, ◌<◌, ◌≤◌, List, ◌∷◌, length, drop, refl, ap, arith}
use Rattle.std.proofs.lemmas.List.{length-drop}
use Rattle.media.specs.Walks.{Forward, Goes, Walked, given, given_by, onward}
use Rattle.media.specs.declared.walks.Turn.{Turn}
use Rattle.media.specs.declared.walks.Turn.TheVariants.{Clean, Broken, Gives, Passes}

module _ {X D S : Type 0} where
  -- a turn hands on what is known of shorter walks
  onward_same : (t : Turn X D S) (n : ℕ) (f g : S → ℕ → Walked X D) → Goes n t → ((s : S) (k : ℕ) → 0 < k → k ≤ n → f s k ≡ g s k) → onward t f ≡ onward t g
  onward_same Clean n f g w h = refl
  onward_same (Broken d) n f g w h = refl
  onward_same (Gives x s k) n f g w h =
      ap (λ (r : Walked X D). record { items = x ∷ r.items; stop = r.stop }) (h s k w.0 w.1)
  onward_same (Passes s k) n f g w h = h s k w.0 w.1

  module _ (turn : S → ℕ → List ℕ → Turn X D S) (forward : Forward turn) where
    -- as many turns as there are bytes, and one more, are enough
    enough : (m n : ℕ) (s : S) (at : ℕ) (bs : List ℕ) → length bs < m → length bs < n → given_by turn m s at bs ≡ given_by turn n s at bs
    unfolding given_by
    enough zero n s at bs p q = absurd (omega arith)
    enough (suc m) zero s at bs p q = absurd (omega arith)
    enough (suc m) (suc n) s at bs p q =
        onward_same (turn s at bs) (length bs) _ _ (forward s at bs) (λ s' k lo hi. let l = length-drop k bs in enough m n s' (at + k) (drop k bs) (omega arith) (omega arith))

    pub given_is : (s : S) (at : ℕ) (bs : List ℕ) → given turn s at bs ≡ onward (turn s at bs) (λ s' k. given turn s' (at + k) (drop k bs))
    unfolding given given_by
    given_is s at bs =
        onward_same (turn s at bs) (length bs) _ _ (forward s at bs) (λ s' k lo hi. let l = length-drop k bs in enough (length bs) (suc (length (drop k bs))) s' (at + k) (drop k bs) (omega arith) (omega arith))
