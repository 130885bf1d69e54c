-- What holds of every item that a walk gives.
use Rattle.std.proofs.Common.{ℕ, zero, suc, ◌+◌, List, length, drop}
use Rattle.std.specs.List.{AllByRecursion}
use Rattle.media.specs.Walks.{Walked, given, given_by, onward}
use Rattle.media.specs.declared.walks.Turn.{Turn}
use Rattle.media.specs.declared.walks.Turn.TheVariants.{Clean, Broken, Gives, Passes}

module _ {X D S : Type 0} (P : X → Type 0) (Q : ℕ → List ℕ → Type 0) where
  -- P holds of what a turn gives, and Q of the place and the bytes behind its record
  abbrev pub Each : ℕ → List ℕ → Turn X D S → Type 0
  Each at bs Clean = Unit {0}
  Each at bs (Broken d) = Unit {0}
  Each at bs (Gives x s k) = P x × Q (at + k) (drop k bs)
  Each at bs (Passes s k) = Q (at + k) (drop k bs)

  onward_every : (at : ℕ) (bs : List ℕ) (t : Turn X D S) (f : S → ℕ → Walked X D) → Each at bs t → ((s : S) (k : ℕ) → Q (at + k) (drop k bs) → AllByRecursion P (f s k).items) → AllByRecursion P (onward t f).items
  onward_every at bs Clean f e h = tt
  onward_every at bs (Broken d) f e h = tt
  onward_every at bs (Gives x s k) f e h = (e.0, h s k e.1)
  onward_every at bs (Passes s k) f e h = h s k e

  module _ (turn : S → ℕ → List ℕ → Turn X D S) (each : (s : S) (at : ℕ) (bs : List ℕ) → Q at bs → Each at bs (turn s at bs)) where
    by_turns : (n : ℕ) (s : S) (at : ℕ) (bs : List ℕ) → Q at bs → AllByRecursion P (given_by turn n s at bs).items
    unfolding given_by
    by_turns zero s at bs q = tt
    by_turns (suc n) s at bs q =
        onward_every at bs (turn s at bs) (λ s' k. given_by turn n s' (at + k) (drop k bs)) (each s at bs q) (λ s' k r. by_turns n s' (at + k) (drop k bs) r)

    pub every : (s : S) (at : ℕ) (bs : List ℕ) → Q at bs → AllByRecursion P (given turn s at bs).items
    unfolding given
    every s at bs q = by_turns (suc (length bs)) s at bs q
