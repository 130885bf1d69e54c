-- Walks over records, one after the other.
--   Walked X D           the items that the records give, and what stopped the walk, if it did not come to a clean end
--   onward t f           what a turn gives, where f tells of what is left behind its record
--   given_by turn n      a walk of at most n turns
--   given turn s at bs   the walk over the bytes bs, which stand at a place, from the state s on
--   Goes n t             a record of a turn has at least one byte and at most n
--   Forward turn         each turn goes forward, within the bytes that are left
use Rattle.std.specs.Prelude.{ℕ, zero, suc, ◌+◌, ◌<◌, ◌≤◌, List, [], ◌∷◌, length, drop, Some, None, Option}
use Rattle.media.specs.declared.walks.Turn.{Turn}
use Rattle.media.specs.declared.walks.Turn.TheVariants.{Clean, Broken, Gives, Passes}

pub record Walked (X D : Type 0) : Type 0 where
  pub items : List X
  pub stop : Option D

module _ {X D S : Type 0} where
  abbrev pub onward : Turn X D S → (S → ℕ → Walked X D) → Walked X D
  onward Clean f = record { items = []; stop = None }
  onward (Broken d) f = record { items = []; stop = Some d }
  onward (Gives x s k) f = record { items = x ∷ (f s k).items; stop = (f s k).stop }
  onward (Passes s k) f = f s k

  unfoldable pub given_by : (S → ℕ → List ℕ → Turn X D S) → ℕ → S → ℕ → List ℕ → Walked X D
  given_by turn zero s at bs = record { items = []; stop = None }
  given_by turn (suc n) s at bs = onward (turn s at bs) (λ s' k. given_by turn n s' (at + k) (drop k bs))

  unfoldable pub given : (S → ℕ → List ℕ → Turn X D S) → S → ℕ → List ℕ → Walked X D
  given turn s at bs = given_by turn (suc (length bs)) s at bs

  abbrev pub Goes : ℕ → Turn X D S → Type 0
  Goes n Clean = Unit {0}
  Goes n (Broken d) = Unit {0}
  Goes n (Gives x s k) = (0 < k) × (k ≤ n)
  Goes n (Passes s k) = (0 < k) × (k ≤ n)

  abbrev pub Forward : (S → ℕ → List ℕ → Turn X D S) → Type 0
  Forward turn = (s : S) (at : ℕ) (bs : List ℕ) → Goes (length bs) (turn s at bs)
