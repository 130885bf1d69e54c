-- The places that a walk comes to.
--   Stand S              a state, a place, and the bytes that are left from there on
--   stand s at bs        the three together
--   found turn p         what the walk finds where it stands
--   beyond p s k         where it stands behind a record of k bytes, in the state s
--   Reached turn p q     a walk that starts at p comes to q: q is p itself, or stands behind a record of a place that it comes to
--   NoneAtFault turn p   nothing is wrong with any record that a walk from p on comes to
--   Exactly P Q          P holds exactly if Q does
use Rattle.std.specs.Prelude.{◌≡◌, ℕ, ◌+◌, List, drop, ◌≢◌}
use Rattle.media.specs.declared.walks.Turn.{Turn}
use Rattle.media.specs.declared.walks.Turn.TheVariants.{Broken, Gives, Passes}

pub record Stand (S : Type 0) : Type 0 where
  pub state : S
  pub place : ℕ
  pub left : List ℕ

abbrev pub stand : {S : Type 0} → S → ℕ → List ℕ → Stand S
stand s at bs = record { state = s; place = at; left = bs }

abbrev pub beyond : {S : Type 0} → Stand S → S → ℕ → Stand S
beyond p s k = record { state = s; place = p.place + k; left = drop k p.left }

module _ {X D S : Type 0} where
  abbrev pub found : (S → ℕ → List ℕ → Turn X D S) → Stand S → Turn X D S
  found turn p = turn p.state p.place p.left

  pub data Reached (turn : S → ℕ → List ℕ → Turn X D S) (p : Stand S) : Stand S → Type 0 where
    itself : Reached turn p p
    behind_given : {q : Stand S} {x : X} {s : S} {k : ℕ} → Reached turn p q → found turn q ≡ Gives x s k → Reached turn p (beyond q s k)
    behind_passed : {q : Stand S} {s : S} {k : ℕ} → Reached turn p q → found turn q ≡ Passes s k → Reached turn p (beyond q s k)

  abbrev pub NoneAtFault : (S → ℕ → List ℕ → Turn X D S) → Stand S → Type 0
  NoneAtFault turn p = (q : Stand S) (d : D) → Reached turn p q → found turn q ≢ Broken d

abbrev pub Exactly : Type 0 → Type 0 → Type 0
Exactly P Q = (P → Q) × (Q → P)
