-- A walk comes to a clean end exactly if nothing is wrong with any record that it comes to.
use Rattle.std.proofs.Common.{◌≡◌, ℕ, zero, suc, ◌+◌, ◌<◌, ◌≤◌, List, length, drop, Some, None, Option, sym, refl, ap, ◌∙◌, arith}
use Rattle.std.proofs.lemmas.List.{length-drop}
use Rattle.event.specs.declared.events.Event.{Event}
use Rattle.event.specs.declared.faults.Fault.{Fault}
use Rattle.media.specs.Reaches.{Exactly, NoneAtFault, Reached, Stand, beyond, found}
use Rattle.media.specs.Reaches.Reached.{itself, behind_given, behind_passed}
use Rattle.media.specs.Readers.{comes}
use Rattle.media.specs.Walks.{Forward, Goes, given, onward}
use Rattle.media.specs.declared.walks.Turn.{Turn}
use Rattle.media.specs.declared.walks.Turn.TheVariants.{Clean, Broken, Gives, Passes}
use Rattle.media.proofs.Turns.{given_is}

none_is_not : {D : Type 0} (d : D) → Some d ≡ None → ⊥
none_is_not d e = let z : ◌≡◌ {A = ℕ} 0 1 = cc in omega arith

module _ {X D S : Type 0} (turn : S → ℕ → List ℕ → Turn X D S) (forward : Forward turn) where
  -- what stops the walk from where it stands on
  abbrev stop_at : Stand S → Option D
  stop_at q = (given turn q.state q.place q.left).stop

  stop_is : (q : Stand S) (t : Turn X D S) → found turn q ≡ t → stop_at q ≡ (onward t (λ s k. given turn s (q.place + k) (drop k q.left))).stop
  stop_is q t e =
      ap (λ w. w.stop) (given_is turn forward q.state q.place q.left) ∙
      ap (λ x. (onward x (λ s k. given turn s (q.place + k) (drop k q.left))).stop) e

  -- what stops it from a place that it comes to stops it from the start
  stops_alike : (p q : Stand S) → Reached turn p q → stop_at q ≡ stop_at p
  stops_alike p q itself = refl
  stops_alike p q (behind_given {q = o} {x} {s} {k} r e) = sym (stop_is o (Gives x s k) e) ∙ stops_alike p o r
  stops_alike p q (behind_passed {q = o} {s} {k} r e) = sym (stop_is o (Passes s k) e) ∙ stops_alike p o r

  none_if_clean : (p : Stand S) → stop_at p ≡ None → NoneAtFault turn p
  none_if_clean p c q d r e = none_is_not d (sym (stop_is q (Broken d) e) ∙ stops_alike p q r ∙ c)

  module _ (p : Stand S) (none : NoneAtFault turn p) where
    clean_by : (q : Stand S) (t : Turn X D S) → Reached turn p q → found turn q ≡ t → Goes (length q.left) t → ((s : S) (k : ℕ) → 0 < k → k ≤ length q.left → Reached turn p (beyond q s k) → stop_at (beyond q s k) ≡ None) → stop_at q ≡ None
    clean_by q Clean r e g h = stop_is q Clean e
    clean_by q (Broken d) r e g h = absurd (none q d r e)
    clean_by q (Gives x s k) r e g h = stop_is q (Gives x s k) e ∙ h s k g.0 g.1 (behind_given r e)
    clean_by q (Passes s k) r e g h = stop_is q (Passes s k) e ∙ h s k g.0 g.1 (behind_passed r e)

    clean_from : (n : ℕ) (q : Stand S) → length q.left < n → Reached turn p q → stop_at q ≡ None
    clean_from zero q l r = absurd (omega arith)
    clean_from (suc n) q l r =
        clean_by q (found turn q) r refl (forward q.state q.place q.left)
        (λ s k lo hi b. let d = length-drop k q.left in clean_from n (beyond q s k) (omega arith) b)

  clean_if_none : (p : Stand S) → NoneAtFault turn p → stop_at p ≡ None
  clean_if_none p h = clean_from p h (suc (length p.left)) p (omega arith) itself

pub clean_exactly : {S : Type 0} (turn : S → ℕ → List ℕ → Turn Event Fault S) → Forward turn → (p : Stand S) → Exactly ((comes (given turn p.state p.place p.left)).ending ≡ None) (NoneAtFault turn p)
clean_exactly turn forward p = (none_if_clean turn forward p, clean_if_none turn forward p)
