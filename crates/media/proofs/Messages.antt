-- The messages of a reader's events stand inside its stretch.
use Rattle.std.proofs.Common.{ℕ, ◌+◌, ◌<◌, ◌≤◌, List, length, drop, arith}
use Rattle.std.proofs.lemmas.List.{length-drop}
use Rattle.event.specs.declared.events.Event.{Event}
use Rattle.event.specs.declared.faults.Fault.{Fault}
use Rattle.media.specs.Insides.{AllInside, Inside, Within}
use Rattle.media.specs.Readers.{comes}
use Rattle.media.specs.Stretches.{part}
use Rattle.media.specs.Walks.{Forward, Goes, given}
use Rattle.media.specs.declared.stretches.Stretch.{Stretch}
use Rattle.media.specs.declared.walks.Turn.{Turn}
use Rattle.media.specs.declared.walks.Turn.TheVariants.{Clean, Broken, Gives, Passes}
use Rattle.media.proofs.Parts.{part_fits}
use Rattle.media.proofs.Runs.{Each, every}

module _ (a b : ℕ) where
  -- bytes at a place lie between the places a and b
  abbrev Room : ℕ → List ℕ → Type 0
  Room at bs = (a ≤ at) × (0 < length bs → at + length bs ≤ b)

  further : (at k : ℕ) (bs : List ℕ) → 0 < k → k ≤ length bs → Room at bs → Room (at + k) (drop k bs)
  further at k bs lo hi r =
      let d = length-drop k bs in (omega (arith, r.0), λ l. omega (arith, r.1 (omega arith)))

  each : {S : Type 0} (at : ℕ) (bs : List ℕ) (t : Turn Event Fault S) → Goes (length bs) t → Within at t → Room at bs → Each (Inside a b) Room at bs t
  each at bs Clean g w r = tt
  each at bs (Broken f) g w r = tt
  each at bs (Gives e s k) g w r =
      let end = r.1 (omega (arith, g.0, g.1)) in
      ((omega (arith, w.0, r.0), omega (arith, w.1, g.1)), further at k bs g.0 g.1 r)
  each at bs (Passes s k) g w r = further at k bs g.0 g.1 r

pub all_inside : {S : Type 0} (turn : S → ℕ → List ℕ → Turn Event Fault S) → Forward turn → ((s : S) (at : ℕ) (bs : List ℕ) → Within at (turn s at bs)) → (s : S) (m : Stretch) → AllInside m.from m.to (comes (given turn s m.from (part m)))
all_inside turn forward within s m =
    let p = part_fits m.media.now m.from m.to in
    every (Inside m.from m.to) (Room m.from m.to) turn (λ s' at bs r. each m.from m.to at bs (turn s' at bs) (forward s' at bs) (within s' at bs) r) s m.from (part m) (omega arith, λ l. omega arith)
