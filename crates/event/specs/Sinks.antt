-- What a sink holds.
--   Held        the dispatches it was told, the oldest first, and its free places
--   tells d h   telling d: at the list's end where a place is free, else refused with 27 and nothing changes
use Rattle.std.specs.Prelude.{ℕ, ◌-◌, cond, List, [], ◌∷◌, ◌++◌, nat_lt}
use Rattle.event.specs.declared.dispatches.Dispatch.{Dispatch}
use Rattle.event.specs.Numbers.{Answer}
use Rattle.event.specs.Numbers.Answer.{did, refused}

pub record Held : Type 0 where
  pub told : List Dispatch
  pub free : ℕ

abbrev pub more : Held → Dispatch → Held
more h d = record { told = h.told ++ (d ∷ []); free = h.free - 1 }

abbrev pub tells : Dispatch → Held → Answer (Unit {0}) × Held
tells d h = cond (nat_lt 0 h.free) (did tt, more h d) (refused 27, h)
