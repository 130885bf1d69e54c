-- Forgetting what arrived in a range.
--   evicts a b w   what an evict answers and leaves: 25 where a is above b
use Rattle.std.specs.Prelude.{ℕ, cond, length, filter, nat_lt}
use Rattle.event.specs.Numbers.{Answer}
use Rattle.event.specs.Numbers.Answer.{did, refused}
use Rattle.calls.specs.Draws.{with_kept}
use Rattle.tables.specs.Picks.{arrived_in}
use Rattle.calls.specs.State.{State}
use Rattle.tables.specs.Tables.{without}

abbrev pub evicts : ℕ → ℕ → State → Answer ℕ × State
evicts a b w =
    cond (nat_lt b a) (refused 25, w)
    (did (length (filter (arrived_in a b) w.kept)), with_kept w (without (arrived_in a b) w.kept))
