-- The numbers of modes.
--   mode_of n   1 is on receive, 2 is on start, and every other number is off
use Rattle.std.specs.Prelude.{ℕ, cond, ◌==◌}
use Rattle.event.specs.declared.modes.Mode.{Mode}
use Rattle.event.specs.declared.modes.Mode.TheVariants.{Off, OnReceive, OnStart}

abbrev pub mode_of : ℕ → Mode
mode_of n = cond (n == 1) OnReceive (cond (n == 2) OnStart Off)
