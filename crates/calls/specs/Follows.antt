-- Following a stream.
--   is_off m        a stream in this mode is not followed
--   mode_of w s     the mode of a stream; off outside the catalogue
--   in_mode s m w   the player with the stream's mode set
--   follows s m w   what a follow answers and leaves
use Rattle.std.specs.Prelude.{ℕ, Bool, true, false, cond, not, nat_le, nat_lt, slice_index_or, slice_set}
use Rattle.event.specs.declared.modes.Mode.{Mode}
use Rattle.event.specs.declared.modes.Mode.TheVariants.{Off, OnReceive, OnStart}
use Rattle.event.specs.Numbers.{Answer}
use Rattle.event.specs.Numbers.Answer.{did, refused}
use Rattle.calls.specs.State.{State}

abbrev pub is_off : Mode → Bool
is_off Off = true
is_off OnReceive = false
is_off OnStart = false

abbrev pub mode_of : State → ℕ → Mode
mode_of w s = cond (nat_lt s w.streams) (slice_index_or w.modes s Off) Off

abbrev pub in_mode : ℕ → Mode → State → State
in_mode s m w = record {
  streams = w.streams;
  playhead = w.playhead;
  modes = slice_set w.modes s m;
  kept = w.kept;
  used = w.used;
  places = w.places;
  id_places = w.id_places;
}

abbrev pub follows : ℕ → Mode → State → Answer (Unit {0}) × State
follows s m w =
    cond (nat_le w.streams s) (refused 16, w)
    (cond (is_off m) (refused 17, w)
    (cond (not (is_off (mode_of w s))) (refused 18, w)
    (did tt, in_mode s m w)))
