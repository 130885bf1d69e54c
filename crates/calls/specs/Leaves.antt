-- Leaving a stream.
--   left s w     the player with the stream off, its kept events and used ids removed
--   leaves s w   what a leave answers and leaves: 16 outside the catalogue, 19 where the stream is not followed
use Rattle.std.specs.Prelude.{ℕ, cond, length, filter, nat_le, slice_set}
use Rattle.event.specs.declared.modes.Mode.TheVariants.{Off}
use Rattle.event.specs.Numbers.{Answer}
use Rattle.event.specs.Numbers.Answer.{did, refused}
use Rattle.calls.specs.Follows.{is_off, mode_of}
use Rattle.tables.specs.Picks.{kept_in, used_in}
use Rattle.calls.specs.State.{State}
use Rattle.tables.specs.Tables.{without}

abbrev pub left : ℕ → State → State
left s w = record {
  streams = w.streams;
  playhead = w.playhead;
  modes = slice_set w.modes s Off;
  kept = without (kept_in s) w.kept;
  used = without (used_in s) w.used;
  places = w.places;
  id_places = w.id_places;
}

abbrev pub leaves : ℕ → State → Answer ℕ × State
leaves s w =
    cond (nat_le w.streams s) (refused 16, w)
    (cond (is_off (mode_of w s)) (refused 19, w)
    (did (length (filter (kept_in s) w.kept)), left s w))
