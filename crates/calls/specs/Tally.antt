-- What becomes of the records that a run draws.
--   sums f cs w       what f gives for each call of a run, at the world that the call meets, added up
--   stepped c w       how many records fewer the feed of a draw has to come after it
--   answered d c w    1 for a draw that answers d
--   removed a         the number that an evict or a leave answers; 0 where it was refused
--   drawn cs w        the records that the draws of a run stepped
--   passed cs w       the draws that answered passed; so over, and repeats
--   dispatched cs w   the length of the sink's list after the run
--   kept cs w         the number of kept events after the run
--   evicted cs w      the answers of the evicts that were not refused, added up; so left, of the leaves
--   TallyAddsUp w     in every run from w, each record that was drawn is counted once
use Rattle.std.specs.Prelude.{◌≡◌, ℕ, ◌+◌, ◌-◌, cond, List, [], ◌∷◌, length, ◌==◌}
use Rattle.event.specs.Numbers.{Answer}
use Rattle.event.specs.Numbers.Answer.{did, refused, refused_with}
use Rattle.calls.specs.declared.answers.Drawn.{Drawn}
use Rattle.calls.specs.declared.answers.Drawn.TheVariants.{End, Passed, Dispatched, Over, Repeat, Kept}
use Rattle.calls.specs.Draws.{draws}
use Rattle.calls.specs.Runs.{Call, World, after, does, runs}
use Rattle.calls.specs.Runs.CallOn.{draw, play, seek, follow, leave, evict}

abbrev pub sums : (Call → World → ℕ) → List Call → World → ℕ
sums f [] w = 0
sums f (c ∷ cs) w = f c w + sums f cs (after c w)

abbrev pub stepped : Call → World → ℕ
stepped (draw c) w = length c.records - length (draws c w.player w.sink).3.records
stepped (play t) w = 0
stepped (seek t) w = 0
stepped (follow s m) w = 0
stepped (leave s) w = 0
stepped (evict a b) w = 0

-- a number for each answer, to tell them apart
abbrev pub line : Drawn → ℕ
line End = 0
line Passed = 1
line Dispatched = 2
line Over = 3
line Repeat = 4
line Kept = 5

abbrev pub is_line : Drawn → Answer Drawn → ℕ
is_line d (did e) = cond (line d == line e) 1 0
is_line d (refused n) = 0
is_line d (refused_with n f) = 0

abbrev pub answered : Drawn → Call → World → ℕ
answered d (draw c) w = is_line d (does (draw c) w).0
answered d (play t) w = 0
answered d (seek t) w = 0
answered d (follow s m) w = 0
answered d (leave s) w = 0
answered d (evict a b) w = 0

abbrev pub removed : Answer ℕ → ℕ
removed (did n) = n
removed (refused n) = 0
removed (refused_with n f) = 0

abbrev pub evicted_by : Call → World → ℕ
evicted_by (draw c) w = 0
evicted_by (play t) w = 0
evicted_by (seek t) w = 0
evicted_by (follow s m) w = 0
evicted_by (leave s) w = 0
evicted_by (evict a b) w = removed (does (evict a b) w).0

abbrev pub left_by : Call → World → ℕ
left_by (draw c) w = 0
left_by (play t) w = 0
left_by (seek t) w = 0
left_by (follow s m) w = 0
left_by (leave s) w = removed (does (leave s) w).0
left_by (evict a b) w = 0

abbrev pub drawn : List Call → World → ℕ
drawn = sums stepped

abbrev pub passed : List Call → World → ℕ
passed = sums (answered Passed)

abbrev pub over : List Call → World → ℕ
over = sums (answered Over)

abbrev pub repeats : List Call → World → ℕ
repeats = sums (answered Repeat)

abbrev pub dispatched : List Call → World → ℕ
dispatched cs w = length (runs cs w).sink.told

abbrev pub kept : List Call → World → ℕ
kept cs w = length (runs cs w).player.kept

abbrev pub evicted : List Call → World → ℕ
evicted = sums evicted_by

abbrev pub left : List Call → World → ℕ
left = sums left_by

abbrev pub TallyAddsUp : World → Type 0
TallyAddsUp w = (cs : List Call) → drawn cs w ≡ passed cs w + over cs w + repeats cs w + dispatched cs w + kept cs w + evicted cs w + left cs w
