-- When an event is active.
--   end_behind   whether the end, start plus duration, is behind t; an unknown end is beyond every time
--   active       started by t, and the end not behind t
--   ended        the end is behind t
use Rattle.std.specs.Prelude.{ℕ, ◌+◌, Bool, false, not, ◌&&◌, Some, None, Option, nat_le, nat_lt}
use Rattle.event.specs.declared.times.Time.{Time}
use Rattle.event.specs.declared.spans.Span.{Span}

abbrev pub end_behind : ℕ → Option Time → ℕ → Bool
end_behind start None t = false
end_behind start (Some duration) t = nat_lt (start + duration.ms) t

abbrev pub ended : Span → ℕ → Bool
ended s t = end_behind s.start.ms s.duration t

abbrev pub active : Span → ℕ → Bool
active s t = nat_le s.start.ms t && not (ended s t)
