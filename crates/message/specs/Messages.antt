-- The bytes of a message.
--   part at n bs           n bytes from a place on, or 28 where they are not all there
--   message_of m bs ds n   of a base64 message the n bytes at the front of its decoded buffer ds, else its part of the media buffer bs
--   handed r               the bytes that a call hands out
use Rattle.std.specs.Prelude.{ℕ, ◌+◌, cond, List, length, take, drop, Ok, Err, Result, nat_le}
use Rattle.std.specs.Borrow.{Bor}
use Rattle.event.specs.Numbers.{Answer, refusal}
use Rattle.event.specs.Numbers.Answer.{did, refused}
use Rattle.event.specs.declared.events.Message.{Message}
use Rattle.event.specs.declared.refusals.Refusal.{Refusal}

abbrev pub part : ℕ → ℕ → List ℕ → Answer (List ℕ)
part at n bs = cond (nat_le (at + n) (length bs)) (did (take n (drop at bs))) (refused 28)

abbrev pub message_of : Message → List ℕ → List ℕ → ℕ → Answer (List ℕ)
message_of m bs ds n = cond m.base64 (part 0 n ds) (part m.place m.length bs)

abbrev pub handed : Result (Bor (List ℕ)) Refusal → Answer (List ℕ)
handed (Ok r) = did r.now
handed (Err e) = refusal e
