-- Reading undoes writing: one record.
use Rattle.std.proofs.Common.{◌≡◌, ℕ, ◌^◌, ◌<◌, ◌≤◌, Bool, true, false, cond, ◌||◌, eqb, ltb, is_some, Some, None, Ok, Option, refl, ap, ◌∙◌, arith}
use lib.Bits.{bit_or}
use Rattle.std.proofs.lemmas.Bool.{cond-true, le-leb, and_from}
use Rattle.event.proofs.Clock.{time_ms}
use Rattle.event.specs.Times.{latest, time}
use Rattle.event.specs.declared.dispatches.Dispatch.{Dispatch}
use Rattle.event.specs.declared.modes.Trigger.{Trigger}
use Rattle.event.specs.declared.modes.Trigger.TheVariants.{Receive, Start}
use Rattle.event.specs.declared.times.Time.{Time}
use Rattle.sink.proofs.Digits.{num_bytes32, num_bytes64}
use Rattle.sink.specs.Records.{laid, record_at, has, on_start, milliseconds, or_zero, record_of, flagged, in_time, dispatch_in, checked, read_record}
use Rattle.sink.specs.declared.records.Record.{Record}

abbrev set : Bool → Bool → Bool → Bool → ℕ
set a b c d = bit_or (bit_or (bit_or (cond a 1 0) (cond b 2 0)) (cond c 4 0)) (cond d 8 0)

-- each flag is there as it was set, and no other
bits : (a b c d : Bool) → (has 1 (set a b c d) ≡ a) × (has 2 (set a b c d) ≡ b) × (has 4 (set a b c d) ≡ c) × (has 8 (set a b c d) ≡ d) × (ltb (set a b c d) 16 ≡ true)
bits true true true true = (refl, refl, refl, refl, refl)
bits true true true false = (refl, refl, refl, refl, refl)
bits true true false true = (refl, refl, refl, refl, refl)
bits true true false false = (refl, refl, refl, refl, refl)
bits true false true true = (refl, refl, refl, refl, refl)
bits true false true false = (refl, refl, refl, refl, refl)
bits true false false true = (refl, refl, refl, refl, refl)
bits true false false false = (refl, refl, refl, refl, refl)
bits false true true true = (refl, refl, refl, refl, refl)
bits false true true false = (refl, refl, refl, refl, refl)
bits false true false true = (refl, refl, refl, refl, refl)
bits false true false false = (refl, refl, refl, refl, refl)
bits false false true true = (refl, refl, refl, refl, refl)
bits false false true false = (refl, refl, refl, refl, refl)
bits false false false true = (refl, refl, refl, refl, refl)
bits false false false false = (refl, refl, refl, refl, refl)

known : (o : Option Time) → cond (is_some o) (Some (time (milliseconds o))) None ≡ o
known None = refl
known (Some t) = ap Some (time_ms t)

named : (o : Option ℕ) → cond (is_some o) (Some (or_zero o)) None ≡ o
named None = refl
named (Some n) = refl

triggered : (t : Trigger) → cond (on_start t) Start Receive ≡ t
triggered Receive = refl
triggered Start = refl

zero_unknown : (o : Option Time) → (is_some o || eqb (milliseconds o) 0) ≡ true
zero_unknown None = refl
zero_unknown (Some t) = refl

zero_unnamed : (o : Option ℕ) → (is_some o || eqb (or_zero o) 0) ≡ true
zero_unnamed None = refl
zero_unnamed (Some n) = refl

late_never : (o : Option Time) → milliseconds o ≤ latest
late_never None = omega arith
late_never (Some t) = t.bounded

pub checked_record : (d : Dispatch) → checked (record_of d) ≡ Ok d
checked_record d =
    let b = bits (is_some d.span.duration) (is_some d.id) d.message.base64 (on_start d.trigger) in
    let right : flagged (record_of d) ≡ true =
    and_from _ _ b.4 (and_from _ _ (ap (λ h. h || eqb (milliseconds d.span.duration) 0) b.0 ∙ zero_unknown d.span.duration) (ap (λ h. h || eqb (or_zero d.id) 0) b.1 ∙ zero_unnamed d.id)) in
    let soon : in_time (record_of d) ≡ true =
    and_from _ _ (le-leb _ _ d.position.bounded) (and_from _ _ (le-leb _ _ d.span.start.bounded) (le-leb _ _ (late_never d.span.duration))) in
    let same : dispatch_in (record_of d) ≡ d =
    λ i. record {
      position = time_ms d.position i;
      trigger = (ap (λ h. cond h Start Receive) b.3 ∙ triggered d.trigger) i;
      stream = d.stream;
      id = (ap (λ h. cond h (Some (or_zero d.id)) None) b.1 ∙ named d.id) i;
      span = record {
        start = time_ms d.span.start i;
        duration = (ap (λ h. cond h (Some (time (milliseconds d.span.duration))) None) b.0 ∙ known d.span.duration) i;
      };
      message = record { place = d.message.place; length = d.message.length; base64 = b.2 i };
    } in
    cond-true _ _ _ right ∙ cond-true _ _ _ soon ∙ ap Ok same

record_laid : (r : Record) → r.position < 2 ^ 64 → r.start < 2 ^ 64 → r.duration < 2 ^ 64 → r.id < 2 ^ 32 → r.place < 2 ^ 32 → r.length < 2 ^ 32 → record_at (laid r) ≡ r
record_laid r p s d i m l =
    λ j. record {
      flags = r.flags;
      stream = r.stream;
      position = num_bytes64 r.position p j;
      start = num_bytes64 r.start s j;
      duration = num_bytes64 r.duration d j;
      id = num_bytes32 r.id i j;
      place = num_bytes32 r.place m j;
      length = num_bytes32 r.length l j;
    }

pub read_laid : (r : Record) → r.position < 2 ^ 64 → r.start < 2 ^ 64 → r.duration < 2 ^ 64 → r.id < 2 ^ 32 → r.place < 2 ^ 32 → r.length < 2 ^ 32 → read_record (laid r) ≡ checked r
read_laid r p s d i m l = ap checked (record_laid r p s d i m l)
