-- What the checks of a record of a sheet come to.
use Rattle.std.proofs.Common.{◌≡◌, ℕ, Bool, true, Ok, Err, Option, sym, ap, ◌∙◌}
use Rattle.std.proofs.lemmas.Bool.{cond-true}
use Rattle.event.specs.Times.{time}
use Rattle.event.specs.declared.events.Event.{Event}
use Rattle.event.specs.declared.faults.Defect.TheVariants.{Flags, NotBase64}
use Rattle.event.specs.declared.spans.Span.{Span}
use Rattle.event.specs.declared.times.Time.{Time}
use Rattle.event.proofs.Clock.{known_by_ms}
use Rattle.sheet.specs.SheetRecords.{Ev}
use Rattle.sheet.specs.Sheets.{event_of, flagged, flags_fit, id_of, messaged, span_of, text_fits}
use Rattle.sheet.specs.declared.sheets.EventStream.{EventStream}

-- an event of the fields that a record gives
abbrev pub event : EventStream → ℕ → Ev → Span → Event
event g at v s = record {
  stream = g.stream;
  id = id_of v;
  span = s;
  arrival = time 0;
  message = record { place = at; length = v.size; base64 = flagged 4 v };
}

pub event_is : (g : EventStream) (at : ℕ) (v : Ev) (s : Span) → flags_fit v ≡ true → Ok s ≡ span_of g v → text_fits v ≡ true → Ok (event g at v s) ≡ event_of g at v
event_is g at v s f e t =
    sym (cond-true (text_fits v) (Ok (event g at v s)) (Err NotBase64) t) ∙ ap (messaged g at v) e ∙
    sym (cond-true (flags_fit v) (messaged g at v (span_of g v)) (Err Flags) f)

pub event_from : (g : EventStream) (at : ℕ) (v : Ev) (s : Span) (i : Option ℕ) (t : Time) (n : ℕ) (b : Bool) → true ≡ flags_fit v → Ok s ≡ span_of g v → true ≡ text_fits v → i ≡ id_of v → t.ms ≡ 0 → n ≡ v.size → b ≡ flagged 4 v → Ok (record { stream = g.stream; id = i; span = s; arrival = t; message = record { place = at; length = n; base64 = b } }) ≡ event_of g at v
event_from g at v s i t n b f e x ei et en eb =
    (λ j. Ok (record { stream = g.stream; id = ei j; span = s; arrival = known_by_ms t (time 0) et j; message = record { place = at; length = en j; base64 = eb j } })) ∙
    event_is g at v s (sym f) e (sym x)
