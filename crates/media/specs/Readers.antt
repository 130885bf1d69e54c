-- What comes from a reader, which keeps its next look ready.
--   fault at d         a reader's fault at a place
--   comes w            what the records of a walk give, as a feed
--   ahead l c          what comes where l is ready and c is behind it
--   behind turns m w   what is left of a stretch m that is being walked over, by the turns of the rules
--   coming turns r     what comes from a reader
use Rattle.std.specs.Prelude.{ℕ, List, [], ◌∷◌, Some, None, Ok, Err}
use Rattle.event.specs.Feeds.{Coming, Look}
use Rattle.event.specs.declared.events.Event.{Event}
use Rattle.event.specs.declared.faults.Defect.{Defect}
use Rattle.event.specs.declared.faults.Fault.{Fault}
use Rattle.event.specs.declared.faults.Layer.TheVariants as layer
use Rattle.media.specs.Stretches.{left}
use Rattle.media.specs.Walks.{Walked, given}
use Rattle.media.specs.declared.readers.Reader.{Reader}
use Rattle.media.specs.declared.readers.Walk.{Walk}
use Rattle.media.specs.declared.stretches.Stretch.{Stretch}
use Rattle.media.specs.declared.walks.Turn.{Turn}

abbrev pub fault : ℕ → Defect → Fault
fault at d = record { defect = d; place = at; layer = layer.Reader }

abbrev pub comes : Walked Event Fault → Coming
comes w = record { records = w.items; ending = w.stop }

abbrev pub ahead : Look → Coming → Coming
ahead (Ok (Some e)) c = record { records = e ∷ c.records; ending = c.ending }
ahead (Ok None) c = record { records = []; ending = None }
ahead (Err f) c = record { records = []; ending = Some f }

module _ {R S : Type 0} (turns : R → S → ℕ → List ℕ → Turn Event Fault S) where
  abbrev pub behind : Stretch → Walk R S → Coming
  behind m w = comes (given (turns w.rules) w.state w.place (left m w.place))

  abbrev pub coming : Reader R S → Coming
  coming r = ahead r.ready (behind r.stretch r.walk)
