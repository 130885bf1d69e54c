-- What is left of a walk is what the turn where it stands gives, and what is left behind that record.
use Rattle.std.proofs.Common.{◌≡◌, ℕ, ◌+◌, List, drop, sym, ap, ◌∙◌}
use Rattle.event.specs.declared.events.Event.{Event}
use Rattle.event.specs.declared.faults.Fault.{Fault}
use Rattle.media.specs.Readers.{behind, comes}
use Rattle.media.specs.Stretches.{left}
use Rattle.media.specs.Walks.{Forward, given, onward}
use Rattle.media.specs.declared.readers.Walk.{Walk}
use Rattle.media.specs.declared.stretches.Stretch.{Stretch}
use Rattle.media.specs.declared.walks.Turn.{Turn}
use Rattle.media.proofs.Parts as parts
use Rattle.media.proofs.Turns.{given_is}

pub turned : {R S : Type 0} (turns : R → S → ℕ → List ℕ → Turn Event Fault S) → ((r : R) → Forward (turns r)) → (m : Stretch) (w : Walk R S) (t : Turn Event Fault S) → t ≡ turns w.rules w.state w.place (left m w.place) → comes (onward t (λ s k. given (turns w.rules) s (w.place + k) (left m (w.place + k)))) ≡ behind turns m w
turned turns forward m w t e =
    (λ i. comes (onward t (λ s k. given (turns w.rules) s (w.place + k) (sym (parts.behind m.media.now w.place m.to k) i)))) ∙
    ap (λ x. comes (onward x (λ s k. given (turns w.rules) s (w.place + k) (drop k (left m w.place))))) e ∙
    ap comes (sym (given_is (turns w.rules) (forward w.rules) w.state w.place (left m w.place)))
