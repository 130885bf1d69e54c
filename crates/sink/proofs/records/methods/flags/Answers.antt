use Rattle.std.proofs.Common.{◌≡◌, ℕ, ◌*◌, Bool, true, false, cond, is_some, refl, ap, ◌∙◌, arith}
use lib.Bits.{bit_or}
use mir.Val.{bool_byte}
use denote.Enum.Bare.{sameb}
use Rattle.event.specs.contracts.modes.Trigger.{the_type}
use Rattle.event.specs.declared.modes.Trigger.{Trigger}
use Rattle.event.specs.declared.modes.Trigger.TheVariants.{Receive, Start}
use Rattle.sink.specs.Records.{on_start}
use Rattle.sink.proofs.records.methods.flags.Goals as goal

times : (k : ℕ) (b : Bool) → k * bool_byte b ≡ cond b k 0
times k true = grind (arith)
times k false = grind (arith)

started : (t : Trigger) → sameb the_type t Start ≡ on_start t
started Receive = refl
started Start = refl

pub returns : goal.returns
returns c =
    let known : 1 * c.from.result ≡ cond (is_some c.args.dispatch.span.duration) 1 0 = ap (λ n. 1 * n) c.from.ensures ∙ ap (λ b. 1 * bool_byte b) c.is_some.ensures ∙ times 1 _ in
    let named : 2 * c.from-2.result ≡ cond (is_some c.args.dispatch.id) 2 0 = ap (λ n. 2 * n) c.from-2.ensures ∙ ap (λ b. 2 * bool_byte b) c.is_some-2.ensures ∙ times 2 _ in
    let text : 4 * c.from-3.result ≡ cond c.args.dispatch.message.base64 4 0 = ap (λ n. 4 * n) c.from-3.ensures ∙ times 4 _ in
    let start : 8 * c.from-4.result ≡ cond (on_start c.args.dispatch.trigger) 8 0 = ap (λ n. 8 * n) c.from-4.ensures ∙ ap (λ b. 8 * bool_byte b) (c.eq.ensures ∙ started _) ∙ times 8 _ in
    λ i. bit_or (bit_or (bit_or (known i) (named i)) (text i)) (start i)
