use Rattle.std.proofs.Common.{◌≡◌, ◌+◌, eqb, take, Some, sym, ap, ◌∙◌, rules, tests}
use Rattle.std.specs.List.{position_from}
use Rattle.std.specs.Option.{option_map}
use Rattle.std.proofs.lemmas.Iterator.{YieldsList-from_slice}
use Rattle.std.proofs.lemmas.Iterator.Adapters.{position_from-zero}
use Rattle.std.proofs.lemmas.Iterator.Search.{position_from_yields_List}
use Rattle.std.proofs.lemmas.List.{take_rest}
use Rattle.segment.specs.Emsgs.{closed, shut_at}
use Rattle.segment.proofs.segments.emsgs.Closed.read.Goals as goal
use Rattle.segment.proofs.segments.emsgs.Closed.read.Goals.{After-position}

place : (c : After-position) → c.position.result ≡ position_from (λ b. eqb b 0) 0 c.args.bytes.now
place c =
    position_from_yields_List (λ b. eqb b 0) _ _ c.position.result c.position.ensures.ran (YieldsList-from_slice _ c.iter.ensures.rest) (λ x b q k. search (rules, tests)) ∙
    position_from-zero (λ b. eqb b 0) c.args.bytes.now

pub returns-in_err-end : goal.returns-in_err-end
returns-in_err-end c =
    ap (option_map closed) c.from_residual.ensures ∙
    ap (λ o. shut_at o c.args.bytes.now) (sym c.in_err-end.was ∙ place (goal.at.returns-in_err-end c).After-position)

pub returns : goal.returns
returns c =
    (λ i. Some (record { text = take c.in_ok-end.end c.args.bytes.now; rest = take_rest c.args.bytes.now (c.in_ok-end.end + 1) i })) ∙
    ap (λ o. shut_at o c.args.bytes.now) (sym c.in_ok-end.was ∙ place (goal.at.returns c).After-position)
