use Rattle.std.proofs.Common.{◌≡◌, true, false, ap, ◌∙◌, rules}
use Rattle.std.proofs.lemmas.Iterator.{YieldsList-from_slice, cases_from_any}
use Rattle.tables.specs.Elements.{named}
use Rattle.tables.specs.Tables.{any}
use Rattle.tables.proofs.Prefixes.{any_decided}
use Rattle.player.proofs.rows.reads.Rows+Kept.has_named.Goals as goal

pub returns : goal.returns
returns c =
    let p = named c.args.name in
    any_decided p c.items.result.now c.any.result
    (cases_from_any _ _ c.any.result (λ k. p k ≡ true) (λ k. p k ≡ false) c.any.ensures.ran (YieldsList-from_slice c.items.result.now cc) (λ x q k. search rules) (λ x q k. search rules))
    ∙ ap (any p) c.items.ensures
