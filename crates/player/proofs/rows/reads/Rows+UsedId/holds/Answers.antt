use Rattle.std.proofs.Common.{ap, ◌∙◌}
use Rattle.tables.specs.Elements.{id_before}
use Rattle.tables.specs.Tables.{any, sorted, tied}
use Rattle.tables.proofs.InOrder.{search_decides}
use Rattle.tables.proofs.Sorting.{id_further, id_opposite, id_order}
use Rattle.player.proofs.rows.reads.Rows+UsedId.holds.Goals as goal

pub returns : goal.returns
returns c =
    let found = c.binary_search.ensures in
    c.is_ok.ensures.value
    ∙ search_decides id_before id_opposite id_further c.args.name c.items.result.now (ap (sorted id_before) c.items.ensures ∙ c.args.self.now.ordered)
    _ (λ y. id_order c.args.name y) c.binary_search.result found.bound found.position
    ∙ ap (any (tied id_before c.args.name)) c.items.ensures
