use Rattle.std.proofs.Common.{false, length, refl, ap, arith}
use Rattle.std.proofs.lemmas.List.Filters.{length-filter_both}
use Rattle.player.specs.declared.players.Head.{Head}
use Rattle.tables.specs.Tables.{fails}
use Rattle.player.specs.Rows.{items}
use Rattle.player.proofs.Soundness.{forget_sound, items_length, length_filter, none_gone}
use Rattle.player.proofs.players.Player.forget.Goals as goal

pub invariant_of-self : goal.invariant_of-self
invariant_of-self g c =
    let p = c.args.self.now in
    let test = c.requires.computes in
    let h : Head = record { streams = p.head.streams; playhead = p.head.playhead; modes = p.head.modes; kept_ids = c.count_ids-self.result } in
    record { sound = forget_sound p h (items c.remove.new.self) (items p.used) _ test.0 (λ n. false) (c.remove.ensures.items test.0 test.1) (none_gone (items p.used)) refl c.count_ids-self.ensures refl }

pub overflow_sub-result : goal.overflow_sub-result
overflow_sub-result g c =
    let p = c.args.self.now in
    let test = c.requires.computes in
    omega (arith, items_length p.kept, items_length c.remove.new.self, ap length (c.remove.ensures.items test.0 test.1), length_filter (fails test.0) (items p.kept))

pub returns-clause-value : goal.returns-clause-value
returns-clause-value g c = λ p is.
    let old = c.args.self.now.kept in
    omega (arith, items_length old, items_length c.remove.new.self, ap length (c.remove.ensures.items p is), length-filter_both p (fails p) (λ _. refl) (items old))
