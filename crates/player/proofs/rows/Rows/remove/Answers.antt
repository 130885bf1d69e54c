use Rattle.std.proofs.Common.{◌<◌, ◌≤◌, true, false, not, length, get_or, take, sym, ap, ◌∙◌, arith}
use Rattle.std.proofs.lemmas.Fn.{says_at}
use Rattle.std.proofs.lemmas.List.{get_or_read, length-set}
use Rattle.std.proofs.lemmas.List.Filters.{FiltersInPlace-more_no, FiltersInPlace-more_set}
use Rattle.tables.specs.Tables.{fails, sorted}
use Rattle.tables.proofs.Filtered.{sorted_filtered, sorted_take}
use Rattle.player.proofs.Fronts.{behind_more}
use Rattle.player.proofs.rows.Rows.remove.Goals as goal
use Rattle.player.proofs.rows.Rows.remove.Goals.{then-not-test, else-not-test}

pub loop-i-preserved : goal.loop-i-preserved
loop-i-preserved g c =
    let inv = c.loop-i.invariant in
    let self = c.args.self.now in
    let ys = c.loop-i.slots in
    let below : c.loop-i.i < length ys = omega (arith, inv.2, self.within) in
    elim c.if-not-test.branch [
      | then-not-test w ↦
          let x = w.index-slots-i-then-not-test.result in
          rw (w.slots-is, w.left-is) (
            λ p is. FiltersInPlace-more_set {x = x} (inv.0 p is) below
                (ap (fails p) (get_or_read ys c.loop-i.i x below w.index-slots-i-then-not-test.is c.index-slots-i.result) ∙ ap not (sym (is _ false (says_at g.F.Fn c.test.ensures w.if-not-test.true))))
                w.index-slots-i-then-not-test.is,
            behind_more self.slots.now ys c.loop-i.left x inv.1,
            simp length-set inv.2,
            omega arith,
          )
      | else-not-test w ↦
          rw (w.slots-is, w.left-is) (
            λ p is. FiltersInPlace-more_no (inv.0 p is) below (ap not (sym (is _ true (says_at g.F.Fn c.test.ensures w.if-not-test.false)))) (ap (λ z. get_or ys c.loop-i.i z) c.index-slots-i.is),
            inv.1,
            inv.2,
            omega arith,
          )
    ]

pub invariant_of-self-2 : goal.invariant_of-self-2
invariant_of-self-2 g c =
    let test = c.requires.computes in
    let so_far = c.loop-i.invariant.0 test.0 test.1 in
    let self = c.args.self.now in
    let before = g.T.Ordered.before in
    let all : c.loop-i.i ≤ self.len = omega arith in
    record {
      within = let b = so_far.behind in let l = so_far.long in omega (arith, self.within, all);
      ordered = ap (sorted before) so_far.front ∙ sorted_filtered before (fails test.0) (take c.loop-i.i self.slots.now)
          (sorted_take before self.slots.now c.loop-i.i self.len all self.ordered);
    }
