use Rattle.std.proofs.Common.{◌≡◌, ℕ, ◌+◌, Bool, true, false, List, length, None, sym, refl, ap, ◌∙◌, subst, add-zero, arith}
use Rattle.std.proofs.lemmas.Result.{err_from_is_err_and}
use Rattle.event.specs.Numbers.{refusal}
use Rattle.event.specs.declared.refusals.Refusal.{Refusal}
use Rattle.media.specs.Stretches.{left}
use Rattle.media.specs.declared.stretches.Stretch.{Stretch}
use Rattle.catalogue.specs.CatalogueWalks.{all_listed}
use Rattle.catalogue.specs.Catalogues.{added, listed}
use Rattle.catalogue.specs.Pairs.{listing}
use Rattle.catalogue.specs.declared.catalogues.Catalogue.{Catalogue}
use Rattle.catalogue.proofs.CatalogueSteps.{Listed, before, listed_from}
use Rattle.runsheet.specs.Commands.{marked}
use Rattle.runsheet.specs.Openings.{lengths, more, opening_of, records_in}
use Rattle.runsheet.proofs.OpeningSteps.{Stopped, at_end_lem, at_listed, at_stop, count_listed, count_refused, lengths_listed, on_from}
use Rattle.runsheet.proofs.sheets.RunSheet.catalogue.Goals as goal

pub loop-self-init : goal.loop-self-init
loop-self-init c =
    let none = c.new-catalogue.ensures.listed in
    let s = c.args.self.now in
    let l = ap lengths none in
    (refl, c.new-catalogue.ensures.over, ap (λ ts. before ts (on_from s.stretch s.place ts)) none, omega arith, sym (ap (λ ts. more s.count (length ts)) none))

-- what a mark says in one stretch, it says in the same one
mark_is : (s t : Stretch) (at : ℕ) (bs : List ℕ) (b : Bool) → s ≡ t → bs ≡ left s at → b ≡ marked 83 86 bs → marked 83 86 (left t at) ≡ b
mark_is s t at bs b over is e = sym (e ∙ ap (marked 83 86) is ∙ ap (λ x. marked 83 86 (left x at)) over)

stopped_in : (s : Stretch) (a b : Catalogue) (at : ℕ) (e : Refusal) → a.stretch ≡ s → b ≡ a → marked 83 86 (left s at) ≡ true → (refusal e, listed b) ≡ added at (listing (left a.stretch at)) (listed a) → Stopped (before (listed a) (on_from s at (listed a))) (listed a) e
stopped_in s a b at e over same mark q =
    at_stop s at (listed a) e mark (ap (λ x. (refusal e, listed x)) (sym same) ∙ q ∙ ap (λ x. added at (listing (left x at)) (listed a)) over)

pub returns-in_err-self : goal.returns-in_err-self
returns-in_err-self c =
    let s = c.args.self.now in
    let at = c.loop-self.self.place in
    let ts = listed c.loop-self.catalogue in
    let inv = c.loop-self.invariant in
    let p = err_from_is_err_and c.from_residual.result c.from_residual.ensures.1 in
    let told = c.in_err-self.ensures in
    let e = c.in_err-self.field-0.0 in
    let mark = mark_is c.loop-self.self.stretch s.stretch at c.left.result.now true inv.0 c.left.ensures c.loop-self-test.ensures in
    let stop = subst (λ w. Stopped w ts e) inv.2 (stopped_in s.stretch c.loop-self.catalogue c.add.new.self at e inv.1 (told.same (refl {a = false})) mark told.lists) in
    rw (p.1, p.2) (record {
      lists = stop.lists;
      place = inv.3 ∙ ap (λ n. s.place + n) stop.long_as;
      count = count_refused s.count c.loop-self.self.count c.saturating_add-self.result _ ts inv.4 c.saturating_add-self.ensures stop.records;
      over = inv.0;
      onward = omega (arith, inv.3);
    })

pub loop-self-preserved : goal.loop-self-preserved
loop-self-preserved c =
    let s = c.args.self.now in
    let at = c.loop-self.self.place in
    let ts = listed c.loop-self.catalogue in
    let us = listed c.add.new.self in
    let place = c.in_ok-self.field-0 in
    let inv = c.loop-self.invariant in
    let mark = mark_is c.loop-self.self.stretch s.stretch at c.left.result.now true inv.0 c.left.ensures c.loop-self-test.ensures in
    let one = subst (λ x. Listed at place ts us (listing (left x at))) inv.1 (listed_from at place ts us (listing (left c.loop-self.catalogue.stretch at)) c.in_ok-self.ensures.lists) in
    (inv.0, c.add.ensures.over ∙ inv.1, at_listed s.stretch at place ts us mark one ∙ inv.2, lengths_listed s.stretch s.place at place ts us one inv.3, count_listed s.stretch s.count c.loop-self.self.count c.saturating_add-self.result at place ts us one inv.4 c.saturating_add-self.ensures)

pub returns : goal.returns
returns c =
    let s = c.args.self.now in
    let at = c.loop-self.self.place in
    let ts = listed c.loop-self.catalogue in
    let inv = c.loop-self.invariant in
    let mark = mark_is c.loop-self.self.stretch s.stretch at c.left.result.now false inv.0 c.left.ensures c.loop-self-test.ensures in
    let whole : record { items = ts; stop = None } ≡ opening_of s = sym (at_end_lem s.stretch at ts mark) ∙ inv.2 in
    record {
      lists = ap all_listed whole;
      place = inv.3 ∙ ap (λ w. s.place + lengths w.items) whole;
      count = inv.4 ∙ ap (more s.count) (sym (add-zero (length ts))) ∙ ap (λ w. more s.count (records_in w)) whole;
      over = inv.0;
      onward = omega (arith, inv.3);
    }
