use Rattle.std.proofs.Common.{◌≡◌, ℕ, true, false, eqb, length, sym, refl, ap, ◌∙◌, subst}
use Rattle.std.proofs.lemmas.Result.{err_from_is_err_and}
use Rattle.event.specs.Numbers.{refusal}
use Rattle.event.specs.declared.refusals.Refusal.{Refusal}
use Rattle.media.specs.Stretches.{left}
use Rattle.media.specs.declared.stretches.Stretch.{Stretch}
use Rattle.catalogue.specs.CatalogueWalks.{all_listed}
use Rattle.catalogue.specs.Catalogues.{Sound, added, listed}
use Rattle.catalogue.specs.Pairs.{listing}
use Rattle.catalogue.specs.declared.catalogues.Catalogue.{Catalogue}
use Rattle.catalogue.proofs.CatalogueSteps.{Listed, at_end_lem, at_listed, at_stop, before, listed_from, on_from}
use Rattle.catalogue.proofs.Soundness.{sound_more}
use Rattle.catalogue.proofs.catalogues.Catalogue.read.Goals as goal

-- where a record is refused, in the stretch that the catalogue is over
stops : (s : Stretch) (a b : Catalogue) (at : ℕ) (e : Refusal) → a.stretch ≡ s → b ≡ a → eqb (length (left s at)) 0 ≡ false → (refusal e, listed b) ≡ added at (listing (left a.stretch at)) (listed a) → refusal e ≡ all_listed (before (listed a) (on_from s at (listed a)))
stops s a b at e over same some q =
    at_stop s at (listed a) e some (ap (λ x. (refusal e, listed x)) (sym same) ∙ q ∙ ap (λ x. added at (listing (left x at)) (listed a)) over)

pub returns-in_err-place-clause-lists : goal.returns-in_err-place-clause-lists
returns-in_err-place-clause-lists c =
    let p = err_from_is_err_and c.from_residual.result c.from_residual.ensures.1 in
    let told = c.in_err-place.ensures in
    let some : eqb (length (left c.args.stretch c.loop-stretch.place)) 0 ≡ false = sym (c.loop-stretch-test.ensures ∙ ap (λ b. eqb (length b) 0) c.left.ensures) in
    rw (p.1, p.2) (stops c.args.stretch c.loop-stretch.all c.add.new.self c.loop-stretch.place c.in_err-place.field-0.0 c.loop-stretch.invariant.1 (told.same (refl {a = false})) some told.lists ∙ ap all_listed c.loop-stretch.invariant.0)

pub loop-stretch-preserved : goal.loop-stretch-preserved
loop-stretch-preserved c =
    let some : eqb (length (left c.args.stretch c.loop-stretch.place)) 0 ≡ false = sym (c.loop-stretch-test.ensures ∙ ap (λ b. eqb (length b) 0) c.left.ensures) in
    let one = subst (λ s. Listed c.loop-stretch.place c.in_ok-place.place (listed c.loop-stretch.all) (listed c.add.new.self) (listing (left s c.loop-stretch.place))) c.loop-stretch.invariant.1 (listed_from c.loop-stretch.place c.in_ok-place.place (listed c.loop-stretch.all) (listed c.add.new.self) (listing (left c.loop-stretch.all.stretch c.loop-stretch.place)) c.in_ok-place.ensures.lists) in
    (at_listed c.args.stretch c.loop-stretch.place c.in_ok-place.place _ _ some one ∙ c.loop-stretch.invariant.0, c.add.ensures.over ∙ c.loop-stretch.invariant.1, subst Sound (sym one.list_is) (sound_more (listed c.loop-stretch.all) one.one c.loop-stretch.invariant.2 one.fine))

pub returns-clause-lists : goal.returns-clause-lists
returns-clause-lists c =
    let none : eqb (length (left c.args.stretch c.loop-stretch.place)) 0 ≡ true = sym (c.loop-stretch-test.ensures ∙ ap (λ b. eqb (length b) 0) c.left.ensures) in
    at_end_lem c.args.stretch c.loop-stretch.place (listed c.loop-stretch.all) none ∙ ap all_listed c.loop-stretch.invariant.0
