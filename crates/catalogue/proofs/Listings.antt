-- One more stream in a catalogue.
use Rattle.std.proofs.Common.{◌≡◌, ℕ, ◌+◌, ◌<◌, cond, not, leb, List, [], ◌∷◌, ◌++◌, map, length, take, set, is_some, Some, None, Option, ap, ◌∙◌, arith}
use Rattle.std.specs.Option.{option_map}
use Rattle.std.proofs.lemmas.List.{length-map, length-take, map_push, take_more_set}
use Rattle.std.proofs.lemmas.Bool.{cond_both, leb-false}
use Rattle.event.specs.declared.refusals.Refusal.{Refusal}
use Rattle.event.specs.declared.refusals.Refusal.TheVariants.{CatalogueString, ListedTwice, CatalogueFull}
use Rattle.catalogue.specs.Catalogues.{added, behind, flaw, named, number, settled}
use Rattle.catalogue.specs.Pairs.{Stream, proper}
use Rattle.catalogue.specs.declared.catalogues.Entry.{Entry}

-- once it is known what stands at the place and whether it is refused
pub settled_at : (place : ℕ) (o : Option Stream) (ts : List Stream) (q : Option Refusal) (p : ℕ × Stream) → Some p ≡ option_map (behind place) o → q ≡ flaw p.1 ts → settled q p ts ≡ added place o ts
settled_at place None ts q p e h = let z : ◌≡◌ {A = ℕ} 0 1 = cc in absurd (omega arith)
settled_at place (Some s) ts q p e h =
    let is : p ≡ behind place s = cc in
    ap (λ x. settled x p ts) (h ∙ ap (λ x. flaw x.1 ts) is) ∙ ap (λ x. settled (flaw s ts) x ts) is

some_is_not_none : (e : Refusal) (n : ℕ) → None ≡ Some e → n < 32
some_is_not_none e n q = let z : ◌≡◌ {A = ℕ} 0 1 = cc in absurd (omega arith)

-- a stream that is not refused has room
pub room : (s : Stream) (ts : List Stream) → None ≡ flaw s ts → length ts < 32
room s ts =
    cond_both (not (proper s)) (Some CatalogueString) (cond (is_some (number s ts)) (Some ListedTwice) (cond (leb 32 (length ts)) (Some CatalogueFull) None)) (λ o. None ≡ o → length ts < 32)
    (λ _. some_is_not_none CatalogueString (length ts))
    (λ _. cond_both (is_some (number s ts)) (Some ListedTwice) (cond (leb 32 (length ts)) (Some CatalogueFull) None) (λ o. None ≡ o → length ts < 32)
    (λ _. some_is_not_none ListedTwice (length ts))
    (λ _. cond_both (leb 32 (length ts)) (Some CatalogueFull) None (λ o. None ≡ o → length ts < 32)
    (λ _. some_is_not_none CatalogueFull (length ts))
    (λ h _. leb-false 32 (length ts) h)))

-- a list with room has a free entry
pub free : (m : List ℕ) (es : List Entry) (count : ℕ) → length es ≡ 32 → length (map (named m) (take count es)) < 32 → count < 32
free m es count l h = omega (arith, length-map (take count es) (named m), length-take count es)

-- the list once the first free entry is set
pub pushed : (m : List ℕ) (es : List Entry) (count : ℕ) (e : Entry) → count < length es → map (named m) (take (count + 1) (set es count e)) ≡ map (named m) (take count es) ++ named m e ∷ []
pushed m es count e h = ap (map (named m)) (take_more_set es count e h) ∙ map_push (named m) (take count es) e
