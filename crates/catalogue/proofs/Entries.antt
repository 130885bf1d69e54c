-- The entries of a catalogue.
use Rattle.std.proofs.Common.{◌≡◌, ℕ, ◌+◌, ◌<◌, Bool, cond, List, map, length, get_or, drop, Some, sym, ap, ◌∙◌}
use Rattle.std.proofs.lemmas.List.{drop-map, drop_more}
use Rattle.catalogue.specs.Catalogues.{named, number_from}
use Rattle.catalogue.specs.Pairs.{Stream, same}
use Rattle.catalogue.specs.declared.catalogues.Entry.{Entry}

-- one turn of a search: t is the stream of the i-th entry, and b says whether it is the one that is sought
pub looks : (m : List ℕ) (es : List Entry) (s t : Stream) (i : ℕ) (d : Entry) (b : Bool) → i < length es → t ≡ named m (get_or es i d) → b ≡ same t s → number_from i s (drop i (map (named m) es)) ≡ cond b (Some i) (number_from (i + 1) s (drop (i + 1) (map (named m) es)))
looks m es s t i d b h e q =
    ap (number_from i s) (drop-map (named m) i es ∙ ap (map (named m)) (drop_more es i d h)) ∙
    ap (λ x. cond (same x s) (Some i) (number_from (i + 1) s (map (named m) (drop (i + 1) es)))) (sym e) ∙
    ap (λ y. cond y (Some i) (number_from (i + 1) s (map (named m) (drop (i + 1) es)))) (sym q) ∙
    ap (λ l. cond b (Some i) (number_from (i + 1) s l)) (sym (drop-map (named m) (i + 1) es))
