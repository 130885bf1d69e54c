-- A catalogue stays sound: each stream is proper and is found under its own number.
use Rattle.std.proofs.Common.{◌≡◌, ℕ, ◌+◌, ◌<◌, Bool, true, false, cond, not, leb, List, [], ◌∷◌, ◌++◌, length, get_or, is_some, Some, None, Option, refl, ap, ◌∙◌, ⊎_elim, arith}
use Rattle.std.proofs.ByRecursion.{All-push}
use Rattle.std.proofs.lemmas.Slice.Eq.{bytes_eq-Decides}
use Rattle.std.proofs.lemmas.List.{get_or_append_left, get_or_push, length_push}
use Rattle.std.proofs.lemmas.Bool.{and_from, cases_lt, cond_both, cond-true, leb-false, not-false, true≢false}
use Rattle.event.specs.declared.refusals.Refusal.{Refusal}
use Rattle.event.specs.declared.refusals.Refusal.TheVariants.{CatalogueString, ListedTwice, CatalogueFull}
use Rattle.catalogue.specs.Catalogues.{Sound, flaw, number, number_from}
use Rattle.catalogue.specs.Pairs.{Stream, proper, same}

same_self : (s : Stream) → same s s ≡ true
same_self s =
    and_from _ _ ((bytes_eq-Decides s.scheme s.scheme).1 refl) ((bytes_eq-Decides s.value s.value).1 refl)

-- a stream keeps its number where others follow
later : (b : Bool) (k : ℕ) (u v w : Option ℕ) → (v ≡ Some k → w ≡ Some k) → cond b u v ≡ Some k → cond b u w ≡ Some k
later true k u v w h e = e
later false k u v w h e = h e

keeps_number : (n k : ℕ) (s : Stream) (ts us : List Stream) → number_from n s ts ≡ Some k → number_from n s (ts ++ us) ≡ Some k
keeps_number n k s [] us e = let z : ◌≡◌ {A = ℕ} 0 1 = cc in absurd (omega arith)
keeps_number n k s (t ∷ ts) us e =
    later (same t s) k (Some n) (number_from (n + 1) s ts) (number_from (n + 1) s (ts ++ us)) (keeps_number (n + 1) k s ts us) e

-- one that is not there yet gets the next
passed : (b : Bool) (n : ℕ) (v w : Option ℕ) → (is_some v ≡ false → w ≡ Some n) → (u : ℕ) → is_some (cond b (Some u) v) ≡ false → cond b (Some u) w ≡ Some n
passed true n v w h u e = absurd (true≢false e)
passed false n v w h u e = h e

gets_number : (n : ℕ) (s : Stream) (ts : List Stream) → is_some (number_from n s ts) ≡ false → number_from n s (ts ++ s ∷ []) ≡ Some (n + length ts)
gets_number n s [] e =
    let z : n ≡ n + 0 = omega arith in cond-true (same s s) (Some n) None (same_self s) ∙ ap Some z
gets_number n s (t ∷ ts) e =
    let z : n + 1 + length ts ≡ n + length (t ∷ ts) = omega arith in
    passed (same t s) (n + length (t ∷ ts)) (number_from (n + 1) s ts) (number_from (n + 1) s (ts ++ s ∷ [])) (λ q. gets_number (n + 1) s ts q ∙ ap Some z) n e

-- what a stream that can be listed is
record Free (s : Stream) (ts : List Stream) : Type 0 where
  good : proper s ≡ true
  new : is_some (number s ts) ≡ false
  room : length ts < 32

never : (e : Refusal) (s : Stream) (ts : List Stream) → None ≡ Some e → Free s ts
never e s ts q = let z : ◌≡◌ {A = ℕ} 0 1 = cc in absurd (omega arith)

free : (s : Stream) (ts : List Stream) → None ≡ flaw s ts → Free s ts
free s ts =
    cond_both (not (proper s)) (Some CatalogueString) (cond (is_some (number s ts)) (Some ListedTwice) (cond (leb 32 (length ts)) (Some CatalogueFull) None)) (λ o. None ≡ o → Free s ts)
    (λ _. never CatalogueString s ts)
    (λ p. cond_both (is_some (number s ts)) (Some ListedTwice) (cond (leb 32 (length ts)) (Some CatalogueFull) None) (λ o. None ≡ o → Free s ts)
    (λ _. never ListedTwice s ts)
    (λ n. cond_both (leb 32 (length ts)) (Some CatalogueFull) None (λ o. None ≡ o → Free s ts)
    (λ _. never CatalogueFull s ts)
    (λ r _. record { good = not-false (proper s) p; new = n; room = leb-false 32 (length ts) r })))

pub sound_more : (ts : List Stream) (s : Stream) → Sound ts → None ≡ flaw s ts → Sound (ts ++ s ∷ [])
sound_more ts s h q =
    let f = free s ts q in
    let l = length_push ts s in
    record {
      few = omega (arith, f.room);
      good = All-push (λ x. proper x ≡ true) ts s h.good f.good;
      own = λ k d below.
          ⊎_elim
          (λ lt. ap (λ x. number x (ts ++ s ∷ [])) (get_or_append_left ts (s ∷ []) d k lt) ∙ keeps_number 0 k (get_or ts k d) ts (s ∷ []) (h.own k d lt))
          (λ ge.
          let at : length ts ≡ k = omega arith in
          let z : 0 + length ts ≡ k = omega arith in
          ap (λ x. number x (ts ++ s ∷ [])) (get_or_push ts s d k at) ∙ gets_number 0 s ts f.new ∙ ap Some z)
          (cases_lt k (length ts));
    }
