-- Strings as they stand in records.
use Rattle.std.proofs.Common.{◌≡◌, ℕ, ◌+◌, ◌-◌, ◌≤◌, ◌&&◌, leb, List, length, get_or, take, drop, Some, None, sym, refl, ap, ◌∙◌, subst, arith, true}
use Rattle.std.specs.List.{between}
use Rattle.std.proofs.lemmas.List.{drop-drop, length-drop, length-take-le}
use Rattle.std.proofs.lemmas.Bool.{and_parts, cond_both, leb-true, and_from, eq-eqb}
use Rattle.media.proofs.Parts.{inside}
use Rattle.catalogue.specs.Catalogues.{behind, ends}
use Rattle.catalogue.specs.Pairs.{Stream, front, fronted, listing, marked}

-- a mark that is read byte by byte
pub marked_from : (a b : ℕ) (bs : List ℕ) → get_or bs 0 0 ≡ a → get_or bs 1 0 ≡ b → marked a b bs ≡ true
marked_from a b bs p q = and_from _ _ (eq-eqb _ a p) (eq-eqb _ b q)

-- where the strings of an `SV` record stand in its bytes
pub record Stands (bs : List ℕ) (s : Stream) : Type 0 where
  pub fits : 4 + length s.scheme + length s.value ≤ length bs
  pub scheme : take (length s.scheme) (drop 4 bs) ≡ s.scheme
  pub value : take (length s.value) (drop (4 + length s.scheme) bs) ≡ s.value

same_some : {X : Type 0} (x y : X) → Some x ≡ Some y → x ≡ y
same_some x y e = cc

front_stands : (a b n : ℕ) (bs : List ℕ) → n ≡ 4 → n ≤ length bs → a + b ≤ length (drop n bs) → Stands bs (front a b (drop n bs))
front_stands a b n bs e l h =
    let la : length (take a (drop n bs)) ≡ a = length-take-le a (drop n bs) (omega arith) in
    let ld : length (drop n bs) ≡ length bs - n = length-drop n bs in
    let lr : length (drop a (drop n bs)) ≡ length (drop n bs) - a = length-drop a (drop n bs) in
    let lb : length (take b (drop a (drop n bs))) ≡ b = length-take-le b (drop a (drop n bs)) (omega arith) in
    record {
      fits = omega arith;
      scheme = ap (λ i. take i (drop 4 bs)) la ∙ ap (λ i. take a (drop i bs)) (sym e);
      value = ap (λ i. take i (drop (4 + length (take a (drop n bs))) bs)) lb ∙ ap (λ i. take b (drop (4 + i) bs)) la ∙ ap (λ i. take b (drop (i + a) bs)) (sym e) ∙ ap (take b) (sym (drop-drop a n bs));
    }

no_stream : (bs : List ℕ) (s : Stream) → Some s ≡ None → Stands bs s
no_stream bs s e = let z : ◌≡◌ {A = ℕ} 0 1 = cc in absurd (omega arith)

fronted_stands : (a b : ℕ) (bs : List ℕ) (s : Stream) → 4 ≤ length bs → Some s ≡ fronted a b (drop 4 bs) → Stands bs s
fronted_stands a b bs s l =
    cond_both (leb (a + b) (length (drop 4 bs))) (Some (front a b (drop 4 bs))) None (λ o. Some s ≡ o → Stands bs s)
    (λ h e. subst (Stands bs) (sym (same_some s (front a b (drop 4 bs)) e)) (front_stands a b 4 bs refl l (leb-true _ _ h)))
    (λ h. no_stream bs s)

pub stands : (bs : List ℕ) (s : Stream) → Some s ≡ listing bs → Stands bs s
stands bs s =
    cond_both (marked 83 86 bs && leb 4 (length bs)) (fronted (get_or bs 2 0) (get_or bs 3 0) (drop 4 bs)) None (λ o. Some s ≡ o → Stands bs s)
    (λ m. fronted_stands (get_or bs 2 0) (get_or bs 3 0) bs s (leb-true 4 (length bs) (and_parts (marked 83 86 bs) (leb 4 (length bs)) m).1))
    (λ m. no_stream bs s)

-- an entry that is made from the places of a record's strings names its stream
pub entry_stands : (m : List ℕ) (a b : ℕ) (s : Stream) → Stands (between a b m) s → ends m (record { scheme = a + 4; value = a + 4 + length s.scheme; end = a + 4 + length s.scheme + length s.value }) ≡ behind a s
entry_stands m a b s h =
    let f = h.fits in
    let p = inside m a b 4 (length s.scheme) (omega arith) ∙ h.scheme in
    let q = inside m a b (4 + length s.scheme) (length s.value) (omega arith) ∙ h.value in
    let r : a + (4 + length s.scheme) ≡ a + 4 + length s.scheme = omega arith in
    let v : between (a + 4 + length s.scheme) (a + 4 + length s.scheme + length s.value) m ≡ s.value = subst (λ i. between i (i + length s.value) m ≡ s.value) r q in
    λ i. (a + 4 + length s.scheme + length s.value, record { scheme = p i; value = v i })
