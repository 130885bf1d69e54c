-- One turn of a walk over the records of a catalogue.
use Rattle.std.proofs.Common.{◌≡◌, ℕ, ◌+◌, ◌≤◌, true, false, cond, not, eqb, leb, List, [], ◌∷◌, ◌++◌, length, drop, is_some, Some, None, Option, sym, refl, ap, ◌∙◌, append_assoc, append-nil, arith, ◌<◌}
use Rattle.std.proofs.lemmas.List.{length_push}
use Rattle.std.proofs.lemmas.Bool.{cond_both, cond-false, cond-true}
use Rattle.event.specs.Numbers.{Answer, refusal}
use Rattle.event.specs.Numbers.Answer.{did}
use Rattle.event.specs.declared.refusals.Refusal.{Refusal}
use Rattle.event.specs.declared.refusals.Refusal.TheVariants.{CatalogueRecord, CatalogueString, ListedTwice, CatalogueFull}
use Rattle.media.specs.Stretches.{left}
use Rattle.media.specs.Walks.{Forward, Goes, Walked, given, onward}
use Rattle.media.specs.declared.stretches.Stretch.{Stretch}
use Rattle.media.specs.declared.walks.Turn.TheVariants.{Clean, Broken, Gives}
use Rattle.media.proofs.Parts as parts
use Rattle.media.proofs.Parts.{part_fits}
use Rattle.media.proofs.Turns.{given_is}
use Rattle.catalogue.specs.CatalogueWalks.{CatalogueTurn, admitted, all_listed, catalogue_turn, record_turn}
use Rattle.catalogue.specs.Catalogues.{added, behind, flaw, number, settled}
use Rattle.catalogue.specs.Pairs.{Stream, listing, proper}
use Rattle.catalogue.proofs.Refused.{same_refusal}
use Rattle.catalogue.proofs.Strings.{stands}

-- the length of a record
abbrev pub long : Stream → ℕ
long s = 4 + length s.scheme + length s.value

admitted_forward : (ts : List Stream) (s : Stream) (o : Option Refusal) (n : ℕ) → long s ≤ n → Goes n (admitted ts s o)
admitted_forward ts s None n h = (omega arith, h)
admitted_forward ts s (Some e) n h = tt

record_forward : (ts : List Stream) (n : ℕ) (o : Option Stream) → ((s : Stream) → Some s ≡ o → long s ≤ n) → Goes n (record_turn ts o)
record_forward ts n None h = tt
record_forward ts n (Some s) h = admitted_forward ts s (flaw s ts) n (h s refl)

pub catalogue_forward : Forward catalogue_turn
catalogue_forward ts at bs =
    cond_both (eqb (length bs) 0) Clean (record_turn ts (listing bs)) (Goes (length bs)) (λ _. tt) (λ _. record_forward ts (length bs) (listing bs) (λ s e. (stands bs s e).fits))

-- a record that was listed
pub record Listed (at place : ℕ) (ts us : List Stream) (o : Option Stream) : Type 0 where
  pub one : Stream
  pub found : Some one ≡ o
  pub turn : record_turn ts o ≡ Gives one us (long one)
  pub place_is : place ≡ at + long one
  pub list_is : us ≡ ts ++ one ∷ []
  pub fine : None ≡ flaw one ts

record Settled (at place : ℕ) (ts us : List Stream) (s : Stream) (q : Option Refusal) : Type 0 where
  turn : admitted ts s q ≡ Gives s us (long s)
  place_is : place ≡ at + long s
  list_is : us ≡ ts ++ s ∷ []
  fine : None ≡ q

refused_not_listed : (at place : ℕ) (ts us : List Stream) (s : Stream) (e : Refusal) → (did place ≡ refusal e → ⊥) → (did place, us) ≡ settled (Some e) (behind at s) ts → Settled at place ts us s (Some e)
refused_not_listed at place ts us s e never q = absurd (never (ap (λ p. p.0) q))

free_is_listed : (at place : ℕ) (ts us : List Stream) (s : Stream) → (did place, us) ≡ settled None (behind at s) ts → Settled at place ts us s None
free_is_listed at place ts us s q =
    let l : us ≡ ts ++ s ∷ [] = ap (λ p. p.1) q in
    let d : did place ≡ did (at + 4 + length s.scheme + length s.value) = ap (λ p. p.0) q in
    let n : place ≡ at + 4 + length s.scheme + length s.value = cc in
    record { turn = ap (λ x. Gives s x (long s)) (sym l); place_is = omega arith; list_is = l; fine = refl }

listed_settled : (at place : ℕ) (ts us : List Stream) (s : Stream) → (did place, us) ≡ settled (flaw s ts) (behind at s) ts → Settled at place ts us s (flaw s ts)
listed_settled at place ts us s =
    cond_both (not (proper s)) (Some CatalogueString) (cond (is_some (number s ts)) (Some ListedTwice) (cond (leb 32 (length ts)) (Some CatalogueFull) None)) (λ q. (did place, us) ≡ settled q (behind at s) ts → Settled at place ts us s q)
    (λ _. refused_not_listed at place ts us s CatalogueString (λ e. let z : ◌≡◌ {A = ℕ} 0 1 = cc in omega arith))
    (λ _. cond_both (is_some (number s ts)) (Some ListedTwice) (cond (leb 32 (length ts)) (Some CatalogueFull) None) (λ q. (did place, us) ≡ settled q (behind at s) ts → Settled at place ts us s q)
    (λ _. refused_not_listed at place ts us s ListedTwice (λ e. let z : ◌≡◌ {A = ℕ} 0 1 = cc in omega arith))
    (λ _. cond_both (leb 32 (length ts)) (Some CatalogueFull) None (λ q. (did place, us) ≡ settled q (behind at s) ts → Settled at place ts us s q)
    (λ _. refused_not_listed at place ts us s CatalogueFull (λ e. let z : ◌≡◌ {A = ℕ} 0 1 = cc in omega arith))
    (λ _. free_is_listed at place ts us s)))

pub listed_from : (at place : ℕ) (ts us : List Stream) (o : Option Stream) → (did place, us) ≡ added at o ts → Listed at place ts us o
listed_from at place ts us None e =
    let q : did place ≡ refusal CatalogueRecord = ap (λ p. p.0) e in
    let z : ◌≡◌ {A = ℕ} 0 1 = cc in absurd (omega arith)
listed_from at place ts us (Some s) e =
    let h = listed_settled at place ts us s e in
    record { one = s; found = refl; turn = h.turn; place_is = h.place_is; list_is = h.list_is; fine = h.fine }

-- a record that was refused, with its list unchanged
refused_settled : (at : ℕ) (ts : List Stream) (a : Answer ℕ) (s : Stream) (q : Option Refusal) → (a, ts) ≡ settled q (behind at s) ts → (e : Refusal) × (admitted ts s q ≡ Broken e) × (a ≡ refusal e)
refused_settled at ts a s None e =
    let l : length ts ≡ length (ts ++ s ∷ []) = ap (λ p. length p.1) e in absurd (omega (arith, length_push ts s))
refused_settled at ts a s (Some x) e = (x, refl, ap (λ p. p.0) e)

pub refused_from : (at : ℕ) (ts : List Stream) (a : Answer ℕ) (o : Option Stream) → (a, ts) ≡ added at o ts → (e : Refusal) × (record_turn ts o ≡ Broken e) × (a ≡ refusal e)
refused_from at ts a None e = (CatalogueRecord, refl, ap (λ p. p.0) e)
refused_from at ts a (Some s) e = refused_settled at ts a s (flaw s ts) e

-- what is left to walk over from a place of a stretch on, with the streams ts listed
abbrev pub on_from : Stretch → ℕ → List Stream → Walked Stream Refusal
on_from s at ts = given catalogue_turn ts at (left s at)

-- a walk behind streams that are listed already
abbrev pub before : List Stream → Walked Stream Refusal → Walked Stream Refusal
before ts w = record { items = ts ++ w.items; stop = w.stop }

on_from_lem : (s : Stretch) (at : ℕ) (ts : List Stream) (t : CatalogueTurn) → catalogue_turn ts at (left s at) ≡ t → on_from s at ts ≡ onward t (λ us k. on_from s (at + k) us)
on_from_lem s at ts t e =
    given_is catalogue_turn catalogue_forward ts at (left s at) ∙ ap (λ x. onward x (λ us k. given catalogue_turn us (at + k) (drop k (left s at)))) e ∙
    (λ i. onward t (λ us k. given catalogue_turn us (at + k) (parts.behind s.media.now at s.to k i)))

-- the end of the walk
pub at_end_lem : (s : Stretch) (at : ℕ) (ts : List Stream) → eqb (length (left s at)) 0 ≡ true → did ts ≡ all_listed (before ts (on_from s at ts))
at_end_lem s at ts h =
    ap did (sym (append-nil ts)) ∙
    ap (λ w. all_listed (before ts w)) (sym (on_from_lem s at ts Clean (cond-true (eqb (length (left s at)) 0) Clean (record_turn ts (listing (left s at))) h)))

-- a record that stops the walk
at_refused : (s : Stretch) (at : ℕ) (ts : List Stream) (e : Refusal) → eqb (length (left s at)) 0 ≡ false → record_turn ts (listing (left s at)) ≡ Broken e → refusal e ≡ all_listed (before ts (on_from s at ts))
at_refused s at ts e h q =
    ap (λ w. all_listed (before ts w)) (sym (on_from_lem s at ts (Broken e) (cond-false (eqb (length (left s at)) 0) Clean (record_turn ts (listing (left s at))) h ∙ q)))

-- a record that is refused, with the list unchanged
pub at_stop : (s : Stretch) (at : ℕ) (ts : List Stream) (e : Refusal) → eqb (length (left s at)) 0 ≡ false → (refusal e, ts) ≡ added at (listing (left s at)) ts → refusal e ≡ all_listed (before ts (on_from s at ts))
at_stop s at ts e h q =
    let r = refused_from at ts (refusal e) (listing (left s at)) q in
    same_refusal ℕ (List Stream) e r.0 r.2 ∙ at_refused s at ts r.0 h r.1

-- a record that is listed
pub at_listed : (s : Stretch) (at place : ℕ) (ts us : List Stream) → eqb (length (left s at)) 0 ≡ false → Listed at place ts us (listing (left s at)) → before us (on_from s place us) ≡ before ts (on_from s at ts)
at_listed s at place ts us h l =
    let w : Walked Stream Refusal = on_from s (at + long l.one) us in
    let turned : on_from s at ts ≡ record { items = l.one ∷ w.items; stop = w.stop } =
    on_from_lem s at ts (Gives l.one us (long l.one)) (cond-false (eqb (length (left s at)) 0) Clean (record_turn ts (listing (left s at))) h ∙ l.turn) in
    ap (λ p. before us (on_from s p us)) l.place_is ∙ ap (λ x. before x w) l.list_is ∙
    ap (λ x. record { items = x; stop = w.stop }) (append_assoc ts (l.one ∷ []) w.items) ∙
    ap (before ts) (sym turned)

-- it ends within the stretch
pub listed_within : (s : Stretch) (at place : ℕ) (ts us : List Stream) → Listed at place ts us (listing (left s at)) → (at < place) × (place ≤ s.to)
listed_within s at place ts us l =
    let f = (stands (left s at) l.one l.found).fits in
    let p = part_fits s.media.now at s.to in
    let q = l.place_is in (omega arith, omega arith)
