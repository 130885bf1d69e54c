-- One turn over the catalogue records at the front of a run sheet.
use Rattle.std.proofs.Common.{◌≡◌, ℕ, suc, ◌+◌, min, true, false, eqb, List, [], ◌∷◌, ◌++◌, length, drop, None, sym, ap, ◌∙◌, subst, append_assoc, append-nil, arith}
use Rattle.std.proofs.lemmas.List.{length_push}
use Rattle.std.proofs.lemmas.Bool.{cond_both, cond-false, cond-true, ne_eqb}
use Rattle.event.specs.Numbers.{refusal}
use Rattle.event.specs.declared.refusals.Refusal.{Refusal}
use Rattle.media.specs.Stretches.{left}
use Rattle.media.specs.Walks.{Forward, Goes, given, onward}
use Rattle.media.specs.declared.stretches.Stretch.{Stretch}
use Rattle.media.specs.declared.walks.Turn.TheVariants.{Clean, Broken, Gives}
use Rattle.media.proofs.Parts as parts
use Rattle.media.proofs.Turns.{given_is}
use Rattle.catalogue.specs.CatalogueWalks.{CatalogueTurn, all_listed, record_turn}
use Rattle.catalogue.specs.Catalogues.{added}
use Rattle.catalogue.specs.Pairs.{Stream, listing}
use Rattle.catalogue.proofs.CatalogueSteps.{Listed, before, catalogue_forward, long, refused_from}
use Rattle.catalogue.proofs.Refused.{same_refusal}
use Rattle.runsheet.specs.Commands.{marked}
use Rattle.runsheet.specs.Openings.{Opening, lengths, more, opening_turn, records_in}

opening_forward : Forward opening_turn
opening_forward ts at [] = tt
opening_forward ts at (b ∷ bs) =
    let some : eqb (length (b ∷ bs)) 0 ≡ false = ne_eqb (length (b ∷ bs)) 0 (λ z. omega arith) in
    cond_both (marked 83 86 (b ∷ bs)) (record_turn ts (listing (b ∷ bs))) Clean (Goes (length (b ∷ bs)))
    (λ _. subst (Goes (length (b ∷ bs))) (cond-false (eqb (length (b ∷ bs)) 0) Clean (record_turn ts (listing (b ∷ bs))) some) (catalogue_forward ts at (b ∷ bs)))
    (λ _. tt)

-- what is left to walk over from a place of a stretch on, with the streams ts listed
abbrev pub on_from : Stretch → ℕ → List Stream → Opening
on_from s at ts = given opening_turn ts at (left s at)

on_from_lem : (s : Stretch) (at : ℕ) (ts : List Stream) (t : CatalogueTurn) → opening_turn ts at (left s at) ≡ t → on_from s at ts ≡ onward t (λ us k. on_from s (at + k) us)
on_from_lem s at ts t e =
    given_is opening_turn opening_forward ts at (left s at) ∙ ap (λ x. onward x (λ us k. given opening_turn us (at + k) (drop k (left s at)))) e ∙
    (λ i. onward t (λ us k. given opening_turn us (at + k) (parts.behind s.media.now at s.to k i)))

-- another mark ends the opening
pub at_end_lem : (s : Stretch) (at : ℕ) (ts : List Stream) → marked 83 86 (left s at) ≡ false → before ts (on_from s at ts) ≡ record { items = ts; stop = None }
at_end_lem s at ts h =
    ap (before ts) (on_from_lem s at ts Clean (cond-false (marked 83 86 (left s at)) (record_turn ts (listing (left s at))) Clean h)) ∙
    ap (λ us. record { items = us; stop = None }) (append-nil ts)

-- the opening stops at that record
pub record Stopped (w : Opening) (ts : List Stream) (e : Refusal) : Type 0 where
  pub lists : refusal {X = List Stream} e ≡ all_listed w
  pub long_as : lengths ts ≡ lengths w.items
  pub records : length ts + 1 ≡ records_in w

pub at_stop : (s : Stretch) (at : ℕ) (ts : List Stream) (e : Refusal) → marked 83 86 (left s at) ≡ true → (refusal e, ts) ≡ added at (listing (left s at)) ts → Stopped (before ts (on_from s at ts)) ts e
at_stop s at ts e h q =
    let r = refused_from at ts (refusal e) (listing (left s at)) q in
    let turn = on_from_lem s at ts (Broken r.0) (cond-true (marked 83 86 (left s at)) (record_turn ts (listing (left s at))) Clean h ∙ r.1) in
    subst (λ w. Stopped (before ts w) ts e) (sym turn) (record {
      lists = same_refusal ℕ (List Stream) e r.0 r.2;
      long_as = ap lengths (sym (append-nil ts));
      records = ap (λ us. length us + 1) (sym (append-nil ts));
    })

-- a record that is listed
pub at_listed : (s : Stretch) (at place : ℕ) (ts us : List Stream) → marked 83 86 (left s at) ≡ true → Listed at place ts us (listing (left s at)) → before us (on_from s place us) ≡ before ts (on_from s at ts)
at_listed s at place ts us h l =
    let w : Opening = on_from s (at + long l.one) us in
    let turned : on_from s at ts ≡ record { items = l.one ∷ w.items; stop = w.stop } =
    on_from_lem s at ts (Gives l.one us (long l.one)) (cond-true (marked 83 86 (left s at)) (record_turn ts (listing (left s at))) Clean h ∙ l.turn) in
    ap (λ p. before us (on_from s p us)) l.place_is ∙ ap (λ x. before x w) l.list_is ∙
    ap (λ x. record { items = x; stop = w.stop }) (append_assoc ts (l.one ∷ []) w.items) ∙
    ap (before ts) (sym turned)

lengths_push : (ts : List Stream) (s : Stream) → lengths (ts ++ s ∷ []) ≡ lengths ts + long s
lengths_push [] s = omega arith
lengths_push (t ∷ ts) s = let ih = lengths_push ts s in omega arith

pub lengths_listed : (s : Stretch) (start at place : ℕ) (ts us : List Stream) → Listed at place ts us (listing (left s at)) → at ≡ start + lengths ts → place ≡ start + lengths us
lengths_listed s start at place ts us l e =
    let p = lengths_push ts l.one in let q = ap lengths l.list_is in let r = l.place_is in omega arith

one_more : (first n m k j : ℕ) → n ≡ more first k → m ≡ min (n + 1) 18446744073709551615 → j ≡ suc k → m ≡ more first j
one_more first n m k j e f g = f ∙ ap (λ x. min (x + 1) 18446744073709551615) e ∙ ap (more first) (sym g)

pub count_listed : (s : Stretch) (first n m at place : ℕ) (ts us : List Stream) → Listed at place ts us (listing (left s at)) → n ≡ more first (length ts) → m ≡ min (n + 1) 18446744073709551615 → m ≡ more first (length us)
count_listed s first n m at place ts us l e f =
    let p = length_push ts l.one in let q = ap length l.list_is in one_more first n m (length ts) (length us) e f (omega arith)

pub count_refused : (first n m k : ℕ) (ts : List Stream) → n ≡ more first (length ts) → m ≡ min (n + 1) 18446744073709551615 → length ts + 1 ≡ k → m ≡ more first k
count_refused first n m k ts e f g = one_more first n m (length ts) k e f (omega arith)
