-- What the opening of a run sheet leads to.
use Rattle.std.proofs.Common.{◌≡◌, ℕ, ◌+◌, true, leb, List, [], length, drop, Ok, Err, sym, ap, ◌∙◌, subst, arith}
use Rattle.std.specs.List.{between}
use Rattle.std.proofs.lemmas.List.{take_rest}
use Rattle.std.proofs.lemmas.Bool.{cond-true}
use Rattle.event.specs.Numbers.{refusal}
use Rattle.event.specs.Numbers.Answer.{did, refused}
use Rattle.event.specs.declared.refusals.Refusal.{Refusal}
use Rattle.media.specs.Stretches.{extent, left}
use Rattle.catalogue.specs.CatalogueWalks.{all_listed}
use Rattle.catalogue.specs.Catalogues.{listed}
use Rattle.runsheet.specs.Openings.{lengths, more, opening, opening_of, records_in}
use Rattle.runsheet.specs.RunSheets.{commands, commands_in}
use Rattle.runsheet.specs.declared.sheets.RunSheet.{RunSheet}
use Rattle.run.specs.Lines.{behind, closing, listed_in, opened, reports}
use Rattle.run.specs.Openings.{Opens}
use Rattle.run.specs.declared.openings.Opening.{Opening}
use Rattle.run.specs.declared.openings.Script.{Script}
use Rattle.run.proofs.Refusals.{none_listed, opened_refused}

-- a run sheet over the whole of m, before its first record
pub record Whole (m : List ℕ) (s : RunSheet) : Type 0 where
  pub short : leb (length m) 65536 ≡ true
  pub over : extent s.stretch ≡ record { media = m; from = 0; to = length m }
  pub place : s.place ≡ 0
  pub count : s.count ≡ 0

opening_whole : (m : List ℕ) (s : RunSheet) → Whole m s → opening_of s ≡ opening 0 m
opening_whole m s h =
    ap (λ p. opening p (left s.stretch p)) h.place ∙ ap (λ x. opening 0 (between 0 x.to x.media)) h.over ∙ ap (opening 0) (take_rest m 0)

-- the same run sheet behind its catalogue
pub record Behind (s t : RunSheet) : Type 0 where
  pub over : t.stretch ≡ s.stretch
  pub place : t.place ≡ s.place + lengths (opening_of s).items
  pub count : t.count ≡ more s.count (records_in (opening_of s))

module _ (m : List ℕ) (s t : RunSheet) (whole : Whole m s) (after : Behind s t) where
  place_is : t.place ≡ lengths (opening 0 m).items
  place_is =
      let p = after.place in let q = whole.place in let l = ap (λ o. lengths o.items) (opening_whole m s whole) in omega arith

  pub count_is : t.count ≡ more 0 (records_in (opening 0 m))
  count_is = after.count ∙ (λ i. more (whole.count i) (records_in (opening_whole m s whole i)))

  pub commands_are : commands_in t ≡ commands (lengths (opening 0 m).items) (drop (lengths (opening 0 m).items) m)
  commands_are =
      let n = lengths (opening 0 m).items in
      ap (λ p. commands p (left t.stretch p)) place_is ∙ ap (λ x. commands n (left x n)) after.over ∙
      ap (λ x. commands n (between n x.to x.media)) whole.over ∙ ap (commands n) (take_rest m n)

  -- a run sheet whose catalogue was read
  pub opens_listed : (o : Opening) (c : Script) (n : ℕ) → o ≡ record { script = Ok c; count = n } → c.sheet ≡ t → c.media.now ≡ m → did (listed c.catalogue) ≡ all_listed (opening_of s) → Opens m o
  opens_listed o c n is sheet media lists =
      let all : did (listed c.catalogue) ≡ all_listed (opening 0 m) = lists ∙ ap all_listed (opening_whole m s whole) in
      subst (Opens m) (sym is) (record {
        lines = λ w h.
            ap (λ x. behind (commands_in x) x.count c.media.now (listed c.catalogue) w h) sheet ∙
            (λ i. behind (commands_are i) (count_is i) (media i) (listed c.catalogue) w h) ∙
            ap (λ a. opened m (opening 0 m) a w h) all ∙
            sym (cond-true (leb (length m) 65536) (opened m (opening 0 m) (all_listed (opening 0 m)) w h) (reports [] 0 (refused 5) (closing w)) whole.short);
        streams = ap listed_in all ∙ sym (cond-true (leb (length m) 65536) (listed_in (all_listed (opening 0 m))) 0 whole.short);
      })

  -- a run sheet whose catalogue is refused
  pub opens_refused : (o : Opening) (n : ℕ) (e : Refusal) → o ≡ record { script = Err e; count = n } → n ≡ t.count → refusal e ≡ all_listed (opening_of s) → Opens m o
  opens_refused o n e is count lists =
      let all : refusal e ≡ all_listed (opening 0 m) = lists ∙ ap all_listed (opening_whole m s whole) in
      subst (Opens m) (sym is) (record {
        lines = λ w h.
            ap (λ k. reports [] k (refusal e) (closing w)) (count ∙ count_is) ∙
            opened_refused m (opening 0 m) e w h ∙
            ap (λ a. opened m (opening 0 m) a w h) all ∙
            sym (cond-true (leb (length m) 65536) (opened m (opening 0 m) (all_listed (opening 0 m)) w h) (reports [] 0 (refused 5) (closing w)) whole.short);
        streams = none_listed e ∙ ap listed_in all ∙ sym (cond-true (leb (length m) 65536) (listed_in (all_listed (opening 0 m))) 0 whole.short);
      })
