-- Layers over layers.
use Rattle.std.proofs.Common.{◌≡◌, ℕ, ◌+◌, Bool, true, false, cond, ◌&&◌, List, [], ◌∷◌, ◌++◌, map, sym, refl, ◌∙◌, append_assoc, add-zero, arith, Some, None, Option}
use Rattle.event.proofs.Clock.{known_by_ms, time_ms}
use Rattle.event.specs.Feeds.{Coming}
use Rattle.event.specs.Times.{time}
use Rattle.event.specs.declared.events.Event.{Event}
use Rattle.event.specs.declared.faults.Fault.{Fault}
use Rattle.layers.specs.Joins.{behind, joined}
use Rattle.layers.specs.Periods.{fits, moved, past_latest, fitting, stop, in_period}
use Rattle.std.proofs.lemmas.Bool.{cond_both}
use Rattle.std.proofs.lemmas.Bool.Decides.{nat_tests}

later_twice : (n p q : ℕ) → time ((time (n + q)).ms + p) ≡ time (n + (q + p))
later_twice n p q = known_by_ms _ _ (omega arith)

moved_twice : (p q : ℕ) (e : Event) → moved p (moved q e) ≡ moved (q + p) e
moved_twice p q e =
    let s = later_twice e.span.start.ms p q in let a = later_twice e.arrival.ms p q in cc

fits_twice : (p q : ℕ) (e : Event) → fits (q + p) e ≡ (fits q e && fits p (moved q e))
fits_twice p q e = grind (arith, nat_tests)

adds_records : (p q : ℕ) (es : List Event) → map (moved p) (fitting p (map (moved q) (fitting q es))) ≡ map (moved (q + p)) (fitting (q + p) es)
adds_records p q [] = refl
adds_records p q (e ∷ es) =
    let ih = adds_records p q es in let m = moved_twice p q e in let f = fits_twice p q e in grind (arith, nat_tests)

adds_stop : (p q : ℕ) (es : List Event) (g : Option Fault) → stop p (map (moved q) (fitting q es)) (stop q es g) ≡ stop (q + p) es g
adds_stop p q [] g = refl
adds_stop p q (e ∷ es) g =
    let ih = adds_stop p q es g in let f = fits_twice p q e in grind (arith, nat_tests)

-- a period within a period is one period, of both starts together
pub adds : (p q : ℕ) (c : Coming) → in_period p (in_period q c) ≡ in_period (q + p) c
adds p q c = let r = adds_records p q c.records in let s = adds_stop p q c.records c.ending in cc

moved_still : (e : Event) → moved 0 e ≡ e
moved_still e =
    let s : time (e.span.start.ms + 0) ≡ e.span.start = simp add-zero (time_ms e.span.start) in
    let a : time (e.arrival.ms + 0) ≡ e.arrival = simp add-zero (time_ms e.arrival) in
    λ i. record { stream = e.stream; id = e.id; span = record { start = s i; duration = e.span.duration }; arrival = a i; message = e.message }

fits_still : (e : Event) → fits 0 e ≡ true
fits_still e = let s = e.span.start.bounded in let a = e.arrival.bounded in grind (arith, nat_tests)

still_records : (es : List Event) → map (moved 0) (fitting 0 es) ≡ es
still_records [] = refl
still_records (e ∷ es) = let ih = still_records es in let m = moved_still e in let f = fits_still e in grind (arith)

still_stop : (es : List Event) (g : Option Fault) → stop 0 es g ≡ g
still_stop [] g = refl
still_stop (e ∷ es) g = let ih = still_stop es g in let f = fits_still e in grind (arith)

-- a period that starts at 0 changes nothing
pub still : (c : Coming) → in_period 0 c ≡ c
still c = λ i. record { records = still_records c.records i; ending = still_stop c.records c.ending i }

-- a fault of the first feed stays behind its records
broken_through : (p : ℕ) (es : List Event) (f : Fault) (rs : List Event) (c : Coming) → behind rs (stop p es (Some f)) c ≡ record { records = rs; ending = stop p es (Some f) }
broken_through p [] f rs c = refl
broken_through p (e ∷ es) f rs c =
    cond_both (fits p e) (stop p es (Some f)) (Some (past_latest e)) (λ g. behind rs g c ≡ record { records = rs; ending = g }) (λ _. broken_through p es f rs c) (λ _. refl)

-- one record more in front
behind_more : (e : Event) (es : List Event) (g : Option Fault) (c : Coming) → record { records = e ∷ (behind es g c).records; ending = (behind es g c).ending } ≡ behind (e ∷ es) g c
behind_more e es None c = refl
behind_more e es (Some f) c = refl

through_step : (b : Bool) (p : ℕ) (e : Event) (es fs : List Event) (g h : Option Fault) (c : Coming) → record { records = map (moved p) es; ending = g } ≡ behind (map (moved p) fs) h c → record { records = map (moved p) (cond b (e ∷ es) []); ending = cond b g (Some (past_latest e)) } ≡ behind (map (moved p) (cond b (e ∷ fs) [])) (cond b h (Some (past_latest e))) c
through_step true p e es fs g h c ih = (λ i. record { records = moved p e ∷ (ih i).records; ending = (ih i).ending }) ∙ behind_more (moved p e) (map (moved p) fs) h c
through_step false p e es fs g h c ih = refl

through_at : (p : ℕ) (es : List Event) (g : Option Fault) (c : Coming) → in_period p (behind es g c) ≡ behind (map (moved p) (fitting p es)) (stop p es g) (in_period p c)
through_at p es (Some f) c = sym (broken_through p es f (map (moved p) (fitting p es)) (in_period p c))
through_at p [] None c = refl
through_at p (e ∷ es) None c =
    through_step (fits p e) p e (fitting p (es ++ c.records)) (fitting p es) (stop p (es ++ c.records) c.ending) (stop p es None) (in_period p c) (through_at p es None c)

-- a period over a join is a join of periods
pub through : (p : ℕ) (b c : Coming) → in_period p (joined b c) ≡ joined (in_period p b) (in_period p c)
through p b c = through_at p b.records b.ending c

chains_at : (es fs : List Event) (g h : Option Fault) (c : Coming) → joined (behind es g (record { records = fs; ending = h })) c ≡ behind es g (behind fs h c)
chains_at es fs None None c = let a = append_assoc es fs c.records in cc
chains_at es fs None (Some f) c = refl
chains_at es fs (Some f) h c = refl

-- three feeds join in one way
pub chains : (a b c : Coming) → joined (joined a b) c ≡ joined a (joined b c)
chains a b c = chains_at a.records b.records a.ending b.ending c
