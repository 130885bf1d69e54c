-- What a step of a run leaves to report.
use Rattle.std.proofs.Common.{◌≡◌, ℕ, ◌≤◌, true, ◌&&◌, leb, List, [], ◌∷◌, ◌++◌, length, drop, is_some, is_ok, Some, None, Ok, Err, Option, Result, sym, refl, ap, ◌∙◌}
use Rattle.std.proofs.lemmas.List.{drop_all}
use Rattle.std.proofs.lemmas.Bool.{and_parts, leb-true}
use Rattle.event.specs.Numbers.{answer, refusal}
use Rattle.event.specs.Sinks.{Held}
use Rattle.event.specs.declared.dispatches.Dispatch.{Dispatch}
use Rattle.event.specs.declared.refusals.Refusal.{Refusal}
use Rattle.catalogue.specs.Pairs.{Stream}
use Rattle.calls.specs.State.{State}
use Rattle.runsheet.specs.Openings.{more}
use Rattle.runsheet.specs.RunSheets.{Commands, first_of, head_of, rest_of}
use Rattle.runsheet.specs.declared.commands.Command.{Command}
use Rattle.effects.specs.Effects.{After, performs}
use Rattle.lines.specs.declared.lines.Line.{Line}
use Rattle.run.specs.Lines.{behind, closing, cues, performed, reports, since}
use Rattle.run.specs.Openings.{onward}
use Rattle.run.specs.Runs.{holding, idle, pending, playing}
use Rattle.run.specs.declared.openings.Script.{Script}
use Rattle.run.specs.declared.runs.Run.{Run}

module _ (media : List ℕ) (streams : List Stream) (n : ℕ) (w : State) (h : Held) where
  ended : (cs : List Command) (x : Option Refusal) → None ≡ first_of cs x → closing w ≡ performed cs x n media streams w h
  ended [] None e = refl
  ended [] (Some x) e = cc
  ended (c ∷ cs) x e = cc

  -- at the end of the run sheet
  pub behind_end : (v : Commands) → None ≡ head_of v → closing w ≡ behind v n media streams w h
  behind_end v e = ended v.items v.stop e

  stopped : (cs : List Command) (x : Option Refusal) (e : Refusal) → Some (Err e) ≡ first_of cs x → reports [] (more n 1) (refusal e) (closing w) ≡ performed cs x n media streams w h
  stopped [] None e q = cc
  stopped [] (Some x) e q = let s : e ≡ x = cc in ap (λ y. reports [] (more n 1) (refusal y) (closing w)) s
  stopped (c ∷ cs) x e q = cc

  -- at a record that stops the reading
  pub behind_stop : (v : Commands) (e : Refusal) → Some (Err e) ≡ head_of v → reports [] (more n 1) (refusal e) (closing w) ≡ behind v n media streams w h
  behind_stop v e q = stopped v.items v.stop e q

  abbrev after : After → Commands → List Line
  after a v = reports (since h a.2) (more n 1) a.0 (behind v (more n 1) media streams a.1 a.2)

  taken : (c : Command) (cs : List Command) (x : Option Refusal) → Some (Ok c) ≡ first_of cs x → after (performs c media streams w h) (record { items = drop 1 cs; stop = x }) ≡ performed cs x n media streams w h
  taken c [] None e = cc
  taken c [] (Some x) e = cc
  taken c (d ∷ cs) x e = let s : c ≡ d = cc in ap (λ y. after (performs y media streams w h) (record { items = cs; stop = x })) s

  -- at a command
  pub behind_command : (v u : Commands) (c : Command) (a : After) → Some (Ok c) ≡ head_of v → u ≡ rest_of v → a ≡ performs c media streams w h → after a u ≡ behind v n media streams w h
  behind_command v u c a e r p = (λ i. after (p i) (r i)) ∙ taken c v.items v.stop e

-- what is pending once all of it is reported
pub reported : (ds : List Dispatch) (k n : ℕ) (d : Result (Unit {0}) Refusal) (ls : List Line) → is_ok d ≡ true → length ds ≤ k → reports (drop k ds) n (answer d) ls ≡ ls
reported ds k n (Ok u) ls e h = ap (λ x. cues x ++ ls) (drop_all k ds h)
reported ds k n (Err x) ls e h = cc

pub record Idle (r : Run) : Type 0 where
  pub reading : is_some r.script ≡ true
  pub fine : is_ok r.done ≡ true
  pub all : length (holding r).told ≤ r.shown

pub idle_is : (r : Run) → idle r ≡ true → Idle r
idle_is r e =
    let p = and_parts (is_some r.script) (is_ok r.done && leb (length (holding r).told) r.shown) e in
    let q = and_parts (is_ok r.done) (leb (length (holding r).told) r.shown) p.1 in
    record { reading = p.0; fine = q.0; all = leb-true (length (holding r).told) r.shown q.1 }

-- a run that is idle reports what its script leads to
pub idle_pending : (r : Run) (s : Script) → idle r ≡ true → r.script ≡ Some s → onward (Some s) (playing r) (holding r) ≡ pending r
idle_pending r s e q =
    let i = idle_is r e in
    ap (λ o. onward o (playing r) (holding r)) (sym q) ∙
    sym (reported (holding r).told r.shown r.count r.done (onward r.script (playing r) (holding r)) i.fine i.all)
