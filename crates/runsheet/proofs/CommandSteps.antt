-- One turn over the commands of a run sheet.
use Rattle.std.proofs.Common.{◌≡◌, ℕ, ◌+◌, true, false, eqb, length, drop, Some, None, Ok, Err, sym, refl, ap, ◌∙◌, subst}
use Rattle.std.proofs.lemmas.Bool.{cond_both, cond-false, cond-true}
use Rattle.event.specs.declared.refusals.Refusal.{Refusal}
use Rattle.event.specs.declared.refusals.Refusal.TheVariants.{RunSheetRecord}
use Rattle.media.specs.Stretches.{left}
use Rattle.media.specs.Walks.{Forward, Goes, onward}
use Rattle.media.specs.declared.stretches.Stretch.{Stretch}
use Rattle.media.specs.declared.walks.Turn.{Turn}
use Rattle.media.specs.declared.walks.Turn.TheVariants.{Clean, Broken, Gives}
use Rattle.media.proofs.Parts as parts
use Rattle.media.proofs.Turns.{given_is}
use Rattle.runsheet.specs.Commands.{Read, command}
use Rattle.runsheet.specs.RunSheets.{Commands, Reads, command_turn, commands, turn_of}
use Rattle.runsheet.specs.declared.commands.Command.{Command}
use Rattle.runsheet.proofs.Reading.{Fits, command_fits}

goes_from : (n : ℕ) (r : Read) → Fits n r → Goes n (turn_of r)
goes_from n None h = tt
goes_from n (Some (c, k)) h = h

forward : Forward command_turn
forward u at bs = cond_both (eqb (length bs) 0) Clean (turn_of (command at bs)) (Goes (length bs)) (λ _. tt) (λ _. goes_from (length bs) (command at bs) (command_fits at bs))

-- the commands from a place of a stretch on
abbrev pub on_from : Stretch → ℕ → Commands
on_from s at = commands at (left s at)

on_from_lem : (s : Stretch) (at : ℕ) (t : Turn Command Refusal (Unit {0})) → command_turn tt at (left s at) ≡ t → on_from s at ≡ onward t (λ u k. on_from s (at + k))
on_from_lem s at t e =
    given_is command_turn forward tt at (left s at) ∙ ap (λ x. onward x (λ u k. commands (at + k) (drop k (left s at)))) e ∙
    (λ i. onward t (λ u k. commands (at + k) (parts.behind s.media.now at s.to k i)))

pub at_end_lem : (s : Stretch) (at : ℕ) → eqb (length (left s at)) 0 ≡ true → Reads (on_from s at) (on_from s at) None
at_end_lem s at h =
    let turn = on_from_lem s at Clean (cond-true (eqb (length (left s at)) 0) Clean (turn_of (command at (left s at))) h) in
    subst (λ w. Reads w w None) (sym turn) (record { head = refl; rest = refl })

pub at_stop : (s : Stretch) (at : ℕ) → eqb (length (left s at)) 0 ≡ false → None ≡ command at (left s at) → Reads (on_from s at) (on_from s at) (Some (Err RunSheetRecord))
at_stop s at h e =
    let turn = on_from_lem s at (Broken RunSheetRecord) (cond-false (eqb (length (left s at)) 0) Clean (turn_of (command at (left s at))) h ∙ ap turn_of (sym e)) in
    subst (λ w. Reads w w (Some (Err RunSheetRecord))) (sym turn) (record { head = refl; rest = refl })

pub at_command : (s : Stretch) (at : ℕ) (c : Command) (n : ℕ) → eqb (length (left s at)) 0 ≡ false → ◌≡◌ {A = Read} (Some (c, n)) (command at (left s at)) → Reads (on_from s at) (on_from s (at + n)) (Some (Ok c))
at_command s at c n h e =
    let turn = on_from_lem s at (Gives c tt n) (cond-false (eqb (length (left s at)) 0) Clean (turn_of (command at (left s at))) h ∙ ap turn_of (sym e)) in
    subst (λ w. Reads w (on_from s (at + n)) (Some (Ok c))) (sym turn) (record { head = refl; rest = refl })
