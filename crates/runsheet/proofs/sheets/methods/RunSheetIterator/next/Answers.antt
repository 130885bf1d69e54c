use Rattle.std.proofs.Common.{◌≡◌, true, false, eqb, length, sym, ap, ◌∙◌}
use Rattle.media.specs.Stretches.{left}
use Rattle.runsheet.specs.Commands.{command}
use Rattle.runsheet.proofs.CommandSteps.{at_command, at_end_lem, at_stop}
use Rattle.runsheet.proofs.sheets.methods.RunSheetIterator.next.Goals as goal

pub returns-then-is_empty-clause-reads : goal.returns-then-is_empty-clause-reads
returns-then-is_empty-clause-reads c =
    let s = c.args.self.now in
    let none : eqb (length (left s.stretch s.place)) 0 ≡ true = sym (c.if-is_empty.ensures ∙ ap (λ bs. eqb (length bs) 0) c.left-bytes.ensures) in
    at_end_lem s.stretch s.place none

pub returns-in-None-clause-reads : goal.returns-in-None-clause-reads
returns-in-None-clause-reads c =
    let s = c.args.self.now in
    let some : eqb (length (left s.stretch s.place)) 0 ≡ false = sym (c.if-is_empty.ensures ∙ ap (λ bs. eqb (length bs) 0) c.left-bytes.ensures) in
    at_stop s.stretch s.place some (c.in-None.ensures.value ∙ ap (command s.place) c.left-bytes.ensures)

pub returns-in-Some-clause-reads : goal.returns-in-Some-clause-reads
returns-in-Some-clause-reads c =
    let s = c.args.self.now in
    let some : eqb (length (left s.stretch s.place)) 0 ≡ false = sym (c.if-is_empty.ensures ∙ ap (λ bs. eqb (length bs) 0) c.left-bytes.ensures) in
    at_command s.stretch s.place c.in-Some.command c.in-Some.length some (c.in-Some.ensures.value ∙ ap (command s.place) c.left-bytes.ensures)
