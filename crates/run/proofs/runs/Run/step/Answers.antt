use Rattle.std.proofs.Common.{[], drop, Some, sym, ap, ◌∙◌, arith}
use Rattle.std.proofs.lemmas.List.{drop_all}
use Rattle.event.specs.Numbers.{answer, refusal}
use Rattle.catalogue.specs.Catalogues.{listed}
use Rattle.sink.specs.Lists.{held_in}
use Rattle.player.specs.Players.{state}
use Rattle.runsheet.specs.RunSheets.{commands_in}
use Rattle.run.specs.Lines.{behind, closing, reports}
use Rattle.run.specs.Runs.{holding, playing}
use Rattle.run.proofs.Reports.{behind_command, behind_end, behind_stop, idle_is, idle_pending, reported}
use Rattle.run.proofs.runs.Run.step.Goals as goal

pub returns-in_default-next-clause-lines : goal.returns-in_default-next-clause-lines
returns-in_default-next-clause-lines c =
    let r = c.args.self.now in
    let s = c.in-Some.script in
    let all = c.told-self.ensures in
    reported (holding r).told c.told-self.result r.count r.done (closing (playing r)) (idle_is r c.requires).fine (omega arith) ∙
    behind_end s.media.now (listed s.catalogue) s.sheet.count (playing r) (holding r) (commands_in s.sheet) c.in_default-next.ensures.reads.head ∙
    idle_pending r s c.requires c.in-Some.is

pub returns-in-Err-clause-lines : goal.returns-in-Err-clause-lines
returns-in-Err-clause-lines c =
    let r = c.args.self.now in
    let s = c.in-Some.script in
    let e = c.in-Err.refusal in
    let all = c.told-self.ensures in
    let next = c.in-Some-next.ensures in
    ap (λ ds. reports ds c.records_read-self.result (refusal e) (closing (playing r))) (drop_all c.told-self.result (holding r).told (omega arith)) ∙
    ap (λ n. reports [] n (refusal e) (closing (playing r))) (c.records_read-self.ensures ∙ next.adds) ∙
    behind_stop s.media.now (listed s.catalogue) s.sheet.count (playing r) (holding r) (commands_in s.sheet) e (ap Some (sym c.in-Err.is) ∙ next.reads.head) ∙
    idle_pending r s c.requires c.in-Some.is

pub returns-in-Ok-clause-lines : goal.returns-in-Ok-clause-lines
returns-in-Ok-clause-lines c =
    let r = c.args.self.now in
    let s = c.in-Some.script in
    let t = c.next.new.self in
    let next = c.in-Some-next.ensures in
    let w = state c.perform-self.new.player in
    let h = held_in c.perform-self.new.sink in
    let a = answer c.perform-self.result in
    let is = ap Some (sym c.in-Ok.is) ∙ next.reads.head in
    let counted = c.records_read-self.ensures ∙ next.adds in
    (λ i. reports (drop (c.told-self.ensures i) h.told) (counted i) a (behind (commands_in t) (next.adds i) s.media.now (listed s.catalogue) w h)) ∙
    behind_command s.media.now (listed s.catalogue) s.sheet.count (playing r) (holding r) (commands_in s.sheet) (commands_in t) c.in-Ok.command (a, w, h) is next.reads.rest c.perform-self.ensures ∙
    idle_pending r s c.requires c.in-Some.is
