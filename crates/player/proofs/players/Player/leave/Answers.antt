use Rattle.std.proofs.Common.{◌≡◌, false, refl, ap, arith, rules}
use Rattle.std.specs.Prelude.{slice_set}
use Rattle.event.specs.declared.modes.Mode.TheVariants.{Off}
use Rattle.tables.specs.Picks.{kept_in, used_in}
use Rattle.tables.specs.Tables.{without}
use Rattle.calls.specs.Follows.{is_off, mode_of}
use Rattle.calls.specs.State.{State}
use Rattle.calls.proofs.Leaving.{leaves_done}
use Rattle.player.specs.declared.players.Head.{Head}
use Rattle.player.specs.Players.{state}
use Rattle.player.specs.Rows.{items}
use Rattle.player.proofs.Soundness.{none_gone, forget_sound}
use Rattle.player.proofs.Telling.{behind_after}
use Rattle.player.proofs.players.Player.leave.Goals as goal

pub forget-forgotten-requires-clause-computes : goal.forget-forgotten-requires-clause-computes
forget-forgotten-requires-clause-computes c = (kept_in c.args.stream, λ x y k. search rules)

pub remove-requires-clause-computes : goal.remove-requires-clause-computes
remove-requires-clause-computes c = (used_in c.args.stream, λ x y k. search rules)

pub invariant_of-self : goal.invariant_of-self
invariant_of-self c =
    let q = c.forget-forgotten.new.self in
    let used-is = c.remove.ensures.items (used_in c.args.stream) (λ x y k. search rules) in
    let h : Head = record { streams = q.head.streams; playhead = q.head.playhead; modes = slice_set q.head.modes c.args.stream Off; kept_ids = q.head.kept_ids } in
    record { sound = forget_sound q h (items q.kept) (items c.remove.new.self) _ (λ k. false) (used_in c.args.stream) (none_gone (items q.kept)) used-is c.remove.ensures.behind.1 q.sound.0.0 refl }

pub returns-clause-after : goal.returns-clause-after
returns-clause-after c =
    let s = c.args.stream in
    let w = state c.args.self.now in
    let q = c.forget-forgotten.new.self in
    let after = c.forget-forgotten.ensures.after (kept_in s) (λ x y k. search rules) in
    let used-is = c.remove.ensures.items (used_in s) (λ x y k. search rules) in
    let off : is_off (mode_of w s) ≡ false = search rules in
    let gone = c.forget-forgotten.ensures.value (kept_in s) (λ x y k. search rules) in
    let left : State → State = λ v. record {
      streams = v.streams;
      playhead = v.playhead;
      modes = slice_set v.modes s Off;
      kept = v.kept;
      used = without (used_in s) v.used;
      places = v.places;
      id_places = v.id_places;
    } in
    let done = leaves_done s w (omega (arith, c.if-stream-count.false, c.count.ensures)) off in
    let is = ap left after in
    let places = c.remove.ensures.behind.1 in
    cc

pub returns-clause-lent : goal.returns-clause-lent
returns-clause-lent c =
    let p = c.args.self.now in
    let q = c.forget-forgotten.new.self in
    let after = c.forget-forgotten.ensures.after (kept_in c.args.stream) (λ x y k. search rules) in
    let lent = c.forget-forgotten.ensures.lent in
    (lent.0, behind_after p.used q.used c.remove.new.self lent.1 (ap (λ v. v.used) after) c.remove.ensures.behind)
