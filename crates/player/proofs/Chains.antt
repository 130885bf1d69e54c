-- A chain of calls on values comes to what the calls mean.
use Rattle.std.proofs.Common.{◌≡◌, true, List, map, length, refl, ap, ◌∙◌, subst, arith}
use Rattle.event.specs.declared.modes.Mode.TheVariants.{OnStart}
use Rattle.event.specs.Feeds.{Coming}
use Rattle.event.specs.Sinks.{Held}
use Rattle.player.specs.declared.players.Player.{Player}
use Rattle.calls.specs.Once.{Once, none_active, since, stays_followed}
use Rattle.calls.specs.Runs.{Call, CallOn, World, after, does, done, runs}
use Rattle.calls.specs.Runs.CallOn.{follow}
use Rattle.calls.specs.Stops.{Agree}
use Rattle.player.specs.Values.{Chain, StopsChangeNoValue, ValuesHold, meant, seen_as}
use Rattle.player.specs.Values.Chain.{ends, then}
use Rattle.calls.proofs.Followed.{told_once}
use Rattle.calls.proofs.Lasting.{none_active_lem}
use Rattle.calls.proofs.Stopping.{stops_agree}
use Rattle.calls.proofs.Tallying.{tallied}

chain_runs : {F S : Type 0} (coming : F → Coming) (held : S → Held) {cs : List (CallOn F)} {p : Player} {s : S} {q : Player} {t : S} →
    Chain coming held cs p s q t → runs (map (meant coming) cs) (seen_as held p s) ≡ seen_as held q t
chain_runs coming held ends = refl
chain_runs coming held (then {cs = cs} a e r) = ap (λ x. runs (map (meant coming) cs) x.1) e ∙ chain_runs coming held r

pub stops_no_value : {F G S T : Type 0} (coming : F → Coming) (coming' : G → Coming) (held : S → Held) (held' : T → Held) → StopsChangeNoValue coming coming' held held'
stops_no_value coming coming' held held' n k m f p q s t new new' cs ds stopped p' q' s' t' chain chain' =
    let agree = stops_agree n k m f (seen_as held p s) (seen_as held' q t) new new' (map (meant coming) cs) (map (meant coming') ds) stopped in
    subst (λ v. Agree (seen_as held p' s') v) (chain_runs coming' held' chain')
    (subst (λ w. Agree w (runs (map (meant coming') ds) (seen_as held' q t))) (chain_runs coming held chain) agree)

pub values_hold : {F S : Type 0} (coming : F → Coming) (held : S → Held) → ValuesHold coming held
values_hold coming held = record {
  once = λ n k m f p q r s t u new before stream during chain chain' accepted stay.
      let calls : List Call = map (meant coming) during in
      let told : World → Type 0 = λ w. done (does (follow stream OnStart) w).0 ≡ true → stays_followed stream calls (after (follow stream OnStart) w) ≡ true → Once stream (since w (runs calls (after (follow stream OnStart) w))) in
      let at-values = subst told (chain_runs coming held chain) (told_once n k m f (seen_as held p s) new (map (meant coming) before) stream calls) accepted stay in
      subst (λ v. Once stream (since (seen_as held q t) v)) (chain_runs coming held chain') at-values;
  resting = λ n k m f p q s t new cs chain. subst (λ w. none_active w.player ≡ true) (chain_runs coming held chain) (none_active_lem n k m f (seen_as held p s) new (map (meant coming) cs));
  tally = λ n k m f p q s t new cs chain.
      let is = chain_runs coming held chain in
      omega (arith, tallied n k m f (seen_as held p s) new (map (meant coming) cs), ap (λ w. length w.sink.told) is, ap (λ w. length w.player.kept) is);
}
