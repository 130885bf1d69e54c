use Rattle.player.proofs.Chains.{stops_no_value, values_hold}
use Rattle.player.proofs.runs.runs_hold.Goals as goal

pub returns : goal.returns
returns g c = record {
  stops_change_nothing = stops_no_value g.F.Feed.coming g.G.Feed.coming g.S.Sink.held g.T.Sink.held;
  first_holds = values_hold g.F.Feed.coming g.S.Sink.held;
  second_holds = values_hold g.G.Feed.coming g.T.Sink.held;
}
