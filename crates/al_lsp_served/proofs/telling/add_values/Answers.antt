use Rattle.std.proofs.Common.{map}
use Rattle.serde_json.specs.View.{view}
use Rattle.al_lsp_served.specs.Told.{placed_data}
use Rattle.al_lsp_served.proofs.Lists.{values_more}
use Rattle.al_lsp_served.proofs.telling.add_values.Goals as goal

pub loop-placed-preserved : goal.loop-placed-preserved
loop-placed-preserved c = values_more placed_data c.args.list.now c.loop-placed.placed-index _ (map view c.args.values.now.items) _ _ c.loop-placed-test.true c.loop-placed.invariant c.in_ok-add_value.ensures
