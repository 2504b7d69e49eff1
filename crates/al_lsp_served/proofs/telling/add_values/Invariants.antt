use Rattle.std.proofs.Common.{◌≡◌, ◌++◌, map, take}
use Rattle.serde_json.specs.View.{view}
use Rattle.al_lsp_served.specs.Told.{placed_data}
use Rattle.al_lsp_served.proofs.telling.add_values.Given as goal

abbrev pub invariant-loop-placed : goal.invariant-loop-placed
invariant-loop-placed l = map view l.values.items ≡ map view l.fn.values.items ++ map placed_data (take l.placed-index l.list)
