use Rattle.std.proofs.Common.{◌≡◌, ◌++◌, take, map}
use Rattle.std.specs.List.{flat_map}
use Rattle.al_unit_graph.specs.Views.{mention_model}
use Rattle.al_check_start.specs.Starts.{declarations}
use Rattle.al_check_start.proofs.named.add_mentioned.Given as goal

abbrev pub invariant-loop-mention : goal.invariant-loop-mention
invariant-loop-mention l = l.units.items ≡ l.fn.units.items ++ flat_map (λ m. declarations m.name) (map mention_model (take l.mention-index l.mentions))
