use Rattle.std.proofs.Common.{sym, ap, ◌∙◌}
use Rattle.al_overload_nodes.specs.Nodes.{grouped_tree}
use Rattle.al_overload_nodes.proofs.Seen.{typed_layers}
use Rattle.al_overload_nodes.proofs.node.grouped_tree.Goals as goal

pub returns : goal.returns
returns c = c.new.ensures ∙ sym (ap (grouped_tree c.args.place) (typed_layers c.args.typed))
