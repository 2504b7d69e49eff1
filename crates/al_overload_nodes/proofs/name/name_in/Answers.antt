use Rattle.std.proofs.Common.{sym, ap, ◌∙◌}
use Rattle.al_overload_nodes.specs.Names.{name_in}
use Rattle.al_overload_nodes.proofs.Seen.{typed_layers}
use Rattle.al_overload_nodes.proofs.name.name_in.Goals as goal

pub returns : goal.returns
returns c = c.name_of.ensures ∙ sym (ap name_in (typed_layers c.args.typed))
