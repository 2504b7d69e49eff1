use Rattle.std.proofs.Common.{sym, ap, ◌∙◌}
use Rattle.al_overload_nodes.specs.Calls.{variable_actual}
use Rattle.al_overload_nodes.proofs.Seen.{typed_layers}
use Rattle.al_overload_nodes.proofs.call.variable_actual.Goals as goal

pub returns : goal.returns
returns c = c.variable_of.ensures ∙ sym (ap (variable_actual c.args.mode c.args.range) (typed_layers c.args.typed))
