use Rattle.al_overload.specs.Counts.{label_of}
use Rattle.al_overload_nodes.proofs.TermKinds.{applied_call}
use Rattle.al_overload_nodes.proofs.context.read_call.Goals as goal

pub returns-in-Applied : goal.returns-in-Applied
returns-in-Applied c =
    applied_call c.args.labeller.now.predefined c.args.labeller.now.own c.args.term.now c.in-Applied.name c.in-Applied.arguments (label_of c.args.label.now) c.deref.result.now c.as_slice-in-Applied.result.now c.read_call_of.result
    c.in-Applied.is c.deref.ensures c.as_slice-in-Applied.ensures.value c.read_call_of.ensures
