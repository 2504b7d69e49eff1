use Rattle.al_decl_completes.proofs.Found.{conformance-is}
use Rattle.al_decl_completes.proofs.whole.conformance.Goals as goal

pub returns : goal.returns
returns c = conformance-is c.args.place c.args.specification.now c.args.profile.now c.conformance_fault.result c.conformance_fault.ensures
