use Rattle.al_bind.proofs.Bound.{one_elaboration, one_fault, order_or_fault}
use Rattle.al_bind.proofs.order_laws.bound_is_one.Goals as goal

pub returns-clause-order : goal.returns-clause-order
returns-clause-order c = one_elaboration

pub returns-clause-fault : goal.returns-clause-fault
returns-clause-fault c = one_fault

pub returns-clause-apart : goal.returns-clause-apart
returns-clause-apart c = order_or_fault
