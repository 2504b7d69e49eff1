-- Both sides compute.
use Rattle.std.proofs.Common.{refl}
use Rattle.al_base.specs.Rules.{number_of}
use Rattle.al_base_fault.specs.CheckRules.{ranks_before}
use Rattle.al_stmts.specs.Steps.{alone_of, block_of, body_of, broken_by, case_of, choosing, closed_by, if_of, inside_of, joined, loop_of, no_branching, no_part, nothing, object_of, one_alternative, one_branch, one_otherwise, part_of, parts_joined}
use Rattle.al_stmts.proofs.examples.faults_of_tasks.Goals as goal

pub returns-clause-value : goal.returns-clause-value
unfolding number_of ranks_before alone_of block_of body_of broken_by case_of choosing closed_by if_of inside_of joined loop_of no_branching no_part nothing object_of one_alternative one_branch one_otherwise part_of parts_joined
returns-clause-value c = λ b. refl

pub returns-clause-missing : goal.returns-clause-missing
unfolding number_of ranks_before alone_of block_of body_of broken_by case_of choosing closed_by if_of inside_of joined loop_of no_branching no_part nothing object_of one_alternative one_branch one_otherwise part_of parts_joined
returns-clause-missing c = λ b. refl

pub returns-clause-operations : goal.returns-clause-operations
unfolding number_of ranks_before alone_of block_of body_of broken_by case_of choosing closed_by if_of inside_of joined loop_of no_branching no_part nothing object_of one_alternative one_branch one_otherwise part_of parts_joined
returns-clause-operations c = λ b. refl
