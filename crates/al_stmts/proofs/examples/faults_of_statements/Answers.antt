-- Both sides compute.
use Rattle.std.proofs.Common.{refl}
use Rattle.al_base.specs.Rules.{number_of}
use Rattle.al_stmts.specs.Steps.{alone_of, block_of, body_of, broken_by, case_of, choosing, closed_by, if_of, inside_of, joined, loop_of, no_branching, no_part, nothing, one_alternative, one_branch, one_otherwise, part_of, parts_joined}
use Rattle.al_stmts.proofs.examples.faults_of_statements.Goals as goal

pub returns-clause-goes_on : goal.returns-clause-goes_on
unfolding number_of alone_of block_of body_of broken_by case_of choosing closed_by if_of inside_of joined loop_of no_branching no_part nothing one_alternative one_branch one_otherwise part_of parts_joined
returns-clause-goes_on c = λ b. refl

pub returns-clause-inside : goal.returns-clause-inside
unfolding number_of alone_of block_of body_of broken_by case_of choosing closed_by if_of inside_of joined loop_of no_branching no_part nothing one_alternative one_branch one_otherwise part_of parts_joined
returns-clause-inside c = λ b. refl

pub returns-clause-end_name : goal.returns-clause-end_name
unfolding number_of alone_of block_of body_of broken_by case_of choosing closed_by if_of inside_of joined loop_of no_branching no_part nothing one_alternative one_branch one_otherwise part_of parts_joined
returns-clause-end_name c = λ b. refl

pub returns-clause-conditions : goal.returns-clause-conditions
unfolding number_of alone_of block_of body_of broken_by case_of choosing closed_by if_of inside_of joined loop_of no_branching no_part nothing one_alternative one_branch one_otherwise part_of parts_joined
returns-clause-conditions c = λ b. refl
