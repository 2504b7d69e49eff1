-- Both sides compute.
use Rattle.std.proofs.Common.{refl}
use Rattle.al_base.specs.Rules.{number_of}
use Rattle.al_stmts.specs.Steps.{alone_of, block_of, body_of, broken_by, case_of, choosing, closed_by, if_of, inside_of, joined, loop_of, no_branching, no_part, nothing, one_alternative, one_branch, one_otherwise, part_of, parts_joined}
use Rattle.al_stmts.proofs.examples.faults_of_bodies.Goals as goal

pub returns-clause-part : goal.returns-clause-part
unfolding number_of alone_of block_of body_of broken_by case_of choosing closed_by if_of inside_of joined loop_of no_branching no_part nothing one_alternative one_branch one_otherwise part_of parts_joined
returns-clause-part c = λ b. refl

pub returns-clause-waits : goal.returns-clause-waits
unfolding number_of alone_of block_of body_of broken_by case_of choosing closed_by if_of inside_of joined loop_of no_branching no_part nothing one_alternative one_branch one_otherwise part_of parts_joined
returns-clause-waits c = λ b. refl

pub returns-clause-returns : goal.returns-clause-returns
unfolding number_of alone_of block_of body_of broken_by case_of choosing closed_by if_of inside_of joined loop_of no_branching no_part nothing one_alternative one_branch one_otherwise part_of parts_joined
returns-clause-returns c = λ b. refl

pub returns-clause-innermost : goal.returns-clause-innermost
unfolding number_of alone_of block_of body_of broken_by case_of choosing closed_by if_of inside_of joined loop_of no_branching no_part nothing one_alternative one_branch one_otherwise part_of parts_joined
returns-clause-innermost c = λ b. refl
