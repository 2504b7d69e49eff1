-- Both sides compute.
use Rattle.std.proofs.Common.{refl}
use Rattle.al_base.specs.Rules.{number_of}
use Rattle.al_stmts.specs.Steps.{alone_of, block_of, body_of, broken_by, case_of, choosing, closed_by, if_of, inside_of, joined, loop_of, no_branching, no_part, nothing, one_alternative, one_branch, one_otherwise, part_of, parts_joined}
use Rattle.al_stmts.proofs.examples.faults_of_declarations_inside.Goals as goal

pub returns-clause-range : goal.returns-clause-range
unfolding number_of alone_of block_of body_of broken_by case_of choosing closed_by if_of inside_of joined loop_of no_branching no_part nothing one_alternative one_branch one_otherwise part_of parts_joined
returns-clause-range c = λ b. refl

pub returns-clause-cut_off : goal.returns-clause-cut_off
unfolding number_of alone_of block_of body_of broken_by case_of choosing closed_by if_of inside_of joined loop_of no_branching no_part nothing one_alternative one_branch one_otherwise part_of parts_joined
returns-clause-cut_off c = λ b. refl

pub returns-clause-stays : goal.returns-clause-stays
unfolding number_of alone_of block_of body_of broken_by case_of choosing closed_by if_of inside_of joined loop_of no_branching no_part nothing one_alternative one_branch one_otherwise part_of parts_joined
returns-clause-stays c = λ b. refl
