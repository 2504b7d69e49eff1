use Rattle.std.proofs.Common.{◌≡◌, take}
use Rattle.std.specs.List.{flat_map}
use Rattle.al_view_typed.specs.StatementViews.{alternative_model, branch_model, statement_model}
use Rattle.al_code.specs.Written.{written}
use Rattle.al_code.specs.Statements.{alternative_code, branch_code, statement_code}
use Rattle.al_code.proofs.statements.+statement.Given as goal

abbrev pub invariant-emit_statements-loop-statement : goal.invariant-emit_statements-loop-statement
invariant-emit_statements-loop-statement l = l.out ≡ written l.initial.out (flat_map (λ s. statement_code l.routine (statement_model s)) (take l.statement-index l.statements))

abbrev pub invariant-emit_branches-loop-branch : goal.invariant-emit_branches-loop-branch
invariant-emit_branches-loop-branch l = l.out ≡ written l.initial.out (flat_map (λ b. branch_code l.routine (branch_model b)) (take l.branch-index l.branches))

abbrev pub invariant-emit_alternatives-loop-alternative : goal.invariant-emit_alternatives-loop-alternative
invariant-emit_alternatives-loop-alternative l = l.out ≡ written l.initial.out (flat_map (λ a. alternative_code l.routine l.word (alternative_model a)) (take l.alternative-index l.alternatives))
