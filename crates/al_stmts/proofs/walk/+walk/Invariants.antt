use Rattle.std.proofs.Common.{◌≡◌, take, false}
use Rattle.std.specs.Prelude.{fold}
use Rattle.al_stmts.proofs.Folded.{with_alternative, with_elsif, with_statement}
use Rattle.al_stmts.proofs.walk.+walk.Given as goal

abbrev pub invariant-in_more-loop-statement : goal.invariant-in_more-loop-statement
invariant-in_more-loop-statement l = l.found ≡ fold with_statement false (take l.statement-index l.statements)

abbrev pub invariant-in_elsifs-loop-other : goal.invariant-in_elsifs-loop-other
invariant-in_elsifs-loop-other l = l.found ≡ fold with_elsif false (take l.other-index l.branches)

abbrev pub invariant-in_alternatives-loop-alternative : goal.invariant-in_alternatives-loop-alternative
invariant-in_alternatives-loop-alternative l = l.found ≡ fold with_alternative false (take l.alternative-index l.alternatives)
