-- What `position` says.
use Rattle.std.proofs.lemmas.List.Quantifiers.{position-Some}
use Rattle.al_stmts.specs.Exits.{may_leave}
use Rattle.al_stmts.proofs.laws.an_exit_leaves_the_innermost_loop.Goals as goal

pub returns-clause-may : goal.returns-clause-may
returns-clause-may c = λ loops name n d e.
    let found = position-Some (may_leave name) loops n d e in
    (found.0, found.1)

pub returns-clause-innermost : goal.returns-clause-innermost
returns-clause-innermost c = λ loops name n k d e before.
    let found = position-Some (may_leave name) loops n d e in
    found.2 k before
