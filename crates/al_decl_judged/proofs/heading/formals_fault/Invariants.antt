use Rattle.std.proofs.Common.{◌≡◌, take}
use Rattle.al_decl_judged.specs.Headings.{formals_fault}
use Rattle.al_decl_judged.proofs.heading.formals_fault.Given as goal

abbrev pub invariant-loop-formal : goal.invariant-loop-formal
invariant-loop-formal l = l.found ≡ formals_fault l.of_function (take l.formal-index l.formals)
