use Rattle.std.proofs.Common.{◌≡◌, take}
use Rattle.al_decl_judged.specs.Headings.{formal_names}
use Rattle.al_decl_judged.proofs.heading.formal_names.Given as goal

abbrev pub invariant-loop-formal : goal.invariant-loop-formal
invariant-loop-formal l = l.names ≡ formal_names (take l.formal-index l.formals)
