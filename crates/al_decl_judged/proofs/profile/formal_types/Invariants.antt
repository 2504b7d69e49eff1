use Rattle.std.proofs.Common.{◌≡◌, take}
use Rattle.al_decl_judged.specs.Profiles.{formal_types}
use Rattle.al_decl_judged.proofs.profile.formal_types.Given as goal

abbrev pub invariant-loop-formal : goal.invariant-loop-formal
invariant-loop-formal l = l.types ≡ formal_types (take l.formal-index l.formals)
