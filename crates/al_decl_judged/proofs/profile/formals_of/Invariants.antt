use Rattle.std.proofs.Common.{◌≡◌, take, map}
use Rattle.al_decl_judged.specs.Profiles.{formal_of}
use Rattle.al_decl_judged.proofs.profile.formals_of.Given as goal

abbrev pub invariant-loop-formal : goal.invariant-loop-formal
invariant-loop-formal l = l.made ≡ map formal_of (take l.formal-index l.formals)
