use Rattle.std.proofs.Common.{◌≡◌, take}
use Rattle.std.specs.List.{filter_map}
use Rattle.al_decl_judged.specs.Profiles.{parameter_of}
use Rattle.al_decl_judged.proofs.profile.parameters_of.Given as goal

abbrev pub invariant-loop-formal : goal.invariant-loop-formal
invariant-loop-formal l = l.made ≡ filter_map parameter_of (take l.formal-index l.formals)
