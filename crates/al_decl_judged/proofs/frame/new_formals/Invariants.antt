use Rattle.std.proofs.Common.{◌≡◌, take}
use Rattle.std.specs.List.{filter_map}
use Rattle.al_decl_judged.specs.Frames.{new_formal}
use Rattle.al_decl_judged.proofs.frame.new_formals.Given as goal

abbrev pub invariant-loop-formal : goal.invariant-loop-formal
invariant-loop-formal l = l.made ≡ filter_map new_formal (take l.formal-index l.formals)
