use Rattle.std.proofs.Common.{◌≡◌, take}
use Rattle.al_check_here.specs.Ends.{stub_names}
use Rattle.al_check_here.proofs.ends.stub_names.Given as goal

abbrev pub invariant-loop-stub : goal.invariant-loop-stub
invariant-loop-stub l = l.names ≡ stub_names (take l.stub-index l.stubs)
