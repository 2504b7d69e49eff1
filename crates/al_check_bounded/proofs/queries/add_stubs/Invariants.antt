use Rattle.std.proofs.Common.{◌≡◌, ◌++◌, take}
use Rattle.std.specs.List.{flat_map}
use Rattle.al_view.specs.declared.part.Part.TheVariants.{Stub}
use Rattle.al_check_bounded.specs.Questions.{named_in}
use Rattle.al_check_bounded.proofs.queries.add_stubs.Given as goal

abbrev pub invariant-loop-stub : goal.invariant-loop-stub
invariant-loop-stub l = l.queries.items ≡ l.fn.queries.items ++ flat_map (λ s. named_in l.unit l.names (Stub s)) (take l.stub-index l.stubs)
