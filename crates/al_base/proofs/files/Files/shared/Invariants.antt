use Rattle.std.proofs.Common.{◌≡◌, ◌++◌, map}
use Rattle.al_base.specs.Pairs.{pairs_of}
use Rattle.al_base.proofs.files.Files.shared.Given as goal

abbrev pub invariant-loop-name : goal.invariant-loop-name
invariant-loop-name l = map (λ f. (f.0.now, f.1.now.value.items)) l.list.items ++ pairs_of l.name-iterator ≡ l.self
