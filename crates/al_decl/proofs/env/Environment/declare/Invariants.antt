use Rattle.std.proofs.Common.{◌≡◌, length, take}
use Rattle.al_decl.specs.Declaring.{with_declarations}
use Rattle.al_decl.proofs.env.Environment.declare.Given as goal

abbrev pub invariant-loop-declaration : goal.invariant-loop-declaration
invariant-loop-declaration l = (l.self ≡ with_declarations l.fn.self (take l.declaration-index l.declarations)) × (length l.self.scope.regions ≡ length l.fn.self.scope.regions)
