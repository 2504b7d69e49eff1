use Rattle.std.proofs.Common.{◌≡◌, ◌++◌, map}
use Rattle.std.specs.BTreeMap.{keys}
use Rattle.al_lsp_served.proofs.named.names_of.Given as goal

abbrev pub invariant-loop-name : goal.invariant-loop-name
invariant-loop-name g l = map (λ name. name.now) l.names.items ++ map (λ key. key.items) l.name-iterator ≡ map (λ key. key.items) (keys l.named)
