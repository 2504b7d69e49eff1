use Rattle.std.proofs.Common.{◌≡◌, map, drop}
use Rattle.std.specs.List.{list_all}
use Rattle.al_tree.specs.DeclarationViews.{compound_model}
use Rattle.al_scope_context.specs.ContextPragmas.{is_withed}
use Rattle.al_scope_context.proofs.pragma.are_withed.Given as goal

-- with clauses name those that were passed
abbrev pub invariant-loop-name : goal.invariant-loop-name
invariant-loop-name l = list_all (is_withed l.withs) (map compound_model l.names) ≡ list_all (is_withed l.withs) (map compound_model (drop l.name-index l.names))
