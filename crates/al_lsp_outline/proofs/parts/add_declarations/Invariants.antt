use Rattle.std.proofs.Common.{◌≡◌, ◌++◌, map, take}
use Rattle.std.specs.List.{flat_map}
use Rattle.al_tree.specs.DeclarationViews.{declaration_model}
use Rattle.al_lsp_outline.specs.Parts.{declaration_declared}
use Rattle.al_lsp_outline.proofs.parts.add_declarations.Given as goal

abbrev pub invariant-loop-declaration : goal.invariant-loop-declaration
invariant-loop-declaration l = l.list.items ≡ l.initial.list.items ++ flat_map (declaration_declared l.depth) (map declaration_model (take l.declaration-index l.declarations))
