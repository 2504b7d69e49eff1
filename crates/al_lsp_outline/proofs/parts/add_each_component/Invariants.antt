use Rattle.std.proofs.Common.{◌≡◌, ◌++◌, map, take}
use Rattle.std.specs.List.{flat_map}
use Rattle.al_tree.specs.DeclarationViews.{component_model}
use Rattle.al_lsp_outline.specs.Parts.{component_declared}
use Rattle.al_lsp_outline.proofs.parts.add_each_component.Given as goal

abbrev pub invariant-loop-component : goal.invariant-loop-component
invariant-loop-component l = l.list.items ≡ l.initial.list.items ++ flat_map (component_declared l.depth) (map component_model (take l.component-index l.components))
