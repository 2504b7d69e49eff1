use Rattle.std.proofs.Common.{◌≡◌, drop, map}
use Rattle.std.specs.List.{list_any}
use Rattle.al_view_typed.specs.DeclarationTrees.{declaration_model}
use Rattle.al_code.specs.Marks.{declaration_has_code}
use Rattle.al_code.proofs.declarations.declarations_have_code.Given as goal

abbrev pub invariant-loop-declaration : goal.invariant-loop-declaration
invariant-loop-declaration l = list_any (λ d. declaration_has_code d.form) (map declaration_model (drop l.declaration-index l.declarations)) ≡ list_any (λ d. declaration_has_code d.form) (map declaration_model l.declarations)
