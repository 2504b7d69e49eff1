use Rattle.std.proofs.Common.{◌≡◌, drop}
use Rattle.std.specs.List.{list_all}
use Rattle.al_view_typed.specs.DeclarationTrees.{declaration_model}
use Rattle.al_view_typed.specs.Uses.{declaration_form_uses}
use Rattle.al_check_promises.proofs.declarations.declarations_pass.Given as goal

abbrev pub invariant-loop-declaration : goal.invariant-loop-declaration
invariant-loop-declaration g l =
    list_all (λ x. list_all (g.T.LinkTest.passing l.test) (declaration_form_uses (declaration_model x).form)) (drop l.declaration-index l.declarations)
    ≡ list_all (λ x. list_all (g.T.LinkTest.passing l.test) (declaration_form_uses (declaration_model x).form)) l.declarations
