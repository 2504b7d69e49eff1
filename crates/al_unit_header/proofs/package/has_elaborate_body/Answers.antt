use Rattle.std.proofs.Common.{map, ap}
use Rattle.al_tree.specs.DeclarationViews.{declaration_model}
use Rattle.al_tree.specs.UnitViews.{package_model}
use Rattle.al_unit_header.proofs.PackageLemmas.{asked_visibly, asked_privately, not_asked}
use Rattle.al_unit_header.proofs.package.has_elaborate_body.Goals as goal

pub returns-then-ask_in_front : goal.returns-then-ask_in_front
returns-then-ask_in_front c =
    asked_visibly (package_model c.args.library_package.now) (map declaration_model c.as_slice-visible.result.now) (map declaration_model c.private_declarations-private.result.now) (ap (map declaration_model) c.as_slice-visible.ensures.value) c.private_declarations-private.ensures
    c.ask_in_front.result c.ask_in_front.ensures c.if-ask_in_front.true

pub returns-then-declare_nothing : goal.returns-then-declare_nothing
returns-then-declare_nothing c =
    asked_privately (package_model c.args.library_package.now) (map declaration_model c.as_slice-visible.result.now) (map declaration_model c.private_declarations-private.result.now) (ap (map declaration_model) c.as_slice-visible.ensures.value) c.private_declarations-private.ensures
    c.ask_in_front.result c.ask_in_front.ensures c.if-ask_in_front.false
    c.declare_nothing.result c.declare_nothing.ensures c.if-declare_nothing.true
    c.ask_in_front-then-declare_nothing.result c.ask_in_front-then-declare_nothing.ensures

pub returns-else-declare_nothing : goal.returns-else-declare_nothing
returns-else-declare_nothing c =
    not_asked (package_model c.args.library_package.now) (map declaration_model c.as_slice-visible.result.now) (map declaration_model c.private_declarations-private.result.now) (ap (map declaration_model) c.as_slice-visible.ensures.value) c.private_declarations-private.ensures
    c.ask_in_front.result c.ask_in_front.ensures c.if-ask_in_front.false
    c.declare_nothing.result c.declare_nothing.ensures c.if-declare_nothing.false
