use Rattle.std.proofs.Common.{◌≡◌, ◌||◌, ◌+◌, true, false, map, drop, sym, ap, ◌∙◌, arith}
use Rattle.std.specs.List.{list_any, take_while}
use Rattle.al_tree.specs.DeclarationViews.{compound_model, declaration_model}
use Rattle.al_unit_header.specs.Units.{asks_for_body, declares_nothing}
use Rattle.al_unit_header.proofs.PackageLemmas.{in_front_step}
use Rattle.al_unit_header.proofs.package.ask_in_front.Goals as goal

pub returns-then-asks_for_body : goal.returns-then-asks_for_body
returns-then-asks_for_body c =
    let x = c.declaration-item.result in
    let holds : declares_nothing (declaration_model x) ≡ true = cc in
    let asks : asks_for_body (compound_model c.args.name.now) (declaration_model x) ≡ true = cc in
    sym (c.loop-declaration.invariant
    ∙ in_front_step declares_nothing (asks_for_body (compound_model c.args.name.now)) declaration_model c.args.declarations.now c.loop-declaration.declaration-index x (omega arith) c.declaration-item.is holds
    ∙ ap (λ b. b || list_any (asks_for_body (compound_model c.args.name.now)) (take_while declares_nothing (map declaration_model (drop (c.loop-declaration.declaration-index + 1) c.args.declarations.now)))) asks)

pub loop-declaration-preserved : goal.loop-declaration-preserved
loop-declaration-preserved c =
    let x = c.declaration-item.result in
    let holds : declares_nothing (declaration_model x) ≡ true = cc in
    let asks : asks_for_body (compound_model c.args.name.now) (declaration_model x) ≡ false = cc in
    c.loop-declaration.invariant
    ∙ in_front_step declares_nothing (asks_for_body (compound_model c.args.name.now)) declaration_model c.args.declarations.now c.loop-declaration.declaration-index x (omega arith) c.declaration-item.is holds
    ∙ ap (λ b. b || list_any (asks_for_body (compound_model c.args.name.now)) (take_while declares_nothing (map declaration_model (drop (c.loop-declaration.declaration-index + 1) c.args.declarations.now)))) asks
