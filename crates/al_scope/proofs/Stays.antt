-- What is unchanged: all, if no type is seen otherwise; the operands and the result of an operator.
use Rattle.std.proofs.Common.{◌≡◌, true, false, List, [], ◌∷◌, map, Option, Some, None, refl, sym, ap, ◌∙◌}
use Rattle.std.specs.Prelude.{option_map, if◌then◌else◌}
use Rattle.al_view.specs.declared.types.Subtype.{Subtype}
use Rattle.al_view.specs.declared.view.CallKind.{CallKind}
use Rattle.al_view.specs.declared.view.Parameter.{Parameter}
use Rattle.al_view.specs.declared.view.Profile.{Profile}
use Rattle.al_scope.specs.Recasts.{is_operator, recast_parameter, recast_profile, recast_subtype}
use Rattle.al_scope.specs.declared.recast.Recast.{Recast}

parameters-stay : (ps : List Parameter) → map (recast_parameter []) ps ≡ ps
parameters-stay [] = refl
parameters-stay (p ∷ ps) = ap (λ l. p ∷ l) (parameters-stay ps)

result-stays : (r : Option Subtype) → option_map (recast_subtype []) r ≡ r
result-stays None = refl
result-stays (Some s) = refl

abbrev each : List Recast → Profile → Profile
each recasts p = record { parameters = map (recast_parameter recasts) p.parameters; result = option_map (recast_subtype recasts) p.result }

each-stays : (p : Profile) → each [] p ≡ p
each-stays p = ap (λ (ps : List Parameter). let q : Profile = record { parameters = ps; result = option_map (recast_subtype []) p.result } in q) (parameters-stay p.parameters)
    ∙ ap (λ (r : Option Subtype). let q : Profile = record { parameters = p.parameters; result = r } in q) (result-stays p.result)

pub of-operator : (recasts : List Recast) (call : CallKind) (p : Profile) → is_operator call ≡ true → each [] p ≡ recast_profile recasts call p
of-operator recasts call p h = each-stays p ∙ sym (ap (λ b. if b then p else each recasts p) h)

pub of-other : (recasts : List Recast) (call : CallKind) (p : Profile) → is_operator call ≡ false → each recasts p ≡ recast_profile recasts call p
of-other recasts call p h = sym (ap (λ b. if b then p else each recasts p) h)
