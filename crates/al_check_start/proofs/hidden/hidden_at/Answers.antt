use Rattle.std.proofs.Common.{◌∙◌, ℕ, List, ap, sym}
use Rattle.std.specs.List.{flat_map}
use Rattle.al_base.specs.declared.unit_key.UnitKind.{UnitKind}
use Rattle.al_scope.specs.UnitPlaces.{ancestor_units}
use Rattle.al_check_start.specs.UnitsAt.{hidden_of, private_names_of}
use Rattle.al_check_start.proofs.Steps.{if_ok}
use Rattle.al_check_start.proofs.hidden.hidden_at.Goals as goal

pub returns-in-Decl-clause-answered : goal.returns-in-Decl-clause-answered
returns-in-Decl-clause-answered g c =
    if_ok c.of_ancestors.result _ _
    (λ hidden answered t h. let found = answered t h in (
      found.0,
      found.1
          ∙ ap (λ (n : List ℕ). flat_map (private_names_of t) (ancestor_units n)) c.as_slice.ensures
          ∙ ap (λ (k : UnitKind). hidden_of t k c.args.own.now.unit.name) (sym c.in-Decl.is),
    ))
    c.of_ancestors.ensures.answered

pub returns-in-Body-clause-answered : goal.returns-in-Body-clause-answered
returns-in-Body-clause-answered g c t h = (h, c.empty.ensures ∙ ap (λ (k : UnitKind). hidden_of t k c.args.own.now.unit.name) (sym c.in-Body.is))

pub returns-in-Sub-clause-answered : goal.returns-in-Sub-clause-answered
returns-in-Sub-clause-answered g c t h = (h, c.empty-in-Sub.ensures ∙ ap (λ (k : UnitKind). hidden_of t k c.args.own.now.unit.name) (sym c.in-Sub.is))
