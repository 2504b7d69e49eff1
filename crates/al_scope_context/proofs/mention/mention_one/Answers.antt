use Rattle.std.proofs.Common.{◌∙◌, Bool, Option, List, ap, sym, if◌then◌else◌}
use Rattle.al_base.specs.declared.unit_key.UnitKey.{UnitKey}
use Rattle.al_scope.specs.Places.{Place}
use Rattle.al_view.specs.declared.view.ViewKind.{ViewKind}
use Rattle.al_scope_context.specs.Contexts.{library_view, mentioned, packaged}
use Rattle.al_scope_context.proofs.Steps.{pair-is}
use Rattle.al_scope_context.proofs.mention.mention_one.Goals as goal

abbrev skipped : Place → List UnitKey → Place × List UnitKey → Bool → Place × List UnitKey
skipped place packages after b = if b then (place, packages) else after

pub returns-then-is_declaration-clause-answered : goal.returns-then-is_declaration-clause-answered
returns-then-is_declaration-clause-answered g c t h =
    let name = c.args.name.now in
    let place = c.args.scope.now in
    let packages = c.args.packages.now in
    let after : Place × List UnitKey = (mentioned (library_view t name) name place, packaged (library_view t name) name packages) in
    (h, ap (skipped place packages after) (sym c.if-is_declaration.true ∙ c.is_declaration.ensures))

pub returns-clause-answered : goal.returns-clause-answered
returns-clause-answered g c t h =
    let answered = c.in_ok-view.ensures.answered t h in
    let name = c.args.name.now in
    let place = c.args.scope.now in
    let packages = c.args.packages.now in
    let after : Place × List UnitKey = (mentioned (library_view t name) name place, packaged (library_view t name) name packages) in (
      answered.0,
      pair-is c.mention_view.new.scope _ c.mention_view.new.packages _
          (c.in_ok-mention_view.ensures.scope ∙ ap (λ (v : Option ViewKind). mentioned v name place) answered.1)
          (c.in_ok-mention_view.ensures.packages ∙ ap (λ (v : Option ViewKind). packaged v name packages) answered.1)
          ∙ ap (skipped place packages after) (sym c.if-is_declaration.false ∙ c.is_declaration.ensures),
    )
