use Rattle.std.proofs.Common.{◌∙◌, Option, List, ap}
use Rattle.al_base.specs.declared.unit_key.UnitKey.{UnitKey}
use Rattle.al_scope.specs.Places.{Place}
use Rattle.al_view.specs.declared.view.ViewKind.{ViewKind}
use Rattle.al_scope_context.specs.Contexts.{mentioned, rooted, with_unit}
use Rattle.al_scope_context.proofs.context.mention_unit.Goals as goal

pub returns-clause-answered : goal.returns-clause-answered
returns-clause-answered g c t h =
    let root = c.in_ok-add_root.ensures.answered t h in
    let view = c.in_ok-view.ensures.answered t root.0 in
    let name = c.args.name.now in
    let start = c.args.context.now in
    let v = c.in_ok-view.view in (
      view.0,
      ap (λ (s : Place). record start { scope = s; packages = c.mention_view.new.packages }) (root.1 ∙ ap (rooted t v name) c.in_ok-mention_view.ensures.scope)
          ∙ ap (λ (ps : List UnitKey). record start { scope = rooted t v name (mentioned v name start.scope); packages = ps }) c.in_ok-mention_view.ensures.packages
          ∙ ap (λ (o : Option ViewKind). with_unit t o name start) view.1,
    )
