use Rattle.std.proofs.Common.{◌∙◌, [], ℕ, List, ap}
use Rattle.al_base.specs.declared.unit_key.UnitKey.{UnitKey}
use Rattle.al_scope.specs.Places.{Place}
use Rattle.al_scope.specs.declared.region.Region.{Region}
use Rattle.al_scope_context.specs.Contexts.{all_mentioned, mentioned, packaged}
use Rattle.al_scope.specs.UnitPlaces.{mentioned_names, unit_regions}
use Rattle.al_check_start.proofs.Steps.{place-is}
use Rattle.al_check_start.proofs.place.place_at.Goals as goal

pub returns-clause-answered : goal.returns-clause-answered
returns-clause-answered g c t h =
    let all = c.in_ok-mention_all.ensures.answered t h in
    let names = c.in_ok-names.ensures.answered t all.0 in
    let entered = c.in_ok-enter_unit.ensures.answered t names.0 in
    let own = c.args.own.now in
    let view = c.args.view.now in
    let name = own.unit.name in
    let start = ap (λ (p : Place). p.regions) c.new-scope.ensures in
    let place = place-is c.enter_unit.new.scope [] (unit_regions t own [])
    (c.in_ok-enter_unit.ensures.mentioned ∙ ap (λ (p : Place). p.mentioned) c.new-scope.ensures)
    (entered.1 ∙ ap (λ (rs : List Region). unit_regions t own rs) start) in
    let in_place : Place = record { mentioned = []; regions = unit_regions t own [] } in
    let scope = c.in_ok-mention_view.ensures.scope ∙ ap (λ (n : List ℕ). mentioned view n c.enter_unit.new.scope) c.as_slice.ensures ∙ ap (mentioned view name) place in
    let packages = c.in_ok-mention_view.ensures.packages ∙ ap (λ (n : List ℕ). packaged view n c.args.packages.now) c.as_slice.ensures ∙ ap (packaged view name) c.requires in (
      entered.0,
      all.1
          ∙ ap (λ (ns : List (List ℕ)). all_mentioned t own.unit c.mention_view.new.scope c.mention_view.new.packages ns) (c.as_slice-2.ensures.value ∙ names.1)
          ∙ ap (λ (s : Place). all_mentioned t own.unit s c.mention_view.new.packages (mentioned_names t own)) scope
          ∙ ap (λ (ps : List UnitKey). all_mentioned t own.unit (mentioned view name in_place) ps (mentioned_names t own)) packages,
    )
