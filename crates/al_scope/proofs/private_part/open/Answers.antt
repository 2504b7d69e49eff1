use Rattle.std.proofs.Common.{[], ◌∷◌, ◌∙◌, ap}
use Rattle.al_view.specs.declared.part.Part.TheVariants.{Private}
use Rattle.al_scope.specs.declared.region.UnitPart.{UnitPart}
use Rattle.al_scope.specs.UnitPlaces.{part_of, part_uses, with_clauses, with_part_of}
use Rattle.al_scope.proofs.UnitPlaceLemmas.{asks-both, asks-same}
use Rattle.al_scope.proofs.private_part.open.Goals as goal

pub returns-clause-answered : goal.returns-clause-answered
returns-clause-answered g c t h =
    let answered = c.in_ok-use_part.ensures.answered t h in
    let symbol = c.in_ok-symbol.ensures.answered t answered.0 in
    let before = c.args.scope.now.regions in
    let part = part_of c.args.unit.now Private in (
      symbol.0,
      answered.1
          ∙ ap (λ p. with_clauses (part_uses t p) c.add_part.new.scope.regions) c.in_ok-used.ensures
          ∙ ap (with_clauses (part_uses t part)) (c.in_ok-add_part.ensures.regions
          ∙ ap (λ p. with_part_of c.in_ok-symbol.symbol p before) c.in_ok-added.ensures
          ∙ ap (λ o. with_part_of o part before) symbol.1),
    )

pub returns-clause-asks : goal.returns-clause-asks
returns-clause-asks g c =
    let unit = c.args.unit.now in
    let old = c.args.recorder.now.log in
    let mid = c.symbol_from.new.recorder.log in
    let new = c.use_part.new.recorder.log in
    asks-both (unit ∷ []) old mid new c.in_ok-symbol.ensures.asks (asks-same (c.in_ok-used.used.unit ∷ []) (unit ∷ []) mid new (ap (λ (p : UnitPart). p.unit ∷ []) c.in_ok-used.ensures) c.in_ok-use_part.ensures.asks)
