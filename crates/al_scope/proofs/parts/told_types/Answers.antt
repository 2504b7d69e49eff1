use Rattle.std.proofs.Common.{◌≡◌, ◌+◌, [], ◌∷◌, ◌++◌, ◌∙◌, arith, take, refl, ap, sym}
use Rattle.std.proofs.lemmas.List.{map_more, take_all}
use Rattle.std.specs.List.{flat_map}
use Rattle.al_scope.specs.declared.region.UnitPart.{UnitPart}
use Rattle.al_scope.specs.Places.{part_units}
use Rattle.al_scope.specs.UnitPlaces.{told_types}
use Rattle.al_scope.proofs.UnitPlaceLemmas.{asks-same, asks-then, flat_map-more}
use Rattle.al_scope.proofs.parts.told_types.Goals as goal

pub loop-part-preserved : goal.loop-part-preserved
loop-part-preserved g c =
    let i = c.loop-part.invariant in
    let parts = c.args.parts.now in
    let at = c.loop-part.part-index in
    let part = c.part-item.result in
    record {
      asked = c.add_told.ensures.asked ∙ i.asked;
      asks = let done = part_units (take at parts) in
          let more : done ++ part.unit ∷ [] ≡ part_units (take (at + 1) parts) = rw (map_more (λ (p : UnitPart). p.unit) parts at part (omega arith), ← c.part-item.is) refl in
          asks-same _ _ c.args.recorder.now.log c.add_told.new.recorder.log more (asks-then done (part.unit ∷ []) c.args.recorder.now.log c.loop-part.recorder.log c.add_told.new.recorder.log i.asks c.in_ok-add_told.ensures.asks);
      answered = λ t h. let answered = c.in_ok-add_told.ensures.answered t h in
          let before = i.answered t answered.0 in
          (before.0, answered.1 ∙ ap (λ l. l ++ told_types t part) before.1 ∙ sym (flat_map-more (told_types t) parts at part (omega arith) c.part-item.is));
    }

pub returns-clause-answered : goal.returns-clause-answered
returns-clause-answered g c t h =
    let before = c.loop-part.invariant.answered t h in
    let all : take c.loop-part.part-index c.args.parts.now ≡ c.args.parts.now = take_all c.loop-part.part-index c.args.parts.now (omega arith) in
    (before.0, before.1 ∙ ap (flat_map (told_types t)) all)

pub returns-clause-asks : goal.returns-clause-asks
returns-clause-asks g c =
    let all : take c.loop-part.part-index c.args.parts.now ≡ c.args.parts.now = take_all c.loop-part.part-index c.args.parts.now (omega arith) in
    asks-same (part_units (take c.loop-part.part-index c.args.parts.now)) (part_units c.args.parts.now) c.args.recorder.now.log c.loop-part.recorder.log (ap part_units all) c.loop-part.invariant.asks
