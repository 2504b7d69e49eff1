use Rattle.std.proofs.Common.{◌≡◌, ◌+◌, [], ◌∷◌, ◌++◌, ◌∙◌, arith, take, refl, ap}
use Rattle.std.proofs.lemmas.List.{map_more, take_all}
use Rattle.std.specs.List.{flat_map}
use Rattle.al_scope.specs.declared.region.UnitPart.{UnitPart}
use Rattle.al_scope.specs.Places.{part_units}
use Rattle.al_scope.specs.UnitPlaces.{part_uses, with_clauses}
use Rattle.al_scope.proofs.UnitPlaceLemmas.{asks-same, asks-then, part_uses-more}
use Rattle.al_scope.proofs.parts.use_parts.Goals as goal

pub loop-part-preserved : goal.loop-part-preserved
loop-part-preserved g c =
    let i = c.loop-part.invariant in
    record {
      asked = c.use_part.ensures.asked ∙ i.asked;
      asks = let parts = c.args.parts.now in
          let done = part_units (take c.loop-part.part-index parts) in
          let more : done ++ c.part-item.result.unit ∷ [] ≡ part_units (take (c.loop-part.part-index + 1) parts) = rw (map_more (λ (p : UnitPart). p.unit) parts c.loop-part.part-index c.part-item.result (omega arith), ← c.part-item.is) refl in
          asks-same _ _ c.args.recorder.now.log c.use_part.new.recorder.log more (asks-then done (c.part-item.result.unit ∷ []) c.args.recorder.now.log c.loop-part.recorder.log c.use_part.new.recorder.log i.asks c.in_ok-use_part.ensures.asks);
      answered = λ t h. let answered = c.in_ok-use_part.ensures.answered t h in
          let before = i.answered t answered.0 in
          (before.0, part_uses-more t c.args.parts.now c.loop-part.part-index c.part-item.result c.args.scope.now.regions c.loop-part.scope.regions c.use_part.new.scope.regions (omega arith) c.part-item.is before.1 answered.1);
      depth = c.use_part.ensures.depth ∙ i.depth;
      mentioned = c.use_part.ensures.mentioned ∙ i.mentioned;
    }

pub returns-clause-answered : goal.returns-clause-answered
returns-clause-answered g c t h =
    let before = c.loop-part.invariant.answered t h in
    let all : take c.loop-part.part-index c.args.parts.now ≡ c.args.parts.now = take_all c.loop-part.part-index c.args.parts.now (omega arith) in
    (before.0, before.1 ∙ ap (λ l. with_clauses (flat_map (part_uses t) l) c.args.scope.now.regions) all)

pub returns-clause-asks : goal.returns-clause-asks
returns-clause-asks g c =
    let all : take c.loop-part.part-index c.args.parts.now ≡ c.args.parts.now = take_all c.loop-part.part-index c.args.parts.now (omega arith) in
    asks-same (part_units (take c.loop-part.part-index c.args.parts.now)) (part_units c.args.parts.now) c.args.recorder.now.log c.loop-part.recorder.log (ap part_units all) c.loop-part.invariant.asks
