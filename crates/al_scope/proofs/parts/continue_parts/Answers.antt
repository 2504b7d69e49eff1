use Rattle.std.proofs.Common.{ℕ, List, [], ◌∷◌, ◌++◌, ◌∙◌, ap}
use Rattle.std.specs.List.{flat_map}
use Rattle.al_scope.specs.Places.{in_last, part_units, with_private_types}
use Rattle.al_scope.specs.UnitPlaces.{entered_as, part_uses, with_clauses}
use Rattle.al_scope.proofs.UnitPlaceLemmas.{asks-both}
use Rattle.al_scope.proofs.parts.continue_parts.Goals as goal

pub returns-clause-answered : goal.returns-clause-answered
returns-clause-answered g c t h =
    let answered = c.in_ok-use_parts.ensures.answered t h in
    let told = c.in_ok-names.ensures.answered t answered.0 in
    let before = c.args.scope.now.regions in
    let uses = flat_map (part_uses t) c.args.used.now in
    let entered = c.in_ok-enter_as.ensures.regions ∙ ap (λ ps. before ++ entered_as c.args.construct ps before ∷ []) c.in_ok-copy.ensures.is in
    let names = c.new.ensures ∙ told.1 in
    (told.0, answered.1 ∙ ap (with_clauses uses) (c.tell.ensures.new ∙ ap (λ (l : List (List ℕ)). in_last (with_private_types l) c.enter_as.new.scope.regions) names ∙ ap (in_last (with_private_types _)) entered))

pub returns-clause-asks : goal.returns-clause-asks
returns-clause-asks g c = asks-both (part_units c.args.used.now) c.args.recorder.now.log c.told_types.new.recorder.log c.use_parts.new.recorder.log c.in_ok-names.ensures.asks c.in_ok-use_parts.ensures.asks
