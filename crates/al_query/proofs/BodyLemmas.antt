-- What a declaration's own view tells of its body.
use Rattle.std.proofs.Common.{◌≡◌, ℕ, true, false, List, [], ◌∷◌, refl, sym, ◌∙◌}
use Rattle.al_query.specs.Answers.{declaration, units_named}
use Rattle.al_query.specs.BodyLaws.{ActingBodiesAreKnown, BodiesAreHidden}
use Rattle.al_query.specs.Known.{body, has_unit}
use Rattle.al_query.proofs.KnownLemmas.{has_unit-first}

-- the declaration isn't the body
not_named : (name : List ℕ) → has_unit (declaration name ∷ []) (body name) ≡ false
not_named name = refl

pub bodies-hidden : BodiesAreHidden
unfolding units_named
bodies-hidden name symbol property answer is g =
    let bad : true ≡ false = sym g.1.0 ∙ not_named name in
    absurd (cc)

pub bodies-acting : ActingBodiesAreKnown
unfolding units_named
bodies-acting name property answer = (has_unit-first (declaration name) [], (has_unit-first (body name) [], tt))
