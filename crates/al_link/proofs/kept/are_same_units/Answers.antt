use Rattle.std.proofs.Common.{◌∙◌, Some, arith}
use Rattle.std.proofs.lemmas.Simd.{map-map}
use Rattle.al_link.specs.Kept.{kept_model}
use Rattle.al_link.specs.Relinking.{left_shape, shape_of}
use Rattle.al_link.proofs.ShapeLemmas.{same_at}
use Rattle.al_link.proofs.kept.are_same_units.Goals as goal

pub returns-then-not-is_same_unit : goal.returns-then-not-is_same_unit
returns-then-not-is_same_unit c = (
  λ h. absurd cc,
  λ e.
      let same = same_at (λ u. left_shape u.key.now u.object.now) (λ k. Some (shape_of (kept_model k))) c.args.units.now c.args.kept.now c.loop-i.i c.index-units-i.result c.index-kept-i.result (omega (arith, c.if-kept-units.false)) (omega arith) c.index-units-i.is c.index-kept-i.is (e ∙ map-map _ _ c.args.kept.now) in
      let yes = c.is_same_unit.ensures.1 same in
      let no = c.if-not-is_same_unit.true in
      cc,
)
