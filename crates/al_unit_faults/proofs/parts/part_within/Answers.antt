use Rattle.std.proofs.Common.{◌≡◌, suc, ◌-◌, Some, sym, ap, ◌∙◌, arith}
use Rattle.std.specs.Option.{option_map}
use Rattle.al_base.specs.declared.unit_key.UnitKind.TheVariants.{Sub}
use Rattle.al_unit_graph.specs.Library.{unit_at}
use Rattle.al_unit_graph.specs.Views.{header_model, mention_model}
use Rattle.al_unit_faults.specs.Parts.{part_within}
use Rattle.al_unit_faults.proofs.PartLemmas.{one_subunit_out}
use Rattle.al_unit_faults.proofs.parts.part_within.Goals as goal

pub loop-inner-preserved : goal.loop-inner-preserved
loop-inner-preserved c =
    let lib = c.args.sources.now in
    let left = c.loop-inner.left in
    let h = header_model c.loop-inner.inner.now in
    let m = mention_model c.in-Some.parent in
    let outer = header_model c.in-Some-unit_at.outer.now in
    let parent : h.parent_body ≡ Some m = ap (λ o. option_map mention_model o) c.in-Some.is in
    let at : unit_at lib (m.name, Sub) ≡ Some outer = grind (arith, c.unit_at.ensures, c.in-Some-unit_at.is, c.in-Some-unit_at.outer-is, c.as_slice-name.ensures) in
    let less : left ≡ suc (left - 1) = omega (arith, c.if-left-eq0.false) in
    sym (one_subunit_out lib left h m outer parent at ∙ ap (λ n. part_within n lib outer) less) ∙ c.loop-inner.invariant
