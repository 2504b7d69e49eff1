use Rattle.std.proofs.Common.{◌≡◌, ◌<◌, ℕ, [], List, map, length, get_or, ap, subst, sym, ◌∙◌, arith}
use Rattle.std.proofs.lemmas.List.{length-map}
use Rattle.al_base.specs.Batch.{Key, key_of}
use Rattle.al_base.specs.declared.unit_key.UnitKey.{UnitKey}
use Rattle.al_base.specs.declared.unit_key.UnitKind.TheVariants.{Decl}
use Rattle.al_unit_graph.specs.Dependence.{direct}
use Rattle.al_unit_faults.specs.Steps.{AddsFrom, StepsBelow, key_at}
use Rattle.al_unit_faults.proofs.PlaceLemmas.{key_at as read_key}
use Rattle.al_unit_faults.proofs.StepLemmas.{steps_more}
use Rattle.al_unit_faults.proofs.steps.graph_of.Goals as goal

pub loop-i-preserved : goal.loop-i-preserved
loop-i-preserved c =
    let lib = c.args.sources.now in
    let items = c.args.units.now in
    let i = c.loop-i.i in
    let h = c.loop-i.graph in
    let k = c.add_steps.new.graph in
    let there : key_at (map key_of items) i ≡ key_of c.index-units-i.result = read_key items i c.index-units-i.result ([], Decl) c.loop-i-test.true c.index-units-i.is in
    let same : map key_of c.as_slice.result.now ≡ direct lib (key_at (map key_of items) i) = ap (λ (ks : List UnitKey). map key_of ks) c.as_slice.ensures.value ∙ c.in_ok-keys.ensures ∙ ap (direct lib) (sym there) in
    steps_more lib (map key_of items) i h k c.loop-i.invariant (subst (λ (ks : List Key). AddsFrom h k i (map key_of items) ks) same c.in_ok-add_steps.ensures)

pub returns : goal.returns
returns c =
    let items = c.args.units.now in
    let ended : c.loop-i.i ≡ length items = omega (arith, c.loop-i-test.false, c.loop-i.auto.i-end) in
    subst (λ n. StepsBelow c.args.sources.now (map key_of items) n c.loop-i.graph) ended c.loop-i.invariant
