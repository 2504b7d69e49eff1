use Rattle.std.proofs.Common.{◌≡◌, ◌∷◌, [], map, subst, ◌∙◌, ap, ◌↔◌, arith}
use Rattle.std.proofs.lemmas.Grind.{common_steps}
use Rattle.std.specs.List.{Contains, filter}
use Rattle.al_unit_graph.specs.Library.{is_unit}
use Rattle.al_unit_graph.specs.Orders.{in_order}
use Rattle.al_unit_graph.proofs.ListedLemmas.{listed_units}
use Rattle.al_base.specs.Batch.{Key, key_of}
use Rattle.al_base_graph.specs.Closing.{Reached}
use Rattle.al_unit_graph.specs.Closures.{next}
use Rattle.al_unit_graph.specs.declared.closure.Step.TheVariants.{Dependence}
use Rattle.al_unit_graph.proofs.ClosureLemmas.{closure_reached}
use Rattle.al_unit_graph.proofs.source.Sources.closure.Goals as goal

pub returns : goal.returns
returns c =
    let lib = c.args.self.now in
    let key = key_of c.args.key.now in
    let keys = map key_of c.in_ok-keys.keys.items in
    let first : map key_of c.as_slice.result.now ≡ key ∷ [] =
    ap (λ ks. map key_of ks) c.as_slice.ensures.value ∙ grind (arith, common_steps, c.in_ok-push.ensures, c.in_ok-copy_of.ensures, c.new-first.ensures.items) in
    let reached = subst (λ ks. (y : Key) → Contains keys y ↔ Reached (next lib Dependence) ks y) first c.in_ok-keys.ensures in
    listed_units lib (map key_of c.in_ok-units.units.items) keys _ (λ y. ((λ m. (closure_reached lib key y).0 ((reached y).0 m)), (λ d. (reached y).1 ((closure_reached lib key y).1 d)))) (c.in_ok-units.ensures ∙ ap (λ ks. in_order (filter (is_unit lib) (map key_of ks))) c.as_slice-2.ensures.value)
