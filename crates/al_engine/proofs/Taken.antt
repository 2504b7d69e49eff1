-- What a build takes over of the last one.
use Rattle.std.proofs.Common.{◌≡◌, ℕ, List, [], ◌∷◌, ◌++◌, inl, inr, map, Bor, Option, Some, None, IfSome, sym, subst, ◌∙◌}
use Rattle.std.specs.List.{Contains}
use Rattle.std.proofs.lemmas.List.Elements.{Contains-append_cases}
use Rattle.al_base.specs.declared.unit_key.UnitKey.{UnitKey}
use Rattle.al_bind.specs.Binding.{IsElaboration}
use Rattle.al_base_graph.proofs.Members.{nowhere, the_one}
use Rattle.al_base.specs.Batch.{Key, key_of}
use Rattle.al_unit_graph.specs.Headers.{Library}
use Rattle.al_engine.specs.GraphGraphs.{HaveOneGraph, HaveSameGraph}
use Rattle.al_engine.specs.Kept.{IsGraphOf}
use Rattle.al_engine.specs.declared.graph.UnitGraph.{UnitGraph}
use Rattle.al_query_outcome.specs.Results.{Outcome}
use Rattle.al_engine.specs.Plans.{IsPlanned}
use Rattle.al_engine.specs.declared.compiled.Compiled.{Compiled}
use Rattle.al_engine.specs.declared.planned.Planned.{Planned}
use Rattle.al_engine.specs.declared.planned.Planned.TheVariants as plans
use Rattle.al_engine.specs.Graphs.{AreElaborations, IsOrderOf}
use Rattle.al_engine.specs.declared.orders.KnownOrder.{KnownOrder}

-- a build that was found to be the last one has what that one has
pub first_of : {X B : Type 0} (last : Option B) (now : X → B) (A C : B → Type 0) (Q : X → Type 0) (same : Option X)
    → IfSome same (λ b. (last ≡ Some (now b)) × Q b) → IfSome last (λ b. A b × C b) → IfSome same (λ b. A (now b) × Q b)
first_of last now A C Q None is has = tt
first_of {X} {B} last now A C Q (Some b) is has = ((subst (λ (o : Option B). IfSome o (λ b. A b × C b)) is.0 has).0, is.1)

pub second_of : {X B : Type 0} (last : Option B) (now : X → B) (A C : B → Type 0) (Q : X → Type 0) (same : Option X)
    → IfSome same (λ b. (last ≡ Some (now b)) × Q b) → IfSome last (λ b. A b × C b) → IfSome same (λ b. C (now b) × Q b)
second_of last now A C Q None is has = tt
second_of {X} {B} last now A C Q (Some b) is has = ((subst (λ (o : Option B). IfSome o (λ b. A b × C b)) is.0 has).1, is.1)

pub of_last : {X B : Type 0} (last : Option B) (now : X → B) (A : B → Type 0) (Q : X → Type 0) (same : Option X) → IfSome same (λ b. (last ≡ Some (now b)) × Q b) → IfSome last A → IfSome same (λ b. A (now b))
of_last last now A Q None is has = tt
of_last {X} {B} last now A Q (Some b) is has = subst (λ (o : Option B). IfSome o A) is.0 has

pub graphs_of : {B : Type 0} (last : Option B) (A C : B → Type 0) → IfSome last (λ b. A b × C b) → IfSome last A
graphs_of None A C has = tt
graphs_of (Some b) A C has = has.0

pub besides : {X B : Type 0} (last : Option B) (now : X → B) (Q : X → Type 0) (same : Option X) → IfSome same (λ b. (last ≡ Some (now b)) × Q b) → IfSome same Q
besides last now Q None is = tt
besides last now Q (Some b) is = is.1

-- what holds if there is an element holds of this one
pub some_has : {X : Type 0} (o : Option X) (x : X) (P : X → Type 0) → o ≡ Some x → IfSome o P → P x
some_has {X} o x P is has = subst (λ (p : Option X). IfSome p P) is has

pub graph_stays : (old new : Library) (graph : UnitGraph) → HaveOneGraph old new → HaveSameGraph old new → IsGraphOf old graph → IsGraphOf new graph
graph_stays old new graph one same is = record {
  faults = is.faults ∙ (λ i. map (λ file. (file, same.faults file i)) (same.headers.files i));
  order = one.dependence (map key_of graph.order.items) is.order;
  bases = λ key d t c. is.bases key d (one.faultless key ∙ t) (subst (λ (ks : List Key). Contains ks d) (sym (one.dependences key)) c);
}

pub orders_stay : (old new : Library) (orders : List KnownOrder) → HaveOneGraph old new → AreElaborations old orders → AreElaborations new orders
orders_stay old new orders one are o c = one.elaboration o.main (map key_of o.order.items) (are o c)

-- the order that was found among these is an order of elaboration
pub orders_for : (lib : Library) (main : List ℕ) (orders : List KnownOrder) (found : Option (Bor (List UnitKey))) → AreElaborations lib orders → IfSome found (λ order. (l : Library) → AreElaborations l orders → IsElaboration l main (map key_of order.now)) → IfSome found (λ order. IsElaboration lib main (map key_of order.now))
orders_for lib main orders None are is = tt
orders_for lib main orders (Some order) are is = is lib are

-- no order is kept
pub no_orders : (lib : Library) → AreElaborations lib []
no_orders lib o c = absurd (nowhere o c)

-- one more order is kept
pub order_more : (lib : Library) (orders : List KnownOrder) (known : KnownOrder) → AreElaborations lib orders → IsElaboration lib known.main (map key_of known.order.items) → AreElaborations lib (orders ++ known ∷ [])
order_more lib orders known are is o c = elim (Contains-append_cases orders (known ∷ []) o c) as (λ _. IsElaboration lib o.main (map key_of o.order.items)) [
  | inl h ↦ are o h
  | inr h ↦ subst (λ (k : KnownOrder). IsElaboration lib k.main (map key_of k.order.items)) (the_one known o h) is
]

-- the order of a partition that is planned is an order of elaboration
pub planned_orders : (lib : Library) (f : UnitKey → Option Outcome) (main : List ℕ) (before : Compiled) (planned : Planned) → IsPlanned lib f main before planned → IsOrderOf lib main planned
planned_orders lib f main before (plans.Faulty diagnostics) is = tt
planned_orders lib f main before (plans.Unbound fault) is = tt
planned_orders lib f main before (plans.Linkable p) is = is.1.ordered
planned_orders lib f main before (plans.Renewed r) is = tt
