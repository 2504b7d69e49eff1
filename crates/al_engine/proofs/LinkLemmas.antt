-- What the linker takes, and its result.
use Rattle.std.proofs.Common.{◌≡◌, ◌<◌, ◌≤◌, ℕ, nat_lt, nat_le, true, ◌&&◌, List, [], ◌∷◌, map, length, Option, refl, sym, ap, subst, ◌∙◌, arith}
use Rattle.std.specs.List.{All, list_all, list_any}
use Rattle.std.proofs.lemmas.List.Sums.{AllPass-from_list_all}
use Rattle.std.proofs.lemmas.List.Folds.{list_all-map}
use Rattle.std.proofs.lemmas.Bool.Decides.{nat_tests}
use Rattle.al_base.specs.Batch.{key_of}
use Rattle.al_base.specs.declared.unit_key.UnitKey.{UnitKey}
use Rattle.al_view.proofs.SymbolLemmas.{both}
use Rattle.al_link.specs.Closed.{AreClosed, AreClosedUnits}
use Rattle.al_link.specs.Partitions.{AreLinkable, compiled_units, is_large, some_large}
use Rattle.al_link.specs.Units.{AreWithin, UnitObject}
use Rattle.al_link.specs.declared.linking.CompiledUnit.{CompiledUnit}
use Rattle.al_link_image.specs.Images.{IsUnitName, is_name_byte}
use Rattle.al_query_outcome.specs.Defines.{main_symbol}
use Rattle.al_query_outcome.specs.Equations.{unit_named}
use Rattle.al_view.specs.declared.link.LinkSymbol.{LinkSymbol}
use Rattle.al_link.specs.Images.{image_of}
use Rattle.al_link.specs.Relinking.{LinkedImage}
use Rattle.al_unit_graph.specs.Headers.{Library}
use Rattle.al_bind.specs.Binding.{IsElaboration}
use Rattle.al_engine.specs.Placed.{ArePlaced}
use Rattle.al_query_outcome.specs.Results.{Outcome}
use Rattle.al_engine.specs.Objects.{IsLinkable, WithObject, is_unit_name, linked_units, objects_at}
use Rattle.al_engine_refresh.specs.Found.{findings_of}
use Rattle.al_engine.specs.Batches.{IsBatch}
use Rattle.al_engine.specs.Links.{IsLinkedAs, IsLinkedOver, units_renewed}
use Rattle.al_engine.specs.ObjectsSeen.{left_model, object_model}
use Rattle.al_engine.specs.Partitions.{IsPartition}
use Rattle.al_engine.specs.Plans.{AreClosedObjects, IsClosedPlan, IsPlanned}
use Rattle.al_engine.specs.declared.compiled.Compiled.{Compiled}
use Rattle.al_engine.specs.declared.compiled.Compiled.TheVariants.{Faulty, Unbound, TooLarge, Made}
use Rattle.al_engine.specs.declared.planned.Partition.{Partition}
use Rattle.al_engine.specs.declared.planned.Planned.TheVariants.{Linkable, Renewed}
use Rattle.al_engine.specs.declared.planned.Renewal.{Renewal}

pub unit-name : (name : List ℕ) → is_unit_name name ≡ true → IsUnitName name
unit-name name is =
    let a = both (nat_lt 0 (length name)) (nat_le (length name) 255 && list_all is_name_byte name) is in
    let b = both (nat_le (length name) 255) (list_all is_name_byte name) a.1 in
    let some : 0 < length name = grind (arith, nat_tests, a.0) in
    let short : length name ≤ 255 = grind (arith, nat_tests, b.0) in
    (some, short, b.1)

pub named-left : (left : List CompiledUnit) (us : List WithObject) → map left_model left ≡ us → list_all (λ u. is_unit_name u.0.name) us ≡ true → All (λ u. IsUnitName u.key.now.name) left
named-left left us same named k d within =
    let all : list_all (λ (u : CompiledUnit). is_unit_name u.key.now.name) left ≡ true = sym (list_all-map (λ (u : WithObject). is_unit_name u.0.name) left_model left) ∙ ap (list_all (λ (u : WithObject). is_unit_name u.0.name)) same ∙ named in
    unit-name _ (AllPass-from_list_all (λ (u : CompiledUnit). is_unit_name u.key.now.name) left all k d within)

large-left : (left : List CompiledUnit) → some_large left ≡ list_any (λ (u : WithObject). is_large u.1) (map left_model left)
large-left [] = refl
large-left (u ∷ us) = rw (large-left us) refl

units-left : (left : List CompiledUnit) → compiled_units left ≡ linked_units (map left_model left)
units-left [] = refl
units-left (u ∷ us) = rw (units-left us) refl

module _ (left : List CompiledUnit) (us : List WithObject) (same : map left_model left ≡ us) where
  pub units-are : compiled_units left ≡ linked_units us
  units-are = units-left left ∙ ap linked_units same

  pub linkable-of : list_all (λ u. is_unit_name u.0.name) us ≡ true → AreLinkable left → IsLinkable us
  linkable-of named are = record {
    named = named;
    none_large = ap (list_any (λ (u : WithObject). is_large u.1)) (sym same) ∙ sym (large-left left) ∙ are.none_large;
    within = subst AreWithin units-are are.within;
  }

  pub linkable-to : IsLinkable us → AreLinkable left
  linkable-to is = record {
    none_large = large-left left ∙ ap (list_any (λ (u : WithObject). is_large u.1)) same ∙ is.none_large;
    within = subst AreWithin (sym units-are) is.within;
  }

  pub closed-of : (main : LinkSymbol) → AreClosedObjects main us → AreClosedUnits main left
  closed-of main closed none =
      subst (λ (l : List UnitObject). AreClosed main l) (sym units-are)
      (closed (ap (list_any (λ (u : WithObject). is_large u.1)) (sym same) ∙ sym (large-left left) ∙ none))

-- units by their keys
pub named-keys : (us : List UnitKey) → map unit_named (map key_of us) ≡ us
named-keys [] = refl
named-keys (u ∷ us) = ap (λ (l : List UnitKey). u ∷ l) (named-keys us)

-- the result of linking a partition is the result of compiling
module _ (lib : Library) (f : UnitKey → Option Outcome) (main : List ℕ) (units : List UnitKey) (symbol : LinkSymbol) (us : List WithObject) (none : findings_of lib f ≡ []) (is : IsPartition lib f main (map key_of units) symbol us) (closed : AreClosedObjects symbol us) where
  ordered : (order : List UnitKey) → order ≡ units → IsElaboration lib main (map key_of order)
  ordered order same = subst (λ (l : List UnitKey). IsElaboration lib main (map key_of l)) (sym same) is.ordered

  are_placed : (order : List UnitKey) → order ≡ units → ArePlaced lib (map key_of order) is.placed
  are_placed order same = subst (λ (l : List UnitKey). ArePlaced lib (map key_of l) is.placed) (sym same) is.are_placed

  linked-batch : (compiled : Compiled) → IsLinkedAs symbol us units compiled → IsBatch lib f main compiled
  linked-batch (Faulty diagnostics) linked = absurd linked
  linked-batch (Unbound fault) linked = absurd linked
  linked-batch (TooLarge order) linked = (
    none,
    record {
      ordered = ordered order.items linked.0;
      placed = is.placed;
      are_placed = are_placed order.items linked.0;
      passes = λ fits. linked.1 (subst IsLinkable (sym is.objects_are) fits);
    },
  )
  linked-batch (Made program) linked =
      let l : LinkedImage = program.linked in
      let its : l.main ≡ main_symbol lib main = linked.1.1 ∙ is.symbol_is in
      let kept : l.units ≡ linked_units (objects_at f (map unit_named is.placed)) = linked.1.2 ∙ ap linked_units is.objects_are in (
        none,
        record {
          ordered = ordered program.order.items linked.0;
          placed = is.placed;
          are_placed = are_placed program.order.items linked.0;
          linkable = subst IsLinkable is.objects_are linked.1.0;
          closed = subst (λ (x : LinkSymbol). AreClosed x (linked_units (objects_at f (map unit_named is.placed)))) is.symbol_is (subst (λ (l : List WithObject). AreClosed symbol (linked_units l)) is.objects_are (closed linked.1.0.none_large));
          image_is = ap (λ (x : LinkSymbol). image_of x l.units) its ∙ ap (image_of (main_symbol lib main)) kept;
          bytes_are = refl;
        },
        (
          record {
            ordered = ordered program.order.items linked.0;
            placed = is.placed;
            are_placed = are_placed program.order.items linked.0;
            symbol_is = refl;
            objects_are = linked.2 ∙ is.objects_are;
          },
          (subst IsLinkable (sym linked.2) linked.1.0, linked.1.2 ∙ ap linked_units (sym linked.2)),
        ),
      )

pub partition-batch : (lib : Library) (f : UnitKey → Option Outcome) (main : List ℕ) (before : Compiled) (p : Partition) (compiled : Compiled)
    → IsClosedPlan before (Linkable p) → IsPlanned lib f main before (Linkable p) → IsLinkedAs p.main (map object_model p.objects.items) p.order.items compiled → IsBatch lib f main compiled
partition-batch lib f main before p compiled closed planned linked = linked-batch lib f main p.order.items p.main (map object_model p.objects.items) planned.0 planned.1 closed compiled linked

pub renewal-batch : (lib : Library) (f : UnitKey → Option Outcome) (main : List ℕ) (before : Compiled) (r : Renewal) (compiled : Compiled)
    → IsClosedPlan before (Renewed r) → IsPlanned lib f main before (Renewed r) → IsLinkedOver r before compiled → IsBatch lib f main compiled
renewal-batch lib f main (Faulty diagnostics) r compiled closed planned linked = absurd planned.1
renewal-batch lib f main (Unbound fault) r compiled closed planned linked = absurd planned.1
renewal-batch lib f main (TooLarge order) r compiled closed planned linked = absurd planned.1
renewal-batch lib f main (Made program) r compiled closed planned linked = linked-batch lib f main program.order.items r.main (units_renewed program r) planned.0 planned.1.0 closed compiled (linked planned.1.1)
