-- The objects of a partition whose units define all that they use are closed.
use Rattle.std.proofs.Common.{◌≡◌, ℕ, true, false, Bool, List, [], ◌∷◌, map, Option, Some, None, refl, ap, subst, sym, ◌∙◌}
use Rattle.std.specs.List.{Contains, flat_map, list_any}
use Rattle.al_base.specs.Batch.{Key, key_of}
use Rattle.al_base.specs.declared.unit_key.UnitKey.{UnitKey}
use Rattle.al_base_graph.proofs.Members.{any_into, first, from_flat_map, into_flat_map, nowhere, the_one}
use Rattle.al_view.specs.declared.link.LinkSymbol.{LinkSymbol}
use Rattle.al_view_typed.specs.UnitTrees.{UnitTree}
use Rattle.al_unit_graph.specs.Headers.{Library}
use Rattle.al_unit_graph.specs.Library.{is_unit}
use Rattle.al_unit_graph.specs.Needed.{Needed}
use Rattle.al_unit_graph.proofs.BoolLemmas.{not_both}
use Rattle.al_unit_graph.proofs.Lists.{from_map, into_map}
use Rattle.al_code_object.specs.declared.object.Object.{Object}
use Rattle.al_code_object.specs.declared.object.Object.TheVariants.{Compiled, Large}
use Rattle.al_code_object.specs.Objects.{CompiledCode}
use Rattle.al_code.specs.ObjectOf.{object_of}
use Rattle.al_engine.specs.Symbols.{EachHasItsTreesSymbols, used_symbols}
use Rattle.al_link.specs.Closed.{AreClosed, defined_in, used_in}
use Rattle.al_link.specs.Partitions.{is_large, with_object}
use Rattle.al_link.specs.Units.{UnitObject}
use Rattle.al_engine.specs.Whole.{IsWhole, NeededArePlaced}
use Rattle.al_query_outcome.specs.Defines.{Has, IsClosed, IsDefined, main_symbol}
use Rattle.al_query_outcome.specs.Equations.{Setting, is_sound, unit_named}
use Rattle.al_query_outcome.specs.Results.{Outcome, Faulty, Sound}
use Rattle.al_query_outcome.specs.declared.interface.UnitInterface.{UnitInterface}
use Rattle.al_engine_refresh.specs.Found.{findings_of}
use Rattle.al_engine.specs.Links.{units_renewed}
use Rattle.al_engine.specs.Objects.{WithObject, linked_units, objects_at, objects_of}
use Rattle.al_engine.specs.ObjectsSeen.{object_model}
use Rattle.al_engine.specs.Partitions.{IsPartition}
use Rattle.al_engine.specs.Plans.{AreClosedObjects, IsClosedPlan, IsClosedRenewal, IsPlanned, IsRenewal}
use Rattle.al_engine.specs.declared.compiled.Compiled.{Compiled as Built}
use Rattle.al_engine.specs.declared.compiled.Compiled.TheVariants as built
use Rattle.al_engine.specs.declared.planned.Renewal.{Renewal}
use Rattle.al_engine.specs.declared.planned.Planned.{Planned}
use Rattle.al_engine.specs.declared.planned.Planned.TheVariants as planned

compiled_by : (o : Object) → is_large o ≡ false → (c : CompiledCode) × (o ≡ Compiled c)
compiled_by Large is = absurd (cc)
compiled_by (Compiled c) is = (c, refl)

-- each placed unit is needed, and each needed one is placed
module _ (s : Setting) (main : List ℕ) (f : UnitKey → Option Outcome) (closed : IsClosed s main f) (coded : EachHasItsTreesSymbols) (placed : List Key) (stand : (k : Key) → Needed s.files main k → is_unit s.files k ≡ true → Contains placed k) (needed_alone : (k : Key) → Contains placed k → Needed s.files main k) (there : (u : UnitKey) (o : Outcome) → f u ≡ Some o → is_unit s.files (key_of u) ≡ true) (small : list_any (λ (u : WithObject). is_large u.1) (objects_at f (map unit_named placed)) ≡ false) where
  abbrev us : List WithObject
  us = objects_at f (map unit_named placed)

  object_there : (u : UnitKey) (i : UnitInterface) (tree : UnitTree) → Has f u i tree → Contains placed (key_of u) → Contains us (u, object_of tree)
  object_there u i tree has c =
      let x : WithObject = (u, object_of tree) in
      let here : Contains (objects_of u (f u)) x = subst (λ (o : Option Outcome). Contains (objects_of u o) x) (sym has) (first x []) in
      into_flat_map (λ (v : UnitKey). objects_of v (f v)) (map unit_named placed) u x (into_map unit_named placed (key_of u) c) here

  not_large : (x : WithObject) → Contains us x → is_large x.1 ≡ false
  not_large x c = by (is_large x.1) refl
    where
      by : (b : Bool) → is_large x.1 ≡ b → b ≡ false
      by true is = absurd (not_both (list_any (λ (u : WithObject). is_large u.1) us) (any_into (λ (u : WithObject). is_large u.1) us x c is) small)
      by false is = refl

  -- what a needed unit defines, an object of the image defines
  defined : (x : LinkSymbol) → IsDefined s main f x → Contains (defined_in (linked_units us)) x
  defined x (w, i, tree, needed, has, c) =
      let d = object_there w i tree has (stand (key_of w) needed (there w (Sound i tree) has)) in
      let o = compiled_by (object_of tree) (not_large (w, object_of tree) d) in
      let unit : UnitObject = record { key = w; object = o.0 } in
      let here : Contains (with_object w (object_of tree)) unit = subst (λ (z : Object). Contains (with_object w z) unit) (sym o.1) (first unit []) in
      let linked : Contains (linked_units us) unit = into_flat_map (λ (u : WithObject). with_object u.0 u.1) us (w, object_of tree) unit d here in
      into_flat_map (λ (u : UnitObject). map (λ a. a.symbol) u.object.defines) (linked_units us) unit x linked ((coded tree o.0 o.1).defines x c)

  used_of : (x : LinkSymbol) (v : UnitObject) (u : UnitKey) (i : UnitInterface) (tree : UnitTree) → Has f u i tree → Needed s.files main (key_of u) → (z : Object) → object_of tree ≡ z → Contains (with_object u z) v → Contains (map (λ r. r.symbol) v.object.uses) x → Contains (defined_in (linked_units us)) x
  used_of x v u i tree has needed Large at d e = absurd (nowhere v d)
  used_of x v u i tree has needed (Compiled o) at d e =
      let own : UnitObject = record { key = u; object = o } in
      let same : own ≡ v = the_one own v d in
      let mine : Contains (used_symbols o) x = subst (λ (y : UnitObject). Contains (map (λ r. r.symbol) y.object.uses) x) (sym same) e in
      defined x (closed.all_defined u i tree needed has x ((coded tree o at).uses x mine))

  used_by : (x : LinkSymbol) (v : UnitObject) (b : WithObject) (u : UnitKey) → Needed s.files main (key_of u) → (o : Option Outcome) → f u ≡ o → Contains (objects_of u o) b → Contains (with_object b.0 b.1) v → Contains (map (λ r. r.symbol) v.object.uses) x → Contains (defined_in (linked_units us)) x
  used_by x v b u needed None is c d e = absurd (nowhere b c)
  used_by x v b u needed (Some (Faulty faults)) is c d e = absurd (nowhere b c)
  used_by x v b u needed (Some (Sound i tree)) is c d e =
      let own : WithObject = (u, object_of tree) in
      let same : own ≡ b = the_one own b c in
      used_of x v u i tree is needed (object_of tree) refl (subst (λ (y : WithObject). Contains (with_object y.0 y.1) v) (sym same) d) e

  -- what an object of the image uses, its unit uses
  used : (x : LinkSymbol) → Contains (used_in (linked_units us)) x → Contains (defined_in (linked_units us)) x
  used x c =
      let a = from_flat_map (λ (u : UnitObject). map (λ r. r.symbol) u.object.uses) (linked_units us) x c in
      let b = from_flat_map (λ (u : WithObject). with_object u.0 u.1) us a.0 a.1 in
      let d = from_flat_map (λ (v : UnitKey). objects_of v (f v)) (map unit_named placed) b.0 b.1 in
      let m = from_map unit_named placed d.0 d.1 in
      let needed : Needed s.files main (key_of d.0) = subst (λ (v : UnitKey). Needed s.files main (key_of v)) m.2 (needed_alone m.0 m.1) in
      used_by x a.0 b.0 d.0 needed (f d.0) refl d.2 b.2 a.2

  pub closed_units : AreClosed (main_symbol s.files main) (linked_units us)
  closed_units = record { main_defined = defined (main_symbol s.files main) closed.main_defined; all_defined = used }

-- the objects of a partition are closed
pub closed_partition : (s : Setting) (main : List ℕ) (f : UnitKey → Option Outcome) → IsClosed s main f → EachHasItsTreesSymbols → NeededArePlaced → IsWhole s.files
    → ((u : UnitKey) (o : Outcome) → f u ≡ Some o → is_unit s.files (key_of u) ≡ true)
    → (order : List Key) (symbol : LinkSymbol) (us : List WithObject) → IsPartition s.files f main order symbol us → AreClosedObjects symbol us
closed_partition s main f closed coded placing whole there order symbol us p small =
    let few : list_any (λ (u : WithObject). is_large u.1) (objects_at f (map unit_named p.placed)) ≡ false = ap (list_any (λ (u : WithObject). is_large u.1)) (sym p.objects_are) ∙ small in
    let stand = placing s.files main order p.placed whole p.ordered p.are_placed in
    subst (λ (x : LinkSymbol). AreClosed x (linked_units us)) (sym p.symbol_is)
    (subst (λ (l : List WithObject). AreClosed (main_symbol s.files main) (linked_units l)) (sym p.objects_are) (closed_units s main f closed coded p.placed stand.stand stand.needed there few))

-- the objects of a plan are closed
module _ (lib : Library) (f : UnitKey → Option Outcome) (main : List ℕ) (each : (order : List Key) (symbol : LinkSymbol) (us : List WithObject) → IsPartition lib f main order symbol us → AreClosedObjects symbol us) where
  closed_renewal : (before : Built) (r : Renewal) → IsRenewal lib f main before r → IsClosedRenewal before r
  closed_renewal (built.Faulty diagnostics) r is = absurd is
  closed_renewal (built.Unbound fault) r is = absurd is
  closed_renewal (built.TooLarge order) r is = absurd is
  closed_renewal (built.Made program) r is = each (map key_of program.order.items) r.main (units_renewed program r) is.0

pub closed_plan : (lib : Library) (f : UnitKey → Option Outcome) (main : List ℕ) (before : Built) (plan : Planned) → IsPlanned lib f main before plan
    → (findings_of lib f ≡ [] → (order : List Key) (symbol : LinkSymbol) (us : List WithObject) → IsPartition lib f main order symbol us → AreClosedObjects symbol us) → IsClosedPlan before plan
closed_plan lib f main before (planned.Faulty diagnostics) is each = tt
closed_plan lib f main before (planned.Unbound fault) is each = tt
closed_plan lib f main before (planned.Linkable p) is each = each is.0 (map key_of p.order.items) p.main (map object_model p.objects.items) is.1
closed_plan lib f main before (planned.Renewed r) is each = closed_renewal lib f main (each is.0) before r is.1
