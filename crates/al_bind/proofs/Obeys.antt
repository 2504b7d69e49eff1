-- The node of an item is one too: a body of a pair depends on its declaration.
use Rattle.std.proofs.Common.{◌≡◌, ◌≢◌, ℕ, Bool, true, false, cond, List, Option, Some, None, refl, ap}
use Rattle.std.specs.Option.{is_some, option_map_or}
use Rattle.al_base.specs.Batch.{Key}
use Rattle.al_base.specs.declared.unit_key.UnitKind.TheVariants.{Decl, Body, Sub}
use Rattle.al_unit_graph.specs.Headers.{Header, Library}
use Rattle.al_unit_graph.specs.Library.{unit_at}
use Rattle.al_unit_graph.specs.Needed.Needed.{dependence}
use Rattle.al_unit_graph.proofs.BoolLemmas.{both}
use Rattle.al_unit_faults.specs.Read.{NameParentBodies}
use Rattle.al_unit_faults.proofs.SoundUnits.{completed, stands_at}
use Rattle.al_bind.specs.Elaboration.{IsItem, is_pair, node_of}
use Rattle.al_bind.proofs.LawLemmas.{whole_items_obey}
use Rattle.al_bind.specs.Obeys.{OrderObeys}

there : (o : Option Header) → is_some o ≡ true → (h : Header) × (o ≡ Some h)
there None is = absurd (cc)
there (Some h) is = (h, refl)

asked : (o : Option Header) → option_map_or (λ h. h.has_elaborate_body) o false ≡ true → (h : Header) × (o ≡ Some h)
asked None is = absurd (cc)
asked (Some h) is = (h, refl)

no_subunit : Decl ≢ Sub
no_subunit is = cc

module _ (lib : Library) (main : List ℕ) (named : NameParentBodies lib) where
  declaration_is : (n : List ℕ) → is_pair lib n ≡ true → IsItem lib main (n, Body) → IsItem lib main (n, Decl)
  declaration_is n pair item =
      let two = both _ _ pair in
      let d = asked (unit_at lib (n, Decl)) two.0 in
      let b = there (unit_at lib (n, Body)) two.1 in
      let depends = completed lib n named (stands_at lib (n, Body) b.0 b.1) (stands_at lib (n, Decl) d.0 d.1) in
      (dependence item.0 depends, ap is_some d.1, no_subunit)

  node_is_item : (x : Key) → IsItem lib main x → IsItem lib main (node_of lib x)
  node_is_item (n, Decl) item = item
  node_is_item (n, Body) item = by (is_pair lib n) refl
    where
      by : (b : Bool) → is_pair lib n ≡ b → IsItem lib main (cond b (n, Decl) (n, Body))
      by true is = declaration_is n is item
      by false is = item
  node_is_item (n, Sub) item = item

pub order_obeys : OrderObeys
order_obeys lib main items named is reason x y carries =
    whole_items_obey lib main items is reason x y (carries.after, node_is_item lib main named x carries.after) (carries.before, node_is_item lib main named y carries.before) carries
