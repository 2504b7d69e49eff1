-- Who was shown more keeps what was kept.
use Rattle.std.proofs.Common.{◌≡◌, Bool, true, false, ◌&&◌, List, [], ◌∷◌, ◌++◌, refl, sym, ◌∙◌, if◌then◌else◌}
use Rattle.std.specs.List.{Contains, flat_map, list_all}
use Rattle.al_base.specs.declared.unit_key.UnitKey.{UnitKey}
use Rattle.al_base_graph.proofs.Members.{any_into, from_flat_map, into_flat_map}
use Rattle.al_view.specs.Symbols.{same_symbol, same_unit}
use Rattle.al_view.proofs.SymbolLemmas.{same_symbol-self}
use Rattle.al_view.specs.ViewUses.{view_uses}
use Rattle.al_view.specs.declared.link.LinkKind.{LinkKind}
use Rattle.al_view.specs.declared.link.LinkKind.TheVariants as kind
use Rattle.al_view.specs.declared.link.LinkSymbol.{LinkSymbol}
use Rattle.al_view.specs.declared.view.ViewKind.{ViewKind}
use Rattle.al_view_typed.specs.UnitTrees.{UnitTree}
use Rattle.al_view_typed.specs.Uses.{unit_uses}
use Rattle.al_query_outcome.specs.Defines.{interface_uses}
use Rattle.al_query_outcome.specs.declared.interface.UnitInterface.{UnitInterface}
use Rattle.al_check_promises.specs.Links.{is_among, same_link, same_link_kind}
use Rattle.al_check_promises.specs.SelfChecks.{accounted, defined, is_allowed, is_declared, is_kept, is_well_formed, left_shown}
use Rattle.al_check_promises.proofs.Used.{among-contains, both}

kind-self : (k : LinkKind) → same_link_kind k k ≡ true
kind-self kind.Code = refl
kind-self kind.Gate = refl
kind-self kind.EntryBody = refl
kind-self kind.Flag = refl
kind-self kind.Data = refl
kind-self kind.Protected = refl

and_both : (a b : Bool) → a ≡ true → b ≡ true → (a && b) ≡ true
and_both true b h k = k
and_both false b h k = h

contains-among : (links : List LinkSymbol) (x : LinkSymbol) → Contains links x → is_among links x ≡ true
contains-among links x c = any_into (same_link x) links x c (and_both (same_link_kind x.kind x.kind) (same_symbol x.symbol x.symbol) (kind-self x.kind) (same_symbol-self x.symbol))

all_weaker : {X : Type 0} (p q : X → Bool) → ((x : X) → p x ≡ true → q x ≡ true) → (xs : List X) → list_all p xs ≡ true → list_all q xs ≡ true
all_weaker p q f [] h = refl
all_weaker p q f (x ∷ xs) h =
    let two = both (p x) (list_all p xs) h in
    and_both (q x) (list_all q xs) (f x two.0) (all_weaker p q f xs two.1)

module _ (unit : UnitKey) (shown more : List ViewKind) (among : (v : ViewKind) → Contains shown v → Contains more v) where
  into : {X : Type 0} (f : ViewKind → List X) (x : X) → Contains (flat_map f shown) x → Contains (flat_map f more) x
  into f x c = let r = from_flat_map f shown x c in into_flat_map f more r.0 x (among r.0 r.1) r.2

  more_allowed : (own : List LinkSymbol) (x : LinkSymbol) → is_allowed unit (flat_map view_uses shown) own x ≡ true → is_allowed unit (flat_map view_uses more) own x ≡ true
  more_allowed own x h = by (same_unit x.symbol.unit unit) h
    where
      by : (b : Bool) → (if b then is_among own x else is_among (flat_map view_uses shown) x) ≡ true → (if b then is_among own x else is_among (flat_map view_uses more) x) ≡ true
      by true h = h
      by false h = contains-among (flat_map view_uses more) x (into view_uses x (among-contains (flat_map view_uses shown) x h))

  pub more_kept : (i : UnitInterface) (tree : UnitTree) → is_kept unit shown i tree ≡ true → is_kept unit more i tree ≡ true
  unfolding is_kept
  more_kept i tree h =
      let b = both (list_all (is_allowed unit (flat_map view_uses shown) (accounted i tree)) (unit_uses tree ++ interface_uses i)) _ h in
      and_both (list_all (is_allowed unit (flat_map view_uses more) (accounted i tree)) (unit_uses tree ++ interface_uses i)) (list_all (is_declared (defined i tree)) (left_shown i) && (same_unit tree.unit unit && is_well_formed tree))
      (all_weaker (is_allowed unit (flat_map view_uses shown) (accounted i tree)) (is_allowed unit (flat_map view_uses more) (accounted i tree)) (more_allowed (accounted i tree)) (unit_uses tree ++ interface_uses i) b.0) b.1

-- so the test is the same, whether the views are these or more
pub same_test : (unit : UnitKey) (shown more : List ViewKind) (i : UnitInterface) (tree : UnitTree) → ((v : ViewKind) → Contains shown v → Contains more v) → is_kept unit shown i tree ≡ true → is_kept unit shown i tree ≡ is_kept unit more i tree
same_test unit shown more i tree among kept = kept ∙ sym (more_kept unit shown more among i tree kept)
