-- A symbol that is defined has a place.
use Rattle.std.proofs.Common.{◌≡◌, ◌⊎◌, inl, inr, ℕ, ◌+◌, Bool, true, false, cond, List, [], ◌∷◌, map, Option, Some, None, fold, refl, subst, sym}
use Rattle.std.specs.List.{Contains, flat_map}
use Rattle.std.specs.Map.{lookup}
use Rattle.std.proofs.lemmas.List.Elements.{Contains-append_cases}
use Rattle.al_base_graph.proofs.Members.{first_or_later, nowhere}
use Rattle.al_view.specs.Symbols.{same_symbol}
use Rattle.al_view.specs.declared.link.LinkKind.{LinkKind}
use Rattle.al_view.specs.declared.link.LinkKind.TheVariants as kind
use Rattle.al_view.specs.declared.link.LinkSymbol.{LinkSymbol}
use Rattle.al_view.proofs.SymbolLemmas.{and_both, same_symbol-self}
use Rattle.al_code_object.specs.declared.object.Address.{Address}
use Rattle.al_link.specs.Bases.{base_of, next_bases}
use Rattle.al_link.specs.Closed.{defined_in}
use Rattle.al_link.specs.Linking.{places_of, with_address, with_defines}
use Rattle.al_link.specs.Symbols.{Places, same_link_kind, same_link_symbol, with_place}
use Rattle.al_link.specs.Units.{Located, UnitObject, first_bases, located}
use Rattle.al_link.specs.DefinedSymbols.{ClosedImagesHaveNoDefault}

same_kind-self : (k : LinkKind) → same_link_kind k k ≡ true
same_kind-self kind.Code = refl
same_kind-self kind.Gate = refl
same_kind-self kind.EntryBody = refl
same_kind-self kind.Flag = refl
same_kind-self kind.Data = refl
same_kind-self kind.Protected = refl

same-self : (x : LinkSymbol) → same_link_symbol x x ≡ true
same-self x = and_both (same_symbol x.symbol x.symbol) (same_link_kind x.kind x.kind) (same_symbol-self x.symbol) (same_kind-self x.kind)

abbrev Found : Option ℕ → Type 0
Found o = (n : ℕ) × (o ≡ Some n)

-- of two lists whose first entries have the same symbol
found_in : (c : Bool) (m n : ℕ) (rest more : Option ℕ) → (Found rest → Found more) → Found (cond c (Some m) rest) → Found (cond c (Some n) more)
found_in true m n rest more w h = (n, refl)
found_in false m n rest more w h = w h

no_entry : (x : LinkSymbol) (ps : Places) → Found None → Found (lookup (same_link_symbol x) ps)
no_entry x ps h = let bad : None ≡ Some h.0 = h.1 in absurd (cc)

module _ (x : LinkSymbol) where
  abbrev Stands : Places → Type 0
  Stands ps = Found (lookup (same_link_symbol x) ps)

  -- one more symbol leaves it its place, or gives it another
  stays : (y : LinkSymbol) (n : ℕ) (ps : Places) → Stands ps → Stands (with_place ps y n)
  stays y n [] h = no_entry x ((y, n) ∷ []) h
  stays y n (e ∷ es) h = at (same_link_symbol y e.0) (λ k. stays y n es k)
    where
      at : (b : Bool) → (Stands es → Stands (with_place es y n)) → Stands (cond b ((e.0, n) ∷ es) (e ∷ with_place es y n))
      at true rest = found_in (same_link_symbol x e.0) e.1 n (lookup (same_link_symbol x) es) (lookup (same_link_symbol x) es) (λ k. k) h
      at false rest = found_in (same_link_symbol x e.0) e.1 e.1 (lookup (same_link_symbol x) es) (lookup (same_link_symbol x) (with_place es y n)) rest h

  added : (n : ℕ) (ps : Places) → Stands (with_place ps x n)
  added n [] = subst (λ (b : Bool). Found (cond b (Some n) None)) (sym (same-self x)) (n, refl)
  added n (e ∷ es) = at (same_link_symbol x e.0) refl (added n es)
    where
      at : (b : Bool) → same_link_symbol x e.0 ≡ b → Stands (with_place es x n) → Stands (cond b ((e.0, n) ∷ es) (e ∷ with_place es x n))
      at true is rest = subst (λ (c : Bool). Found (cond c (Some n) (lookup (same_link_symbol x) es))) (sym is) (n, refl)
      at false is rest = subst (λ (c : Bool). Found (cond c (Some e.1) (lookup (same_link_symbol x) (with_place es x n)))) (sym is) rest

  -- the symbols of an object
  all-stay : (l : Located) (ds : List Address) (ps : Places) → Stands ps → Stands (fold (with_address l.before) ps ds)
  all-stay l [] ps h = h
  all-stay l (d ∷ ds) ps h = all-stay l ds (with_address l.before ps d) (stays d.symbol (base_of l.before d.symbol.kind + d.offset) ps h)

  all-added : (l : Located) (ds : List Address) (ps : Places) → Contains (map (λ (a : Address). a.symbol) ds) x → Stands (fold (with_address l.before) ps ds)
  all-added l [] ps c = absurd (nowhere x c)
  all-added l (d ∷ ds) ps c =
      elim (first_or_later d.symbol (map (λ (a : Address). a.symbol) ds) x c) as (λ _. Stands (fold (with_address l.before) (with_address l.before ps d) ds)) [
        | inl same ↦ all-stay l ds (with_address l.before ps d) (subst (λ (y : LinkSymbol). Stands (with_place ps y (base_of l.before d.symbol.kind + d.offset))) (sym same) (added (base_of l.before d.symbol.kind + d.offset) ps))
        | inr later ↦ all-added l ds (with_address l.before ps d) later
      ]

  -- of all objects
  units-stay : (ls : List Located) (ps : Places) → Stands ps → Stands (fold with_defines ps ls)
  units-stay [] ps h = h
  units-stay (l ∷ ls) ps h = units-stay ls (with_defines ps l) (all-stay l l.object.defines ps h)

  -- after what precedes a unit
  units-added : (at : Located) (us : List UnitObject) (ps : Places) → Contains (defined_in us) x → Stands (fold with_defines ps (located at.before us))
  units-added at [] ps c = absurd (nowhere x c)
  units-added at (u ∷ us) ps c =
      let l : Located = record { key = u.key; object = u.object; before = at.before } in
      let next : Located = record { key = u.key; object = u.object; before = next_bases at.before u.object } in
      elim (Contains-append_cases (map (λ (a : Address). a.symbol) u.object.defines) (defined_in us) x c) as (λ _. Stands (fold with_defines (with_defines ps l) (located next.before us))) [
        | inl here ↦ units-stay (located next.before us) (with_defines ps l) (all-added l u.object.defines ps here)
        | inr later ↦ units-added next us (with_defines ps l) later
      ]

has_place : (us : List UnitObject) (x : LinkSymbol) → Contains (defined_in us) x → (place : ℕ) × (lookup (same_link_symbol x) (places_of (located (first_bases us) us)) ≡ Some place)
has_place [] x c = absurd (nowhere x c)
has_place (u ∷ us) x c = units-added x (record { key = u.key; object = u.object; before = first_bases (u ∷ us) }) (u ∷ us) [] c

pub no_default : ClosedImagesHaveNoDefault
no_default main us closed x (inl is) = has_place us x (subst (λ (y : LinkSymbol). Contains (defined_in us) y) (sym is) closed.main_defined)
no_default main us closed x (inr used) = has_place us x (closed.all_defined x used)
