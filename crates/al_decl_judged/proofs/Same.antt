-- The derived comparison of symbols is the one of the definitions.
use Rattle.std.proofs.Common.{◌≡◌, Bool, true, false, ◌&&◌, ◌||◌, List, [], ◌∷◌, ◌++◌, refl, ap, ◌∙◌, sym, eqb, if◌then◌else◌}
use Rattle.std.specs.List.{list_any}
use Rattle.std.specs.Str.{bytes_eq}
use Rattle.indexmap.specs.IndexSet.{insert_key}
use Rattle.al_base.specs.contracts.unit_key.UnitKindPartialEq.TheImpl.{eq-value as unit_kind}
use Rattle.al_base.specs.declared.unit_key.UnitKind.{UnitKind}
use Rattle.al_base.specs.declared.unit_key.UnitKind.TheVariants.{Decl, Body, Sub}
use Rattle.al_view.specs.Symbols.{same_kind, same_symbol}
use Rattle.al_view.specs.contracts.symbol.SymbolPartialEq.TheImpl.{eq-value as symbol}
use Rattle.al_view.specs.declared.symbol.Symbol.{Symbol}
use Rattle.al_view.proofs.SymbolLemmas.{same_symbol-one}

unit_kind_is : (a b : UnitKind) → unit_kind.it a b ≡ same_kind a b
unit_kind_is Decl Decl = refl
unit_kind_is Decl Body = refl
unit_kind_is Decl Sub = refl
unit_kind_is Body Decl = refl
unit_kind_is Body Body = refl
unit_kind_is Body Sub = refl
unit_kind_is Sub Decl = refl
unit_kind_is Sub Body = refl
unit_kind_is Sub Sub = refl

turned : (n k m c : Bool) → ((n && k) && (m && c)) ≡ (((k && n) && m) && c)
turned true true m c = refl
turned true false m c = refl
turned false true m c = refl
turned false false m c = refl

pub symbol_is : (a b : Symbol) → symbol.it a b ≡ same_symbol a b
symbol_is a b =
    let n : Bool = bytes_eq a.unit.name b.unit.name in
    let m : Bool = bytes_eq a.name b.name in
    let c : Bool = eqb a.number b.number in
    turned n (unit_kind.it a.unit.kind b.unit.kind) m c ∙ ap (λ (x : Bool). ((x && n) && m) && c) (unit_kind_is a.unit.kind b.unit.kind)

-- so a set has what the definitions find in its list
pub has_derived : (s : Symbol) (symbols : List Symbol) → list_any (symbol.it s) symbols ≡ list_any (same_symbol s) symbols
has_derived s [] = refl
has_derived s (x ∷ xs) = ap (λ (b : Bool). b || list_any (symbol.it s) xs) (symbol_is s x) ∙ ap (λ (b : Bool). same_symbol s x || b) (has_derived s xs)

-- one symbol more, at the end
pub one_more : (s symbol : Symbol) (symbols : List Symbol) → list_any (same_symbol s) (symbols ++ symbol ∷ []) ≡ (same_symbol s symbol || list_any (same_symbol s) symbols)
one_more s y [] = refl
one_more s y (x ∷ xs) = ap (λ (b : Bool). same_symbol s x || b) (one_more s y xs) ∙ passed (same_symbol s x) (same_symbol s y) (list_any (same_symbol s) xs)
  where
    passed : (a b c : Bool) → (a || (b || c)) ≡ (b || (a || c))
    passed true true c = refl
    passed true false c = refl
    passed false b c = refl

-- a symbol that is there already
pub has_already : (s symbol : Symbol) (symbols : List Symbol) → list_any (same_symbol symbol) symbols ≡ true → list_any (same_symbol s) symbols ≡ (same_symbol s symbol || list_any (same_symbol s) symbols)
has_already s symbol symbols there = by (same_symbol s symbol) refl
  where
    by : (b : Bool) → same_symbol s symbol ≡ b → list_any (same_symbol s) symbols ≡ (b || list_any (same_symbol s) symbols)
    by true is = ap (λ (x : Symbol). list_any (same_symbol x) symbols) (same_symbol-one s symbol is) ∙ there
    by false is = refl

-- so what was there and what is new are in the set then
pub inserted : (s y : Symbol) (symbols : List Symbol) → list_any (same_symbol s) (insert_key symbol.it symbols y) ≡ (same_symbol s y || list_any (same_symbol s) symbols)
inserted s y symbols = by (list_any (symbol.it y) symbols) refl
  where
    by : (b : Bool) → list_any (symbol.it y) symbols ≡ b → list_any (same_symbol s) (if b then symbols else symbols ++ y ∷ []) ≡ (same_symbol s y || list_any (same_symbol s) symbols)
    by true is = has_already s y symbols (sym (has_derived y symbols) ∙ is)
    by false is = one_more s y symbols
