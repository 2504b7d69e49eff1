-- The derived comparison of symbols is the one of the definitions.
use Rattle.std.proofs.Common.{◌≡◌, ℕ, Bool, true, false, ◌&&◌, cond, [], ◌∷◌, Option, Some, refl, ap, ◌∙◌, eqb}
use Rattle.std.specs.Map.{lookup}
use Rattle.indexmap.specs.IndexMap.{insert_entry}
use Rattle.std.specs.Str.{bytes_eq}
use Rattle.al_base.specs.contracts.unit_key.UnitKindPartialEq.TheImpl.{eq-value as unit_kind}
use Rattle.al_base.specs.declared.unit_key.UnitKind.{UnitKind}
use Rattle.al_base.specs.declared.unit_key.UnitKind.TheVariants.{Decl, Body, Sub}
use Rattle.al_view.specs.Symbols.{same_kind, same_symbol}
use Rattle.al_view.specs.contracts.link.LinkKindPartialEq.TheImpl.{eq-value as link_kind}
use Rattle.al_view.specs.contracts.link.LinkSymbolPartialEq.TheImpl.{eq-value as link_symbol}
use Rattle.al_view.specs.declared.link.LinkKind.{LinkKind}
use Rattle.al_view.specs.declared.link.LinkKind.TheVariants as kind
use Rattle.al_view.specs.declared.link.LinkSymbol.{LinkSymbol}
use Rattle.al_link.specs.Symbols.{Places, same_link_kind, same_link_symbol, with_place}

unit_kind_is : (a b : UnitKind) → unit_kind.it a b ≡ same_kind a b
unit_kind_is Decl Decl = refl
unit_kind_is Decl Body = refl
unit_kind_is Decl Sub = refl
unit_kind_is Body Decl = refl
unit_kind_is Body Body = refl
unit_kind_is Body Sub = refl
unit_kind_is Sub Decl = refl
unit_kind_is Sub Body = refl
unit_kind_is Sub Sub = refl

link_kind_is : (a b : LinkKind) → link_kind.it a b ≡ same_link_kind a b
link_kind_is kind.Code kind.Code = refl
link_kind_is kind.Code kind.Gate = refl
link_kind_is kind.Code kind.EntryBody = refl
link_kind_is kind.Code kind.Flag = refl
link_kind_is kind.Code kind.Data = refl
link_kind_is kind.Code kind.Protected = refl
link_kind_is kind.Gate kind.Code = refl
link_kind_is kind.Gate kind.Gate = refl
link_kind_is kind.Gate kind.EntryBody = refl
link_kind_is kind.Gate kind.Flag = refl
link_kind_is kind.Gate kind.Data = refl
link_kind_is kind.Gate kind.Protected = refl
link_kind_is kind.EntryBody kind.Code = refl
link_kind_is kind.EntryBody kind.Gate = refl
link_kind_is kind.EntryBody kind.EntryBody = refl
link_kind_is kind.EntryBody kind.Flag = refl
link_kind_is kind.EntryBody kind.Data = refl
link_kind_is kind.EntryBody kind.Protected = refl
link_kind_is kind.Flag kind.Code = refl
link_kind_is kind.Flag kind.Gate = refl
link_kind_is kind.Flag kind.EntryBody = refl
link_kind_is kind.Flag kind.Flag = refl
link_kind_is kind.Flag kind.Data = refl
link_kind_is kind.Flag kind.Protected = refl
link_kind_is kind.Data kind.Code = refl
link_kind_is kind.Data kind.Gate = refl
link_kind_is kind.Data kind.EntryBody = refl
link_kind_is kind.Data kind.Flag = refl
link_kind_is kind.Data kind.Data = refl
link_kind_is kind.Data kind.Protected = refl
link_kind_is kind.Protected kind.Code = refl
link_kind_is kind.Protected kind.Gate = refl
link_kind_is kind.Protected kind.EntryBody = refl
link_kind_is kind.Protected kind.Flag = refl
link_kind_is kind.Protected kind.Data = refl
link_kind_is kind.Protected kind.Protected = refl

-- a conjunction of four tests, the first two the other way round
turned : (n k m c : Bool) → ((n && k) && (m && c)) ≡ (((k && n) && m) && c)
turned true true m c = refl
turned true false m c = refl
turned false true m c = refl
turned false false m c = refl

pub derived_is : (a b : LinkSymbol) → link_symbol.it a b ≡ same_link_symbol a b
derived_is a b =
    let n : Bool = bytes_eq a.symbol.unit.name b.symbol.unit.name in
    let m : Bool = bytes_eq a.symbol.name b.symbol.name in
    let c : Bool = eqb a.symbol.number b.symbol.number in
    let l : Bool = link_kind.it a.kind b.kind in
    ap (λ (x : Bool). x && l) (turned n (unit_kind.it a.symbol.unit.kind b.symbol.unit.kind) m c)
    ∙ ap (λ (x : Bool). (((x && n) && m) && c) && l) (unit_kind_is a.symbol.unit.kind b.symbol.unit.kind)
    ∙ ap (λ (x : Bool). same_symbol a.symbol b.symbol && x) (link_kind_is a.kind b.kind)

-- so a look-up finds what the definitions look up
pub lookup_derived : (symbol : LinkSymbol) (es : Places) → lookup (link_symbol.it symbol) es ≡ lookup (same_link_symbol symbol) es
lookup_derived symbol [] = refl
lookup_derived symbol (e ∷ es) =
    ap (λ (b : Bool). cond b (Some e.1) (lookup (link_symbol.it symbol) es)) (derived_is symbol e.0)
    ∙ ap (λ (found : Option ℕ). cond (same_link_symbol symbol e.0) (Some e.1) found) (lookup_derived symbol es)

-- and one more entry is the place of one more symbol
pub inserted : (es : Places) (symbol : LinkSymbol) (place : ℕ) → insert_entry link_symbol.it es symbol place ≡ with_place es symbol place
inserted [] symbol place = refl
inserted (e ∷ es) symbol place =
    ap (λ (b : Bool). cond b ((e.0, place) ∷ es) (e ∷ insert_entry link_symbol.it es symbol place)) (derived_is symbol e.0)
    ∙ ap (λ (more : Places). cond (same_link_symbol symbol e.0) ((e.0, place) ∷ es) (e ∷ more)) (inserted es symbol place)
