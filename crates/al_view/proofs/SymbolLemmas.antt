-- The tests of units, parts and symbols decide whether they are the same.
use Rattle.std.proofs.Common.{◌≡◌, ℕ, List, Bool, true, false, ◌&&◌, ◌==◌, refl, ap}
use Rattle.std.specs.Str.{bytes_eq}
use Rattle.std.proofs.lemmas.Bool.Decides.{Decides-eqb}
use Rattle.std.proofs.lemmas.Slice.Eq.{bytes_eq-Decides}
use Rattle.al_base.specs.declared.unit_key.UnitKey.{UnitKey}
use Rattle.al_base.specs.declared.unit_key.UnitKind.{UnitKind}
use Rattle.al_base.specs.declared.unit_key.UnitKind.TheVariants.{Decl, Body, Sub}
use Rattle.al_view.specs.declared.part.Part.{Part}
use Rattle.al_view.specs.declared.part.Part.TheVariants as part
use Rattle.al_view.specs.declared.symbol.Symbol.{Symbol}
use Rattle.al_view.specs.Symbols.{same_kind, same_unit, same_part, same_symbol}

-- where two tests pass
pub both : (a b : Bool) → (a && b) ≡ true → (a ≡ true) × (b ≡ true)
both true b h = (refl, h)
both false b h = absurd (cc)

pub and_both : (a b : Bool) → a ≡ true → b ≡ true → (a && b) ≡ true
and_both true b h k = k
and_both false b h k = absurd (cc)

same_kind-one : (a b : UnitKind) → same_kind a b ≡ true → a ≡ b
same_kind-one Decl Decl h = refl
same_kind-one Body Body h = refl
same_kind-one Sub Sub h = refl
same_kind-one _ _ h = absurd (cc)

same_kind-self : (a : UnitKind) → same_kind a a ≡ true
same_kind-self Decl = refl
same_kind-self Body = refl
same_kind-self Sub = refl

unit_from : List ℕ × UnitKind → UnitKey
unit_from p = record { name = p.0; kind = p.1 }

pub same_unit-one : (a b : UnitKey) → same_unit a b ≡ true → a ≡ b
unfolding unit_from
same_unit-one a b h =
    let parts = both (same_kind a.kind b.kind) (bytes_eq a.name b.name) h in
    let kind = same_kind-one a.kind b.kind parts.0 in
    let name = (bytes_eq-Decides a.name b.name).0 parts.1 in
    let pair : (a.name, a.kind) ≡ (b.name, b.kind) = cc in
    ap unit_from pair

pub same_unit-self : (a : UnitKey) → same_unit a a ≡ true
same_unit-self a = and_both (same_kind a.kind a.kind) (bytes_eq a.name a.name) (same_kind-self a.kind) ((bytes_eq-Decides a.name a.name).1 refl)

pub same_part-one : (a b : Part) → same_part a b ≡ true → a ≡ b
same_part-one part.Visible part.Visible h = refl
same_part-one part.Private part.Private h = refl
same_part-one part.Body part.Body h = refl
same_part-one (part.Stub a) (part.Stub b) h = ap (λ (n : List ℕ). part.Stub n) ((bytes_eq-Decides a b).0 h)
same_part-one _ _ h = absurd (cc)

pub same_part-self : (a : Part) → same_part a a ≡ true
same_part-self part.Visible = refl
same_part-self part.Private = refl
same_part-self part.Body = refl
same_part-self (part.Stub a) = (bytes_eq-Decides a a).1 refl

symbol_from : UnitKey × List ℕ × ℕ → Symbol
symbol_from p = record { unit = p.0; name = p.1; number = p.2 }

pub same_symbol-one : (a b : Symbol) → same_symbol a b ≡ true → a ≡ b
unfolding symbol_from
same_symbol-one a b h =
    let parts = both (same_unit a.unit b.unit && bytes_eq a.name b.name) (a.number == b.number) h in
    let more = both (same_unit a.unit b.unit) (bytes_eq a.name b.name) parts.0 in
    let unit = same_unit-one a.unit b.unit more.0 in
    let name = (bytes_eq-Decides a.name b.name).0 more.1 in
    let number = (Decides-eqb a.number b.number).0 parts.1 in
    let three : (a.unit, a.name, a.number) ≡ (b.unit, b.name, b.number) = cc in
    ap symbol_from three

pub same_symbol-self : (a : Symbol) → same_symbol a a ≡ true
same_symbol-self a =
    and_both (same_unit a.unit a.unit && bytes_eq a.name a.name) (a.number == a.number)
    (and_both (same_unit a.unit a.unit) (bytes_eq a.name a.name) (same_unit-self a.unit) ((bytes_eq-Decides a.name a.name).1 refl))
    ((Decides-eqb a.number a.number).1 refl)
