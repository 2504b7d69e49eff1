-- The derived comparison of units is the one of the definitions, so a set of units has those of a list that were put into it.
use Rattle.std.proofs.Common.{◌≡◌, Bool, true, false, ◌&&◌, ◌||◌, ◌+◌, ◌<◌, ℕ, List, [], ◌∷◌, ◌++◌, get_or, length, take, refl, ap, ◌∙◌, sym, if◌then◌else◌}
use Rattle.std.specs.List.{list_any}
use Rattle.std.specs.Str.{bytes_eq}
use Rattle.std.proofs.lemmas.List.{take_more}
use Rattle.indexmap.specs.IndexSet.{insert_key}
use Rattle.al_base.specs.contracts.unit_key.UnitKeyPartialEq.TheImpl.{eq-value as unit_key}
use Rattle.al_base.specs.contracts.unit_key.UnitKindPartialEq.TheImpl.{eq-value as unit_kind}
use Rattle.al_base.specs.declared.unit_key.UnitKey.{UnitKey}
use Rattle.al_base.specs.declared.unit_key.UnitKind.{UnitKind}
use Rattle.al_base.specs.declared.unit_key.UnitKind.TheVariants.{Decl, Body, Sub}
use Rattle.al_view.specs.Symbols.{same_kind, same_unit}
use Rattle.al_view.proofs.SymbolLemmas.{same_unit-one}
use Rattle.al_query.specs.Known.{has_unit}
use Rattle.al_check_bounded.specs.UnitLists.{AreAlike}

kind_is : (a b : UnitKind) → unit_kind.it a b ≡ same_kind a b
kind_is Decl Decl = refl
kind_is Decl Body = refl
kind_is Decl Sub = refl
kind_is Body Decl = refl
kind_is Body Body = refl
kind_is Body Sub = refl
kind_is Sub Decl = refl
kind_is Sub Body = refl
kind_is Sub Sub = refl

turned : (n k : Bool) → (n && k) ≡ (k && n)
turned true true = refl
turned true false = refl
turned false true = refl
turned false false = refl

unit_is : (a b : UnitKey) → unit_key.it a b ≡ same_unit a b
unit_is a b =
    let n : Bool = bytes_eq a.name b.name in
    turned n (unit_kind.it a.kind b.kind) ∙ ap (λ (x : Bool). x && n) (kind_is a.kind b.kind)

-- so a set has what the definitions find in its list
pub has_derived : (u : UnitKey) (units : List UnitKey) → list_any (unit_key.it u) units ≡ has_unit units u
has_derived u [] = refl
has_derived u (x ∷ xs) = ap (λ (b : Bool). b || list_any (unit_key.it u) xs) (unit_is u x) ∙ ap (λ (b : Bool). same_unit u x || b) (has_derived u xs)

-- one unit more, at the end
one_more : (u unit : UnitKey) (units : List UnitKey) → has_unit (units ++ unit ∷ []) u ≡ (same_unit u unit || has_unit units u)
one_more u y [] = refl
one_more u y (x ∷ xs) = ap (λ (b : Bool). same_unit u x || b) (one_more u y xs) ∙ passed (same_unit u x) (same_unit u y) (has_unit xs u)
  where
    passed : (a b c : Bool) → (a || (b || c)) ≡ (b || (a || c))
    passed true true c = refl
    passed true false c = refl
    passed false b c = refl

-- a unit that is there already
has_already : (u unit : UnitKey) (units : List UnitKey) → has_unit units unit ≡ true → has_unit units u ≡ (same_unit u unit || has_unit units u)
has_already u unit units there = by (same_unit u unit) refl
  where
    by : (b : Bool) → same_unit u unit ≡ b → has_unit units u ≡ (b || has_unit units u)
    by true is = ap (λ (x : UnitKey). has_unit units x) (same_unit-one u unit is) ∙ there
    by false is = refl

-- what was there and what is new are in the set then
inserted : (u y : UnitKey) (units : List UnitKey) → has_unit (insert_key unit_key.it units y) u ≡ (same_unit u y || has_unit units u)
inserted u y units = by (list_any (unit_key.it y) units) refl
  where
    by : (b : Bool) → list_any (unit_key.it y) units ≡ b → has_unit (if b then units else units ++ y ∷ []) u ≡ (same_unit u y || has_unit units u)
    by true is = has_already u y units (sym (has_derived y units) ∙ is)
    by false is = one_more u y units

-- a set of the first units of a list, and the next one
pub put_more : (units : List UnitKey) (i : ℕ) (x y : UnitKey) (before after : List UnitKey) → i < length units → x ≡ get_or units i x → y ≡ x → AreAlike before (take i units) → after ≡ insert_key unit_key.it before y → AreAlike after (take (i + 1) units)
put_more units i x y before after less is copied was now u =
    ap (λ (us : List UnitKey). has_unit us u) (now ∙ ap (insert_key unit_key.it before) copied)
    ∙ inserted u x before
    ∙ ap (λ (b : Bool). same_unit u x || b) (was u)
    ∙ sym (one_more u x (take i units))
    ∙ ap (λ (us : List UnitKey). has_unit us u) (sym (take_more units i x less ∙ ap (λ (m : UnitKey). take i units ++ m ∷ []) (sym is)))
