-- One unit's object in the place of the one before.
use Rattle.std.proofs.Common.{◌≡◌, ℕ, zero, suc, ◌<◌, ◌&&◌, ◌||◌, Bool, true, false, List, [], ◌∷◌, length, set, get_or, Option, Some, refl, sym, ap, subst, ◌∙◌, arith}
use Rattle.std.specs.List.{list_all, list_any}
use Rattle.al_base.specs.declared.unit_key.UnitKey.{UnitKey}
use Rattle.al_code_object.specs.Objects.{CompiledCode}
use Rattle.al_code_object.specs.declared.object.Object.{Object}
use Rattle.al_code_object.specs.declared.object.Object.TheVariants as left
use Rattle.al_view.proofs.SymbolLemmas.{both}
use Rattle.al_view.specs.declared.link.LinkSymbol.{LinkSymbol}
use Rattle.al_link.specs.Partitions.{is_large}
use Rattle.al_link.specs.Relinking.{LinkedImage, Shape, differing, differs, shape_of, shapes_kept}
use Rattle.al_link.specs.Units.{AreWithin, UnitObject}
use Rattle.al_engine.specs.Links.{AreLinked, IsExchanged}
use Rattle.al_engine.specs.Objects.{IsLinkable, WithObject, is_unit_name, linked_units}
use Rattle.al_engine.specs.Patches.{AreLike, ArePatched}
use Rattle.al_engine.proofs.PatchLemmas.{differing-same, neither}

-- ---- how much was written

differing-set : (us : List UnitObject) (at : ℕ) (u : UnitObject) → at < length us → differing us (set us at u) ≡ differs (get_or us at u) u
differing-set [] at u lt = absurd (omega arith)
differing-set (k ∷ us) zero u lt = omega (arith, differing-same us)
differing-set (k ∷ us) (suc n) u lt = omega (arith, differing-set us n u (omega arith), differing-same (k ∷ []))

shapes-set : (us : List UnitObject) (at : ℕ) (u : UnitObject) → shape_of u ≡ shape_of (get_or us at u) → shapes_kept (set us at u) ≡ shapes_kept us
shapes-set [] at u e = refl
shapes-set (k ∷ us) zero u e = ap (λ (s : Shape). Some s ∷ shapes_kept us) e
shapes-set (k ∷ us) (suc n) u e = ap (λ (ss : List (Option Shape)). Some (shape_of k) ∷ ss) (shapes-set us n u e)

module _ (symbol : LinkSymbol) (at : ℕ) (x : WithObject) (old new : LinkedImage) (is : IsExchanged symbol at x old new) where
  abbrev unit : UnitObject
  unit = record { key = x.0; object = is.code }

  like : AreLike old new
  like = record {
    main_is = ap (λ (l : LinkedImage). l.main) is.is;
    shapes_are = ap (λ (l : LinkedImage). shapes_kept l.units) is.is ∙ shapes-set old.units at unit is.in_place.shape_is;
  }

  pub exchanged-patched : ArePatched old new new.patched
  exchanged-patched = record {
    alike = λ _. ap (λ (l : LinkedImage). l.patched) is.is ∙ sym (differing-set old.units at unit is.in_place.within) ∙ ap (λ (l : LinkedImage). differing old.units l.units) (sym is.is);
    others = λ no. absurd (no like);
  }

-- ---- what was linked

abbrev has_name : WithObject → Bool
has_name u = is_unit_name u.0.name

abbrev has_none : WithObject → Bool
has_none u = is_large u.1

linked-set : (us : List WithObject) (at : ℕ) (key : UnitKey) (o : CompiledCode) → list_any has_none us ≡ false → linked_units (set us at (key, left.Compiled o)) ≡ set (linked_units us) at (record { key = key; object = o })
linked-set [] at key o small = refl
linked-set ((k, left.Large) ∷ us) at key o small = absurd (cc)
linked-set ((k, left.Compiled p) ∷ us) zero key o small = refl
linked-set ((k, left.Compiled p) ∷ us) (suc n) key o small = ap (λ (vs : List UnitObject). record { key = k; object = p } ∷ vs) (linked-set us n key o (neither false (list_any has_none us) small).1)

large-set : (us : List WithObject) (at : ℕ) (key : UnitKey) (o : CompiledCode) → list_any has_none us ≡ false → list_any has_none (set us at (key, left.Compiled o)) ≡ false
large-set [] at key o small = refl
large-set (u ∷ us) zero key o small = (neither (has_none u) (list_any has_none us) small).1
large-set (u ∷ us) (suc n) key o small =
    let both = neither (has_none u) (list_any has_none us) small in
    ap (λ (b : Bool). b || list_any has_none (set us n (key, left.Compiled o))) both.0 ∙ large-set us n key o both.1

named-set : (us : List WithObject) (at : ℕ) (key : UnitKey) (o : CompiledCode) → list_any has_none us ≡ false → key ≡ (get_or (linked_units us) at (record { key = key; object = o })).key → list_all has_name us ≡ true → list_all has_name (set us at (key, left.Compiled o)) ≡ true
named-set [] at key o small e named = refl
named-set ((k, left.Large) ∷ us) at key o small e named = absurd (cc)
named-set ((k, left.Compiled p) ∷ us) zero key o small e named = ap (λ (w : UnitKey). is_unit_name w.name && list_all has_name us) e ∙ named
named-set ((k, left.Compiled p) ∷ us) (suc n) key o small e named =
    let halves = both (is_unit_name k.name) (list_all has_name us) named in
    ap (λ (b : Bool). b && list_all has_name (set us n (key, left.Compiled o))) halves.0 ∙ named-set us n key o (neither false (list_any has_none us) small).1 e halves.1

pub exchanged-linked : (symbol : LinkSymbol) (at : ℕ) (x : WithObject) (old new : LinkedImage) (us : List WithObject) → IsExchanged symbol at x old new → IsLinkable us → old.units ≡ linked_units us → AreLinked symbol (set us at x) new
exchanged-linked symbol at x old new us is fits units =
    let u : UnitObject = record { key = x.0; object = is.code } in
    let y : WithObject = (x.0, left.Compiled is.code) in
    let x_is : x ≡ y = ap (λ (o : Object). (x.0, o)) is.has_code in
    let made : new.units ≡ linked_units (set us at y) =
    ap (λ (l : LinkedImage). l.units) is.is ∙ ap (λ (vs : List UnitObject). set vs at u) units ∙ sym (linked-set us at x.0 is.code fits.none_large) in
    let key : x.0 ≡ (get_or (linked_units us) at u).key = ap (λ (s : Shape). s.key) is.in_place.shape_is ∙ ap (λ (vs : List UnitObject). (get_or vs at u).key) units in
    let linkable : IsLinkable (set us at y) = record {
      named = named-set us at x.0 is.code fits.none_large key fits.named;
      none_large = large-set us at x.0 is.code fits.none_large;
      within = subst (λ (vs : List UnitObject). AreWithin vs) made is.within;
    } in
    subst (λ (z : WithObject). AreLinked symbol (set us at z) new) (sym x_is) (linkable, ap (λ (l : LinkedImage). l.main) is.is ∙ sym is.main_is, made)
