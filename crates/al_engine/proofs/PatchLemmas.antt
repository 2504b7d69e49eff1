-- How many units of an image were written anew.
use Rattle.std.proofs.Common.{◌≡◌, Bool, true, false, ◌||◌, cond, List, [], ◌∷◌, ◌++◌, length, Option, Some, None, refl, sym, ap, ◌∙◌, arith}
use Rattle.std.proofs.lemmas.List.{length-map, map-append}
use Rattle.std.proofs.lemmas.Slice.Eq.{bytes_eq-Decides}
use Rattle.al_base.specs.declared.unit_key.UnitKey.{UnitKey}
use Rattle.al_code_object.specs.declared.object.Object.{Object}
use Rattle.al_code_object.specs.declared.object.Object.TheVariants as left
use Rattle.al_view.specs.declared.link.LinkSymbol.{LinkSymbol}
use Rattle.al_link.specs.Partitions.{compiled_units, is_large, some_large, with_object}
use Rattle.al_link.specs.Relinking.{AreAsBefore, LinkedImage, Shape, differing, differs, left_shape, shape_of, shapes_kept, shapes_left}
use Rattle.al_link.specs.Units.{UnitObject}
use Rattle.al_link.specs.declared.linking.CompiledUnit.{CompiledUnit}
use Rattle.al_engine.specs.Patches.{AreLike, ArePatched, IsPatched}

-- ---- units that all have objects

pub neither : (a b : Bool) → (a || b) ≡ false → (a ≡ false) × (b ≡ false)
neither false b e = (refl, e)
neither true b e = absurd cc

one_kept : (key : UnitKey) (o : Object) → is_large o ≡ false → left_shape key o ∷ [] ≡ shapes_kept (with_object key o)
one_kept key left.Large e = absurd cc
one_kept key (left.Compiled o) e = refl

all_kept : (ls : List CompiledUnit) → some_large ls ≡ false → shapes_left ls ≡ shapes_kept (compiled_units ls)
all_kept [] e = refl
all_kept (l ∷ ls) e =
    let small = neither (is_large l.object.now) (some_large ls) e in
    ap (λ (xs : List (Option Shape)). left_shape l.key.now l.object.now ∷ xs) (all_kept ls small.1)
    ∙ ap (λ (xs : List (Option Shape)). xs ++ shapes_kept (compiled_units ls)) (one_kept l.key.now l.object.now small.0)
    ∙ sym (map-append (λ (u : UnitObject). Some (shape_of u)) (with_object l.key.now l.object.now) (compiled_units ls))

all_counted : (ls : List CompiledUnit) → some_large ls ≡ false → length ls ≡ length (compiled_units ls)
all_counted ls e =
    sym (length-map ls (λ (u : CompiledUnit). left_shape u.key.now u.object.now))
    ∙ ap (λ (xs : List (Option Shape)). length xs) (all_kept ls e)
    ∙ length-map (compiled_units ls) (λ (u : UnitObject). Some (shape_of u))

-- ---- an image that was linked again

module _ (ls : List CompiledUnit) (main : LinkSymbol) (old new : LinkedImage) (small : some_large ls ≡ false) (main_is : new.main ≡ main) (units_are : new.units ≡ compiled_units ls) where
  as_before : AreLike old new → AreAsBefore old main ls
  as_before like = record {
    main_is = sym main_is ∙ like.main_is;
    shapes_are = all_kept ls small ∙ ap shapes_kept (sym units_are) ∙ like.shapes_are;
  }

  like_before : AreAsBefore old main ls → AreLike old new
  like_before are = record {
    main_is = main_is ∙ are.main_is;
    shapes_are = ap shapes_kept units_are ∙ sym (all_kept ls small) ∙ are.shapes_are;
  }

  pub are_patched : (AreAsBefore old main ls → new.patched ≡ differing old.units (compiled_units ls)) → ((AreAsBefore old main ls → ⊥) → new.patched ≡ length ls) → ArePatched old new new.patched
  are_patched alike others = record {
    alike = λ like. alike (as_before like) ∙ ap (differing old.units) (sym units_are);
    others = λ no. others (λ are. no (like_before are)) ∙ all_counted ls small ∙ ap (λ (us : List UnitObject). length us) (sym units_are);
  }

-- ---- an image that is unchanged

pub differs-same : (u : UnitObject) → differs u u ≡ 0
differs-same u = ap (λ (b : Bool). cond b 0 1) ((bytes_eq-Decides u.object.code u.object.code).1 refl)

pub differing-same : (us : List UnitObject) → differing us us ≡ 0
differing-same [] = refl
differing-same (u ∷ us) = omega (arith, differs-same u, differing-same us)

pub stays-patched : (l : Option LinkedImage) → IsPatched l l 0
stays-patched None = refl
stays-patched (Some l) = record {
  alike = λ like. sym (differing-same l.units);
  others = λ no. absurd (no (record { main_is = refl; shapes_are = refl }));
}
