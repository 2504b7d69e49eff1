-- What is to be linked if exactly one unit has another outcome than before.
use Rattle.std.proofs.Common.{is_some, zero, suc, ◌≡◌, inl, inr, ℕ, true, false, Bool, ◌+◌, ◌<◌, List, [], ◌∷◌, ◌++◌, length, take, set, get_or, map, Option, Some, None, refl, sym, ap, subst, ◌∙◌, if◌then◌else◌, arith}
use Rattle.std.proofs.lemmas.List.{length-take-le, map-append, set-append_left, set_at, take_more}
use Rattle.al_base.specs.declared.unit_key.UnitKey.{UnitKey}
use Rattle.al_unit_graph.specs.Headers.{Library}
use Rattle.al_view.specs.Symbols.{same_unit}
use Rattle.al_view.proofs.SymbolLemmas.{same_unit-one, same_unit-self}
use Rattle.al_query_outcome.specs.Defines.{main_symbol}
use Rattle.al_query_outcome.specs.Equations.{is_sound, unit_named}
use Rattle.al_query_outcome.specs.Results.{Faulty, Outcome, Sound}
use Rattle.al_query_outcome.proofs.Names.{tested}
use Rattle.al_code.specs.ObjectOf.{object_of}
use Rattle.al_engine_refresh.specs.Found.{findings_of}
use Rattle.al_engine.specs.Objects.{WithObject, objects_at, objects_of}
use Rattle.al_engine.specs.ObjectsSeen.{object_model}
use Rattle.al_engine.specs.Links.{units_renewed}
use Rattle.al_engine.specs.Plans.{IsPlanned}
use Rattle.al_engine.specs.BatchRenewals.{KeepsPartition, renewed, renewed_one}
use Rattle.al_engine.specs.declared.compiled.Compiled.{Compiled}
use Rattle.al_engine.specs.declared.compiled.Compiled.TheVariants as compiled
use Rattle.al_engine.specs.declared.compiled.Program.{Program}
use Rattle.al_engine.specs.declared.planned.Planned.TheVariants.{Renewed}
use Rattle.al_engine.specs.declared.planned.Renewal.{Renewal}

-- one unit has this object now, and had another one; the other units have the same outcomes as before
module _ (f g : UnitKey → Option Outcome) (u : UnitKey) (x : WithObject) (others : (w : UnitKey) → same_unit u w ≡ false → f w ≡ g w) (sound : is_sound (g u) ≡ true) (now : objects_of u (f u) ≡ x ∷ []) where
  of-unit : (o : Option Outcome) → objects_of u o ≡ x ∷ [] → x.0 ≡ u
  of-unit None is = absurd (cc)
  of-unit (Some (Faulty faults)) is = absurd (cc)
  of-unit (Some (Sound interface tree)) is = let one : x ≡ (u, object_of tree) = cc in ap (λ (y : WithObject). y.0) one

  own : (o : Option Outcome) → is_sound o ≡ true → x ∷ [] ≡ renewed x (objects_of u o)
  own None is = absurd (cc)
  own (Some (Faulty faults)) is = absurd (cc)
  own (Some (Sound interface tree)) is =
      let same : same_unit x.0 u ≡ true = subst (λ (k : UnitKey). same_unit k u ≡ true) (sym (of-unit (f u) now)) (same_unit-self u) in
      sym (ap (λ (b : Bool). (if b then x else (u, object_of tree)) ∷ []) same)

  other : (w : UnitKey) → same_unit u w ≡ false → (o : Option Outcome) → objects_of w o ≡ renewed x (objects_of w o)
  other w apart None = refl
  other w apart (Some (Faulty faults)) = refl
  other w apart (Some (Sound interface tree)) =
      let no : same_unit x.0 w ≡ false = ap (λ (k : UnitKey). same_unit k w) (of-unit (f u) now) ∙ apart in
      sym (ap (λ (b : Bool). (if b then x else (w, object_of tree)) ∷ []) no)

  each : (w : UnitKey) → objects_of w (f w) ≡ renewed x (objects_of w (g w))
  each w = elim (tested (same_unit u w)) as (λ _. objects_of w (f w) ≡ renewed x (objects_of w (g w))) [
    | inl k ↦ subst (λ (v : UnitKey). objects_of v (f v) ≡ renewed x (objects_of v (g v))) (same_unit-one u w k) (now ∙ own (g u) sound)
    | inr k ↦ ap (objects_of w) (others w k) ∙ other w k (g w)
  ]

  pub objects-renewed : (ks : List UnitKey) → objects_at f ks ≡ renewed x (objects_at g ks)
  objects-renewed [] = refl
  objects-renewed (k ∷ ks) =
      ap (λ (l : List WithObject). l ++ objects_at f ks) (each k)
      ∙ ap (λ (l : List WithObject). renewed x (objects_of k (g k)) ++ l) (objects-renewed ks)
      ∙ sym (map-append (renewed_one x) (objects_of k (g k)) (objects_at g ks))

  pub renewed-plan : (lib : Library) (main : List ℕ) (before : Compiled) (program : Program) (r : Renewal) → before ≡ compiled.Made program → findings_of lib f ≡ [] → KeepsPartition lib g main before
      → r.main ≡ main_symbol lib main → renewed x (map object_model program.objects.items) ≡ units_renewed program r → IsPlanned lib f main before (Renewed r)
  renewed-plan lib main before program r made none kept symbol objects =
      let is = subst (λ (c : Compiled). KeepsPartition lib g main c) made kept in
      subst (λ (c : Compiled). IsPlanned lib f main c (Renewed r)) (sym made) (
        none,
        (
          record {
            ordered = is.0.ordered;
            placed = is.0.placed;
            are_placed = is.0.are_placed;
            symbol_is = symbol;
            objects_are = sym objects ∙ ap (renewed x) is.0.objects_are ∙ sym (objects-renewed (map unit_named is.0.placed));
          },
          is.1,
        ),
      )

-- ---- the place of a unit among others

-- among the first units: the unit is at no place, or at one
abbrev pub FoundTo : WithObject → List WithObject → ℕ → Option ℕ → Type 0
FoundTo x us i None = renewed x (take i us) ≡ take i us
FoundTo x us i (Some at) = (at < i) × (renewed x (take i us) ≡ set (take i us) at x)

module _ (x : WithObject) (us : List WithObject) (i : ℕ) (w : WithObject) (lt : i < length us) (at_i : w ≡ get_or us i w) where
  more : take (i + 1) us ≡ take i us ++ w ∷ []
  more = take_more us i w lt ∙ ap (λ (y : WithObject). take i us ++ y ∷ []) (sym at_i)

  many : length (take i us) ≡ i
  many = length-take-le i us (omega arith)

  renewed-more : renewed x (take (i + 1) us) ≡ renewed x (take i us) ++ renewed_one x w ∷ []
  renewed-more = ap (renewed x) more ∙ map-append (renewed_one x) (take i us) (w ∷ [])

  pub another : same_unit x.0 w.0 ≡ false → (found : Option ℕ) → FoundTo x us i found → FoundTo x us (i + 1) found
  another apart None h = renewed-more ∙ ap (λ (l : List WithObject). l ++ renewed_one x w ∷ []) h ∙ ap (λ (b : Bool). take i us ++ (if b then x else w) ∷ []) apart ∙ sym more
  another apart (Some at) h = (
    omega (arith, h.0),
    renewed-more ∙ ap (λ (l : List WithObject). l ++ renewed_one x w ∷ []) h.1 ∙ ap (λ (b : Bool). set (take i us) at x ++ (if b then x else w) ∷ []) apart
        ∙ sym (ap (λ (l : List WithObject). set l at x) more ∙ set-append_left (take i us) (w ∷ []) at x (omega (arith, many, h.0))),
  )

  the-one : same_unit x.0 w.0 ≡ true → FoundTo x us i None → FoundTo x us (i + 1) (Some i)
  the-one same h = (
    omega arith,
    renewed-more ∙ ap (λ (l : List WithObject). l ++ renewed_one x w ∷ []) h ∙ ap (λ (b : Bool). take i us ++ (if b then x else w) ∷ []) same
        ∙ sym (ap (λ (l : List WithObject). set l i x) more ∙ set_at (take i us) w [] x i many),
  )

  pub the-only : same_unit x.0 w.0 ≡ true → (found : Option ℕ) → is_some found ≡ false → FoundTo x us i found → FoundTo x us (i + 1) (Some i)
  the-only same None none h = the-one same h
  the-only same (Some at) none h = absurd (cc)

-- what an item is seen as
pub seen-at : {A B : Type 0} (f : A → B) (xs : List A) (i : ℕ) (x : A) → i < length xs → x ≡ get_or xs i x → f x ≡ get_or (map f xs) i (f x)
seen-at f [] i x lt e = absurd (omega arith)
seen-at f (y ∷ xs) zero x lt e = ap f e
seen-at f (y ∷ xs) (suc n) x lt e = seen-at f xs n x (omega arith) e
