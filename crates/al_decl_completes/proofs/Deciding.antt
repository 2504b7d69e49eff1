-- The tests decide.
use Rattle.std.proofs.Common.{◌≡◌, ℕ, zero, suc, ◌<◌, ℤ, Bool, true, false, not, ◌&&◌, List, [], ◌∷◌, length, get_or, Option, Some, None, refl, ap, sym, ◌∙◌, arith}
use Rattle.std.specs.Prelude.{int_le}
use Rattle.std.specs.Str.{bytes_eq}
use Rattle.std.proofs.lemmas.Bool.{false≢true, true≢false}
use Rattle.std.proofs.lemmas.Int.{ints}
use Rattle.std.proofs.lemmas.Slice.Eq.{bytes_eq-Decides}
use Rattle.al_decl_judged.specs.Completing.{Completes, IsBodyOf, is_entry}
use Rattle.al_decl_judged.specs.Conformance.{Conforms, EachWith, FormalConforms, FormalIsOf, HasTypesOf, MarkConforms, MarkIsOf, ReturnedConforms, ReturnedIsOf}
use Rattle.al_decl_judged.specs.declared.specification.BodyHead.TheVariants as head
use Rattle.al_decl_judged.specs.declared.specification.Formal.{Formal}
use Rattle.al_decl_judged.specs.declared.specification.Returned.{Returned}
use Rattle.al_decl_judged.specs.declared.specification.Returned.TheVariants.{NoValue, Value}
use Rattle.al_decl_judged.specs.declared.specification.Specification.{Specification}
use Rattle.al_query.specs.declared.answer.Completion.{Completion}
use Rattle.al_view.specs.Symbols.{same_symbol}
use Rattle.al_view.specs.declared.types.Bounds.{Bounds}
use Rattle.al_view.specs.declared.types.Subtype.{Subtype}
use Rattle.al_view.specs.declared.view.Mode.{Mode}
use Rattle.al_view.specs.declared.view.Mode.TheVariants.{In, InOut, Out}
use Rattle.al_view.specs.declared.view.Parameter.{Parameter}
use Rattle.al_view.specs.declared.view.Profile.{Profile}
use Rattle.al_view.specs.declared.view.ViewKind.{ViewKind}
use Rattle.al_view.specs.declared.view.ViewKind.TheVariants.{OfSubprogram}
use Rattle.al_view.proofs.SymbolLemmas.{and_both, both, same_symbol-one, same_symbol-self}
use Rattle.al_decl_completes.specs.Matching.{completes, conforms, each_with, formal_conforms, formal_is_of, has_types, is_body_of, mark_conforms, mark_is_of, returned_with, same_bounds, same_mode, same_subtype}

-- ---- lists

module _ {X Y : Type 0} (R : X → Y → Type 0) (r : X → Y → Bool) (yes : (x : X) (y : Y) → r x y ≡ true → R x y) (so : (x : X) (y : Y) → R x y → r x y ≡ true) where
  pub each-yes : (xs : List X) (ys : List Y) → each_with r xs ys ≡ true → EachWith R xs ys
  each-yes [] [] h = (refl, λ k d e lt. absurd (omega arith))
  each-yes [] (y ∷ ys) h = absurd (false≢true h)
  each-yes (x ∷ xs) [] h = absurd (false≢true h)
  each-yes (x ∷ xs) (y ∷ ys) h =
      let parts = both (r x y) (each_with r xs ys) h in
      let rest = each-yes xs ys parts.1 in
      (omega (arith, rest.0), at parts.0 rest.1)
    where
      at : r x y ≡ true → ((k : ℕ) (d : X) (e : Y) → k < length xs → R (get_or xs k d) (get_or ys k e)) → (k : ℕ) (d : X) (e : Y) → k < length (x ∷ xs) → R (get_or (x ∷ xs) k d) (get_or (y ∷ ys) k e)
      at one more zero d e lt = yes x y one
      at one more (suc k) d e lt = more k d e (omega arith)

  pub each-so : (xs : List X) (ys : List Y) → EachWith R xs ys → each_with r xs ys ≡ true
  each-so [] [] h = refl
  each-so [] (y ∷ ys) h = absurd (omega (arith, h.0))
  each-so (x ∷ xs) [] h = absurd (omega (arith, h.0))
  each-so (x ∷ xs) (y ∷ ys) h =
      and_both (r x y) (each_with r xs ys) (so x y (h.1 zero x y (omega arith))) (each-so xs ys (omega (arith, h.0), λ k d e lt. h.1 (suc k) d e (omega arith)))

-- ---- types

mark-yes : (m : Option Subtype) (s : Subtype) → mark_is_of m s ≡ true → MarkIsOf m s
mark-yes None s h = absurd (false≢true h)
mark-yes (Some m) s h = same_symbol-one m.base s.base h

mark-so : (m : Option Subtype) (s : Subtype) → MarkIsOf m s → mark_is_of m s ≡ true
mark-so None s h = absurd h
mark-so (Some m) s h = ap (λ b. same_symbol m.base b) (sym h) ∙ same_symbol-self m.base

returned-yes : (R : Returned) (s : Option Subtype) → returned_with mark_is_of R s ≡ true → ReturnedIsOf R s
returned-yes NoValue None h = tt
returned-yes NoValue (Some s) h = absurd (false≢true h)
returned-yes (Value m) None h = absurd (false≢true h)
returned-yes (Value m) (Some s) h = mark-yes m s h

returned-so : (R : Returned) (s : Option Subtype) → ReturnedIsOf R s → returned_with mark_is_of R s ≡ true
returned-so NoValue None h = refl
returned-so NoValue (Some s) h = absurd h
returned-so (Value m) None h = absurd h
returned-so (Value m) (Some s) h = mark-so m s h

types-yes : (s : Specification) (p : Profile) → has_types s p ≡ true → HasTypesOf s p
types-yes s p h =
    let parts = both (each_with formal_is_of s.formals p.parameters) (returned_with mark_is_of s.returned p.result) h in
    record {
      formals = each-yes FormalIsOf formal_is_of (λ f q. mark-yes f.subtype q.subtype) (λ f q. mark-so f.subtype q.subtype) s.formals p.parameters parts.0;
      returned = returned-yes s.returned p.result parts.1;
    }

types-so : (s : Specification) (p : Profile) → HasTypesOf s p → has_types s p ≡ true
types-so s p h =
    and_both (each_with formal_is_of s.formals p.parameters) (returned_with mark_is_of s.returned p.result)
    (each-so FormalIsOf formal_is_of (λ f q. mark-yes f.subtype q.subtype) (λ f q. mark-so f.subtype q.subtype) s.formals p.parameters h.formals)
    (returned-so s.returned p.result h.returned)

-- ---- conformance

same_number : (a b : ℤ) → (int_le a b && int_le b a) ≡ true → a ≡ b
same_number a b h =
    let parts = both (int_le a b) (int_le b a) h in
    let one = parts.0 in
    let two = parts.1 in
    numbers a b one two
  where
    numbers : (a b : ℤ) → int_le a b ≡ true → int_le b a ≡ true → a ≡ b
    numbers a b h k = grind (arith, ints)

self_number : (a : ℤ) → (int_le a a && int_le a a) ≡ true
self_number a = and_both (int_le a a) (int_le a a) (at_most a) (at_most a)
  where
    at_most : (a : ℤ) → int_le a a ≡ true
    at_most a = grind (arith, ints)

bounds-one : (a b : Option Bounds) → same_bounds a b ≡ true → a ≡ b
bounds-one None None h = refl
bounds-one None (Some b) h = absurd (false≢true h)
bounds-one (Some a) None h = absurd (false≢true h)
bounds-one (Some a) (Some b) h =
    let parts = both (int_le a.low b.low && int_le b.low a.low) (int_le a.high b.high && int_le b.high a.high) h in
    let low = same_number a.low b.low parts.0 in
    let high = same_number a.high b.high parts.1 in
    ap (λ (l : ℤ). Some (record a { low = l })) low ∙ ap (λ (h : ℤ). Some (record b { high = h })) high

bounds-self : (a : Option Bounds) → same_bounds a a ≡ true
bounds-self None = refl
bounds-self (Some a) =
    and_both (int_le a.low a.low && int_le a.low a.low) (int_le a.high a.high && int_le a.high a.high) (self_number a.low) (self_number a.high)

subtype-one : (a b : Subtype) → same_subtype a b ≡ true → a ≡ b
subtype-one a b h =
    let parts = both (same_symbol a.base b.base) (same_bounds a.bounds b.bounds) h in
    ap (λ s. record a { base = s }) (same_symbol-one a.base b.base parts.0) ∙ ap (λ bs. record b { bounds = bs }) (bounds-one a.bounds b.bounds parts.1)

subtype-self : (a : Subtype) → same_subtype a a ≡ true
subtype-self a = and_both (same_symbol a.base a.base) (same_bounds a.bounds a.bounds) (same_symbol-self a.base) (bounds-self a.bounds)

mode-one : (a b : Mode) → same_mode a b ≡ true → a ≡ b
mode-one In In h = refl
mode-one InOut InOut h = refl
mode-one Out Out h = refl
mode-one In InOut h = absurd (false≢true h)
mode-one In Out h = absurd (false≢true h)
mode-one InOut In h = absurd (false≢true h)
mode-one InOut Out h = absurd (false≢true h)
mode-one Out In h = absurd (false≢true h)
mode-one Out InOut h = absurd (false≢true h)

mode-self : (a : Mode) → same_mode a a ≡ true
mode-self In = refl
mode-self InOut = refl
mode-self Out = refl

agrees-yes : (m : Option Subtype) (s : Subtype) → mark_conforms m s ≡ true → MarkConforms m s
agrees-yes None s h = tt
agrees-yes (Some m) s h = subtype-one m s h

agrees-so : (m : Option Subtype) (s : Subtype) → MarkConforms m s → mark_conforms m s ≡ true
agrees-so None s h = refl
agrees-so (Some m) s h = ap (λ b. same_subtype m b) (sym h) ∙ subtype-self m

result-yes : (R : Returned) (s : Option Subtype) → returned_with mark_conforms R s ≡ true → ReturnedConforms R s
result-yes NoValue None h = tt
result-yes NoValue (Some s) h = absurd (false≢true h)
result-yes (Value m) None h = absurd (false≢true h)
result-yes (Value m) (Some s) h = agrees-yes m s h

result-so : (R : Returned) (s : Option Subtype) → ReturnedConforms R s → returned_with mark_conforms R s ≡ true
result-so NoValue None h = refl
result-so NoValue (Some s) h = absurd h
result-so (Value m) None h = absurd h
result-so (Value m) (Some s) h = agrees-so m s h

formal-yes : (f : Formal) (p : Parameter) → formal_conforms f p ≡ true → FormalConforms f p
formal-yes f p h =
    let parts = both (bytes_eq f.name p.name) (same_mode f.mode p.mode && mark_conforms f.subtype p.subtype) h in
    let later = both (same_mode f.mode p.mode) (mark_conforms f.subtype p.subtype) parts.1 in
    record {
      name = (bytes_eq-Decides f.name p.name).0 parts.0;
      mode = mode-one f.mode p.mode later.0;
      subtype = agrees-yes f.subtype p.subtype later.1;
    }

formal-so : (f : Formal) (p : Parameter) → FormalConforms f p → formal_conforms f p ≡ true
formal-so f p h =
    and_both (bytes_eq f.name p.name) (same_mode f.mode p.mode && mark_conforms f.subtype p.subtype) ((bytes_eq-Decides f.name p.name).1 h.name)
    (and_both (same_mode f.mode p.mode) (mark_conforms f.subtype p.subtype) (ap (λ m. same_mode f.mode m) (sym h.mode) ∙ mode-self f.mode) (agrees-so f.subtype p.subtype h.subtype))

pub conforms-yes : (s : Specification) (p : Profile) → conforms s p ≡ true → Conforms s p
conforms-yes s p h =
    let parts = both (each_with formal_conforms s.formals p.parameters) (returned_with mark_conforms s.returned p.result) h in
    record {
      formals = each-yes FormalConforms formal_conforms formal-yes formal-so s.formals p.parameters parts.0;
      returned = result-yes s.returned p.result parts.1;
    }

pub conforms-so : (s : Specification) (p : Profile) → Conforms s p → conforms s p ≡ true
conforms-so s p h =
    and_both (each_with formal_conforms s.formals p.parameters) (returned_with mark_conforms s.returned p.result)
    (each-so FormalConforms formal_conforms formal-yes formal-so s.formals p.parameters h.formals) (result-so s.returned p.result h.returned)

-- ---- completions

not_so : (b : Bool) → not b ≡ true → b ≡ false
not_so true h = absurd (false≢true h)
not_so false h = refl

so_not : (b : Bool) → b ≡ false → not b ≡ true
so_not true h = absurd (true≢false h)
so_not false h = refl

body-yes : (s : Specification) (v : ViewKind) → is_body_of s v ≡ true → IsBodyOf (head.Subprogram s) v
body-yes s (OfSubprogram v) h =
    let parts = both (not (is_entry v.call)) (has_types s v.profile) h in (not_so (is_entry v.call) parts.0, types-yes s v.profile parts.1)
body-yes s _ h = absurd (false≢true h)

body-so : (s : Specification) (v : ViewKind) → IsBodyOf (head.Subprogram s) v → is_body_of s v ≡ true
body-so s (OfSubprogram v) h = and_both (not (is_entry v.call)) (has_types s v.profile) (so_not (is_entry v.call) h.0) (types-so s v.profile h.1)
body-so s _ h = absurd h

pub completes-yes : (n : List ℕ) (s : Specification) (c : Completion) → completes n s c ≡ true → Completes n (head.Subprogram s) c
completes-yes n s c h =
    let parts = both (bytes_eq c.name n) (is_body_of s c.view) h in ((bytes_eq-Decides c.name n).0 parts.0, body-yes s c.view parts.1)

pub completes-so : (n : List ℕ) (s : Specification) (c : Completion) → Completes n (head.Subprogram s) c → completes n s c ≡ true
completes-so n s c h = and_both (bytes_eq c.name n) (is_body_of s c.view) ((bytes_eq-Decides c.name n).1 h.0) (body-so s c.view h.1)
