-- The test of homographs decides the relation.
use Rattle.std.proofs.Common.{◌≡◌, List, [], ◌∷◌, suc, Bool, true, ◌==◌, length, map, Option, Some, None, refl, ap, subst, arith}
use Rattle.std.specs.Bool.{Decides}
use Rattle.std.specs.List.{list_all, zip}
use Rattle.std.proofs.lemmas.Bool.Decides.{Decides-eqb}
use Rattle.al_view.specs.declared.symbol.Symbol.{Symbol}
use Rattle.al_view.specs.declared.view.Parameter.{Parameter}
use Rattle.al_view.specs.declared.view.ViewKind.{ViewKind}
use Rattle.al_view.specs.Symbols.{same_symbol}
use Rattle.al_view.specs.Homographs.{Signature, types_of, signature_of, same_parameters, same_result, same_signature, homographs, Homographs}
use Rattle.al_view.proofs.SymbolLemmas.{both, and_both, same_symbol-one, same_symbol-self}

abbrev base_of : Parameter → Symbol
base_of p = p.subtype.base

abbrev same_base : Parameter × Parameter → Bool
same_base e = same_symbol e.0.subtype.base e.1.subtype.base

same_types : (ps qs : List Parameter) → length ps ≡ length qs → list_all same_base (zip ps qs) ≡ true → map base_of ps ≡ map base_of qs
same_types [] [] e h = refl
same_types [] (q ∷ qs) e h = absurd (cc)
same_types (p ∷ ps) [] e h = absurd (cc)
same_types (p ∷ ps) (q ∷ qs) e h =
    let parts = both (same_base (p, q)) (list_all same_base (zip ps qs)) h in
    let first = same_symbol-one (base_of p) (base_of q) parts.0 in
    let rest = same_types ps qs (omega (arith, e)) parts.1 in
    cc

all_same : (ps qs : List Parameter) → map base_of ps ≡ map base_of qs → (length ps ≡ length qs) × (list_all same_base (zip ps qs) ≡ true)
all_same [] [] e = (refl, refl)
all_same [] (q ∷ qs) e = absurd (cc)
all_same (p ∷ ps) [] e = absurd (cc)
all_same (p ∷ ps) (q ∷ qs) e =
    let first : base_of p ≡ base_of q = cc in
    let tail : map base_of ps ≡ map base_of qs = cc in
    let rest = all_same ps qs tail in
    (ap suc rest.0, and_both (same_base (p, q)) (list_all same_base (zip ps qs)) (subst (λ (s : Symbol). same_symbol (base_of p) s ≡ true) first (same_symbol-self (base_of p))) rest.1)

same_parameters-Decides : (ps qs : List Parameter) → Decides (same_parameters ps qs) (map base_of ps ≡ map base_of qs)
same_parameters-Decides ps qs = (
  λ h. let parts = both (length ps == length qs) (list_all same_base (zip ps qs)) h in
      same_types ps qs ((Decides-eqb (length ps) (length qs)).0 parts.0) parts.1,
  λ e. let parts = all_same ps qs e in
      and_both (length ps == length qs) (list_all same_base (zip ps qs)) ((Decides-eqb (length ps) (length qs)).1 parts.0) parts.1,
)

same_result-one : (a b : Option Symbol) → same_result a b ≡ true → a ≡ b
same_result-one (Some a) (Some b) h = ap (λ (s : Symbol). Some s) (same_symbol-one a b h)
same_result-one None None h = refl
same_result-one (Some a) None h = absurd (cc)
same_result-one None (Some b) h = absurd (cc)

same_result-self : (a : Option Symbol) → same_result a a ≡ true
same_result-self (Some a) = same_symbol-self a
same_result-self None = refl

-- of two declarations that may both be overloaded
types-Decides : (s u : Signature) → Decides (same_signature (Some s) (Some u)) (types_of s ≡ types_of u)
types-Decides s u = (
  λ h. let parts = both (same_parameters s.0 u.0) (same_result s.1 u.1) h in
      let parameters = (same_parameters-Decides s.0 u.0).0 parts.0 in
      let result_type = same_result-one s.1 u.1 parts.1 in
      cc,
  λ e. let parameters : map base_of s.0 ≡ map base_of u.0 = ap (λ (t : List Symbol × Option Symbol). t.0) e in
      let result_type : s.1 ≡ u.1 = ap (λ (t : List Symbol × Option Symbol). t.1) e in
      and_both (same_parameters s.0 u.0) (same_result s.1 u.1) ((same_parameters-Decides s.0 u.0).1 parameters) (subst (λ (r : Option Symbol). same_result s.1 r ≡ true) result_type (same_result-self s.1)),
)

-- as the relation says it, for any two signatures
signatures-Decide : (a b : Option Signature) → Decides (same_signature a b) ((s u : Signature) → a ≡ Some s → b ≡ Some u → types_of s ≡ types_of u)
signatures-Decide (Some p) (Some q) = (
  λ h s u i j. let first : p ≡ s = cc in let second : q ≡ u = cc in
      subst (λ (x : Signature). types_of x ≡ types_of u) first (subst (λ (x : Signature). types_of p ≡ types_of x) second ((types-Decides p q).0 h)),
  λ k. (types-Decides p q).1 (k p q refl refl),
)
signatures-Decide (Some p) None = (λ h s u i j. absurd (cc), λ k. refl)
signatures-Decide None b = (λ h s u i j. absurd (cc), λ k. refl)

pub homographs-Decides : (a b : ViewKind) → Decides (homographs a b) (Homographs a b)
homographs-Decides a b = signatures-Decide (signature_of a) (signature_of b)
