-- A specification has the types of one signature alone.
use Rattle.std.proofs.Common.{◌≡◌, List, [], ◌∷◌, zero, suc, map, ap, sym, ◌∙◌, refl, arith, Option, Some, None}
use Rattle.std.specs.Option.{option_map}
use Rattle.al_view.specs.declared.symbol.Symbol.{Symbol}
use Rattle.al_view.specs.declared.types.Subtype.{Subtype}
use Rattle.al_view.specs.declared.view.Parameter.{Parameter}
use Rattle.al_decl_judged.specs.declared.specification.Formal.{Formal}
use Rattle.al_decl_judged.specs.declared.specification.Returned.{Returned}
use Rattle.al_decl_judged.specs.declared.specification.Returned.TheVariants.{NoValue, Value}
use Rattle.al_decl_judged.specs.Conformance.{EachWith, FormalIsOf, MarkIsOf, ReturnedIsOf}

mark_of_both : (mark : Option Subtype) (s u : Subtype) → MarkIsOf mark s → MarkIsOf mark u → s.base ≡ u.base
mark_of_both None s u h k = absurd h
mark_of_both (Some mark) s u h k = sym h ∙ k

abbrev base_of : Parameter → Symbol
base_of p = p.subtype.base

-- the rest of two lists
rest_each : (f : Formal) (fs : List Formal) (p : Parameter) (ps : List Parameter) → EachWith FormalIsOf (f ∷ fs) (p ∷ ps) → EachWith FormalIsOf fs ps
rest_each f fs p ps each = (omega (arith, each.0), λ k d e lt. each.1 (suc k) d e (omega arith))

pub same_bases : (fs : List Formal) (ps qs : List Parameter) → EachWith FormalIsOf fs ps → EachWith FormalIsOf fs qs → map base_of ps ≡ map base_of qs
same_bases [] [] [] h k = refl
same_bases [] (p ∷ ps) qs h k = absurd (omega (arith, h.0))
same_bases [] [] (q ∷ qs) h k = absurd (omega (arith, k.0))
same_bases (f ∷ fs) [] qs h k = absurd (omega (arith, h.0))
same_bases (f ∷ fs) (p ∷ ps) [] h k = absurd (omega (arith, k.0))
same_bases (f ∷ fs) (p ∷ ps) (q ∷ qs) h k =
    let env : base_of p ≡ base_of q = mark_of_both f.subtype p.subtype q.subtype (h.1 zero f p (omega arith)) (k.1 zero f q (omega arith)) in
    ap (λ s. s ∷ map base_of ps) env ∙ ap (λ ss. base_of q ∷ ss) (same_bases fs ps qs (rest_each f fs p ps h) (rest_each f fs q qs k))

pub same_results : (r : Returned) (s u : Option Subtype) → ReturnedIsOf r s → ReturnedIsOf r u → option_map (λ t. t.base) s ≡ option_map (λ t. t.base) u
same_results NoValue None None h k = refl
same_results NoValue (Some s) u h k = absurd h
same_results NoValue None (Some u) h k = absurd k
same_results (Value m) None u h k = absurd h
same_results (Value m) (Some s) None h k = absurd k
same_results (Value m) (Some s) (Some u) h k = ap Some (mark_of_both m s u h k)
