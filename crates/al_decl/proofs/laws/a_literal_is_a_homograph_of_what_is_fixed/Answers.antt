-- View by view.
use Rattle.std.proofs.Common.{◌≡◌, ℕ, Bool, true, false, not, ◌||◌, List, [], ◌∷◌, Option, Some, None, is_some, suc, refl, ap, ◌∙◌, arith}
use Rattle.std.specs.List.{All, list_any}
use Rattle.al_view.specs.declared.symbol.Symbol.{Symbol}
use Rattle.al_view.specs.declared.types.TypeView.{TypeView}
use Rattle.al_view.specs.declared.view.ViewKind.{ViewKind}
use Rattle.al_view.specs.Homographs.{Signature, homographs, may_be_overloaded, same_signature, signature_of}
use Rattle.al_view_predefined.specs.Standard.{literal}
use Rattle.al_decl.specs.Laws.{IsOfOthers}
use Rattle.al_decl.proofs.laws.a_literal_is_a_homograph_of_what_is_fixed.Goals as goal

one : (a : Signature) (o : Option Signature) → (is_some o ≡ true → same_signature (Some a) o ≡ false) → same_signature (Some a) o ≡ not (is_some o)
one a None h = refl
one a (Some s) h = h refl

each : (of : Symbol) (types : List TypeView) (position : ℕ) (views : List ViewKind) → All (IsOfOthers of types position) views → list_any (homographs (literal of types position)) views ≡ list_any (λ (v : ViewKind). not (may_be_overloaded v)) views
each of types position [] h = refl
each of types position (v ∷ vs) h =
    ap (λ (b : Bool). b || list_any (homographs (literal of types position)) vs) (one ([], Some of) (signature_of v) (h 0 v (omega arith)))
    ∙ ap (λ (b : Bool). not (may_be_overloaded v) || b) (each of types position vs (λ k d lt. h (suc k) d (omega arith)))

pub returns : goal.returns
returns c = λ of types position views h. each of types position views h
