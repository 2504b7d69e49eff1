use Rattle.std.proofs.Common.{◌≡◌, ◌∙◌, zero, suc, ℕ, ◌<◌, List, slice_index_or, [], ◌∷◌, None, refl, sym, ap, subst, arith, codes}
use Rattle.std.specs.List.{Contains}
use Rattle.al_view.specs.declared.link.LinkSymbol.{LinkSymbol}
use Rattle.al_view.specs.declared.symbol.Symbol.{Symbol}
use Rattle.al_view.specs.declared.view.Mode.TheVariants.{In}
use Rattle.al_view.specs.declared.view.Parameter.{Parameter}
use Rattle.al_view.specs.declared.view.Profile.{Profile}
use Rattle.al_query.specs.declared.answer.Completion.{Completion}
use Rattle.al_decl_judged.specs.Completing.{Completes}
use Rattle.al_decl_judged.specs.Conformance.{FormalIsOf, HasTypesOf}
use Rattle.al_decl_judged.specs.declared.specification.BodyHead.TheVariants as head
use Rattle.al_decl_judged.specs.declared.specification.Formal.{Formal}
use Rattle.al_query_outcome.specs.declared.interface.StubDeclarations.{StubDeclarations}
use Rattle.al_check_example_laws.specs.Stubs.{declaration_of, profile_with, stub_with}
use Rattle.al_check_example_laws.proofs.laws.the_declaration_of_a_stub_is_told.Goals as goal

each : (u : Symbol) (k : ℕ) (d : Formal) (e : Parameter) → k < 1
    → FormalIsOf (slice_index_or (stub_with u).formals k d) (slice_index_or (profile_with u).parameters k e)
each u zero d e lt = refl
each u (suc k) d e lt = absurd (omega arith)

has_its_types : (u : Symbol) → HasTypesOf (stub_with u) (profile_with u)
has_its_types u = record { formals = (refl, each u); returned = tt }

formal_of : Symbol → Formal
formal_of t = record { name = []; mode = In; subtype = None }

parameter_of : Symbol → Parameter
parameter_of t = record { name = []; mode = In; subtype = record { base = t; bounds = None } }

of_one_type : (t u : Symbol) → HasTypesOf (stub_with u) (profile_with t) → u ≡ t
of_one_type t u h = h.formals.1 0 (formal_of t) (parameter_of t) (omega arith)

pub returns-clause-declaration : goal.returns-clause-declaration
returns-clause-declaration g t u first second apart a b one two = record {
  inside = omega arith;
  env = λ d. (refl, (b, subst (λ (p : Profile). HasTypesOf (stub_with u) p) (sym two) (has_its_types u)));
  before = before;
}
  where
    before : (k : ℕ) (d : Completion) → k < 1 → Completes (codes "s") (head.Subprogram (stub_with u)) (slice_index_or (declaration_of first ∷ declaration_of second ∷ []) k d) → ⊥
    before zero d lt done = apart (sym (of_one_type t u (subst (λ (p : Profile). HasTypesOf (stub_with u) p) one done.1.1)))
    before (suc k) d lt done = absurd (omega arith)

the_one : (stub other : StubDeclarations) (k : ℕ) → k < 1 → slice_index_or (stub ∷ []) k other ≡ other → stub ≡ other
the_one stub other zero lt at = at
the_one stub other (suc k) lt at = absurd (omega arith)

pub returns-clause-code : goal.returns-clause-code
returns-clause-code g unit stub homonym only apart = (
  (stub, subst (λ (xs : List StubDeclarations). Contains xs stub) (sym only) (0, omega arith, refl), refl),
  λ has.
      let there : Contains (stub ∷ []) has.0 = subst (λ (xs : List StubDeclarations). Contains xs has.0) only has.1 in
      let same : stub ≡ has.0 = the_one stub has.0 there.0 there.1 there.2 in
      apart (ap (λ (l : LinkSymbol). l.symbol) has.2 ∙ ap (λ (s : StubDeclarations). s.symbol) (sym same)),
)
