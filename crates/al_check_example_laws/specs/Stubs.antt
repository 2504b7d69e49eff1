-- Two procedures of one name, and a stub of that name (ARM 10.1.3, 8.3(8)).
use Rattle.std.specs.Prelude.{◌≡◌, [], ◌∷◌, None, Some, codes, IsFalse}
use Rattle.al_view.specs.declared.symbol.Symbol.{Symbol}
use Rattle.al_view.specs.declared.view.Mode.TheVariants.{In}
use Rattle.al_view.specs.declared.view.Profile.{Profile}
use Rattle.al_view.specs.declared.view.SubprogramView.{SubprogramView}
use Rattle.al_view.specs.declared.view.ViewKind.TheVariants.{OfSubprogram}
use Rattle.al_view.specs.ViewUses.{link}
use Rattle.al_view.specs.declared.link.LinkKind.TheVariants.{Code}
use Rattle.al_query.specs.declared.answer.Completion.{Completion}
use Rattle.al_decl_judged.specs.Completing.{Completes, IsFirst, is_entry}
use Rattle.al_decl_judged.specs.declared.specification.BodyHead.TheVariants as head
use Rattle.al_decl_judged.specs.declared.specification.Returned.TheVariants.{NoValue}
use Rattle.al_decl_judged.specs.declared.specification.Specification.{Specification}
use Rattle.al_query_outcome.specs.Defines.{IsStubs}
use Rattle.al_query_outcome.specs.declared.interface.StubDeclarations.{StubDeclarations}
use Rattle.al_query_outcome.specs.declared.interface.UnitInterface.{UnitInterface}

-- the profile of `procedure S (A : T)`
abbrev pub profile_with : Symbol → Profile
profile_with t = record {
  parameters = record { name = codes "a"; mode = In; subtype = record { base = t; bounds = None } } ∷ [];
  result = None;
}

-- `procedure S (A : T) is separate;`
abbrev pub stub_with : Symbol → Specification
stub_with t = record {
  formals = record { name = codes "a"; mode = In; subtype = Some (record { base = t; bounds = None }) } ∷ [];
  returned = NoValue;
}

abbrev pub declaration_of : SubprogramView → Completion
declaration_of v = record { name = codes "s"; view = OfSubprogram v }

-- procedures S (A : T) and S (A : U) of two types are declared, in this order: a stub of S (A : U) completes the second
abbrev pub StubsDeclarationIsTold : Type 0
StubsDeclarationIsTold =
    (t u : Symbol) (first second : SubprogramView) → (t ≡ u → ⊥) → IsFalse (is_entry first.call) → IsFalse (is_entry second.call)
    → first.profile ≡ profile_with t → second.profile ≡ profile_with u
    → IsFirst (Completes (codes "s") (head.Subprogram (stub_with u))) (declaration_of first ∷ declaration_of second ∷ []) 1

-- a unit with one stub leaves the code of the stub's own declaration to a subunit, and that of no homonym
abbrev pub SubunitDefinesStubsOwn : Type 0
SubunitDefinesStubsOwn =
    (unit : UnitInterface) (stub : StubDeclarations) (homonym : Symbol) → unit.parts.stubs ≡ stub ∷ [] → (homonym ≡ stub.symbol → ⊥)
    → IsStubs unit (link Code stub.symbol) × (IsStubs unit (link Code homonym) → ⊥)
