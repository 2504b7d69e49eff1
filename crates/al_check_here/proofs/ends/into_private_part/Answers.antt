use Rattle.std.proofs.Common.{◌≡◌, List, [], refl, ◌∙◌}
use Rattle.al_query_outcome.specs.declared.interface.StubDeclarations.{StubDeclarations}
use Rattle.al_view.specs.Named.{Declarations}
use Rattle.al_view.specs.declared.part.Part.{Part}
use Rattle.al_view.specs.declared.part.Part.TheVariants as part
use Rattle.al_check_here.specs.Ends.{parts_ended}
use Rattle.al_check_here.proofs.ends.into_private_part.Goals as goal

-- none outside of a private part
none-elsewhere : (p : Part) (visible declared : Declarations) (stubs : List StubDeclarations) → (p ≡ part.Private → ⊥) → [] ≡ (parts_ended p visible declared stubs).private_part
none-elsewhere part.Visible visible declared stubs h = refl
none-elsewhere part.Private visible declared stubs h = absurd (h refl)
none-elsewhere part.Body visible declared stubs h = refl
none-elsewhere (part.Stub name) visible declared stubs h = refl

pub returns-in_default : goal.returns-in_default
returns-in_default c =
    c.new.ensures
    ∙ none-elsewhere c.args.state.part c.args.state.visible c.args.state.env.declared c.args.state.stubs c.in_default.not-Private
