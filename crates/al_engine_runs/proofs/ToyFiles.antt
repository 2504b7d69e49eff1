-- A library of the small language and its sources.
use Rattle.std.proofs.Common.{◌≡◌, [], ◌∷◌, Option, Some, None, IfSome, refl, sym, ap, subst, ◌∙◌}
use Rattle.al_base.specs.Files.{Texts}
use Rattle.al_unit_graph.specs.Headers.{Library}
use Rattle.al_engine.specs.GraphGraphs.{HaveSameHeaders}
use Rattle.al_engine.specs.Texts.{HaveTextsBut}
use Rattle.al_engine.specs.declared.alike.Edited.{Edited}
use Rattle.al_engine_toy.specs.Toys.{AreToys, texts_of, toy_library}

texts_of-library : (files : Texts) → texts_of (toy_library files) ≡ files
unfolding toy_library
texts_of-library [] = refl
texts_of-library (f ∷ fs) = ap (λ gs. f ∷ gs) (texts_of-library fs)

-- a library of sources has these sources
pub texts_are : (lib : Library) (files : Texts) → lib ≡ toy_library files → texts_of lib ≡ files
texts_are lib files is = ap texts_of is ∙ texts_of-library files

-- a library of sources is that of its own sources
pub are_toys : (lib : Library) (files : Texts) → lib ≡ toy_library files → AreToys lib
are_toys lib files is = is ∙ ap toy_library (sym (texts_are lib files is))

-- what holds of two libraries holds of those of their sources
pub edited_as : (before now : Library) → AreToys before → AreToys now → (found : Option Edited) → IfSome found (λ edited. HaveSameHeaders before now × HaveTextsBut before now edited) → IfSome found (λ edited. HaveSameHeaders (toy_library (texts_of before)) (toy_library (texts_of now)) × HaveTextsBut (toy_library (texts_of before)) (toy_library (texts_of now)) edited)
edited_as before now of_before of_now None is = tt
edited_as before now of_before of_now (Some edited) is =
    subst (λ (l : Library). HaveSameHeaders l (toy_library (texts_of now)) × HaveTextsBut l (toy_library (texts_of now)) edited) of_before
    (subst (λ (l : Library). HaveSameHeaders before l × HaveTextsBut before l edited) of_now is)
