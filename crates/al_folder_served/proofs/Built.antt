-- A library that is built from the sources that it holds.
use Rattle.std.proofs.Common.{ℕ, List, ap, subst, ◌∙◌}
use Rattle.al_base.specs.Files.{Texts}
use Rattle.al_session_served.specs.Library.{State, LibraryMeaning, IsBuilt}
use Rattle.al_folder_served.specs.Sources.{Holds, IsBuiltFrom, with_build}

module _ (m : LibraryMeaning) (main : List ℕ) (old new : State) (sources : Texts) (holds : Holds old sources) (is : IsBuilt m main old new) where
  pub built_from : IsBuiltFrom m new sources main
  built_from = record {
    gave = is.gave;
    compiles = subst (λ files. m.compiles files main is.gave) holds is.compiles;
    is = is.new_is ∙ ap (λ files. with_build files main is.gave) holds;
  }

  pub still_holds : Holds new sources
  still_holds = ap (λ (library : State). library.now) built_from.is
