-- What an interpretation is.
use Rattle.std.specs.Prelude.{◌≡◌, ◌≤◌, List, [], ◌∷◌, length}
use Rattle.al_overload.specs.declared.choose.Interpretation.{Interpretation}
use Rattle.al_overload.specs.declared.choose.Interpretation.TheVariants.{Nothing, One, Several}
use Rattle.al_overload.specs.Labelling.{Label}
use Rattle.al_overload.specs.Counts.{label_of}

-- none; or exactly one, and it is this one; or at least two
abbrev pub IsInterpretation : List Label → Interpretation → Type 0
IsInterpretation all Nothing = all ≡ []
IsInterpretation all (One labelled) = all ≡ label_of labelled ∷ []
IsInterpretation all Several = 2 ≤ length all
