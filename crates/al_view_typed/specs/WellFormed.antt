-- For which labelled units code can be made.
use Rattle.std.specs.Prelude.{ℕ, ◌+◌, ◌≤◌}
use Rattle.std.specs.List.{All}
use Rattle.al_view_typed.specs.UnitTrees.{UnitTree}
use Rattle.al_view_typed.specs.declared.unit.DataPlace.{DataPlace}
use Rattle.al_view_typed.specs.declared.unit.ProtectedWords.{ProtectedWords}

-- its objects and flags begin within the unit's words, and the components of its protected objects lie within them; that
-- ceilings are 0 to 30 and that literals have values holds of all labelled units
pub record IsWellFormed (u : UnitTree) : Type 0 where
  pub objects : All (λ (p : DataPlace). p.word ≤ u.words) u.objects
  pub flags : All (λ (p : DataPlace). p.word + 1 ≤ u.words) u.flags
  pub regions : All (λ (p : ProtectedWords). p.word + p.words ≤ u.words) u.protected_objects
