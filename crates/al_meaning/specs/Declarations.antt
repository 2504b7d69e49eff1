-- What declarations do when they are elaborated (ARM 3.11).
use Rattle.std.specs.Prelude.{ℕ, pos, true, false, List, [], ◌∷◌, replicate, Option, Some, None}
use Rattle.al_base.specs.declared.unit_key.UnitKey.{UnitKey}
use Rattle.al_view.specs.declared.view.ObjectPlace.{ObjectPlace}
use Rattle.al_view_typed.specs.ExpressionTrees.{ValueTree}
use Rattle.al_view_typed.specs.DeclarationTrees.{DeclarationTree, DeclarationFormTree, Objects, Subprogram, Elaborated, SingleTask, SingleProtected}
use Rattle.al_meaning.specs.Scalars.{Meaningless}
use Rattle.al_meaning.specs.States.{Act, ◌>>=◌, ◌>>◌, give, raise, at_line, store, flagged}
use Rattle.al_meaning.specs.Expressions.{Calls, checked_value}

module _ (calls : Calls) (unit : UnitKey) where
  -- an object without a value begins with zeros (ARM 3.3.1)
  abbrev pub object_declared : ℕ → Option ValueTree → ObjectPlace → Act (Unit {0})
  object_declared words None place = store place (replicate words (pos 0))
  object_declared words (Some x) place = do
    vs ← checked_value calls x
    store place vs

  -- each object of a declaration has the value evaluated anew (ARM 3.3.1(7))
  abbrev pub objects_declared : ℕ → Option ValueTree → List ObjectPlace → Act (Unit {0})
  objects_declared words x [] = give tt
  objects_declared words x (p ∷ ps) = do
    object_declared words x p
    objects_declared words x ps

  abbrev pub declared : DeclarationFormTree → Act (Unit {0})
  declared (Objects objects words x) = objects_declared words x objects
  declared (Subprogram flag) = flagged flag false
  declared (Elaborated flag) = flagged flag true
  declared (SingleTask symbol priority) = raise Meaningless
  declared (SingleProtected symbol values) = raise Meaningless

  abbrev pub declarations : List DeclarationTree → Act (Unit {0})
  declarations [] = give tt
  declarations (d ∷ ds) = do
    at_line unit d.line (declared d.form)
    declarations ds
