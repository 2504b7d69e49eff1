-- Barriers of entries (ARM 9.5.2, D.7): a barrier is the name of a component of the object, of type Boolean.
use Rattle.std.specs.Prelude.{ℕ, Bool, ◌&&◌, List, [], ◌∷◌, Option, Some, None, if◌then◌else◌}
use Rattle.std.specs.Str.{bytes_eq}
use Rattle.al_base_fault.specs.declared.check_rule.CheckRule.TheVariants.{BadBarrier}
use Rattle.al_base_fault.specs.Faults.{fault_at}
use Rattle.al_base_fault.specs.declared.fault.Fault.{Fault}
use Rattle.al_decl_judged.specs.Completing.{is_entry}
use Rattle.al_overload_lookup.specs.Keys.{key_of}
use Rattle.al_overload_lookup.specs.Places.{first_place}
use Rattle.al_tree_syntax.specs.ExpressionTrees.{ExpressionTree}
use Rattle.al_tree_syntax.specs.StatementTrees.{OperationBodiesTree, OperationBodyTree}
use Rattle.al_tree_syntax.specs.StatementTrees.OperationBodiesTree.{NoOperationBody, MoreOperationBodies}
use Rattle.al_tree_syntax.specs.StatementTrees.OperationBodyTree.{SubprogramOperation, EntryOperation}
use Rattle.al_view.specs.Symbols.{same_symbol}
use Rattle.al_view.specs.declared.symbol.Symbol.{Symbol}
use Rattle.al_view.specs.declared.types.Component.{Component}
use Rattle.al_view.specs.declared.view.ObjectPlace.{ObjectPlace}
use Rattle.al_view.specs.declared.view.ObjectPlace.TheVariants.{Static}
use Rattle.al_view.specs.declared.view.Operation.{Operation}
use Rattle.al_view.specs.declared.view.ProtectedView.{ProtectedView}
use Rattle.al_view_predefined.specs.Standard.{boolean}
use Rattle.al_view_typed.specs.declared.unit.EntryOf.{EntryOf}
use Rattle.al_check_declared.specs.ObjectRegions.{word_after}

-- ---- a barrier

abbrev pub is_barrier : List ℕ → Symbol → Component → Bool
is_barrier name of c = bytes_eq c.name name && same_symbol c.subtype.base of

-- the component with this name and this type among these, which begin at that word of the object
abbrev pub barrier_among : ProtectedView → List ℕ → Symbol → ℕ → List Component → Option ObjectPlace
barrier_among object name of word [] = None
barrier_among object name of word (c ∷ cs) =
    if is_barrier name of c then Some (Static object.symbol word) else barrier_among object name of (word_after object c word) cs

-- no component has a name with dots
abbrev pub barrier_named : ProtectedView → Option (List ℕ) → Option ObjectPlace
barrier_named object None = None
barrier_named object (Some name) = barrier_among object name boolean 0 object.components

abbrev pub barrier_of : ProtectedView → ExpressionTree → Option ObjectPlace
barrier_of object e = barrier_named object (key_of e)

-- a barrier that isn't right is E603 at its first token, and has no other error
abbrev pub barrier_fault : ProtectedView → ExpressionTree → Option Fault
barrier_fault object e = missing (barrier_of object e)
  where
    missing : Option ObjectPlace → Option Fault
    missing None = Some (fault_at (first_place e) BadBarrier)
    missing (Some place) = None

-- ---- the entry of an object, whose procedures may open it, wherever its body is among theirs

abbrev pub either : {A : Type 0} → Option A → Option A → Option A
either None later = later
either (Some a) later = Some a

abbrev pub own_entry : Operation → Option Symbol
own_entry o = if is_entry o.subprogram.call then Some o.subprogram.symbol else None

-- an object has one entry at most
abbrev pub entry_among : List Operation → Option Symbol
entry_among [] = None
entry_among (o ∷ os) = either (own_entry o) (entry_among os)

abbrev pub own_barrier : ProtectedView → OperationBodyTree → Option ObjectPlace
own_barrier object (SubprogramOperation s b) = None
own_barrier object (EntryOperation l n barrier inner) = barrier_of object barrier

-- the first barrier that is right
abbrev pub first_barrier : ProtectedView → OperationBodiesTree → Option ObjectPlace
first_barrier object NoOperationBody = None
first_barrier object (MoreOperationBodies o os) = either (own_barrier object o) (first_barrier object os)

abbrev pub entry_by : Option Symbol → Option ObjectPlace → Option EntryOf
entry_by None barrier = None
entry_by (Some symbol) None = None
entry_by (Some symbol) (Some place) = Some (record { entry = symbol; barrier = place })

abbrev pub entry_of : ProtectedView → OperationBodiesTree → Option EntryOf
entry_of object os = entry_by (entry_among object.operations) (first_barrier object os)
