-- What the code of bodies and units uses.
use Rattle.std.proofs.Common.{◌≡◌, ℕ, Bool, true, false, List, [], ◌∷◌, ◌++◌, Option, Some, None, refl, ap, subst}
use Rattle.std.specs.List.{flat_map}
use Rattle.std.specs.Option.{option_map_or}
use Rattle.al_view.specs.ViewUses.{link, place_uses}
use Rattle.al_view.specs.declared.link.LinkKind.TheVariants.{EntryBody, Data}
use Rattle.al_view.specs.declared.link.LinkKind.TheVariants as links
use Rattle.al_view.specs.declared.link.LinkSymbol.{LinkSymbol}
use Rattle.al_view.specs.declared.symbol.Symbol.{Symbol}
use Rattle.al_view.specs.declared.view.Mode.{Mode}
use Rattle.al_view.specs.declared.view.Mode.TheVariants as mode
use Rattle.al_view.specs.declared.view.ObjectPlace.{ObjectPlace}
use Rattle.al_instr.specs.declared.numbers.Protected.{Protected as ProtectedOne}
use Rattle.al_view_typed.specs.StatementTrees.{StatementTree}
use Rattle.al_view_typed.specs.StatementViews.{statements_of}
use Rattle.al_view_typed.specs.UnitTrees.{BodyTree, ElaborationTree, UnitTree}
use Rattle.al_view_typed.specs.Uses.{body_uses, declarations_uses, elaboration_uses, entry_uses, kind_uses, some_uses, statement_uses, statements_uses, unit_uses}
use Rattle.al_view_typed.specs.declared.unit.BodyKind.{BodyKind}
use Rattle.al_view_typed.specs.declared.unit.BodyKind.TheVariants as kinds
use Rattle.al_view_typed.specs.declared.unit.EntryOf.{EntryOf}
use Rattle.al_view_typed.specs.declared.unit.FormalWords.{FormalWords}
use Rattle.al_code.specs.declared.piece.Construct.TheVariants as construct
use Rattle.al_code.specs.declared.routine.Routine.{Routine}
use Rattle.al_code.specs.Routines.{act_code, barrier_code, begun_code, body_code, copied_code, elaboration_code, ending_code, entry_call_code, entry_code, formal_code, function_code, gate_code, inside_code, kind_code, mode_code, procedure_code, protected_function_code, protected_procedure_code, served_code, task_code, unit_code, unlocking, within}
use Rattle.al_code.specs.Statements.{statements_code}
use Rattle.al_engine.proofs.Used.{Uses, begins, each, each_own, end_of, left, nothing, quiet, right, then, using_first, whole}
use Rattle.al_engine.proofs.UsedExpressions.{guarded_used, place_used}
use Rattle.al_engine.proofs.UsedStatements.{declarations_used, mark_quiet, statements_used}

-- ---- inside a body

begun_quiet : (b : Bool) {xs : List LinkSymbol} → Uses (begun_code b) xs
begun_quiet true = quiet refl
begun_quiet false = nothing

listed_uses : (ss : List StatementTree) → statements_uses (statements_of ss) ≡ flat_map statement_uses ss
listed_uses [] = refl
listed_uses (s ∷ ss) = ap (λ (xs : List LinkSymbol). statement_uses s ++ xs) (listed_uses ss)

ending_used : (r : Routine) (e : ElaborationTree) → Uses (ending_code r e) (flat_map statement_uses e.statements)
unfolding ending_code
ending_used r e = end_of construct.Routine (subst (λ (xs : List LinkSymbol). Uses (statements_code r (statements_of e.statements)) xs) (listed_uses e.statements) (statements_used r (statements_of e.statements)))

inside_used : (r : Routine) (is_task : Bool) (e : ElaborationTree) → Uses (inside_code r is_task e) (elaboration_uses e)
unfolding inside_code
inside_used r is_task e =
    then (then (then whole (left _ (declarations_used r.depth e.declarations))) (begun_quiet is_task))
    (right (declarations_uses e.declarations) (ending_used r e))

-- ---- protected objects and entries

act_used : (what : ProtectedOne) (object : Symbol) {xs : List LinkSymbol} → Uses (act_code what object) (link links.Protected object ∷ xs)
act_used what object = using_first

entry_call_used : (entry : Symbol) {xs : List LinkSymbol} → Uses (entry_call_code entry) (link EntryBody entry ∷ xs)
unfolding entry_call_code
entry_call_used entry = then whole using_first

barrier_used : (depth : ℕ) (barrier : ObjectPlace) → Uses (barrier_code depth barrier) (place_uses Data barrier)
unfolding barrier_code
barrier_used depth barrier = then (place_used Data depth barrier) whole

-- an entry's body and its barrier, in an object
module _ (depth : ℕ) (object entry : Symbol) (barrier : ObjectPlace) where
  abbrev these : List LinkSymbol
  these = link links.Protected object ∷ link EntryBody entry ∷ place_uses Data barrier

  entry_here : Uses (entry_call_code entry) these
  entry_here = right (link links.Protected object ∷ []) (entry_call_used entry)

  barrier_here : Uses (barrier_code depth barrier) these
  barrier_here = right (link links.Protected object ∷ link EntryBody entry ∷ []) (barrier_used depth barrier)

served_used : (depth : ℕ) (object : Symbol) (e : Option EntryOf) → Uses (served_code depth object e) (link links.Protected object ∷ some_uses entry_uses e)
unfolding served_code
served_used depth object None = nothing
served_used depth object (Some e) =
    then (act_used _ object)
    (guarded_used (then (barrier_here depth object e.entry e.barrier) (guarded_used (then (entry_here depth object e.entry e.barrier) (act_used _ object)))))

gate_used : (depth : ℕ) (entry object : Symbol) (barrier : ObjectPlace) → Uses (gate_code depth entry object barrier) (link links.Protected object ∷ link EntryBody entry ∷ place_uses Data barrier)
unfolding gate_code
gate_used depth entry object barrier =
    then
    (then
    (then (then (act_used _ object) (barrier_here depth object entry barrier)) (guarded_used (then (then (entry_here depth object entry barrier) whole) whole)))
    (act_used _ object))
    whole

-- ---- what is copied back

mode_quiet : (m : Mode) (word words : ℕ) {xs : List LinkSymbol} → Uses (mode_code m word words) xs
mode_quiet mode.In word words = nothing
mode_quiet mode.Out word words = quiet refl
mode_quiet mode.InOut word words = quiet refl

formal_quiet : (f : FormalWords) {xs : List LinkSymbol} → Uses (formal_code f) xs
unfolding formal_code
formal_quiet f = mode_quiet f.mode f.word f.words

copied_quiet : (formals : List FormalWords) (copied : ℕ) {xs : List LinkSymbol} → Uses (copied_code formals copied) xs
unfolding copied_code
copied_quiet formals copied {xs = xs} = then (each formal_code xs (λ f. formal_quiet f) formals) whole

-- ---- bodies

procedure_used : (b : BodyTree) (copied : ℕ) → Uses (procedure_code b copied) (elaboration_uses b.inside)
unfolding procedure_code
procedure_used b copied = then (then (then begins (mark_quiet true b.inside.line)) (inside_used (within b.depth) false b.inside)) (copied_quiet b.formals copied)

function_used : (b : BodyTree) (end : ℕ) → Uses (function_code b end) (elaboration_uses b.inside)
unfolding function_code
function_used b end = then (then (then (then begins (mark_quiet true b.inside.line)) (inside_used (within b.depth) false b.inside)) (mark_quiet true end)) whole

task_used : (b : BodyTree) → Uses (task_code b) (elaboration_uses b.inside)
unfolding task_code
task_used b = then (then (then begins (mark_quiet true b.inside.line)) (inside_used (within b.depth) true b.inside)) whole

protected_procedure_used : (b : BodyTree) (object : Symbol) (entry : Option EntryOf) (copied : ℕ) → Uses (protected_procedure_code b object entry copied) ((link links.Protected object ∷ some_uses entry_uses entry) ++ elaboration_uses b.inside)
unfolding protected_procedure_code
protected_procedure_used b object entry copied =
    let own = link links.Protected object ∷ some_uses entry_uses entry in
    then
    (then
    (then
    (then
    (then (then begins (mark_quiet true b.inside.line)) (act_used _ object))
    (right own (inside_used (within b.depth) false b.inside)))
    (left _ (served_used b.depth object entry)))
    whole)
    (copied_quiet b.formals copied)

protected_function_used : (b : BodyTree) (object : Symbol) (end : ℕ) → Uses (protected_function_code b object end) ((link links.Protected object ∷ []) ++ elaboration_uses b.inside)
unfolding protected_function_code
protected_function_used b object end =
    then
    (then
    (then
    (then (then begins (mark_quiet true b.inside.line)) (act_used _ object))
    (right (link links.Protected object ∷ []) (inside_used (unlocking b.depth) false b.inside)))
    (mark_quiet true end))
    whole

entry_used : (b : BodyTree) (object : Symbol) (barrier : ObjectPlace) → Uses (entry_code b object barrier) ((link links.Protected object ∷ link EntryBody b.symbol ∷ place_uses Data barrier) ++ elaboration_uses b.inside)
unfolding entry_code
entry_used b object barrier =
    let own = link links.Protected object ∷ link EntryBody b.symbol ∷ place_uses Data barrier in
    then
    (then
    (then
    (then
    (then (then begins (mark_quiet true b.inside.line)) (left _ (gate_used b.depth b.symbol object barrier)))
    begins)
    (mark_quiet true b.inside.line))
    (right own (inside_used (within b.depth) false b.inside)))
    whole

kind_used : (b : BodyTree) (k : BodyKind) → Uses (kind_code b k) (kind_uses b.symbol k ++ elaboration_uses b.inside)
kind_used b (kinds.Procedure copied) = procedure_used b copied
kind_used b (kinds.Function words end) = function_used b end
kind_used b kinds.Task = task_used b
kind_used b (kinds.ProtectedProcedure object entry copied) = protected_procedure_used b object entry copied
kind_used b (kinds.ProtectedFunction object words end) = protected_function_used b object end
kind_used b (kinds.Entry object barrier) = entry_used b object barrier

-- ---- units

elaboration_used : (e : ElaborationTree) → Uses (elaboration_code e) (elaboration_uses e)
unfolding elaboration_code
elaboration_used e = then (then (mark_quiet true e.line) (inside_used (within 1) false e)) whole

elaborated_used : (e : Option ElaborationTree) → Uses (option_map_or elaboration_code e []) (some_uses elaboration_uses e)
elaborated_used None = nothing
elaborated_used (Some e) = elaboration_used e

pub unit_used : (u : UnitTree) → Uses (unit_code u) (unit_uses u)
unfolding unit_code unit_uses
unit_used u =
    then (left _ (elaborated_used u.elaboration))
    (right (some_uses elaboration_uses u.elaboration) (each_own body_code body_uses (λ b. kind_used b b.kind) u.bodies))
