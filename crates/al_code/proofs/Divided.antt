-- The code of a unit falls into its routines.
use Rattle.std.proofs.Common.{◌≡◌, ℕ, ◌+◌, Bool, true, false, List, [], ◌∷◌, ◌++◌, length, map, Option, Some, None, refl, sym, ap, subst, ◌∙◌, append_assoc, append-nil, arith, leb, cond, length-append}
use Rattle.std.specs.Prelude.{All}
use Rattle.std.specs.List.{flat_map}
use Rattle.std.specs.Option.{option_map_or}
use Rattle.std.proofs.lemmas.Grind.{flat_map-append}
use Rattle.std.proofs.lemmas.List.{map-append}
use Rattle.std.proofs.lemmas.List.Elements.{All-nil, All-cons, All-append}
use Rattle.al_view.specs.ViewUses.{link}
use Rattle.al_view.specs.declared.link.LinkKind.TheVariants.{Code, Gate, EntryBody}
use Rattle.al_view.specs.declared.link.LinkSymbol.{LinkSymbol}
use Rattle.al_view.specs.declared.symbol.Symbol.{Symbol}
use Rattle.al_view.specs.declared.view.ObjectPlace.{ObjectPlace}
use Rattle.al_instr.specs.declared.numbers.Sized.TheVariants as sized
use Rattle.al_view_typed.specs.UnitTrees.{BodyTree, ElaborationTree, UnitTree}
use Rattle.al_view_typed.specs.declared.unit.BodyKind.{BodyKind}
use Rattle.al_view_typed.specs.declared.unit.BodyKind.TheVariants as kinds
use Rattle.al_view_typed.specs.declared.unit.EntryOf.{EntryOf}
use Rattle.al_code_object.specs.declared.object.Address.{Address}
use Rattle.al_code_object.specs.declared.object.Object.TheVariants.{Large, Compiled}
use Rattle.al_code_object.specs.Objects.{CompiledCode}
use Rattle.al_code.specs.Pieces.{Piece, Begins, bytes_of, defines_from, size}
use Rattle.al_code.proofs.Writing.{bytes_append, noted_append}
use Rattle.al_code.specs.Pieces.{definition_at}
use Rattle.al_code.specs.ExprPieces.{of_size}
use Rattle.al_code.specs.Division.{EachFallsIntoRoutines, FallsIntoRoutines, RoutineCode, StaysInside, bytes_in, kind_symbols, routine_symbols, standing_from, symbol_at}
use Rattle.al_code.specs.ObjectOf.{compiled_of, data_addresses, object_of}
use Rattle.al_code.specs.Routines.{body_code, elaboration_code, entry_code, function_code, gate_code, inside_code, kind_code, procedure_code, protected_function_code, protected_procedure_code, task_code, unit_code, unlocking, within}
use Rattle.al_code.proofs.Bounds.{Inner, ending, instrs, instrs_bytes, last, then, using_one, whole}
use Rattle.al_code.specs.Marks.{mark_of}
use Rattle.al_code.proofs.BoundedStatements.{mark_bounded, copied_inner, gate_inner, inside_bounded, served_bounded}

-- pieces that fall into routines of these symbols
record Cut (ps : List Piece) (symbols : List (Option LinkSymbol)) : Type 0 where
  routines : List RoutineCode
  symbols_are : map (λ (r : RoutineCode). r.symbol) routines ≡ symbols
  bytes_are : bytes_of ps ≡ flat_map bytes_in routines
  defines_are : (from : ℕ) → defines_from from ps ≡ standing_from from routines
  stay : All (λ (r : RoutineCode). StaysInside r.code) routines

no_routine : Cut [] []
no_routine = record { routines = []; symbols_are = refl; bytes_are = refl; defines_are = λ from. refl; stay = All-nil (λ (r : RoutineCode). StaysInside r.code) }

one_stays : (symbol : Option LinkSymbol) (ps : List Piece) → Inner ps → All (λ (r : RoutineCode). StaysInside r.code) (record { symbol = symbol; code = instrs ps } ∷ [])
one_stays symbol ps h = All-cons (λ (r : RoutineCode). StaysInside r.code) (record { symbol = symbol; code = instrs ps }) [] (h.lead 0) (All-nil (λ (r : RoutineCode). StaysInside r.code))

unnamed : {ps : List Piece} → Inner ps → Cut ps (None ∷ [])
unnamed {ps = ps} h = record {
  routines = record { symbol = None; code = instrs ps } ∷ [];
  symbols_are = refl;
  bytes_are = instrs_bytes ps ∙ sym (append-nil (bytes_in (record { symbol = None; code = instrs ps })));
  defines_are = λ from. h.quiet from;
  stay = one_stays None ps h;
}

named : (symbol : LinkSymbol) {ps : List Piece} → Inner ps → Cut (Begins symbol ∷ ps) (Some symbol ∷ [])
named symbol {ps = ps} h = record {
  routines = record { symbol = Some symbol; code = instrs ps } ∷ [];
  symbols_are = refl;
  bytes_are = instrs_bytes ps ∙ sym (append-nil (bytes_in (record { symbol = Some symbol; code = instrs ps })));
  defines_are = λ from. ap (λ (ds : List Address). record { symbol = symbol; offset = from } ∷ ds) (h.quiet (from + 0));
  stay = one_stays (Some symbol) ps h;
}

standing_append : (from : ℕ) (rs ss : List RoutineCode) → standing_from from (rs ++ ss) ≡ standing_from from rs ++ standing_from (from + length (flat_map bytes_in rs)) ss
standing_append from [] ss = ap (λ (n : ℕ). standing_from n ss) (omega arith)
standing_append from (r ∷ rs) ss =
    let e : (from + length (bytes_in r)) + length (flat_map bytes_in rs) ≡ from + length (flat_map bytes_in (r ∷ rs)) = omega (arith, length-append (bytes_in r) (flat_map bytes_in rs)) in
    ap (λ (ds : List Address). symbol_at r.symbol from ++ ds) (standing_append (from + length (bytes_in r)) rs ss ∙ ap (λ (n : ℕ). standing_from (from + length (bytes_in r)) rs ++ standing_from n ss) e)
    ∙ sym (append_assoc (symbol_at r.symbol from) (standing_from (from + length (bytes_in r)) rs) (standing_from (from + length (flat_map bytes_in (r ∷ rs))) ss))

cut_then : {p q : List Piece} {a b : List (Option LinkSymbol)} → Cut p a → Cut q b → Cut (p ++ q) (a ++ b)
cut_then {p = p} {q = q} {a = a} {b = b} x y = record {
  routines = x.routines ++ y.routines;
  symbols_are =
      map-append (λ (r : RoutineCode). r.symbol) x.routines y.routines ∙ ap (λ (xs : List (Option LinkSymbol)). xs ++ map (λ (r : RoutineCode). r.symbol) y.routines) x.symbols_are
      ∙ ap (λ (ys : List (Option LinkSymbol)). a ++ ys) y.symbols_are;
  bytes_are =
      bytes_append p q ∙ ap (λ (xs : List ℕ). xs ++ bytes_of q) x.bytes_are ∙ ap (λ (ys : List ℕ). flat_map bytes_in x.routines ++ ys) y.bytes_are
      ∙ sym (flat_map-append bytes_in x.routines y.routines);
  defines_are = λ from.
      noted_append definition_at from p q
      ∙ ap (λ (ds : List Address). ds ++ defines_from (from + size p) q) (x.defines_are from)
      ∙ ap (λ (ds : List Address). standing_from from x.routines ++ ds) (y.defines_are (from + size p))
      ∙ ap (λ (n : ℕ). standing_from from x.routines ++ standing_from (from + n) y.routines) (ap length x.bytes_are)
      ∙ sym (standing_append from x.routines y.routines);
  stay = All-append (λ (r : RoutineCode). StaysInside r.code) x.routines y.routines x.stay y.stay;
}

-- ---- bodies

procedure_cut : (b : BodyTree) (copied : ℕ) → Cut (procedure_code b copied) (Some (link Code b.symbol) ∷ [])
unfolding procedure_code
procedure_cut b copied = named (link Code b.symbol) (ending (then (mark_bounded true b.inside.line) (inside_bounded (within b.depth) false b.inside)) (copied_inner b.formals copied))

function_cut : (b : BodyTree) (end : ℕ) → Cut (function_code b end) (Some (link Code b.symbol) ∷ [])
unfolding function_code
function_cut b end = named (link Code b.symbol) (ending (then (then (mark_bounded true b.inside.line) (inside_bounded (within b.depth) false b.inside)) (mark_bounded true end)) (last refl))

task_cut : (b : BodyTree) → Cut (task_code b) (Some (link Code b.symbol) ∷ [])
unfolding task_code
task_cut b = named (link Code b.symbol) (ending (then (mark_bounded true b.inside.line) (inside_bounded (within b.depth) true b.inside)) (last refl))

protected_procedure_cut : (b : BodyTree) (object : Symbol) (entry : Option EntryOf) (copied : ℕ) → Cut (protected_procedure_code b object entry copied) (Some (link Code b.symbol) ∷ [])
unfolding protected_procedure_code
protected_procedure_cut b object entry copied =
    named (link Code b.symbol) (ending (then (then (then (then (mark_bounded true b.inside.line) (using_one refl)) (inside_bounded (within b.depth) false b.inside)) (served_bounded b.depth object entry)) (whole refl)) (copied_inner b.formals copied))

protected_function_cut : (b : BodyTree) (object : Symbol) (end : ℕ) → Cut (protected_function_code b object end) (Some (link Code b.symbol) ∷ [])
unfolding protected_function_code
protected_function_cut b object end = named (link Code b.symbol) (ending (then (then (then (mark_bounded true b.inside.line) (using_one refl)) (inside_bounded (unlocking b.depth) false b.inside)) (mark_bounded true end)) (last refl))

five : (g be m i r : List Piece) → (((g ++ be) ++ m) ++ i) ++ r ≡ g ++ (be ++ ((m ++ i) ++ r))
five g be m i r = simp append_assoc

entry_cut : (b : BodyTree) (object : Symbol) (barrier : ObjectPlace) → Cut (entry_code b object barrier) (Some (link Gate b.symbol) ∷ Some (link EntryBody b.symbol) ∷ [])
unfolding entry_code
entry_cut b object barrier =
    let mark : List Piece = mark_of true b.inside.line in
    let gate : List Piece = Begins (link Gate b.symbol) ∷ (mark ++ gate_code b.depth b.symbol object barrier) in
    let inside : List Piece = inside_code (within b.depth) false b.inside in
    subst (λ (ps : List Piece). Cut ps (Some (link Gate b.symbol) ∷ Some (link EntryBody b.symbol) ∷ [])) (sym (five gate (Begins (link EntryBody b.symbol) ∷ []) mark inside (of_size sized.Return 0)))
    (cut_then (named (link Gate b.symbol) (ending (mark_bounded true b.inside.line) (gate_inner b.depth b.symbol object barrier))) (named (link EntryBody b.symbol) (ending (then (mark_bounded true b.inside.line) (inside_bounded (within b.depth) false b.inside)) (last refl))))

kind_cut : (b : BodyTree) (k : BodyKind) → Cut (kind_code b k) (kind_symbols b.symbol k)
kind_cut b (kinds.Procedure copied) = procedure_cut b copied
kind_cut b (kinds.Function words end) = function_cut b end
kind_cut b kinds.Task = task_cut b
kind_cut b (kinds.ProtectedProcedure object entry copied) = protected_procedure_cut b object entry copied
kind_cut b (kinds.ProtectedFunction object words end) = protected_function_cut b object end
kind_cut b (kinds.Entry object barrier) = entry_cut b object barrier

bodies_cut : (bs : List BodyTree) → Cut (flat_map body_code bs) (flat_map (λ b. kind_symbols b.symbol b.kind) bs)
bodies_cut [] = no_routine
bodies_cut (b ∷ bs) = cut_then (kind_cut b b.kind) (bodies_cut bs)

elaboration_cut : (e : Option ElaborationTree) → Cut (option_map_or elaboration_code e []) (option_map_or (λ x. None ∷ []) e [])
unfolding elaboration_code
elaboration_cut None = no_routine
elaboration_cut (Some e) = unnamed (ending (then (mark_bounded true e.line) (inside_bounded (within 1) false e)) (last refl))

unit_cut : (u : UnitTree) → Cut (unit_code u) (routine_symbols u)
unfolding unit_code
unit_cut u = cut_then (elaboration_cut u.elaboration) (bodies_cut u.bodies)

-- ---- objects

chosen_is : (b : Bool) (c o : CompiledCode) → cond b (Compiled c) Large ≡ Compiled o → c ≡ o
chosen_is true c o e = cc
chosen_is false c o e = absurd (cc)

pub each_falls_into_routines : EachFallsIntoRoutines
unfolding object_of
each_falls_into_routines u o is =
    let x = unit_cut u in
    let e : compiled_of u (unit_code u) ≡ o = chosen_is (leb (size (unit_code u)) 16777216) (compiled_of u (unit_code u)) o is in
    subst (λ (p : CompiledCode). FallsIntoRoutines u p) e (record {
      routines = x.routines;
      symbols_are = x.symbols_are;
      code_is = x.bytes_are;
      symbols_stand = ap (λ (ds : List Address). ds ++ data_addresses u) (x.defines_are 0);
      jumps_stay = x.stay;
    })
