-- What the code of units defines.
use Rattle.std.proofs.Common.{◌≡◌, ℕ, ◌+◌, true, false, List, [], ◌∷◌, ◌++◌, map, Option, refl, sym, ap, subst, ◌∙◌, inl, inr}
use Rattle.std.specs.List.{Contains, flat_map}
use Rattle.std.specs.Option.{option_map_or}
use Rattle.std.proofs.lemmas.Grind.{flat_map-append}
use Rattle.std.proofs.lemmas.List.{map-append}
use Rattle.std.proofs.lemmas.List.Elements.{Contains-append_left, Contains-append_right, Contains-append_cases}
use Rattle.al_base_graph.proofs.Members.{nowhere}
use Rattle.al_view.specs.ViewUses.{link}
use Rattle.al_view.specs.declared.link.LinkKind.{LinkKind}
use Rattle.al_view.specs.declared.link.LinkKind.TheVariants.{Code, Gate, EntryBody, Flag, Data}
use Rattle.al_view.specs.declared.link.LinkSymbol.{LinkSymbol}
use Rattle.al_view.specs.declared.symbol.Symbol.{Symbol}
use Rattle.al_view.specs.declared.view.ObjectPlace.{ObjectPlace}
use Rattle.al_view_typed.specs.UnitTrees.{BodyTree, UnitTree}
use Rattle.al_view_typed.specs.Uses.{body_defines, protected_defines, unit_defines}
use Rattle.al_view_typed.specs.declared.unit.BodyKind.{BodyKind}
use Rattle.al_view_typed.specs.declared.unit.BodyKind.TheVariants as kinds
use Rattle.al_view_typed.specs.declared.unit.DataPlace.{DataPlace}
use Rattle.al_view_typed.specs.declared.unit.EntryOf.{EntryOf}
use Rattle.al_view_typed.specs.declared.unit.ProtectedWords.{ProtectedWords}
use Rattle.al_code_object.specs.declared.object.Address.{Address}
use Rattle.al_code.specs.Pieces.{Piece, Whole, Using, Leaving, Begins, Line, defines_from, definition_at, piece_size}
use Rattle.al_code.specs.ObjectOf.{data_addresses, place_address, protected_addresses}
use Rattle.al_instr.specs.declared.numbers.Plain.TheVariants as plain
use Rattle.al_instr.specs.declared.numbers.Protected.TheVariants as action
use Rattle.al_instr.specs.declared.numbers.Sized.TheVariants as sized
use Rattle.al_code.specs.ExprPieces.{of_size, one}
use Rattle.al_code.specs.Marks.{mark_of}
use Rattle.al_code.specs.Routines.{act_code, body_code, copied_code, elaboration_code, entry_code, function_code, gate_code, inside_code, kind_code, procedure_code, protected_function_code, protected_procedure_code, served_code, task_code, unit_code, unlocking, within}

abbrev stood_by : Piece → List LinkSymbol
stood_by (Whole i) = []
stood_by (Using i symbol) = []
stood_by (Leaving w target) = []
stood_by (Begins symbol) = symbol ∷ []
stood_by (Line n) = []

abbrev stood : List Piece → List LinkSymbol
stood ps = flat_map stood_by ps

symbol_of : (from : ℕ) (p : Piece) → map (λ (a : Address). a.symbol) (definition_at from p) ≡ stood_by p
symbol_of from (Whole i) = refl
symbol_of from (Using i symbol) = refl
symbol_of from (Leaving w target) = refl
symbol_of from (Begins symbol) = refl
symbol_of from (Line n) = refl

symbols_stood : (from : ℕ) (ps : List Piece) → map (λ (a : Address). a.symbol) (defines_from from ps) ≡ stood ps
symbols_stood from [] = refl
symbols_stood from (p ∷ ps) =
    map-append (λ (a : Address). a.symbol) (definition_at from p) (defines_from (from + piece_size p) ps)
    ∙ ap (λ (xs : List LinkSymbol). xs ++ map (λ (a : Address). a.symbol) (defines_from (from + piece_size p) ps)) (symbol_of from p)
    ∙ ap (λ (xs : List LinkSymbol). stood_by p ++ xs) (symbols_stood (from + piece_size p) ps)

-- a symbol is among pieces
record Stands (ps : List Piece) (x : LinkSymbol) : Type 0 where
  is : Contains (stood ps) x

here : {s x : LinkSymbol} → Contains (s ∷ []) x → Stands (Begins s ∷ []) x
here c = record { is = c }

in_front : {p : List Piece} {x : LinkSymbol} (q : List Piece) → Stands p x → Stands (p ++ q) x
in_front {p = p} {x = x} q s = record { is = subst (λ (l : List LinkSymbol). Contains l x) (sym (flat_map-append stood_by p q)) (Contains-append_left (stood p) (stood q) x s.is) }

after : {q : List Piece} {x : LinkSymbol} (p : List Piece) → Stands q x → Stands (p ++ q) x
after {q = q} {x = x} p s = record { is = subst (λ (l : List LinkSymbol). Contains l x) (sym (flat_map-append stood_by p q)) (Contains-append_right (stood p) (stood q) x s.is) }

-- ---- bodies

module _ (b : BodyTree) where
  abbrev mark : List Piece
  mark = mark_of true b.inside.line

  abbrev inside : List Piece
  inside = inside_code (within b.depth) false b.inside

  procedure_stands : (copied : ℕ) (x : LinkSymbol) → Contains (link Code b.symbol ∷ []) x → Stands (procedure_code b copied) x
  unfolding procedure_code
  procedure_stands copied x c = in_front (copied_code b.formals copied) (in_front inside (in_front mark (here c)))

  function_stands : (end : ℕ) (x : LinkSymbol) → Contains (link Code b.symbol ∷ []) x → Stands (function_code b end) x
  unfolding function_code
  function_stands end x c = in_front (of_size sized.Raise 2) (in_front (mark_of true end) (in_front inside (in_front mark (here c))))

  task_stands : (x : LinkSymbol) → Contains (link Code b.symbol ∷ []) x → Stands (task_code b) x
  unfolding task_code
  task_stands x c = in_front (one plain.Done) (in_front (inside_code (within b.depth) true b.inside) (in_front mark (here c)))

  protected_procedure_stands : (object : Symbol) (entry : Option EntryOf) (copied : ℕ) (x : LinkSymbol) → Contains (link Code b.symbol ∷ []) x → Stands (protected_procedure_code b object entry copied) x
  unfolding protected_procedure_code
  protected_procedure_stands object entry copied x c =
      in_front (copied_code b.formals copied)
      (in_front (one plain.Leave) (in_front (served_code b.depth object entry) (in_front inside (in_front (act_code action.Enter object) (in_front mark (here c))))))

  protected_function_stands : (object : Symbol) (end : ℕ) (x : LinkSymbol) → Contains (link Code b.symbol ∷ []) x → Stands (protected_function_code b object end) x
  unfolding protected_function_code
  protected_function_stands object end x c =
      in_front (of_size sized.Raise 2)
      (in_front (mark_of true end) (in_front (inside_code (unlocking b.depth) false b.inside) (in_front (act_code action.Enter object) (in_front mark (here c)))))

  entry_stands : (object : Symbol) (barrier : ObjectPlace) (x : LinkSymbol) → Contains (link Gate b.symbol ∷ link EntryBody b.symbol ∷ []) x → Stands (entry_code b object barrier) x
  unfolding entry_code
  entry_stands object barrier x c =
      let gate = gate_code b.depth b.symbol object barrier in
      let gate_begins : List Piece = Begins (link Gate b.symbol) ∷ [] in
      let body_begins : List Piece = Begins (link EntryBody b.symbol) ∷ [] in
      elim (Contains-append_cases (link Gate b.symbol ∷ []) (link EntryBody b.symbol ∷ []) x c) as (λ _. Stands (entry_code b object barrier) x) [
        | inl g ↦ in_front (of_size sized.Return 0) (in_front inside (in_front mark (in_front body_begins (in_front gate (in_front mark (here g))))))
        | inr e ↦ in_front (of_size sized.Return 0) (in_front inside (in_front mark (after (gate_begins ++ mark ++ gate) (here e))))
      ]

  kind_stands : (k : BodyKind) (x : LinkSymbol) → Contains (body_defines b.symbol k) x → Stands (kind_code b k) x
  kind_stands (kinds.Procedure copied) x c = procedure_stands copied x c
  kind_stands (kinds.Function words end) x c = function_stands end x c
  kind_stands kinds.Task x c = task_stands x c
  kind_stands (kinds.ProtectedProcedure object entry copied) x c = protected_procedure_stands object entry copied x c
  kind_stands (kinds.ProtectedFunction object words end) x c = protected_function_stands object end x c
  kind_stands (kinds.Entry object barrier) x c = entry_stands object barrier x c

bodies_stand : (bs : List BodyTree) (x : LinkSymbol) → Contains (flat_map (λ b. body_defines b.symbol b.kind) bs) x → Stands (flat_map body_code bs) x
bodies_stand [] x c = absurd (nowhere x c)
bodies_stand (b ∷ bs) x c =
    elim (Contains-append_cases (body_defines b.symbol b.kind) (flat_map (λ (a : BodyTree). body_defines a.symbol a.kind) bs) x c) as (λ _. Stands (body_code b ++ flat_map body_code bs) x) [
      | inl own ↦ in_front (flat_map body_code bs) (kind_stands b b.kind x own)
      | inr more ↦ after (body_code b) (bodies_stand bs x more)
    ]

unit_stands : (u : UnitTree) (x : LinkSymbol) → Contains (flat_map (λ b. body_defines b.symbol b.kind) u.bodies) x → Stands (unit_code u) x
unfolding unit_code
unit_stands u x c = after (option_map_or elaboration_code u.elaboration []) (bodies_stand u.bodies x c)

-- ---- data

places_are : (kind : LinkKind) (ps : List DataPlace) → map (λ (a : Address). a.symbol) (map (place_address kind) ps) ≡ map (λ p. link kind p.symbol) ps
places_are kind [] = refl
places_are kind (p ∷ ps) = ap (λ (xs : List LinkSymbol). link kind p.symbol ∷ xs) (places_are kind ps)

protected_are : (number : ℕ) (ps : List ProtectedWords) → map (λ (a : Address). a.symbol) (protected_addresses number ps) ≡ flat_map protected_defines ps
protected_are number [] = refl
protected_are number (p ∷ ps) = ap (λ (xs : List LinkSymbol). protected_defines p ++ xs) (protected_are (number + 1) ps)

module _ (u : UnitTree) where
  abbrev bodies : List LinkSymbol
  bodies = flat_map (λ (b : BodyTree). body_defines b.symbol b.kind) u.bodies

  abbrev objects : List LinkSymbol
  objects = map (λ (p : DataPlace). link Data p.symbol) u.objects

  abbrev flags : List LinkSymbol
  flags = map (λ (p : DataPlace). link Flag p.symbol) u.flags

  abbrev protected_ones : List LinkSymbol
  protected_ones = flat_map protected_defines u.protected_objects

  data_are : map (λ (a : Address). a.symbol) (data_addresses u) ≡ objects ++ flags ++ protected_ones
  data_are =
      let symbol : Address → LinkSymbol = λ a. a.symbol in
      map-append symbol (map (place_address Data) u.objects ++ map (place_address Flag) u.flags) (protected_addresses 0 u.protected_objects)
      ∙ ap (λ (xs : List LinkSymbol). xs ++ map symbol (protected_addresses 0 u.protected_objects)) (map-append symbol (map (place_address Data) u.objects) (map (place_address Flag) u.flags))
      ∙ ap (λ (xs : List LinkSymbol). (xs ++ map symbol (map (place_address Flag) u.flags)) ++ map symbol (protected_addresses 0 u.protected_objects)) (places_are Data u.objects)
      ∙ ap (λ (xs : List LinkSymbol). (objects ++ xs) ++ map symbol (protected_addresses 0 u.protected_objects)) (places_are Flag u.flags)
      ∙ ap (λ (xs : List LinkSymbol). (objects ++ flags) ++ xs) (protected_are 0 u.protected_objects)

  abbrev all : List LinkSymbol
  all = map (λ (a : Address). a.symbol) (defines_from 0 (unit_code u) ++ data_addresses u)

  all_are : all ≡ stood (unit_code u) ++ (objects ++ flags ++ protected_ones)
  all_are =
      map-append (λ (a : Address). a.symbol) (defines_from 0 (unit_code u)) (data_addresses u)
      ∙ ap (λ (xs : List LinkSymbol). xs ++ map (λ (a : Address). a.symbol) (data_addresses u)) (symbols_stood 0 (unit_code u))
      ∙ ap (λ (xs : List LinkSymbol). stood (unit_code u) ++ xs) data_are

  abbrev Defined : LinkSymbol → Type 0
  Defined x = Contains (stood (unit_code u) ++ (objects ++ flags ++ protected_ones)) x

  of_code : (x : LinkSymbol) → Contains bodies x → Defined x
  of_code x c = Contains-append_left (stood (unit_code u)) (objects ++ flags ++ protected_ones) x (unit_stands u x c).is

  of_data : (x : LinkSymbol) → Contains (objects ++ flags ++ protected_ones) x → Defined x
  of_data x c = Contains-append_right (stood (unit_code u)) (objects ++ flags ++ protected_ones) x c

  of_three : (x : LinkSymbol) → Contains (bodies ++ objects ++ flags) x → Defined x
  of_three x c =
      elim (Contains-append_cases (bodies ++ objects) flags x c) as (λ _. Defined x) [
        | inl a ↦ elim (Contains-append_cases bodies objects x a) as (λ _. Defined x) [
          | inl b ↦ of_code x b
          | inr o ↦ of_data x (Contains-append_left (objects ++ flags) protected_ones x (Contains-append_left objects flags x o))
        ]
        | inr f ↦ of_data x (Contains-append_left (objects ++ flags) protected_ones x (Contains-append_right objects flags x f))
      ]

  pub unit_defined : (x : LinkSymbol) → Contains (unit_defines u) x → Contains all x
  unfolding unit_defines
  unit_defined x c =
      let there : Defined x =
      elim (Contains-append_cases (bodies ++ objects ++ flags) protected_ones x c) as (λ _. Defined x) [
        | inl a ↦ of_three x a
        | inr p ↦ of_data x (Contains-append_right (objects ++ flags) protected_ones x p)
      ] in
      subst (λ (l : List LinkSymbol). Contains l x) (sym all_are) there
