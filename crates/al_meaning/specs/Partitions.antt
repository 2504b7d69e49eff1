-- What calls of bodies mean (ARM 6.3, 6.4), and whole partitions (ARM 10.2).
use Rattle.std.specs.Prelude.{ℕ, zero, suc, pos, Bool, true, false, not, ◌&&◌, nat_le, if◌then◌else◌, List, [], ◌∷◌, ◌++◌, Option, Some, None}
use Rattle.std.specs.List.{flat_map, find}
use Rattle.al_base.specs.declared.unit_key.UnitKey.{UnitKey}
use Rattle.al_view.specs.declared.symbol.Symbol.{Symbol}
use Rattle.al_view.specs.declared.view.Mode.{Mode}
use Rattle.al_view.specs.declared.view.Mode.TheVariants as mode
use Rattle.al_view.specs.declared.view.ObjectPlace.{ObjectPlace}
use Rattle.al_view.specs.declared.view.ObjectPlace.TheVariants as places
use Rattle.al_view.specs.Symbols.{same_symbol}
use Rattle.al_view_typed.specs.declared.unit.BodyKind.{BodyKind}
use Rattle.al_view_typed.specs.declared.unit.BodyKind.TheVariants as kinds
use Rattle.al_view_typed.specs.declared.unit.FormalWords.{FormalWords}
use Rattle.al_view_typed.specs.UnitTrees.{BodyTree, ElaborationTree, UnitTree}
use Rattle.al_meaning.specs.Scalars.{ProgramError, Meaningless}
use Rattle.al_meaning.specs.States.{State, Outcome, Gives, Raises, GoesOn, Act, ◌>>=◌, ◌>>◌, give, raise, at_line, Words, fetched, with_words}
use Rattle.al_meaning.specs.Expressions.{Calls}
use Rattle.al_meaning.specs.Statements.{Flow, On, Exits, Returns, elaborated}

-- ---- bodies

-- the objects of a body at a depth of nesting, and of those inside it
abbrev pub is_inside : ℕ → ObjectPlace → Bool
is_inside depth (places.Frame d w) = nat_le depth d
is_inside depth (places.Static s w) = false

-- each call has new ones: the parameters first, all else 0
abbrev pub fresh : ℕ → Words → State → State
fresh depth vs st = record st {
  words = with_words (places.Frame depth 3) vs (λ p. if is_inside depth p then pos 0 else st.words p);
  elaborated = λ p. not (is_inside depth p) && st.elaborated p;
}

-- the caller's are as before
abbrev pub restored : ℕ → State → State → State
restored depth before after = record after {
  words = λ p. if is_inside depth p then before.words p else after.words p;
  elaborated = λ p. if is_inside depth p then before.elaborated p else after.elaborated p;
}

abbrev pub ended_in : {A : Type 0} → ℕ → State → Outcome A → Outcome A
ended_in depth before (Gives x after) = Gives x (restored depth before after)
ended_in depth before (Raises e line after) = Raises e line after
ended_in depth before (GoesOn after) = GoesOn after

abbrev pub is_copied : Mode → Bool
is_copied mode.In = false
is_copied _ = true

-- the parameters that are copied back (ARM 6.4.1(17))
abbrev pub formals_back : ℕ → List FormalWords → Act Words
formals_back depth [] = give []
formals_back depth (f ∷ fs) = do
  vs ← (if is_copied f.mode then fetched (places.Frame depth f.word) f.words else give [])
  more ← formals_back depth fs
  give (vs ++ more)

-- a function that runs past its end raises Program_Error (ARM 6.5(20)); no exit leaves a body (ARM 5.7(4))
abbrev pub given_back : UnitKey → BodyTree → BodyKind → Flow → Act Words
given_back unit b kind (Exits loops) = raise Meaningless
given_back unit b (kinds.Procedure n) On = formals_back b.depth b.formals
given_back unit b (kinds.Procedure n) (Returns vs) = formals_back b.depth b.formals
given_back unit b (kinds.Function words end) On = at_line unit end (raise ProgramError)
given_back unit b (kinds.Function words end) (Returns vs) = give vs
given_back unit b _ f = raise Meaningless

abbrev pub body_called : Calls → ℕ → UnitKey → BodyTree → Words → Act Words
body_called calls fuel unit b vs st =
    ended_in b.depth st ((elaborated calls unit b.depth fuel b.inside >>= (λ f. given_back unit b b.kind f)) (fresh b.depth vs st))

abbrev pub body_of : List UnitTree → Symbol → Option (UnitKey × BodyTree)
body_of us symbol = find (λ x. same_symbol x.1.symbol symbol) (flat_map (λ u. in_unit u.unit u.bodies) us)
  where
    in_unit : UnitKey → List BodyTree → List (UnitKey × BodyTree)
    in_unit unit [] = []
    in_unit unit (b ∷ bs) = (unit, b) ∷ in_unit unit bs

abbrev pub found_body : Calls → ℕ → Option (UnitKey × BodyTree) → Words → Act Words
found_body calls fuel None vs = raise Meaningless
found_body calls fuel (Some x) vs = body_called calls fuel x.0 x.1 vs

-- calls at most so many deep, with as many turns of each loop
abbrev pub calls_of : List UnitTree → ℕ → Calls
calls_of us zero symbol vs = λ st. GoesOn st
calls_of us (suc n) symbol vs = found_body (calls_of us n) (suc n) (body_of us symbol) vs

-- ---- partitions: each item is elaborated in its order, then the main subprogram is called (ARM 10.2(9))

abbrev pub start : State
start = record { words = λ p. pos 0; elaborated = λ p. false; output = [] }

-- no exit and no return leaves the statements of a package
abbrev pub through : Flow → Act (Unit {0})
through On = give tt
through f = raise Meaningless

abbrev pub item_elaborated : List UnitTree → ℕ → UnitTree → Option ElaborationTree → Act (Unit {0})
item_elaborated us n u None = give tt
item_elaborated us n u (Some e) = do
  f ← elaborated (calls_of us n) u.unit 1 n e
  through f

abbrev pub items_elaborated : List UnitTree → ℕ → List UnitTree → Act (Unit {0})
items_elaborated us n [] = give tt
items_elaborated us n (u ∷ items) = do
  item_elaborated us n u u.elaboration
  items_elaborated us n items

abbrev pub meaning : List UnitTree → List UnitTree → Symbol → ℕ → Outcome Words
meaning us items main n = (items_elaborated us n items >> calls_of us n main []) start
