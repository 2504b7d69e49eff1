-- A chain with one more operator at its beginning, and what is at the left of one.
use Rattle.std.proofs.Common.{◌≡◌, arith, ℕ, Vec, Box, Global, List, [], ◌∷◌, ◌++◌, IfOk, Option, Result, Ok, Err, refl, sym, ap, subst, ◌∙◌}
use Rattle.al_base.specs.declared.place.Place.{Place}
use Rattle.al_overload.specs.declared.everywhere.Predefined.{Predefined}
use Rattle.al_base.specs.declared.refusal.NoMemory.{NoMemory}
use Rattle.al_view.specs.declared.symbol.Symbol.{Symbol}
use Rattle.al_overload_nodes.specs.Views.{reading_model}
use Rattle.al_overload_nodes.specs.declared.node.Reading.{Reading}
use Rattle.al_overload_nodes.specs.Chains.{IsAt, IsBelow, IsLastOf, chained_node, joint_node, stepped}
use Rattle.al_overload_nodes.specs.declared.chain.Joint.{Joint}
use Rattle.al_overload_nodes.specs.declared.chain.Step.{Step}
use Rattle.al_overload_nodes.specs.declared.chain.Step.TheVariants as steps
use Rattle.al_overload_nodes.specs.Nodes.{ReadingTree}
use Rattle.al_overload.proofs.TermsMade.{applied_made, infix_made, selected_made, short_circuit_made}
use Rattle.al_overload.specs.Labelling.{Label}
use Rattle.al_overload.specs.Parts.{part_of}
use Rattle.al_overload.specs.declared.part.Nominal.{Nominal}
use Rattle.al_overload_nodes.specs.Readings.{operand_read, reading}
use Rattle.al_overload_nodes.specs.Names.{selected_node}
use Rattle.al_overload.specs.Terms.{TermTree, TermTree as t}
use Rattle.al_view.specs.declared.types.TypeView.{TypeView}
use Rattle.al_overload.specs.Places.{first_place}
use Rattle.al_overload.specs.TermViews.{term_model}
use Rattle.al_overload.specs.declared.heads_term.Term.{Term, size-Term}
use Rattle.al_overload.specs.declared.heads_term.Term.TheVariants.{Applied, Infix, Selected, ShortCircuit}
use Rattle.al_overload.specs.declared.heads_term.Term.TheViews.{sized-Applied, sized-Infix, sized-Selected, sized-ShortCircuit}
use Rattle.al_view_typed.specs.declared.label.BinaryOperator.{BinaryOperator}
use Rattle.al_view_typed.specs.declared.label.ShortCircuit.{ShortCircuit as ShortCircuitKind}
use Rattle.al_view.specs.declared.view.ViewKind.{ViewKind}

pub first_joined : (p : Predefined) (place : Place) (joints : List Joint) (joint : Joint) (first : ReadingTree)
    → chained_node p place (joints ++ joint ∷ []) first ≡ chained_node p place joints (joint_node p place joint first)
first_joined p place [] joint first = refl
first_joined p place (x ∷ joints) joint first = ap (joint_node p place x) (first_joined p place joints joint first)

-- a step down the left operands
pub longer : (p : Predefined) (place : Place) (joints new : List Joint) (joint : Joint) (rest left whole : ReadingTree)
    → new ≡ joints ++ joint ∷ [] → joint_node p place joint left ≡ rest → chained_node p place joints rest ≡ whole → chained_node p place new left ≡ whole
longer p place joints new joint rest left whole is step known =
    ap (λ (js : List Joint). chained_node p place js left) is ∙ first_joined p place joints joint left
    ∙ ap (λ (r : ReadingTree). chained_node p place joints r) step ∙ known

-- ---- what is at the left of an operator begins where the whole does, and is below it

pub infix_begins : (term left : Term) (operator : BinaryOperator) (views : List ViewKind) (l r : Box Term Global) (place : Place)
    → term ≡ Infix operator views l r → left ≡ l.value → place ≡ first_place (term_model term) → place ≡ first_place (term_model left)
infix_begins term left operator views l r place is begins here =
    here ∙ ap first_place (ap term_model is ∙ infix_made operator views l r) ∙ sym (ap (λ (y : Term). first_place (term_model y)) begins)

pub short_circuit_begins : (term left : Term) (form : ShortCircuitKind) (l r : Box Term Global) (place : Place)
    → term ≡ ShortCircuit form l r → left ≡ l.value → place ≡ first_place (term_model term) → place ≡ first_place (term_model left)
short_circuit_begins term left form l r place is begins here =
    here ∙ ap first_place (ap term_model is ∙ short_circuit_made form l r) ∙ sym (ap (λ (y : Term). first_place (term_model y)) begins)

pub infix_below : {E : Type 0} (term left : Term) (operator : BinaryOperator) (views : List ViewKind) (l r : Box Term Global) (made : Result Step E)
    → term ≡ Infix operator views l r → left ≡ l.value → IfOk made (λ (s : Step). IsAt left s) → IfOk made (λ (s : Step). IsBelow term s)
infix_below term left operator views l r (Ok (steps.Down joint x known label types at)) is begins here =
    let a = ap size-Term is in let b = ap size-Term (here.0 ∙ begins) in (
      omega (arith, sized-Infix operator views l r, a, b),
      ap (λ (y : Term). first_place (term_model y)) (here.0 ∙ begins) ∙ ap first_place (sym (ap term_model is ∙ infix_made operator views l r)),
      here.1,
    )
infix_below term left operator views l r (Ok (steps.Last k)) is begins here = tt
infix_below term left operator views l r (Err k) is begins here = tt

pub short_circuit_below : {E : Type 0} (term left : Term) (form : ShortCircuitKind) (l r : Box Term Global) (made : Result Step E)
    → term ≡ ShortCircuit form l r → left ≡ l.value → IfOk made (λ (s : Step). IsAt left s) → IfOk made (λ (s : Step). IsBelow term s)
short_circuit_below term left form l r (Ok (steps.Down joint x known label types at)) is begins here =
    let a = ap size-Term is in let b = ap size-Term (here.0 ∙ begins) in (
      omega (arith, sized-ShortCircuit form l r, a, b),
      ap (λ (y : Term). first_place (term_model y)) (here.0 ∙ begins) ∙ ap first_place (sym (ap term_model is ∙ short_circuit_made form l r)),
      here.1,
    )
short_circuit_below term left form l r (Ok (steps.Last k)) is begins here = tt
short_circuit_below term left form l r (Err k) is begins here = tt

pub selected_begins : (term left : Term) (prefix : Box Term Global) (name : List ℕ) (place : Place)
    → term ≡ Selected prefix name → left ≡ prefix.value → place ≡ first_place (term_model term) → place ≡ first_place (term_model left)
selected_begins term left prefix name place is begins here =
    here ∙ ap first_place (ap term_model is ∙ selected_made prefix name) ∙ sym (ap (λ (y : Term). first_place (term_model y)) begins)

pub selected_below : {E : Type 0} (term left : Term) (prefix : Box Term Global) (name : List ℕ) (made : Result Step E)
    → term ≡ Selected prefix name → left ≡ prefix.value → IfOk made (λ (s : Step). IsAt left s) → IfOk made (λ (s : Step). IsBelow term s)
selected_below term left prefix name (Ok (steps.Down joint x known label types at)) is begins here =
    let a = ap size-Term is in let b = ap size-Term (here.0 ∙ begins) in (
      omega (arith, sized-Selected prefix name, a, b),
      ap (λ (y : Term). first_place (term_model y)) (here.0 ∙ begins) ∙ ap first_place (sym (ap term_model is ∙ selected_made prefix name)),
      here.1,
    )
selected_below term left prefix name (Ok (steps.Last k)) is begins here = tt
selected_below term left prefix name (Err k) is begins here = tt

pub applied_begins : (term left : Term) (name : Box Term Global) (arguments : Vec Term Global) (place : Place)
    → term ≡ Applied name arguments → left ≡ name.value → place ≡ first_place (term_model term) → place ≡ first_place (term_model left)
applied_begins term left name arguments place is begins here =
    here ∙ ap first_place (ap term_model is ∙ applied_made name arguments) ∙ sym (ap (λ (y : Term). first_place (term_model y)) begins)

pub applied_below : {E : Type 0} (term left : Term) (name : Box Term Global) (arguments : Vec Term Global) (made : Result Step E)
    → term ≡ Applied name arguments → left ≡ name.value → IfOk made (λ (s : Step). IsAt left s) → IfOk made (λ (s : Step). IsBelow term s)
applied_below term left name arguments (Ok (steps.Down joint x known label types at)) is begins here =
    let a = ap size-Term is in let b = ap size-Term (here.0 ∙ begins) in (
      omega (arith, sized-Applied name arguments, a, b),
      ap (λ (y : Term). first_place (term_model y)) (here.0 ∙ begins) ∙ ap first_place (sym (ap term_model is ∙ applied_made name arguments)),
      here.1,
    )
applied_below term left name arguments (Ok (steps.Last k)) is begins here = tt
applied_below term left name arguments (Err k) is begins here = tt

-- ---- the end of a chain

pub last_read : {E : Type 0} (p : Predefined) (own : Option Symbol) (place : Place) (a b : ReadingTree) (made : Result Reading NoMemory) (s : Result Step E) → a ≡ b
    → IfOk made (λ (x : Reading). reading_model x ≡ a) → IfOk s (λ (k : Step). IsLastOf made k) → IfOk s (λ (k : Step). stepped p own place k ≡ b)
last_read p own place a b made (Ok (steps.Down joint left known label types at)) same h e = absurd e
last_read p own place a b made (Ok (steps.Last r)) same h e =
    let P : Result Reading NoMemory → Type 0 = λ m. IfOk m (λ (x : Reading). reading_model x ≡ a) in subst P e h ∙ same
last_read p own place a b made (Err k) same h e = tt

pub last_at : {E : Type 0} (term : Term) (made : Result Reading NoMemory) (s : Result Step E) → IfOk s (λ (k : Step). IsLastOf made k) → IfOk s (λ (k : Step). IsAt term k)
last_at term made (Ok (steps.Down joint left known label types at)) e = absurd e
last_at term made (Ok (steps.Last r)) e = tt
last_at term made (Err k) e = tt

-- what is known of a step, by an equation
pub step_by : {E : Type 0} (p : Predefined) (own : Option Symbol) (place : Place) (a b : ReadingTree) (s : Result Step E) → a ≡ b → IfOk s (λ (k : Step). stepped p own place k ≡ a) → IfOk s (λ (k : Step). stepped p own place k ≡ b)
step_by p own place a b s e h = let P : ReadingTree → Type 0 = λ z. IfOk s (λ (k : Step). stepped p own place k ≡ z) in subst P e h

pub selected_step : {E : Type 0} (p : Predefined) (own : Option Symbol) (prefix : TermTree) (name : List ℕ) (label : Label) (types : List TypeView) (at : Symbol) (place : Place) (part : Option Nominal) (first : ReadingTree) (s : Result Step E)
    → place ≡ first_place prefix → part ≡ part_of prefix → first ≡ operand_read p own place 0 prefix label types at
    → IfOk s (λ (k : Step). stepped p own place k ≡ selected_node p.root place name part first)
    → IfOk s (λ (k : Step). stepped p own place k ≡ reading p own (t.SelectedTerm prefix name) label types at)
selected_step p own prefix name label types at place part first s here known whole made =
    step_by p own place (selected_node p.root place name part first) (reading p own (t.SelectedTerm prefix name) label types at) s
    (ap (selected_node p.root place name part) whole
    ∙ ap (λ (q : Option Nominal). selected_node p.root place name q (operand_read p own place 0 prefix label types at)) known
    ∙ ap (λ (q : Place). selected_node p.root q name (part_of prefix) (operand_read p own q 0 prefix label types at)) here) made
