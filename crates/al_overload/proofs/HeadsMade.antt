-- The head of a term by what the term is made of.
use Rattle.std.proofs.Common.{◌≡◌, ℕ, Bool, map, length, Result, IfOk, Option, sym, ap, subst, ◌∙◌, Vec, Global}
use Rattle.std.specs.Option.{option_and_then}
use Rattle.al_base.specs.declared.place.Place.{Place}
use Rattle.al_overload.specs.Counts.{plain}
use Rattle.al_overload.specs.Labelling.{Tree, Trees}
use Rattle.al_overload.proofs.TermsMade.{aggregate_made}
use Rattle.al_overload.specs.TermViews.{term_model, terms_of}
use Rattle.al_overload.specs.Terms.{TermTree, TermTree as terms}
use Rattle.al_overload.specs.declared.heads_term.Term.{Term}
use Rattle.al_overload.specs.declared.heads_term.Term.TheVariants.{Aggregate}
use Rattle.al_overload.proofs.Gathered.{count_model}
use Rattle.al_overload.specs.Aggregates.{how_many, positional}
use Rattle.al_overload.specs.HeadsHeads.{head_of, heads_of, possible}
use Rattle.al_overload.specs.Universal.{is_universal}
use Rattle.al_overload.specs.declared.built.Built.{Built}
use Rattle.al_overload.specs.declared.everywhere.Predefined.{Predefined}
use Rattle.al_overload.specs.declared.part.Nominal.{Nominal}

-- what a term is seen as, if it is made so
pub head_made : (p : Predefined) (allowed : Option Nominal) (term made : Term) (tree : TermTree) (head : Tree)
    → term ≡ made → term_model made ≡ tree → head ≡ head_of p allowed tree → head ≡ head_of p allowed (term_model term)
head_made p allowed term made tree head is seen e = e ∙ sym (ap (λ (x : Term). head_of p allowed (term_model x)) is ∙ ap (head_of p allowed) seen)

pub universal_made : (term made : Term) (tree : TermTree) (b : Bool) → term ≡ made → term_model made ≡ tree → b ≡ is_universal tree → b ≡ is_universal (term_model term)
universal_made term made tree b is seen e = e ∙ sym (ap (λ (x : Term). is_universal (term_model x)) is ∙ ap is_universal seen)

-- a fact of what was built, by an equation
pub head_by : {E : Type 0} (r : Result Built E) (a b : Tree) → a ≡ b → IfOk r (λ (x : Built). plain x.expression ≡ a) → IfOk r (λ (x : Built). plain x.expression ≡ b)
head_by r a b e h = let P : Tree → Type 0 = λ z. IfOk r (λ (x : Built). plain x.expression ≡ z) in subst P e h

pub universal_by : {E : Type 0} (r : Result Built E) (a b : Bool) → a ≡ b → IfOk r (λ (x : Built). x.is_universal ≡ a) → IfOk r (λ (x : Built). x.is_universal ≡ b)
universal_by r a b e h = let P : Bool → Type 0 = λ z. IfOk r (λ (x : Built). x.is_universal ≡ z) in subst P e h

-- an aggregate of so many values, which are built
pub aggregate_built : (p : Predefined) (allowed : Option Nominal) (term : Term) (place : Place) (components : Vec Term Global) (count : ℕ) (values : Trees)
    → term ≡ Aggregate place components → count ≡ length components.items → values ≡ heads_of p (terms_of (map term_model components.items))
    → possible (option_and_then (positional count) allowed) values ≡ head_of p allowed (term_model term)
aggregate_built p allowed term place components count values is counted built =
    head_made p allowed term (Aggregate place components) (terms.AggregateTerm place (terms_of (map term_model components.items))) (possible (option_and_then (positional count) allowed) values)
    is (aggregate_made place components)
    (ap (λ (n : ℕ). possible (option_and_then (positional n) allowed) values) (counted ∙ sym (count_model components.items))
    ∙ ap (λ (v : Trees). possible (option_and_then (positional (how_many (terms_of (map term_model components.items)))) allowed) v) built)
