-- When a unit that knows another's declaration may ask of its body.
use Rattle.std.specs.Prelude.{◌≡◌, ℕ, List, [], ◌∷◌}
use Rattle.al_view.specs.declared.symbol.Symbol.{Symbol}
use Rattle.al_view.specs.declared.view.ViewKind.TheVariants.{OfPackage}
use Rattle.al_query.specs.Answers.{declaration}
use Rattle.al_query.specs.Known.{Grounded, body}
use Rattle.al_query.specs.Reads.{Log}
use Rattle.al_query.specs.declared.answer.AnswerKind.{AnswerKind}
use Rattle.al_query.specs.declared.answer.AnswerKind.TheVariants as answers
use Rattle.al_query.specs.declared.query.Property.{Property}
use Rattle.al_query.specs.declared.query.Property.TheVariants.{Kind}
use Rattle.al_query.specs.declared.query.Query.TheVariants.{Of}

-- it is asked what the declaration of that name is, with this answer, and then for a property of the body
abbrev pub asks_body : List ℕ → AnswerKind → Property → AnswerKind → Log
asks_body name kind property answer = (Of (declaration name) Kind, kind) ∷ (Of (body name) property, answer) ∷ []

-- if a package's declaration is there, its body may not be asked by who knows the declaration alone
abbrev pub BodiesAreHidden : Type 0
BodiesAreHidden =
    (name : List ℕ) (symbol : Symbol) (property : Property) (answer : AnswerKind) → symbol.unit ≡ declaration name
    → Grounded (declaration name ∷ []) (asks_body name (answers.Kind (OfPackage symbol)) property answer) → ⊥

-- if no declaration is there, the body may be asked, as it may act as one (ARM 10.1.4(4))
abbrev pub ActingBodiesAreKnown : Type 0
ActingBodiesAreKnown =
    (name : List ℕ) (property : Property) (answer : AnswerKind)
    → Grounded (declaration name ∷ []) (asks_body name answers.Nothing property answer)
