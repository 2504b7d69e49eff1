-- The predefined units exist, and their answers name no other units.
use Rattle.std.proofs.Common.{◌≡◌, Bool, true, false, ◌&&◌, ◌||◌, List, [], ◌∷◌, Option, Some, None, refl, ◌∙◌, ap, subst, map, if◌then◌else◌}
use Rattle.std.specs.List.{Contains, find, list_all}
use Rattle.std.specs.Option.{option_map}
use Rattle.al_base.specs.declared.unit_key.UnitKey.{UnitKey}
use Rattle.al_base_graph.proofs.Members.{first, later}
use Rattle.al_view.specs.Symbols.{same_unit}
use Rattle.al_view.specs.ViewUses.{view_uses}
use Rattle.al_view.specs.declared.link.LinkSymbol.{LinkSymbol}
use Rattle.al_view.proofs.SymbolLemmas.{both}
use Rattle.al_view.specs.declared.view.ViewKind.{ViewKind}
use Rattle.al_query.specs.Answers.{units_named}
use Rattle.al_query.specs.Known.{has_unit, predefined_units}
use Rattle.al_query.specs.Queries.{unit_of}
use Rattle.al_query.specs.declared.answer.AnswerKind.{AnswerKind}
use Rattle.al_query.specs.declared.answer.AnswerKind.TheVariants as answers
use Rattle.al_query.specs.declared.query.Property.TheVariants.{Kind}
use Rattle.al_query.specs.declared.query.Query.{Query}
use Rattle.al_query.specs.declared.query.Query.TheVariants.{Of}
use Rattle.al_view_typed.specs.UnitTrees.{UnitTree}
use Rattle.al_query_outcome.proofs.Answered.{answer-named, answer-uses}
use Rattle.al_query_outcome.proofs.Members.{all-at}
use Rattle.al_query_outcome.specs.Defines.{interface_uses}
use Rattle.al_query_outcome.specs.ReadsLaw.{answer_uses, outcome_units}
use Rattle.al_query_outcome.specs.Results.{Sound}
use Rattle.al_query_outcome.specs.Tables.{answer_of}
use Rattle.al_engine_refresh.specs.Settings.{ArePredefined}
use Rattle.al_engine_files.specs.PredefinedUnits.{answer_with, declared_by, interface_in, package_of, packages, predefined_answer}
use Rattle.al_engine_files.specs.declared.package.Package.{Package}

-- a tree without anything in it
abbrev bare : UnitKey → UnitTree
bare unit = record { unit = unit; elaboration = None; bodies = []; words = 0; objects = []; flags = []; protected_objects = [] }

-- whether a package names only predefined units
abbrev names_these : Package → Bool
names_these p = list_all (has_unit predefined_units) (outcome_units (Sound p.interface (bare p.unit)))

-- whether the interface of a package names no symbol that the linker must find
abbrev shows_nothing : Package → Bool
shows_nothing p = list_all (λ x. false) (interface_uses p.interface)

abbrev is_closed : Package → Bool
is_closed p = names_these p && shows_nothing p

-- a package that is found; it names only predefined units, and no symbol that the linker must find
record Found (all : List Package) (u : UnitKey) : Type 0 where
  found_one : Package
  is : find (λ p. same_unit u p.unit) all ≡ Some found_one
  closed : is_closed found_one ≡ true

found : (all : List Package) (u : UnitKey) → list_all is_closed all ≡ true → has_unit (map (λ p. p.unit) all) u ≡ true → Found all u
found [] u closed h = absurd (cc)
found (p ∷ ps) u closed h = split (is_closed p) refl closed (found ps u)
  where
    here : (b : Bool) → is_closed p ≡ true → list_all is_closed ps ≡ true → (b || has_unit (map (λ q. q.unit) ps) u) ≡ true → (has_unit (map (λ q. q.unit) ps) u ≡ true → Found ps u)
        → (q : Package) × ((if b then Some p else find (λ q. same_unit u q.unit) ps) ≡ Some q) × (is_closed q ≡ true)
    here true one more among rest = (p, refl, one)
    here false one more among rest = let r = rest among in (r.found_one, r.is, r.closed)

    split : (b : Bool) → is_closed p ≡ b → (b && list_all is_closed ps) ≡ true → (list_all is_closed ps ≡ true → has_unit (map (λ q. q.unit) ps) u ≡ true → Found ps u) → Found (p ∷ ps) u
    split true one more rest = let r = here (same_unit u p.unit) one more h (rest more) in record { found_one = r.0; is = r.1; closed = r.2 }
    split false one more rest = absurd (cc)

module _ {X : Type 0} (p : X → Bool) where
  all-from : (xs : List X) → ((x : X) → Contains xs x → p x ≡ true) → list_all p xs ≡ true
  all-from [] h = refl
  all-from (x ∷ xs) h = ap (λ b. b && list_all p xs) (h x (first x xs)) ∙ all-from xs (λ y c. h y (later x xs y c))

packages_closed : list_all is_closed packages ≡ true
unfolding packages package_of declared_by outcome_units units_named interface_uses answer_uses view_uses
packages_closed = refl

predefined_found : (u : UnitKey) → has_unit predefined_units u ≡ true → Found packages u
unfolding packages package_of
predefined_found u h = found packages u packages_closed h

answers_as : (u : UnitKey) (r : Found packages u) (q : Query) → answer_with (interface_in packages u) q ≡ answer_of r.found_one.interface q
answers_as u r q = ap (λ (o : Option Package). answer_with (option_map (λ p. p.interface) o) q) r.is

closed : (q : Query) → has_unit predefined_units (unit_of q) ≡ true → list_all (has_unit predefined_units) (units_named (predefined_answer q)) ≡ true
closed q h =
    let r = predefined_found (unit_of q) h in
    let named = all-from (has_unit predefined_units) (units_named (answer_of r.found_one.interface q)) (λ x c. all-at (has_unit predefined_units) (outcome_units (Sound r.found_one.interface (bare r.found_one.unit))) x (both (names_these r.found_one) (shows_nothing r.found_one) r.closed).0 (answer-named r.found_one.interface (bare r.found_one.unit) q x c)) in
    ap (λ a. list_all (has_unit predefined_units) (units_named a)) (answers_as (unit_of q) r q) ∙ named

uncoded : (q : Query) (x : LinkSymbol) → has_unit predefined_units (unit_of q) ≡ true → Contains (answer_uses (predefined_answer q)) x → ⊥
uncoded q x h c =
    let r = predefined_found (unit_of q) h in
    let shown = answer-uses r.found_one.interface q x (subst (λ (a : AnswerKind). Contains (answer_uses a) x) (answers_as (unit_of q) r q) c) in
    let none : false ≡ true = all-at (λ (y : LinkSymbol). false) (interface_uses r.found_one.interface) x (both (names_these r.found_one) (shows_nothing r.found_one) r.closed).1 shown in
    cc

there : (u : UnitKey) → has_unit predefined_units u ≡ true → (v : ViewKind) × (predefined_answer (Of u Kind) ≡ answers.Kind v)
there u h = let r = predefined_found u h in (r.found_one.interface.properties.kind, answers_as u r (Of u Kind))

pub are_predefined : ArePredefined predefined_answer
are_predefined = record { packages = there; closed = closed; uncoded = uncoded }
