-- Which units a result names.
use Rattle.std.proofs.Common.{◌≡◌, ◌∙◌, Bool, true, false, ◌&&◌, List, [], ◌∷◌, refl, ap, if◌then◌else◌}
use Rattle.std.specs.List.{flat_map, list_all}
use Rattle.al_base.specs.declared.diagnostic.Diagnostic.{Diagnostic}
use Rattle.al_base.specs.declared.unit_key.UnitKey.{UnitKey}
use Rattle.al_view.specs.declared.view.ViewKind.{ViewKind}
use Rattle.al_view.proofs.SymbolLemmas.{both}
use Rattle.al_query.specs.Known.{has_unit, known_after, learned}
use Rattle.al_query.specs.Reads.{Log}
use Rattle.al_query.specs.declared.answer.AnswerKind.{AnswerKind}
use Rattle.al_query.specs.declared.query.Query.{Query}
use Rattle.al_query.proofs.KnownLemmas.{has_unit-left, has_unit-right}
use Rattle.al_view_typed.specs.UnitTrees.{UnitTree}
use Rattle.al_query_outcome.specs.ReadsLaw.{NamesOnly, outcome_units}
use Rattle.al_query_outcome.specs.Results.{Outcome, Faulty, Sound}
use Rattle.al_query_outcome.specs.declared.interface.UnitInterface.{UnitInterface}
use Rattle.al_check_promises.specs.SelfChecks.{is_kept, not_checked, self_checked}

-- errors name nothing
pub faulty_names : (units : List UnitKey) (faults : List Diagnostic) → NamesOnly units (Faulty faults)
unfolding outcome_units
faulty_names units faults = refl

-- nor does a result that isn't taken
pub checked_names : (units : List UnitKey) (unit : UnitKey) (shown : List ViewKind) (complete : Bool) (i : UnitInterface) (tree : UnitTree) → NamesOnly units (Sound i tree) → NamesOnly units (self_checked unit shown complete i tree)
unfolding self_checked
checked_names units unit shown complete i tree h = at (is_kept unit shown i tree && complete)
  where
    at : (b : Bool) → NamesOnly units (if b then Sound i tree else Faulty (not_checked unit))
    at true = h
    at false = faulty_names units (not_checked unit)

-- what a source names is known after every log
pub names_known : (units : List UnitKey) (unit : UnitKey) (log : Log) (outcome : Outcome) → NamesOnly units outcome → NamesOnly (unit ∷ known_after units log) outcome
names_known units unit log outcome h = weaker (outcome_units outcome) h
  where
    known : (u : UnitKey) → has_unit units u ≡ true → has_unit (unit ∷ known_after units log) u ≡ true
    known u k = has_unit-right (unit ∷ []) (known_after units log) u (has_unit-left units (flat_map (λ (e : Query × AnswerKind). learned e.0 e.1) log) u k)

    weaker : (us : List UnitKey) → list_all (has_unit units) us ≡ true → list_all (has_unit (unit ∷ known_after units log)) us ≡ true
    weaker [] k = refl
    weaker (u ∷ us) k =
        let two = both (has_unit units u) (list_all (has_unit units) us) k in
        ap (λ b. b && list_all (has_unit (unit ∷ known_after units log)) us) (known u two.0) ∙ weaker us two.1
