-- What a list of labellings means, by how many there are.
use Rattle.std.proofs.Common.{◌≡◌, ◌≤◌, List, [], ◌∷◌, length, Ok, Err, refl, ap, arith}
use Rattle.al_base.specs.declared.place.Place.{Place}
use Rattle.al_base_fault.specs.CheckRules.{as_rule, rule_number}
use Rattle.al_base_fault.specs.declared.check_rule.CheckRule.TheVariants.{Ambiguous, NoInterpretation}
use Rattle.al_base.specs.Rules.{number_of}
use Rattle.al_overload.specs.Labelling.{Label, acceptable, labellings}
use Rattle.al_base_fault.specs.declared.fault.Fault.{Fault}
use Rattle.al_overload.specs.Meanings.{FaultsTellWhy, OneIsAcceptable, meaning, nothing_fits, several_fit}

pub meaning_none : (place : Place) (all : List Label) → all ≡ [] → meaning place all ≡ Err (nothing_fits place)
meaning_none place all e = ap (meaning place) e

pub meaning_one : (place : Place) (all : List Label) (l : Label) → all ≡ l ∷ [] → meaning place all ≡ Ok l
meaning_one place all l e = ap (meaning place) e

pub meaning_several : (place : Place) (all : List Label) → 2 ≤ length all → meaning place all ≡ Err (several_fit place)
meaning_several place [] h = absurd (omega arith)
meaning_several place (l ∷ []) h = absurd (omega arith)
meaning_several place (l ∷ (m ∷ more)) h = refl

-- the numbers of both rules differ
apart : number_of (as_rule NoInterpretation) ≡ number_of (as_rule Ambiguous) → ⊥
unfolding number_of
apart e = let f : 402 ≡ 403 = e in omega arith

code_apart : (place : Place) → nothing_fits place ≡ several_fit place → ⊥
code_apart place e = apart (ap (λ (f : Fault). rule_number f.rule) e)

one_back : (place : Place) (all : List Label) (l : Label) → meaning place all ≡ Ok l → all ≡ l ∷ []
one_back place [] l e = absurd cc
one_back place (m ∷ []) l e = let same : m ≡ l = cc in ap (λ x. x ∷ []) same
one_back place (m ∷ (n ∷ more)) l e = absurd cc

none_back : (place : Place) (all : List Label) → meaning place all ≡ Err (nothing_fits place) → all ≡ []
none_back place [] e = refl
none_back place (m ∷ []) e = absurd cc
none_back place (m ∷ (n ∷ more)) e = let same : several_fit place ≡ nothing_fits place = cc in absurd (code_apart place (cc))

several_back : (place : Place) (all : List Label) → meaning place all ≡ Err (several_fit place) → 2 ≤ length all
several_back place [] e = let same : nothing_fits place ≡ several_fit place = cc in absurd (code_apart place same)
several_back place (m ∷ []) e = absurd cc
several_back place (m ∷ (n ∷ more)) e = omega arith

pub one_acceptable : OneIsAcceptable
one_acceptable place tree expected l =
    (one_back place (acceptable (labellings tree expected)) l, meaning_one place (acceptable (labellings tree expected)) l)

pub faults_tell : FaultsTellWhy
faults_tell place tree expected =
    let all = acceptable (labellings tree expected) in
    ((none_back place all, meaning_none place all), (several_back place all, meaning_several place all))
