-- Laws of faults.
use Rattle.std.proofs.Common.{◌≡◌, Bool, true, false, Option, None, Some, Result, Ok, Err, refl, ap, ◌∙◌}
use Rattle.std.specs.Prelude.{if◌then◌else◌}
use Rattle.al_tree_grammar.specs.Grammar.{Label}
use Rattle.al_base_fault.specs.Faults.{earlier}
use Rattle.al_base_fault.specs.Judging.{both, fault_in, next, map_ok}
use Rattle.al_base_fault.specs.declared.fault.Fault.{Fault}
use Rattle.al_overload_lookup.specs.Keys.{Denotations, is_none, not_visible}
use Rattle.al_overload_lookup.specs.Places.{place_of}
use Rattle.al_overload_readings.specs.Readings.{ReadTree, ReadTree as reads, named, valued}
use Rattle.al_overload_readings.specs.Signs.{joined, prefixed}
use Rattle.al_overload_readings.specs.Steps.{joined_read, prefixed_read}
use Rattle.al_overload.specs.Terms.{TermTree}
use Rattle.al_overload_readings.specs.Laws.{FirstFaultsAreReported, MissingNamesAreReported, OwnFaultsAreReported}
use Rattle.al_overload_readings.specs.Texts.{noted, term_of}

both_fault : {A B C : Type 0} (h : A × B → C) (one : Result A Fault) (two : Result B Fault) → fault_in (map_ok h (both one two)) ≡ earlier (fault_in one) (fault_in two)
both_fault h (Ok a) (Ok b) = refl
both_fault h (Ok a) (Err g) = refl
both_fault h (Err f) (Ok b) = refl
both_fault h (Err f) (Err g) = refl

-- a value is read as it is
valued_fault : {A : Type 0} (h : A → TermTree) (one : Result A Fault) → fault_in (next (map_ok (λ (a : A). reads.TermRead (h a)) one) valued) ≡ fault_in (map_ok h one)
unfolding valued
valued_fault h (Ok a) = refl
valued_fault h (Err f) = refl

seen_fault : {A B : Type 0} (h : A → B) (one : Result A Fault) → fault_in (map_ok h one) ≡ fault_in one
seen_fault h (Ok a) = refl
seen_fault h (Err f) = refl

pub first_faults : FirstFaultsAreReported
unfolding noted joined_read
first_faults d left right operator =
    valued_fault (λ (x : TermTree × TermTree). joined d.visible operator x.0 x.1) (both (term_of d left) (term_of d right))
    ∙ both_fault (λ (x : TermTree × TermTree). joined d.visible operator x.0 x.1) (term_of d left) (term_of d right)

pub own_faults : OwnFaultsAreReported
unfolding noted prefixed_read
own_faults d operand operator =
    valued_fault (λ (t : TermTree). prefixed d.visible operator t) (term_of d operand)
    ∙ seen_fault (λ (t : TermTree). prefixed d.visible operator t) (term_of d operand)

pub missing_names : MissingNamesAreReported
unfolding noted named
missing_names d l e =
    ap (λ (b : Bool). next (if b then Err (not_visible l) else Ok (reads.NameRead (place_of l) l.text (d.visible l.text))) valued) e
