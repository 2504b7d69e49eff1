-- What is found file by file is all that is found.
use Rattle.std.proofs.Common.{Bor, ◌≡◌, ◌∙◌, ◌<◌, inl, inr, ℕ, zero, suc, List, [], ◌∷◌, ◌++◌, Option, Some, None, IfSome, length, get_or, map, refl, sym, ap, subst, arith}
use Rattle.std.specs.List.{Contains, flat_map}
use Rattle.std.specs.Map.{keys_of}
use Rattle.al_base.specs.Batch.{Finding}
use Rattle.al_base_graph.proofs.Members.{first, first_or_later, later, nowhere}
use Rattle.al_base.specs.declared.unit_key.UnitKey.{UnitKey}
use Rattle.al_query_outcome.specs.Results.{Outcome}
use Rattle.al_unit_graph.specs.Headers.{Library}
use Rattle.al_unit_faults.specs.GraphFaults.{file_faults}
use Rattle.al_engine_refresh.specs.Found.{AreToldAlone, file_findings, findings_of, told_in}

by_files : (lib : Library) (f : UnitKey → Option Outcome) (files : List (List ℕ)) → flat_map (told_in lib f) (map (λ file. (file, file_faults lib file)) files) ≡ flat_map (file_findings lib f) files
by_files lib f [] = refl
by_files lib f (file ∷ files) = ap (λ fs. file_findings lib f file ++ fs) (by_files lib f files)

pub all_told : (lib : Library) (f : UnitKey → Option Outcome) → flat_map (told_in lib f) (map (λ file. (file, file_faults lib file)) (keys_of lib)) ≡ findings_of lib f
unfolding findings_of
all_told lib f = by_files lib f (keys_of lib)

-- a file in the list of all has its errors among the other units
listed : (lib : Library) (files : List (List ℕ)) (x : List ℕ × List Finding) → Contains (map (λ file. (file, file_faults lib file)) files) x → Contains files x.0 × (x.1 ≡ file_faults lib x.0)
listed lib [] x c = absurd (nowhere x c)
listed lib (file ∷ files) x c = elim (first_or_later (file, file_faults lib file) (map (λ file. (file, file_faults lib file)) files) x c) as (λ _. Contains (file ∷ files) x.0 × (x.1 ≡ file_faults lib x.0)) [
  | inl same ↦ subst (λ (y : List ℕ × List Finding). Contains (file ∷ files) y.0 × (y.1 ≡ file_faults lib y.0)) same (first file files, refl)
  | inr more ↦ let is = listed lib files x more in (later file files x.0 is.0, is.1)
]

-- another file than the only one that has any has none
pub others_none : (lib : Library) (f : UnitKey → Option Outcome) (one : List ℕ) (faults : List (List ℕ × List Finding)) → faults ≡ map (λ file. (file, file_faults lib file)) (keys_of lib) → AreToldAlone lib f one
    → (x : List ℕ × List Finding) → Contains faults x → (x.0 ≡ one → ⊥) → told_in lib f x ≡ []
others_none lib f one faults are alone x c apart =
    let is = listed lib (keys_of lib) x (subst (λ (xs : List (List ℕ × List Finding)). Contains xs x) are c) in
    ap (λ (fs : List Finding). told_in lib f (x.0, fs)) is.1 ∙ alone x.0 is.0 apart

pub told_one : (lib : Library) (f : UnitKey → Option Outcome) (alone : Option (Bor (List ℕ))) (faults : List (List ℕ × List Finding)) → faults ≡ map (λ file. (file, file_faults lib file)) (keys_of lib) → IfSome alone (λ one. AreToldAlone lib f one.now)
    → (x : List ℕ × List Finding) → Contains faults x → IfSome alone (λ one. (x.0 ≡ one.now → ⊥) → told_in lib f x ≡ [])
told_one lib f None faults are alone x c = tt
told_one lib f (Some one) faults are alone x c = λ apart. others_none lib f one.now faults are alone x c apart

-- the element at a place is there
pub there_at : {A B : Type 0} (g : A → B) (xs : List A) (i : ℕ) (x : A) → i < length xs → x ≡ get_or xs i x → Contains (map g xs) (g x)
there_at g [] i x lt e = absurd (omega arith)
there_at g (y ∷ ys) zero x lt e = subst (λ z. Contains (g y ∷ map g ys) (g z)) (sym e) (first (g y) (map g ys))
there_at g (y ∷ ys) (suc n) x lt e = later (g y) (map g ys) (g x) (there_at g ys n x (omega arith) e)
