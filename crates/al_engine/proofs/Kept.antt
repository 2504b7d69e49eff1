-- The errors of the files as units are the same, if the files that were edited break no rule.
use Rattle.std.proofs.Common.{◌≡◌, ℕ, ◌+◌, inl, inr, Bool, true, false, List, [], ◌∷◌, ◌++◌, map, take, Option, Some, None, is_some, refl, sym, ap, subst, ◌∙◌}
use Rattle.std.specs.List.{Contains}
use Rattle.std.specs.Map.{keys_of}
use Rattle.std.specs.Option.{option_map, option_map_or}
use Rattle.al_base.specs.Batch.{Finding}
use Rattle.al_unit_graph.specs.Headers.{Library, Source}
use Rattle.al_unit_graph.specs.Library.{source_at}
use Rattle.al_unit_graph.specs.Traces.{AreReadAlike, text_at}
use Rattle.std.proofs.lemmas.List.Elements.{Contains-append_cases}
use Rattle.al_base_graph.proofs.Members.{the_one}
use Rattle.al_unit_graph.proofs.Lists.{from_map, into_map}
use Rattle.al_unit_faults.specs.FilesSeen.{file_faults_model}
use Rattle.al_unit_faults.specs.GraphFaults.{file_faults}
use Rattle.al_unit_faults.specs.Reached.{is_none_found}
use Rattle.al_unit_faults.proofs.OrderLemmas.{ascending-none}
use Rattle.al_engine.specs.GraphGraphs.{HaveOneGraph, HaveSameGraph, HaveSameHeaders, contents_at, unplaced_contents}
use Rattle.al_engine.specs.Kept.{IsGraphOf}
use Rattle.al_engine.specs.Texts.{HaveTextsBut, IsKeptFault, may_differ, text_in}
use Rattle.al_engine.specs.declared.alike.Edited.{Edited}
use Rattle.al_engine.specs.declared.graph.UnitGraph.{UnitGraph}
use Rattle.al_engine.proofs.Files.{file_there}

none_is : (fs : List Finding) → is_none_found fs ≡ true → fs ≡ []
none_is [] is = refl
none_is (f ∷ fs) is = absurd (cc)

-- two files that are both there with the same source, or are both not there
texts_alike : (o n : Option Source) → option_map (λ (s : Source). unplaced_contents s.contents) o ≡ option_map (λ (s : Source). unplaced_contents s.contents) n → option_map_or (λ (s : Source). s.text) o [] ≡ option_map_or (λ (s : Source). s.text) n [] → option_map (λ (s : Source). s.text) o ≡ option_map (λ (s : Source). s.text) n
texts_alike None None there is = refl
texts_alike None (Some s) there is = absurd (cc)
texts_alike (Some s) None there is = absurd (cc)
texts_alike (Some s) (Some t) there is = ap (λ (x : List ℕ). Some x) is

-- what holds of the first elements and of the next one
pub each-more : {X Y : Type 0} (f : X → Y) (P : Y → Type 0) (xs : List X) (i : ℕ) (x : X) → take (i + 1) xs ≡ take i xs ++ x ∷ [] → ((y : Y) → Contains (map f (take i xs)) y → P y) → P (f x) → (y : Y) → Contains (map f (take (i + 1) xs)) y → P y
each-more {X} {Y} f P xs i x more before here y c =
    let of = from_map f (take (i + 1) xs) y c in
    let at : Contains (take i xs ++ x ∷ []) of.0 = subst (λ (zs : List X). Contains zs of.0) more of.1 in
    subst P of.2
    (elim (Contains-append_cases (take i xs) (x ∷ []) of.0 at) as (λ _. P (f of.0)) [
      | inl h ↦ before (f of.0) (into_map f (take i xs) of.0 h)
      | inr h ↦ subst (λ (z : X). P (f z)) (the_one x of.0 h) here
    ])

-- a file that isn't there breaks no rule
pub no-source : (lib : Library) (file : List ℕ) → source_at lib file ≡ None → file_faults lib file ≡ []
unfolding file_faults
no-source lib file at = rw at ascending-none

-- the rules that a file breaks are listed in the graph
pub listed-fault : (lib : Library) (graph : UnitGraph) → IsGraphOf lib graph → (file : List ℕ) (s : Source) → source_at lib file ≡ Some s → Contains (map file_faults_model graph.faults.items) (file, file_faults lib file)
listed-fault lib graph of_graph file s at =
    let pair : List ℕ → List ℕ × List Finding = λ f. (f, file_faults lib f) in
    subst (λ (fs : List (List ℕ × List Finding)). Contains fs (pair file)) (sym of_graph.faults) (into_map pair (keys_of lib) file (file_there lib file s at))

module _ (old new : Library) (edited : Edited) (graph : UnitGraph) (same : HaveSameHeaders old new) (one : HaveOneGraph old new) (alike : AreReadAlike old new) (texts : HaveTextsBut old new edited) (of_old : IsGraphOf old graph)
    (kept : (f : List ℕ × List Finding) → Contains (map file_faults_model graph.faults.items) f → IsKeptFault edited f) where
  -- a file that breaks a rule and whose source may differ
  never : (file : List ℕ) → is_none_found (file_faults old file) ≡ false → may_differ edited file → ⊥
  never file broken may = by (source_at old file) refl
    where
      by : (o : Option Source) → source_at old file ≡ o → ⊥
      by None at = let is : is_none_found (file_faults old file) ≡ true = ap is_none_found (no-source old file at) in absurd (cc)
      by (Some s) at =
          let is : is_none_found (file_faults old file) ≡ true = ap is_none_found (kept (file, file_faults old file) (listed-fault old graph of_old file s at) may) in absurd (cc)

  faults_stay : (file : List ℕ) → file_faults old file ≡ file_faults new file
  faults_stay file = by (is_none_found (file_faults old file)) refl
    where
      by : (b : Bool) → is_none_found (file_faults old file) ≡ b → file_faults old file ≡ file_faults new file
      by true is = none_is (file_faults old file) is ∙ sym (none_is (file_faults new file) (sym (one.breaks file) ∙ is))
      by false is = one.faults file (alike file (texts_alike (source_at old file) (source_at new file) (same.contents file) (texts file (never file is))))

  pub same_graph : HaveSameGraph old new
  same_graph = record { headers = same; faults = faults_stay }
