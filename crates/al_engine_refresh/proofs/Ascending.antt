-- What is found ascends.
use Rattle.std.proofs.Common.{◌≡◌, inl, inr, ℕ, List, [], ◌∷◌, Option, Some, None, refl, ap, subst, sym, map}
use Rattle.std.specs.Option.{option_map_or}
use Rattle.std.specs.List.{AllByRecursion, Contains, flat_map}
use Rattle.std.specs.List.Sorted.{IsStrictlySortedBy}
use Rattle.std.specs.Map.{keys_of}
use Rattle.std.specs.declared.cmp.Ordering.TheVariants.{Less}
use Rattle.al_base.specs.Batch.{Finding}
use Rattle.al_base.specs.Files.{name_cmp}
use Rattle.al_base.specs.declared.diagnostic.Diagnostic.{Diagnostic}
use Rattle.al_base.specs.declared.unit_key.UnitKey.{UnitKey}
use Rattle.al_base_graph.proofs.Members.{first_or_later, nowhere}
use Rattle.al_unit_graph.specs.Headers.{Contents, Headed, Unread, Library, Source, key_of_unit}
use Rattle.al_unit_graph.specs.Library.{source_at}
use Rattle.al_unit_faults.specs.GraphFaults.{contents_faults, file_faults, or_else}
use Rattle.al_unit_faults.specs.Orders.{finding_cmp}
use Rattle.al_unit_faults.specs.Spots.{Spot, finding_at, spot_of}
use Rattle.al_unit_faults.proofs.LawLemmas.{file_faults_are_broken, file_of_fault}
use Rattle.al_unit_faults.proofs.OrderLemmas.{from_ascending, sorted_ascending}
use Rattle.al_query_outcome.specs.Equations.{unit_named}
use Rattle.al_query_outcome.specs.Results.{Outcome, Faulty, Sound}
use Rattle.al_engine_refresh.specs.Found.{checked_findings, contents_findings, file_findings, findings_of, outcome_findings}
use Rattle.al_engine_refresh.specs.Ascending.{FindingsAscend}
use Rattle.al_engine_refresh.proofs.Sorting.{all_append, all_of, all_weaker, sorted_append}

sorted_faults : (lib : Library) (file : List ℕ) → IsStrictlySortedBy finding_cmp (file_faults lib file)
unfolding file_faults
sorted_faults lib file = sorted_ascending (option_map_or (λ source. contents_faults lib file source.contents) (source_at lib file) [])

module _ (file : List ℕ) where
  -- findings of the file, in order
  abbrev Good : List Finding → Type 0
  Good fs = IsStrictlySortedBy finding_cmp fs × AllByRecursion (λ f. f.file ≡ file) fs

  no_good : Good []
  unfolding IsStrictlySortedBy
  no_good = (tt, tt)

  one_good : (spot : Spot) → Good (finding_at file spot ∷ [])
  unfolding IsStrictlySortedBy
  one_good spot = ((tt, tt), (refl, tt))

  -- findings at places of the file are of the file
  of_spots : (ds : List Diagnostic) (f : Finding) → Contains (map (λ d. finding_at file (spot_of d)) ds) f → f.file ≡ file
  of_spots [] f c = absurd (nowhere f c)
  of_spots (d ∷ ds) f c =
      elim (first_or_later (finding_at file (spot_of d)) (map (λ d. finding_at file (spot_of d)) ds) f c) as (λ _. f.file ≡ file) [
        | inl is ↦ sym (ap (λ (g : Finding). g.file) is)
        | inr h ↦ of_spots ds f h
      ]

  checked_good : (ds : List Diagnostic) → Good (checked_findings file ds)
  checked_good ds = (
    sorted_ascending (map (λ d. finding_at file (spot_of d)) ds),
    all_of (λ (f : Finding). f.file ≡ file) (checked_findings file ds) (λ f c. of_spots ds f (from_ascending (map (λ d. finding_at file (spot_of d)) ds) f c)),
  )

  outcome_good : (o : Option Outcome) → Good (outcome_findings file o)
  outcome_good None = one_good (1, 1, 208)
  outcome_good (Some (Faulty faults)) = checked_good faults
  outcome_good (Some (Sound interface tree)) = no_good

  module _ (outcomes : UnitKey → Option Outcome) where
    contents_good : (c : Contents) → Good (contents_findings outcomes file c)
    contents_good (Headed h) = outcome_good (outcomes (unit_named (key_of_unit h)))
    contents_good (Unread place code) = one_good (place.line, place.col, code)

    source_good : (s : Option Source) → Good (option_map_or (λ source. contents_findings outcomes file source.contents) s [])
    source_good None = no_good
    source_good (Some source) = contents_good source.contents

  either_good : (fs others : List Finding) → Good fs → Good others → Good (or_else fs others)
  either_good [] others a b = b
  either_good (f ∷ fs) others a b = a

module _ (lib : Library) (outcomes : UnitKey → Option Outcome) where
  faults_good : (file : List ℕ) → Good file (file_faults lib file)
  faults_good file = (
    sorted_faults lib file,
    all_of (λ (f : Finding). f.file ≡ file) (file_faults lib file) (λ f c. file_of_fault lib file f ((file_faults_are_broken lib file f).0 c)),
  )

  file_good : (file : List ℕ) → Good file (file_findings lib outcomes file)
  file_good file = either_good file (file_faults lib file) _ (faults_good file) (source_good file outcomes (source_at lib file))

-- what each file has in order is in order by file
module _ (g : List ℕ → List Finding) (good : (file : List ℕ) → Good file (g file)) where
  later : (file : List ℕ) (names : List (List ℕ)) → AllByRecursion (λ k. name_cmp file k ≡ Less) names → AllByRecursion (λ f. name_cmp file f.file ≡ Less) (flat_map g names)
  later file [] all = tt
  later file (name ∷ rest) all =
      let P : Finding → Type 0 = λ f. name_cmp file f.file ≡ Less in
      let first = all_weaker (λ f. f.file ≡ name) P (λ f is. subst (λ n. name_cmp file n ≡ Less) (sym is) all.0) (g name) (good name).1 in
      all_append P (g name) (flat_map g rest) first (later file rest all.1)

  by_file : (f h : Finding) → name_cmp f.file h.file ≡ Less → finding_cmp f h ≡ Less
  by_file f h less = rw less refl

  files_rise : (names : List (List ℕ)) → IsStrictlySortedBy name_cmp names → IsStrictlySortedBy finding_cmp (flat_map g names)
  unfolding IsStrictlySortedBy
  files_rise [] rise = tt
  files_rise (file ∷ rest) rise =
      let others : List Finding = flat_map g rest in
      let P : Finding → Type 0 = λ f. AllByRecursion (λ h. finding_cmp f h ≡ Less) others in
      let before : (f : Finding) → f.file ≡ file → P f = λ f is. all_weaker (λ h. name_cmp file h.file ≡ Less) (λ h. finding_cmp f h ≡ Less) (λ h less. by_file f h (subst (λ n. name_cmp n h.file ≡ Less) (sym is) less)) others (later file rest rise.0) in
      sorted_append finding_cmp (g file) others (good file).0 (files_rise rest rise.1) (all_weaker (λ f. f.file ≡ file) P before (g file) (good file).1)

pub findings_ascend : FindingsAscend
unfolding findings_of
findings_ascend lib outcomes ascend = files_rise (file_findings lib outcomes) (file_good lib outcomes) (keys_of lib) ascend
