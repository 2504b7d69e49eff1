-- If the files of a library have no errors, each of its units breaks no rule, and its check found no error.
use Rattle.std.proofs.Common.{◌≡◌, ◌<◌, ℕ, nat_lt, true, false, Bool, List, [], ◌∷◌, ◌++◌, map, length, Option, Some, None, refl, ap, subst, sym, ◌∙◌}
use Rattle.std.specs.Option.{is_some, option_map_or}
use Rattle.std.specs.List.{Contains, flat_map}
use Rattle.std.specs.Map.{keys_of}
use Rattle.al_base.specs.Batch.{Finding, Key, key_of}
use Rattle.al_base.specs.FileNames.{file_name_of}
use Rattle.al_base.specs.declared.diagnostic.Diagnostic.{Diagnostic}
use Rattle.al_base.specs.declared.unit_key.UnitKey.{UnitKey}
use Rattle.al_base_graph.proofs.Members.{first, into_flat_map, nowhere}
use Rattle.al_unit_graph.specs.Headers.{Header, Headed, Contents, Library, Source, key_of_unit}
use Rattle.al_unit_graph.specs.Library.{is_unit, source_at, unit_at}
use Rattle.al_unit_graph.proofs.BoolLemmas.{both}
use Rattle.al_unit_graph.proofs.Lists.{into_map}
use Rattle.al_unit_faults.specs.GraphFaults.{file_faults, or_else}
use Rattle.al_unit_faults.specs.Orders.{ascending}
use Rattle.al_unit_faults.specs.Spots.{finding_at, spot_of}
use Rattle.al_unit_faults.proofs.OrderLemmas.{into_ascending}
use Rattle.al_unit_faults.proofs.UnitLemmas.{among_files, at_key, in_file}
use Rattle.al_unit_faults.specs.Reached.{is_faultless, is_none_found}
use Rattle.al_unit_faults.proofs.FaultlessLemmas.{into_faultless}
use Rattle.al_query_outcome.specs.Equations.{is_sound, unit_named}
use Rattle.al_query_outcome.specs.ReadsLaw.{FaultsFit}
use Rattle.al_query_outcome.specs.Results.{Outcome, Faulty, Sound}
use Rattle.al_engine_refresh.specs.Found.{checked_findings, contents_findings, file_findings, findings_of, outcome_findings, told_of}

some_there : {X : Type 0} (o : Option X) → is_some o ≡ true → (x : X) × (o ≡ Some x)
some_there None is = absurd (cc)
some_there (Some x) is = (x, refl)

-- a part of an empty list is empty
none_in : {X Y : Type 0} (g : X → List Y) (xs : List X) (x : X) → Contains xs x → flat_map g xs ≡ [] → g x ≡ []
none_in {X = X} {Y = Y} g xs x c none = at (g x) refl
  where
    at : (ys : List Y) → g x ≡ ys → ys ≡ []
    at [] is = refl
    at (y ∷ ys) is = absurd (nowhere y (subst (λ (zs : List Y). Contains zs y) none (into_flat_map g xs x y c (subst (λ (zs : List Y). Contains zs y) (sym is) (first y ys)))))

neither : (a b : List Finding) → or_else a b ≡ [] → (a ≡ []) × (b ≡ [])
neither [] b none = (refl, none)
neither (f ∷ fs) b none = absurd (cc)

-- a check that found no error in a file is sound
some_fault : (file : List ℕ) (faults : List Diagnostic) → nat_lt 0 (length faults) ≡ true → checked_findings file faults ≡ [] → ⊥
some_fault file [] some none = cc
some_fault file (d ∷ ds) some none =
    let f : Finding = finding_at file (spot_of d) in
    nowhere f (subst (λ fs. Contains fs f) none (into_ascending (map (λ x. finding_at file (spot_of x)) (d ∷ ds)) f (first f (map (λ x. finding_at file (spot_of x)) ds))))

sound_by : (file : List ℕ) (u : UnitKey) (o : Option Outcome) → ((p : Outcome) → o ≡ Some p → FaultsFit u p) → outcome_findings file o ≡ [] → is_sound o ≡ true
sound_by file u None fit none = absurd (cc)
sound_by file u (Some (Faulty faults)) fit none = absurd (some_fault file faults (fit (Faulty faults) refl).0 none)
sound_by file u (Some (Sound interface tree)) fit none = refl

module _ (lib : Library) (f : UnitKey → Option Outcome) (fit : (u : UnitKey) (p : Outcome) → f u ≡ Some p → FaultsFit u p) (none : findings_of lib f ≡ []) where
  -- there is no error in a file
  none_told : (file : List ℕ) (source : Source) → source_at lib file ≡ Some source → file_findings lib f file ≡ []
  unfolding findings_of
  none_told file source there =
      let e = among_files lib file source there in
      let c : Contains (keys_of lib) file = subst (λ n. Contains (keys_of lib) n) (sym e.2) (into_map (λ (p : List ℕ × Source). p.0) lib e.0 e.1) in
      none_in (file_findings lib f) (keys_of lib) file c none

  abbrev told : List ℕ → Source → List Finding
  told file source = contents_findings f file source.contents

  both_none : (file : List ℕ) (source : Source) → source_at lib file ≡ Some source → (file_faults lib file ≡ []) × (told file source ≡ [])
  both_none file source there =
      let n = neither (file_faults lib file) (option_map_or (told file) (source_at lib file) []) (none_told file source there) in
      (n.0, sym (ap (λ o. option_map_or (told file) o []) there) ∙ n.1)

  -- there is no error in a unit
  pub no_rule_broken : (key : Key) (h : Header) → unit_at lib key ≡ Some h → is_faultless lib key ≡ true
  no_rule_broken key h at =
      let held = in_file lib (file_name_of key) h (at_key lib key h at).0 in
      into_faultless lib key h at (ap is_none_found (both_none (file_name_of key) held.source held.there).0)

  pub sound_unit : (u : UnitKey) (h : Header) → unit_at lib (key_of u) ≡ Some h → is_sound (f u) ≡ true
  sound_unit u h at =
      let file = file_name_of (key_of u) in
      let r = at_key lib (key_of u) h at in
      let held = in_file lib file h r.0 in
      let here : outcome_findings file (f (unit_named (key_of_unit h))) ≡ [] = sym (ap (λ (c : Contents). contents_findings f file c) held.headed) ∙ (both_none file held.source held.there).1 in
      let mine : outcome_findings file (f u) ≡ [] = sym (ap (λ (k : Key). outcome_findings file (f (unit_named k))) r.1) ∙ here in
      sound_by file u (f u) (fit u) mine

  pub all_sound : (u : UnitKey) → is_unit lib (key_of u) ≡ true → is_sound (f u) ≡ true
  all_sound u there = let h = some_there (unit_at lib (key_of u)) there in sound_unit u h.0 h.1
