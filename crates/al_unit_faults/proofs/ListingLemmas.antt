-- The obsolete units, file by file.
use Rattle.std.proofs.Common.{◌≡◌, ℕ, ◌+◌, ◌<◌, length, get_or, take, Bool, true, false, not, ◌||◌, cond, List, [], ◌∷◌, ◌++◌, ◌↔◌, Option, Some, None, Vec, map, refl, ap, sym, ◌∙◌, if◌then◌else◌}
use Rattle.std.specs.Bool.{Decides}
use Rattle.std.specs.Option.{is_none, is_some, option_map, option_map_or}
use Rattle.std.specs.List.{filter, flat_map, fold, list_any}
use Rattle.std.specs.Ordering.{nat_cmp}
use Rattle.std.specs.Cmp.Lexicographic.{slice_cmp}
use Rattle.std.specs.BTreeMap.{is_at}
use Rattle.std.proofs.lemmas.Map.Text.{is_eq-slice_cmp}
use Rattle.std.specs.Map.{keys_of}
use Rattle.std.specs.Str.{bytes_eq}
use Rattle.std.specs.BTreeSet.{insert_key}
use Rattle.std.proofs.lemmas.List.{append-nil, take_more}
use Rattle.std.proofs.lemmas.List.Concat.{flat_map-append}
use Rattle.std.proofs.lemmas.List.Elements.{filter-append}
use Rattle.std.proofs.lemmas.List.Sums.{fold-append}
use Rattle.al_base.specs.Batch.{Key}
use Rattle.al_base_graph.specs.Closing.{is_among}
use Rattle.al_unit_graph.specs.Headers.{Header, Library, key_of_unit}
use Rattle.al_unit_graph.specs.Library.{unit_in, unit_at}
use Rattle.al_unit_graph.specs.Dependence.{listed}
use Rattle.al_unit_graph.specs.Traces.{HasSameTrace, IsTouched, AreReadAlike}
use Rattle.al_unit_graph.proofs.TraceLemmas.{traces_are_touched}
use Rattle.al_unit_graph.specs.Orders.{key_cmp, in_order, names_model}
use Rattle.al_unit_faults.specs.Units.{unit_of_file, units_of}
use Rattle.al_unit_faults.specs.Obsolete.{is_same_trace, is_obsolete, obsolete_of}
use Rattle.al_unit_faults.specs.Wanted.{obsolete_by, obsolete_in}
use Rattle.al_unit_faults.proofs.ObsoleteUnitLemmas.{file_named}
use Rattle.al_unit_faults.proofs.TraceLemmas.{same_trace_decided}

opposite : (t s : Bool) (T S : Type 0) → Decides t T → Decides s S → (S ↔ (T → ⊥)) → t ≡ not s
opposite true true T S touched same either = absurd (either.0 (same.0 refl) (touched.0 refl))
opposite true false T S touched same either = refl
opposite false true T S touched same either = refl
opposite false false T S touched same either = absurd (let e = same.1 (either.1 (λ x. let f = touched.1 x in absurd (cc))) in cc)

-- a name that a set has is among its names
pub among_model : {Y : Type 0} (q : List ℕ) (ks : List (Vec ℕ Y)) → list_any (is_at (λ (k : Vec ℕ Y). slice_cmp nat_cmp q k.items)) ks ≡ is_among bytes_eq q (names_model ks)
among_model q [] = refl
among_model {Y = Y} q (k ∷ ks) = ap (λ b. b || list_any (is_at (λ (k : Vec ℕ Y). slice_cmp nat_cmp q k.items)) ks) (is_eq-slice_cmp q k.items) ∙ ap (λ b. bytes_eq q k.items || b) (among_model q ks)

module _ (old : Library) (faulty : List (List ℕ)) (new : Library) where
  in_by : (file : List ℕ) (t : Bool) (o : Option Header) → unit_in new file ≡ o → t ≡ not (is_same_trace old new file) → option_map_or (λ h. if not (is_some (unit_at old (key_of_unit h))) || (is_among bytes_eq file faulty || t) then key_of_unit h ∷ [] else []) o [] ≡ filter (is_obsolete old faulty new) (listed (option_map key_of_unit o))
  in_by file t None is same = refl
  in_by file t (Some h) is same =
      let k = key_of_unit h in
      let Q : Bool → List Key = λ b. cond (not (is_some (unit_at old k)) || (is_among bytes_eq file faulty || b)) (k ∷ []) [] in
      let P : List ℕ → List Key = λ f. cond (is_none (unit_at old k) || (is_among bytes_eq f faulty || not (is_same_trace old new f))) (k ∷ []) [] in
      ap Q same ∙ ap P (file_named new file h is)

  -- a flag that tells whether a file that is met is changed tells the same as the traces
  pub by_flag : (file : List ℕ) (t : Bool) → AreReadAlike old new → Decides t (IsTouched old new file) → obsolete_by old faulty new file t ≡ obsolete_in old faulty new file
  by_flag file t alike touched =
      in_by file t (unit_in new file) refl (opposite t (is_same_trace old new file) (IsTouched old new file) (HasSameTrace old new file) touched (same_trace_decided old new file) (traces_are_touched old new file alike))

  by_files : (files : List (List ℕ)) → flat_map (obsolete_in old faulty new) files ≡ filter (is_obsolete old faulty new) (flat_map (λ file. listed file.1) (map (unit_of_file new) files))
  by_files [] = refl
  by_files (f ∷ fs) =
      ap (λ ks. obsolete_in old faulty new f ++ ks) (by_files fs)
      ∙ sym (filter-append (is_obsolete old faulty new) (listed (unit_of_file new f).1) (flat_map (λ file. listed file.1) (map (unit_of_file new) fs)))

  pub obsolete_by_files : fold (insert_key key_cmp) [] (flat_map (obsolete_in old faulty new) (keys_of new)) ≡ obsolete_of old faulty new
  unfolding obsolete_of in_order units_of
  obsolete_by_files = ap (λ ks. fold (insert_key key_cmp) [] ks) (by_files (keys_of new))

  -- the tests of a unit tell as it is defined
  pub told : (file : List ℕ) (t : Bool) (h : Header) (k : Key) (was among d : Bool) → unit_in new file ≡ Some h → k ≡ key_of_unit h → was ≡ is_some (unit_at old k) → among ≡ is_among bytes_eq file faulty → d ≡ (not was || (among || t)) → cond d (k ∷ []) [] ≡ obsolete_by old faulty new file t
  told file t h k was among d there is e f g =
      let A : Bool → List Key = λ b. cond b (k ∷ []) [] in
      let W : Bool → List Key = λ b. cond (not b || (among || t)) (k ∷ []) [] in
      let F : Bool → List Key = λ b. cond (not (is_some (unit_at old k)) || (b || t)) (k ∷ []) [] in
      let K : Key → List Key = λ j. cond (not (is_some (unit_at old j)) || (is_among bytes_eq file faulty || t)) (j ∷ []) [] in
      let O : Option Header → List Key = λ o. option_map_or (λ u. if not (is_some (unit_at old (key_of_unit u))) || (is_among bytes_eq file faulty || t) then key_of_unit u ∷ [] else []) o [] in
      ap A g ∙ ap W e ∙ ap F f ∙ ap K is ∙ sym (ap O there)

  -- one file more
  pub obsolete_step : (files : List (List ℕ)) (i : ℕ) (keys : List Key) (unit : Option Key) (t : Bool) → i < length files → AreReadAlike old new → Decides t (IsTouched old new (get_or files i [])) → listed unit ≡ obsolete_by old faulty new (get_or files i []) t → keys ≡ fold (insert_key key_cmp) [] (flat_map (obsolete_in old faulty new) (take i files)) → fold (insert_key key_cmp) keys (listed unit) ≡ fold (insert_key key_cmp) [] (flat_map (obsolete_in old faulty new) (take (i + 1) files))
  obsolete_step files i keys unit t within alike touched is so_far =
      let file = get_or files i [] in
      let before = flat_map (obsolete_in old faulty new) (take i files) in
      ap (λ ks. fold (insert_key key_cmp) ks (listed unit)) so_far
      ∙ ap (λ ks. fold (insert_key key_cmp) (fold (insert_key key_cmp) [] before) ks) (is ∙ by_flag file t alike touched ∙ sym (append-nil (obsolete_in old faulty new file)))
      ∙ sym (fold-append (insert_key key_cmp) [] before (flat_map (obsolete_in old faulty new) (file ∷ [])))
      ∙ ap (λ ks. fold (insert_key key_cmp) [] ks) (sym (flat_map-append (obsolete_in old faulty new) (take i files) (file ∷ [])))
      ∙ ap (λ fs. fold (insert_key key_cmp) [] (flat_map (obsolete_in old faulty new) fs)) (sym (take_more files i [] within))
