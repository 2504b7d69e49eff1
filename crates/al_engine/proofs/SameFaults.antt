-- Libraries with the same headers except for places break rules in the same files, and have the same orders of dependence.
use Rattle.std.proofs.Common.{◌≡◌, ℕ, zero, suc, Bool, true, false, not, ◌&&◌, ◌||◌, List, [], ◌∷◌, ◌++◌, length, map, Option, Some, None, refl, sym, ap, subst, ◌∙◌}
use Rattle.std.specs.Option.{is_none, option_map, option_map_or}
use Rattle.std.specs.List.{Contains, flat_map, fold, list_any}
use Rattle.std.specs.Str.{bytes_eq}
use Rattle.std.specs.BTreeSet.{insert_key}
use Rattle.std.specs.Ordering.{match_ordering}
use Rattle.std.specs.declared.cmp.Ordering.{Ordering}
use Rattle.std.specs.declared.cmp.Ordering.TheVariants.{Less, Equal, Greater}
use Rattle.std.specs.Map.{keys_of}
use Rattle.std.proofs.lemmas.List.{length-map}
use Rattle.al_base.specs.Batch.{Finding, Key}
use Rattle.al_base.specs.declared.place.Place.{Place}
use Rattle.al_base.specs.FileNames.{file_name_of}
use Rattle.al_base.specs.declared.unit_key.UnitKind.TheVariants.{Decl, Sub}
use Rattle.al_base_graph.specs.Closing.{closing}
use Rattle.al_unit_graph.specs.Headers.{Contents, Headed, Unread, Mention, Header, Source, Library, key_of_unit, kind_of, is_package, is_package_body, is_library_body}
use Rattle.al_unit_graph.specs.Names.{is_predefined, is_reserved, lineage, parent_of}
use Rattle.al_unit_graph.specs.Library.{has_body_file, has_declaration_file, source_at, unit_at, unit_in, is_kind}
use Rattle.al_unit_graph.specs.Dependence.{listed}
use Rattle.al_unit_graph.specs.Closures.{is_same_key}
use Rattle.al_unit_graph.specs.FaultLists.{finding_if, fits, has_no_parent, has_no_stub, has_stub, is_misfit, is_missing, is_no_package, is_no_parent, lacks_stub, declaration_faults, mention_faults, name_faults, own_faults, parent_faults}
use Rattle.al_unit_faults.specs.Cycles.{all_dependences, cycle_faults, depends_on_itself, unit_keys}
use Rattle.al_unit_faults.specs.GraphFaults.{contents_faults, file_faults, or_else, rule_faults}
use Rattle.al_unit_faults.specs.Orders.{ascending, finding_cmp}
use Rattle.al_unit_faults.specs.Parts.{part_of, part_within}
use Rattle.al_unit_faults.specs.Private.{descends, descends_below, is_behind_declaration, is_hidden, is_private, is_private_descendant, may_mention_as, may_mention_children, private_faults}
use Rattle.al_unit_faults.specs.Reached.{IsDependenceOrder, is_faultless, is_none_found}
use Rattle.al_engine.specs.GraphGraphs.{HaveSameHeaders, nowhere, unplaced, unplaced_contents, unplaced_mention}
use Rattle.al_engine.proofs.SameUnits.{acts, by_unit, has_body, has_declaration, is_a_unit, parent_without, the_declaration, the_parent_body, the_unit_in, what_directly}

by_names : (g : List ℕ → List Key) (lib : Library) → flat_map (λ e. g e.0) lib ≡ flat_map g (keys_of lib)
by_names g [] = refl
by_names g (e ∷ lib) = ap (λ ks. g e.0 ++ ks) (by_names g lib)

count_names : (lib : Library) → length lib ≡ length (keys_of lib)
count_names lib = sym (length-map lib (λ e. e.0))

keyed : (o : Option Header) → option_map key_of_unit o ≡ option_map key_of_unit (option_map unplaced o)
keyed None = refl
keyed (Some h) = refl

-- there are no errors in two lists if there are none in either
none_both : (xs ys : List Finding) → is_none_found (xs ++ ys) ≡ (is_none_found xs && is_none_found ys)
none_both [] ys = refl
none_both (x ∷ xs) ys = refl

none_else : (xs ys : List Finding) → is_none_found (or_else xs ys) ≡ (is_none_found xs && is_none_found ys)
none_else [] ys = refl
none_else (x ∷ xs) ys = refl

both_alike : (ls ms xs ys : List Finding) → is_none_found ls ≡ is_none_found xs → is_none_found ms ≡ is_none_found ys → is_none_found (ls ++ ms) ≡ is_none_found (xs ++ ys)
both_alike ls ms xs ys a b = none_both ls ms ∙ (λ i. a i && b i) ∙ sym (none_both xs ys)

-- whether there is an error doesn't depend on a place
if_alike : (b : Bool) (file : List ℕ) (p q : Place) (code : ℕ) → is_none_found (finding_if b file p code) ≡ is_none_found (finding_if b file q code)
if_alike true file p q code = refl
if_alike false file p q code = refl

mentions_alike : (F : Mention → List Finding) → ((m : Mention) → is_none_found (F (unplaced_mention m)) ≡ is_none_found (F m)) → (ms : List Mention) → is_none_found (flat_map F (map unplaced_mention ms)) ≡ is_none_found (flat_map F ms)
mentions_alike F is [] = refl
mentions_alike F is (m ∷ ms) = both_alike (F (unplaced_mention m)) (flat_map F (map unplaced_mention ms)) (F m) (flat_map F ms) (is m) (mentions_alike F is ms)

-- a list in order isn't empty if the list isn't
insert_some : (ks : List Finding) (f : Finding) → is_none_found (insert_key finding_cmp ks f) ≡ false
insert_some [] f = refl
insert_some (k ∷ ks) f = by (finding_cmp f k)
  where
    by : (o : Ordering) → is_none_found (match_ordering o (f ∷ k ∷ ks) (k ∷ ks) (k ∷ insert_key finding_cmp ks f)) ≡ false
    by Less = refl
    by Equal = refl
    by Greater = refl

fold_some : (fs ks : List Finding) → is_none_found ks ≡ false → is_none_found (fold (insert_key finding_cmp) ks fs) ≡ false
fold_some [] ks some = some
fold_some (f ∷ fs) ks some = fold_some fs (insert_key finding_cmp ks f) (insert_some ks f)

none_ascending : (fs : List Finding) → is_none_found (ascending fs) ≡ is_none_found fs
unfolding ascending
none_ascending [] = refl
none_ascending (f ∷ fs) = fold_some fs (insert_key finding_cmp [] f) refl

within_without : (lib : Library) (n : ℕ) (h : Header) → part_within n lib (unplaced h) ≡ part_within n lib h
within_without lib zero h = refl
within_without lib (suc n) h = parent_without (λ m. option_map_or (part_within n lib) (unit_at lib (m.name, Sub)) (Some m.name)) (Some h.name) (λ m. refl) h.parent_body

-- whether a file breaks a rule doesn't depend on places
module _ (lib : Library) (file : List ℕ) (h : Header) where
  part_without : part_of lib (unplaced h) ≡ part_of lib h
  unfolding part_of
  part_without = within_without lib (suc (length lib)) h

  hidden_without : (child : List ℕ) → is_hidden lib (unplaced h) child ≡ is_hidden lib h child
  hidden_without child = λ i. is_private lib child && not (option_map_or (may_mention_as lib h (parent_of child)) (part_without i) false)

  private_without : (m : Mention) → is_none_found (private_faults lib file (unplaced h) (unplaced_mention m)) ≡ is_none_found (private_faults lib file h m)
  private_without m =
      (λ i. is_none_found (finding_if (list_any (λ child. hidden_without child i) (lineage m.name)) file nowhere 204))
      ∙ if_alike (list_any (is_hidden lib h) (lineage m.name)) file nowhere m.place 204

  parents_without : (parent : Option Mention) → is_none_found (parent_faults lib file (unplaced h) (option_map unplaced_mention parent)) ≡ is_none_found (parent_faults lib file h parent)
  parents_without None = if_alike (has_no_parent lib (parent_of h.name)) file nowhere h.place 205
  parents_without (Some m) =
      both_alike (finding_if (not (has_body_file lib m.name)) file nowhere 202) (finding_if (has_no_stub lib m.name h.designator) file nowhere 206) _ _ (if_alike (not (has_body_file lib m.name)) file nowhere m.place 202)
      (if_alike (has_no_stub lib m.name h.designator) file nowhere h.place 206)

  own_without : is_none_found (own_faults lib file (unplaced h)) ≡ is_none_found (own_faults lib file h)
  unfolding own_faults
  own_without =
      both_alike (flat_map (mention_faults lib file) (map unplaced_mention h.mentions) ++ parent_faults lib file (unplaced h) (option_map unplaced_mention h.parent_body)) (declaration_faults lib file (unplaced h)) _ _
      (both_alike (flat_map (mention_faults lib file) (map unplaced_mention h.mentions)) (parent_faults lib file (unplaced h) (option_map unplaced_mention h.parent_body)) _ _
      (mentions_alike (mention_faults lib file) (λ m. if_alike (is_missing lib m.name) file nowhere m.place 202) h.mentions) (parents_without h.parent_body))
      (both_alike (finding_if (is_package_body h.form && not (has_declaration_file lib h.name)) file nowhere 202) (finding_if (is_misfit lib h) file nowhere 209) _ _
      (if_alike (is_package_body h.form && not (has_declaration_file lib h.name)) file nowhere h.place 202) (if_alike (is_misfit lib h) file nowhere h.place 209))

  rules_without : is_none_found (rule_faults lib file (unplaced h)) ≡ is_none_found (rule_faults lib file h)
  rules_without =
      both_alike (own_faults lib file (unplaced h) ++ cycle_faults lib file h) (flat_map (private_faults lib file (unplaced h)) (map unplaced_mention h.mentions)) _ _
      (both_alike (own_faults lib file (unplaced h)) (cycle_faults lib file h) _ _ own_without refl)
      (each h.mentions)
    where
      each : (ms : List Mention) → is_none_found (flat_map (private_faults lib file (unplaced h)) (map unplaced_mention ms)) ≡ is_none_found (flat_map (private_faults lib file h) ms)
      each [] = refl
      each (m ∷ ms) =
          both_alike (private_faults lib file (unplaced h) (unplaced_mention m)) (flat_map (private_faults lib file (unplaced h)) (map unplaced_mention ms)) (private_faults lib file h m) (flat_map (private_faults lib file h) ms)
          (private_without m) (each ms)

  names_without : is_none_found (name_faults file (unplaced h)) ≡ is_none_found (name_faults file h)
  unfolding name_faults
  names_without =
      both_alike (finding_if (not (bytes_eq file (file_name_of (key_of_unit h)))) file nowhere 201) (finding_if (is_reserved h.name) file nowhere 207) _ _
      (if_alike (not (bytes_eq file (file_name_of (key_of_unit h)))) file nowhere h.place 201) (if_alike (is_reserved h.name) file nowhere h.place 207)

  headed_without : is_none_found (contents_faults lib file (Headed (unplaced h))) ≡ is_none_found (contents_faults lib file (Headed h))
  headed_without =
      none_else (name_faults file (unplaced h)) (rule_faults lib file (unplaced h))
      ∙ (λ i. names_without i && rules_without i)
      ∙ sym (none_else (name_faults file h) (rule_faults lib file h))

contents_without : (lib : Library) (file : List ℕ) (contents : Contents) → is_none_found (contents_faults lib file (unplaced_contents contents)) ≡ is_none_found (contents_faults lib file contents)
contents_without lib file (Headed h) = headed_without lib file h
contents_without lib file (Unread place code) = refl

of_contents : (lib : Library) (file : List ℕ) (o : Option Source) → is_none_found (option_map_or (λ source. contents_faults lib file source.contents) o []) ≡ is_none_found (option_map_or (contents_faults lib file) (option_map (λ source. unplaced_contents source.contents) o) [])
of_contents lib file None = refl
of_contents lib file (Some source) = sym (contents_without lib file source.contents)

module _ (old new : Library) (same : HaveSameHeaders old new) where
  missing : (name : List ℕ) → is_missing old name ≡ is_missing new name
  missing name = λ i. not (is_predefined name) && is_none (the_declaration old new same name i)

  of_mention : (file : List ℕ) (m : Mention) → mention_faults old file m ≡ mention_faults new file m
  of_mention file m = λ i. finding_if (missing m.name i) file m.place 202

  no_package : (key : Key) → is_no_package old key ≡ is_no_package new key
  no_package key = by_unit old new same (λ d. not (is_package d.form)) false (λ d. refl) key

  no_parent : (parent : List ℕ) → is_no_parent old parent ≡ is_no_parent new parent
  no_parent parent = λ i. option_map_or (λ k. no_package k i) (the_declaration old new same parent i) true

  without_parent : (parent : Option (List ℕ)) → has_no_parent old parent ≡ has_no_parent new parent
  without_parent parent = λ i. option_map_or (λ p. no_parent p i) parent false

  lacks : (stub : List ℕ) (key : Key) → lacks_stub old stub key ≡ lacks_stub new stub key
  lacks stub key = by_unit old new same (λ parent. not (has_stub stub parent)) false (λ parent. refl) key

  without_stub : (parent stub : List ℕ) → has_no_stub old parent stub ≡ has_no_stub new parent stub
  without_stub parent stub = λ i. option_map_or (λ k. lacks stub k i) (the_parent_body old new same parent i) false

  of_parent : (file : List ℕ) (h : Header) (parent : Option Mention) → parent_faults old file h parent ≡ parent_faults new file h parent
  of_parent file h None = λ i. finding_if (without_parent (parent_of h.name) i) file h.place 205
  of_parent file h (Some m) = λ i.
      finding_if (not (has_body old new same m.name i)) file m.place 202 ++ finding_if (without_stub m.name h.designator i) file h.place 206

  misfit : (h : Header) → is_misfit old h ≡ is_misfit new h
  misfit h = λ i. is_library_body h.form && by_unit old new same (λ declaration. not (fits h declaration)) false (λ declaration. refl) (h.name, Decl) i

  of_declaration : (file : List ℕ) (h : Header) → declaration_faults old file h ≡ declaration_faults new file h
  of_declaration file h = λ i.
      finding_if (is_package_body h.form && not (has_declaration old new same h.name i)) file h.place 202 ++ finding_if (misfit h i) file h.place 209

  of_own : (file : List ℕ) (h : Header) → own_faults old file h ≡ own_faults new file h
  unfolding own_faults
  of_own file h = λ i. (flat_map (λ m. of_mention file m i) h.mentions ++ of_parent file h h.parent_body i) ++ of_declaration file h i

  the_key : (file : List ℕ) → option_map key_of_unit (unit_in old file) ≡ option_map key_of_unit (unit_in new file)
  the_key file = keyed (unit_in old file) ∙ (λ i. option_map key_of_unit (the_unit_in old new same file i)) ∙ sym (keyed (unit_in new file))

  keys : unit_keys old ≡ unit_keys new
  keys =
      by_names (λ file. listed (option_map key_of_unit (unit_in old file))) old
      ∙ (λ i. flat_map (λ file. listed (the_key file i)) (same.files i))
      ∙ sym (by_names (λ file. listed (option_map key_of_unit (unit_in new file))) new)

  all_of : (key : Key) → all_dependences old key ≡ all_dependences new key
  unfolding all_dependences
  all_of key = λ i. closing is_same_key (λ k. what_directly old new same k i) (keys i) (what_directly old new same key i)

  on_itself : (key : Key) → depends_on_itself old key ≡ depends_on_itself new key
  on_itself key = λ i. list_any (is_same_key key) (all_of key i)

  of_cycle : (file : List ℕ) (h : Header) → cycle_faults old file h ≡ cycle_faults new file h
  of_cycle file h = λ i. finding_if (on_itself (key_of_unit h) i) file (record { line = 1; col = 1 }) 203

  outer : (n : ℕ) → ((h : Header) → part_within n old h ≡ part_within n new h) → (m : Mention) → option_map_or (part_within n old) (unit_at old (m.name, Sub)) (Some m.name) ≡ option_map_or (part_within n new) (unit_at new (m.name, Sub)) (Some m.name)
  outer n each m = (λ i. option_map_or (λ u. each u i) (unit_at old (m.name, Sub)) (Some m.name)) ∙ by_unit old new same (part_within n new) (Some m.name) (within_without new n) (m.name, Sub)

  within : (n : ℕ) (h : Header) → part_within n old h ≡ part_within n new h
  within zero h = refl
  within (suc n) h = λ i. option_map_or (λ m. outer n (λ u. within n u) m i) h.parent_body (Some h.name)

  count : length old ≡ length new
  count = count_names old ∙ (λ i. length (same.files i)) ∙ sym (count_names new)

  the_part : (h : Header) → part_of old h ≡ part_of new h
  unfolding part_of
  the_part h = (λ i. part_within (suc (count i)) old h) ∙ within (suc (length new)) h

  private : (name : List ℕ) → is_private old name ≡ is_private new name
  private name = by_unit old new same (λ h. h.is_private) false (λ h. refl) (name, Decl)

  private_below : (name : List ℕ) (ancestor : Option (List ℕ)) → is_private_descendant old name ancestor ≡ is_private_descendant new name ancestor
  private_below name ancestor = λ i. list_any (λ between. private between i && descends_below between ancestor) (lineage name)

  after_declaration : (h : Header) → is_behind_declaration old h ≡ is_behind_declaration new h
  after_declaration h = λ i. not (is_kind (kind_of h.form) Decl) && not (acts old new same h i)

  may_as : (h : Header) (parent : Option (List ℕ)) (name : List ℕ) → may_mention_as old h parent name ≡ may_mention_as new h parent name
  may_as h parent name = λ i. private_below name parent i || (after_declaration h i && descends name parent)

  may : (h : Header) (parent : Option (List ℕ)) → may_mention_children old h parent ≡ may_mention_children new h parent
  may h parent = λ i. option_map_or (λ name. may_as h parent name i) (the_part h i) false

  hidden : (h : Header) (child : List ℕ) → is_hidden old h child ≡ is_hidden new h child
  hidden h child = λ i. private child i && not (may h (parent_of child) i)

  of_private : (file : List ℕ) (h : Header) (m : Mention) → private_faults old file h m ≡ private_faults new file h m
  of_private file h m = λ i. finding_if (list_any (λ name. hidden h name i) (lineage m.name)) file m.place 204

  of_rules : (file : List ℕ) (h : Header) → rule_faults old file h ≡ rule_faults new file h
  of_rules file h = λ i. (of_own file h i ++ of_cycle file h i) ++ flat_map (λ m. of_private file h m i) h.mentions

  of_read : (file : List ℕ) (contents : Contents) → contents_faults old file contents ≡ contents_faults new file contents
  of_read file (Headed h) = λ i. or_else (name_faults file h) (of_rules file h i)
  of_read file (Unread place code) = refl

  of_all : (file : List ℕ) (o : Option Source) → option_map_or (λ source. contents_faults old file source.contents) o [] ≡ option_map_or (λ source. contents_faults new file source.contents) o []
  of_all file o = λ i. option_map_or (λ source. of_read file source.contents i) o []

  pub the_faults : (file : List ℕ) → source_at old file ≡ source_at new file → file_faults old file ≡ file_faults new file
  unfolding file_faults
  the_faults file is = ap ascending (of_all file (source_at old file) ∙ ap (λ o. option_map_or (λ source. contents_faults new file source.contents) o []) is)

  pub breaks : (file : List ℕ) → is_none_found (file_faults old file) ≡ is_none_found (file_faults new file)
  unfolding file_faults
  breaks file =
      none_ascending (option_map_or (λ source. contents_faults old file source.contents) (source_at old file) [])
      ∙ ap is_none_found (of_all file (source_at old file))
      ∙ of_contents new file (source_at old file)
      ∙ (λ i. is_none_found (option_map_or (contents_faults new file) (same.contents file i) []))
      ∙ sym (of_contents new file (source_at new file))
      ∙ sym (none_ascending (option_map_or (λ source. contents_faults new file source.contents) (source_at new file) []))

  pub faultless : (key : Key) → is_faultless old key ≡ is_faultless new key
  unfolding is_faultless
  faultless key = λ i. is_a_unit old new same key i && breaks (file_name_of key) i

  pub same_dependence : (order : List Key) → IsDependenceOrder old order → IsDependenceOrder new order
  same_dependence order is = record {
    all = λ key. ((λ c. sym (faultless key) ∙ (is.all key).0 c), (λ f. (is.all key).1 (faultless key ∙ f)));
    once = is.once;
    after = λ before rest key d at c f. is.after before rest key d at (subst (λ (ks : List Key). Contains ks d) (sym (what_directly old new same key)) c) (faultless d ∙ f);
  }
