-- The lists of faults hold what breaks a rule, in order.
use Rattle.std.proofs.Common.{◌≡◌, ℕ, ◌⊎◌, inl, inr, Bool, true, false, not, List, [], ◌∷◌, ◌++◌, Option, Some, None, refl, ap, subst, sym}
use Rattle.std.specs.Option.{option_map_or}
use Rattle.std.specs.List.{Contains, AllByRecursion, list_any, flat_map}
use Rattle.std.specs.List.Sorted.{IsStrictlySortedBy}
use Rattle.std.specs.Map.{keys_of}
use Rattle.std.specs.Str.{bytes_eq}
use Rattle.std.specs.declared.cmp.Ordering.{Ordering}
use Rattle.std.specs.declared.cmp.Ordering.TheVariants.{Less}
use Rattle.std.proofs.lemmas.List.Elements.{Contains-append_left, Contains-append_right, Contains-append_cases}
use Rattle.al_base.specs.Batch.{Finding}
use Rattle.al_base.specs.Files.{name_cmp}
use Rattle.al_base.specs.FileNames.{file_name_of}
use Rattle.al_base.specs.declared.place.Place.{Place}
use Rattle.al_base_graph.proofs.Members.{nowhere, first, later, first_or_later, from_flat_map, into_flat_map, any_from, any_into}
use Rattle.al_unit_graph.specs.Headers.{Header, Contents, Headed, Unread, Source, Library, key_of_unit}
use Rattle.al_unit_graph.specs.Names.{lineage, parent_of, is_reserved}
use Rattle.al_unit_graph.specs.Library.{source_at, is_rightly_named}
use Rattle.al_unit_graph.specs.FaultLists.{finding_if, name_faults, own_faults}
use Rattle.al_unit_graph.specs.Faults.{Misnames, BreaksByItself, Breaks}
use Rattle.al_unit_graph.specs.Faults.Misnames.{other_file, reserved}
use Rattle.al_unit_graph.specs.Faults.BreaksByItself.{missing_mention, missing_parent_body, missing_declaration, missing_parent, parent_no_package, no_stub, misfit}
use Rattle.al_unit_graph.specs.Faults.Breaks.{by_itself, cycle, private_child}
use Rattle.al_unit_graph.proofs.BoolLemmas.{both, and, not_true, true_not, not_so, not_both}
use Rattle.al_unit_graph.proofs.FaultLemmas.{from_if, into_if, name_faults_are_misnames, own_faults_are_broken}
use Rattle.al_unit_faults.specs.Private.{is_private, may_mention_children, is_hidden, private_faults}
use Rattle.al_unit_faults.specs.Cycles.{depends_on_itself, cycle_faults}
use Rattle.al_unit_faults.specs.Orders.{finding_cmp}
use Rattle.al_unit_faults.specs.GraphFaults.{rule_faults, or_else, header_faults, contents_faults, file_faults, graph_faults}
use Rattle.al_unit_faults.specs.Laws.{IsFaultOf, FileFaultsAreBroken, GraphFaultsAreBroken, GraphFaultsAscend}
use Rattle.al_unit_faults.specs.Laws.IsFaultOf.{misnamed, broken}
use Rattle.al_unit_faults.proofs.UnitLemmas.{among_files}
use Rattle.al_unit_faults.proofs.CycleLemmas.{itself_decided}
use Rattle.al_unit_faults.proofs.PrivateLemmas.{private_told, mentions_are_decided}
use Rattle.al_unit_faults.proofs.OrderLemmas.{ascending-none, from_ascending, into_ascending, sorted_ascending}

module _ (lib : Library) (file : List ℕ) (h : Header) where
  from_cycle : (f : Finding) → Contains (cycle_faults lib file h) f → Breaks lib file h f
  from_cycle f c =
      let r = from_if file (depends_on_itself lib (key_of_unit h)) (record { line = 1; col = 1 }) 203 f c in
      subst (λ g. Breaks lib file h g) r.1 (cycle ((itself_decided lib (key_of_unit h)).0 r.0))

  from_private : (f : Finding) → Contains (flat_map (private_faults lib file h) h.mentions) f → Breaks lib file h f
  from_private f c =
      let m = from_flat_map (private_faults lib file h) h.mentions f c in
      let r = from_if file (list_any (is_hidden lib h) (lineage m.0.name)) m.0.place 204 f m.2 in
      let a = any_from (is_hidden lib h) (lineage m.0.name) r.0 in
      let may = may_mention_children lib h (parent_of a.0) in
      let parts = both (is_private lib a.0) (not may) a.2 in
      subst (λ g. Breaks lib file h g) r.1 (private_child m.1 a.1 ((private_told lib a.0).0 parts.0) (λ told. not_both may ((mentions_are_decided lib h (parent_of a.0)).1 told) (not_true may parts.1)))

  abbrev owns : List Finding
  owns = own_faults lib file h

  abbrev cycles : List Finding
  cycles = cycle_faults lib file h

  abbrev privates : List Finding
  privates = flat_map (private_faults lib file h) h.mentions

  from_rule : (f : Finding) → Contains (rule_faults lib file h) f → Breaks lib file h f
  from_rule f c =
      elim (Contains-append_cases (owns ++ cycles) privates f c) [
        | inl l ↦ elim (Contains-append_cases owns cycles f l) [ inl o ↦ by_itself ((own_faults_are_broken lib file h f).0 o) | inr d ↦ from_cycle f d ]
        | inr p ↦ from_private f p
      ]

  into_rule : (f : Finding) → Breaks lib file h f → Contains (rule_faults lib file h) f
  into_rule f (by_itself b) = Contains-append_left (owns ++ cycles) privates f (Contains-append_left owns cycles f ((own_faults_are_broken lib file h f).1 b))
  into_rule f (cycle d) =
      Contains-append_left (owns ++ cycles) privates f (Contains-append_right owns cycles f (into_if file (depends_on_itself lib (key_of_unit h)) (record { line = 1; col = 1 }) 203 ((itself_decided lib (key_of_unit h)).1 d)))
  into_rule f (private_child {m = m} {child = child} c l p fails) =
      let may = may_mention_children lib h (parent_of child) in
      let hidden = and (is_private lib child) (not may) ((private_told lib child).1 p) (not_so may (λ holds. fails ((mentions_are_decided lib h (parent_of child)).0 holds))) in
      let any = any_into (is_hidden lib h) (lineage m.name) child l hidden in
      Contains-append_right (owns ++ cycles) privates f (into_flat_map (private_faults lib file h) h.mentions m f c (into_if file (list_any (is_hidden lib h) (lineage m.name)) m.place 204 any))

from_or_else : (xs ys : List Finding) (f : Finding) → Contains (or_else xs ys) f → Contains xs f ⊎ ((xs ≡ []) × Contains ys f)
from_or_else [] ys f c = inr (refl, c)
from_or_else (x ∷ xs) ys f c = inl c

into_first : (xs ys : List Finding) (f : Finding) → Contains xs f → Contains (or_else xs ys) f
into_first [] ys f c = absurd (nowhere f c)
into_first (x ∷ xs) ys f c = c

into_second : (xs ys : List Finding) (f : Finding) → ((g : Finding) → Contains xs g → ⊥) → Contains ys f → Contains (or_else xs ys) f
into_second [] ys f none c = c
into_second (x ∷ xs) ys f none c = absurd (none x (first x xs))

-- each rule's finding is of the file
file_of_name : (file : List ℕ) (h : Header) (f : Finding) → Misnames file h f → f.file ≡ file
file_of_name file h f (other_file differs) = refl
file_of_name file h f (reserved is) = refl

file_of_own : (lib : Library) (file : List ℕ) (h : Header) (f : Finding) → BreaksByItself lib file h f → f.file ≡ file
file_of_own lib file h f (missing_mention c known missing) = refl
file_of_own lib file h f (missing_parent_body is missing) = refl
file_of_own lib file h f (missing_declaration is missing) = refl
file_of_own lib file h f (missing_parent is named missing) = refl
file_of_own lib file h f (parent_no_package is named n) = refl
file_of_own lib file h f (no_stub is body unit lacks) = refl
file_of_own lib file h f (misfit is unit fails) = refl

file_of_break : (lib : Library) (file : List ℕ) (h : Header) (f : Finding) → Breaks lib file h f → f.file ≡ file
file_of_break lib file h f (by_itself b) = file_of_own lib file h f b
file_of_break lib file h f (cycle d) = refl
file_of_break lib file h f (private_child c l p fails) = refl

pub file_of_header : (lib : Library) (file : List ℕ) (h : Header) (f : Finding) → Contains (header_faults lib file h) f → f.file ≡ file
file_of_header lib file h f c =
    elim (from_or_else (name_faults file h) (rule_faults lib file h) f c) [
      | inl n ↦ file_of_name file h f ((name_faults_are_misnames file h f).0 n)
      | inr r ↦ file_of_break lib file h f (from_rule lib file h f r.1)
    ]

-- a name without faults is right
no_two : (a b : List Finding) → a ++ b ≡ [] → (a ≡ []) × (b ≡ [])
no_two [] b is = (refl, is)
no_two (x ∷ xs) b is = absurd (cc)

not_found : (b : Bool) (file : List ℕ) (place : Place) (code : ℕ) → finding_if b file place code ≡ [] → b ≡ false
not_found true file place code is = absurd (cc)
not_found false file place code is = refl

not_false : (b : Bool) → not b ≡ false → b ≡ true
not_false true is = refl
not_false false is = absurd (cc)

pub rightly_named : (file : List ℕ) (h : Header) → name_faults file h ≡ [] → is_rightly_named file h ≡ true
unfolding name_faults
rightly_named file h none =
    let is_it = bytes_eq file (file_name_of (key_of_unit h)) in
    let r = no_two (finding_if (not is_it) file h.place 201) (finding_if (is_reserved h.name) file h.place 207) none in
    and is_it (not (is_reserved h.name)) (not_false is_it (not_found (not is_it) file h.place 201 r.0)) (true_not (is_reserved h.name) (not_found (is_reserved h.name) file h.place 207 r.1))

-- files without a unit
pub no_source : (lib : Library) (file : List ℕ) → source_at lib file ≡ None → file_faults lib file ≡ []
unfolding file_faults
no_source lib file at = rw at ascending-none

pub no_unit : (lib : Library) (file : List ℕ) (source : Source) (place : Place) (code : ℕ) → source_at lib file ≡ Some source → source.contents ≡ Unread place code → file_faults lib file ≡ []
unfolding file_faults
no_unit lib file source place code at is = rw at (rw is ascending-none)

pub over_entries : (lib : Library) (g : List ℕ → List Finding) → flat_map g (keys_of lib) ≡ flat_map (λ (e : List ℕ × Source). g e.0) lib
over_entries lib g = entries_of lib
  where
    entries_of : (rest : Library) → flat_map g (keys_of rest) ≡ flat_map (λ (e : List ℕ × Source). g e.0) rest
    entries_of [] = refl
    entries_of (e ∷ es) = ap (λ fs. g e.0 ++ fs) (entries_of es)

pub told_by_files : (lib : Library) → flat_map (file_faults lib) (keys_of lib) ≡ graph_faults lib
unfolding graph_faults
told_by_files lib = over_entries lib (file_faults lib)

-- one file
module _ (lib : Library) (file : List ℕ) where
  from_header : (source : Source) (h : Header) (f : Finding) → source_at lib file ≡ Some source → source.contents ≡ Headed h → Contains (header_faults lib file h) f → IsFaultOf lib file f
  from_header source h f there headed c =
      elim (from_or_else (name_faults file h) (rule_faults lib file h) f c) [
        | inl n ↦ misnamed there headed ((name_faults_are_misnames file h f).0 n)
        | inr r ↦ broken there headed (λ g m. nowhere g (subst (λ xs. Contains xs g) r.0 ((name_faults_are_misnames file h g).1 m))) (from_rule lib file h f r.1)
      ]

  from_contents : (source : Source) (f : Finding) → source_at lib file ≡ Some source → (contents : Contents) → source.contents ≡ contents → Contains (contents_faults lib file contents) f → IsFaultOf lib file f
  from_contents source f there (Headed h) is c = from_header source h f there is c
  from_contents source f there (Unread place code) is c = absurd (nowhere f c)

  abbrev source_faults : Source → List Finding
  source_faults source = contents_faults lib file source.contents

  from_source : (f : Finding) (o : Option Source) → source_at lib file ≡ o → Contains (option_map_or source_faults o []) f → IsFaultOf lib file f
  from_source f None is c = absurd (nowhere f c)
  from_source f (Some source) is c = from_contents source f is source.contents refl c

  from_file : (f : Finding) → Contains (file_faults lib file) f → IsFaultOf lib file f
  unfolding file_faults
  from_file f c = from_source f (source_at lib file) refl (from_ascending (option_map_or source_faults (source_at lib file) []) f c)

  into_source : (source : Source) (h : Header) (f : Finding) → source_at lib file ≡ Some source → source.contents ≡ Headed h → Contains (header_faults lib file h) f → Contains (file_faults lib file) f
  unfolding file_faults
  into_source source h f there headed c =
      let d : Contains (source_faults source) f = subst (λ k. Contains (contents_faults lib file k) f) (sym headed) c in
      into_ascending (option_map_or source_faults (source_at lib file) []) f (subst (λ o. Contains (option_map_or source_faults o []) f) (sym there) d)

  into_file : (f : Finding) → IsFaultOf lib file f → Contains (file_faults lib file) f
  into_file f (misnamed {source = source} {h = h} there headed m) =
      into_source source h f there headed (into_first (name_faults file h) (rule_faults lib file h) f ((name_faults_are_misnames file h f).1 m))
  into_file f (broken {source = source} {h = h} there headed named b) =
      into_source source h f there headed (into_second (name_faults file h) (rule_faults lib file h) f (λ g c. named g ((name_faults_are_misnames file h g).0 c)) (into_rule lib file h f b))

  pub file_of_fault : (f : Finding) → IsFaultOf lib file f → f.file ≡ file
  file_of_fault f (misnamed {h = h} there headed m) = file_of_name file h f m
  file_of_fault f (broken {h = h} there headed named b) = file_of_break lib file h f b

  source_of_fault : (f : Finding) → IsFaultOf lib file f → (source : Source) × (source_at lib file ≡ Some source)
  source_of_fault f (misnamed {source = source} there headed m) = (source, there)
  source_of_fault f (broken {source = source} there headed named b) = (source, there)

pub file_faults_are_broken : FileFaultsAreBroken
file_faults_are_broken lib file f = (from_file lib file f, into_file lib file f)

-- all files
abbrev of_entry : Library → List ℕ × Source → List Finding
of_entry lib e = file_faults lib e.0

from_graph : (lib : Library) (f : Finding) → Contains (graph_faults lib) f → IsFaultOf lib f.file f
unfolding graph_faults
from_graph lib f c =
    let r = from_flat_map (of_entry lib) lib f c in
    let fault = from_file lib r.0.0 f r.2 in
    subst (λ n. IsFaultOf lib n f) (sym (file_of_fault lib r.0.0 f fault)) fault

into_graph : (lib : Library) (f : Finding) → IsFaultOf lib f.file f → Contains (graph_faults lib) f
unfolding graph_faults
into_graph lib f fault =
    let s = source_of_fault lib f.file f fault in
    let e = among_files lib f.file s.0 s.1 in
    into_flat_map (of_entry lib) lib e.0 f e.1 (subst (λ n. Contains (file_faults lib n) f) e.2 (into_file lib f.file f fault))

pub graph_faults_are_broken : GraphFaultsAreBroken
graph_faults_are_broken lib f = (from_graph lib f, into_graph lib f)

-- in order
module _ {X : Type 0} where
  all_of : (P : X → Type 0) (xs : List X) → ((x : X) → Contains xs x → P x) → AllByRecursion P xs
  all_of P [] each = tt
  all_of P (x ∷ xs) each = (each x (first x xs), all_of P xs (λ y c. each y (later x xs y c)))

  one_of : (P : X → Type 0) (xs : List X) → AllByRecursion P xs → (x : X) → Contains xs x → P x
  one_of P [] all x c = absurd (nowhere x c)
  one_of P (y ∷ ys) all x c = elim (first_or_later y ys x c) [ inl same ↦ subst P same all.0 | inr h ↦ one_of P ys all.1 x h ]

  sorted_append : (cmp : X → X → Ordering) (xs ys : List X) → IsStrictlySortedBy cmp xs → IsStrictlySortedBy cmp ys → ((x y : X) → Contains xs x → Contains ys y → cmp x y ≡ Less) → IsStrictlySortedBy cmp (xs ++ ys)
  unfolding IsStrictlySortedBy
  sorted_append cmp [] ys front back across = back
  sorted_append cmp (x ∷ xs) ys front back across = (
    all_of (λ y. cmp x y ≡ Less) (xs ++ ys) (λ y c. elim (Contains-append_cases xs ys y c) [
      | inl l ↦ one_of (λ z. cmp x z ≡ Less) xs front.0 y l
      | inr r ↦ across x y (first x xs) r
    ]),
    sorted_append cmp xs ys front.1 back (λ z y c d. across z y (later x xs z c) d),
  )

later_name : (lib : Library) (name : List ℕ) (rest : Library) → AllByRecursion (λ k. name_cmp name k ≡ Less) (keys_of rest) → (g : Finding) → Contains (flat_map (of_entry lib) rest) g → name_cmp name g.file ≡ Less
later_name lib name [] all g c = absurd (nowhere g c)
later_name lib name (e ∷ es) all g c =
    elim (Contains-append_cases (file_faults lib e.0) (flat_map (of_entry lib) es) g c) [
      | inl h ↦ subst (λ n. name_cmp name n ≡ Less) (sym (file_of_fault lib e.0 g (from_file lib e.0 g h))) all.0
      | inr h ↦ later_name lib name es all.1 g h
    ]

by_file : (f g : Finding) → name_cmp f.file g.file ≡ Less → finding_cmp f g ≡ Less
by_file f g less = rw less refl

sorted_file : (lib : Library) (file : List ℕ) → IsStrictlySortedBy finding_cmp (file_faults lib file)
unfolding file_faults
sorted_file lib file = sorted_ascending (option_map_or (λ source. contents_faults lib file source.contents) (source_at lib file) [])

files_rise : (lib : Library) (rest : Library) → IsStrictlySortedBy name_cmp (keys_of rest) → IsStrictlySortedBy finding_cmp (flat_map (of_entry lib) rest)
unfolding IsStrictlySortedBy
files_rise lib [] rise = tt
files_rise lib (e ∷ es) rise =
    sorted_append finding_cmp (file_faults lib e.0) (flat_map (of_entry lib) es) (sorted_file lib e.0) (files_rise lib es rise.1)
    (λ f g c d. by_file f g (subst (λ n. name_cmp n g.file ≡ Less) (sym (file_of_fault lib e.0 f (from_file lib e.0 f c))) (later_name lib e.0 es rise.0 g d)))

pub graph_faults_ascend : GraphFaultsAscend
unfolding graph_faults
graph_faults_ascend lib rise = files_rise lib lib rise
