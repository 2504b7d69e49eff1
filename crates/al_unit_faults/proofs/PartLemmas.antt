-- The library unit of which a unit is part.
use Rattle.std.proofs.Common.{◌≡◌, ℕ, zero, suc, ◌<◌, ◌≤◌, Bool, true, false, List, [], ◌∷◌, length, Option, Some, None, IsSome, refl, ap, subst, sym, ◌∙◌, arith}
use Rattle.std.specs.Option.{option_map_or}
use Rattle.std.specs.List.{AllByRecursion, IsDistinct, list_any}
use Rattle.std.specs.Ordering.{eq_by_cmp}
use Rattle.std.specs.Cmp.Lexicographic.{nat_list_cmp_total}
use Rattle.std.proofs.lemmas.Cmp.{eq_by_cmp_equiv}
use Rattle.std.proofs.lemmas.Map.Steps.{length-le_from_keys}
use Rattle.al_base.specs.Files.{name_cmp}
use Rattle.al_base.specs.FileNames.{file_name_of}
use Rattle.al_base.specs.declared.unit_key.UnitKind.TheVariants.{Sub}
use Rattle.al_unit_graph.specs.Headers.{Mention, Header, Library}
use Rattle.al_unit_graph.specs.Library.{source_at, unit_in, unit_at}
use Rattle.al_unit_graph.specs.Faults.{IsPartOf}
use Rattle.al_unit_graph.specs.Faults.IsPartOf.{itself, of_body, of_subunit}
use Rattle.al_unit_faults.specs.Parts.{part_within, part_of, PartsAreReported}
use Rattle.al_unit_faults.proofs.UnitLemmas.{some_is, in_file, at_key, same_name}

none_is : {X : Type 0} (x : X) → None ≡ Some x → ⊥
none_is x is = cc

pub one_subunit_out : (lib : Library) (n : ℕ) (h : Header) (m : Mention) (outer : Header) → h.parent_body ≡ Some m → unit_at lib (m.name, Sub) ≡ Some outer → part_within (suc n) lib h ≡ part_within n lib outer
one_subunit_out lib n h m outer parent at = rw parent (rw at refl)

module _ (lib : Library) where
  -- what is computed is told
  told_outer : (n : ℕ) (h : Header) (m : Mention) (name : List ℕ) → h.parent_body ≡ Some m → ((g : Header) (r : List ℕ) → part_within n lib g ≡ Some r → IsPartOf lib g r) → (o : Option Header) → unit_at lib (m.name, Sub) ≡ o → option_map_or (part_within n lib) o (Some m.name) ≡ Some name → IsPartOf lib h name
  told_outer n h m name parent rest None at is = subst (λ r. IsPartOf lib h r) (some_is m.name name is) (of_body parent at)
  told_outer n h m name parent rest (Some outer) at is = of_subunit parent at (rest outer name is)

  told_parent : (n : ℕ) (h : Header) (name : List ℕ) → ((g : Header) (r : List ℕ) → part_within n lib g ≡ Some r → IsPartOf lib g r) → (o : Option Mention) → h.parent_body ≡ o → option_map_or (λ m. option_map_or (part_within n lib) (unit_at lib (m.name, Sub)) (Some m.name)) o (Some h.name) ≡ Some name → IsPartOf lib h name
  told_parent n h name rest None parent is = subst (λ r. IsPartOf lib h r) (some_is h.name name is) (itself parent)
  told_parent n h name rest (Some m) parent is = told_outer n h m name parent rest (unit_at lib (m.name, Sub)) refl is

  part_told : (n : ℕ) (h : Header) (name : List ℕ) → part_within n lib h ≡ Some name → IsPartOf lib h name
  part_told zero h name is = absurd (none_is name is)
  part_told (suc n) h name is = told_parent n h name (λ g r. part_told n g r) h.parent_body refl is

  -- in how many subunits a unit is inside
  data IsDeep : ℕ → Header → List ℕ → Type 0 where
    alone : {h : Header} → h.parent_body ≡ None → IsDeep zero h h.name
    in_body : {h : Header} {m : Mention} → h.parent_body ≡ Some m → unit_at lib (m.name, Sub) ≡ None → IsDeep zero h m.name
    in_subunit : {d : ℕ} {h outer : Header} {m : Mention} {name : List ℕ} → h.parent_body ≡ Some m → unit_at lib (m.name, Sub) ≡ Some outer → IsDeep d outer name → IsDeep (suc d) h name

  deep : (h : Header) (name : List ℕ) → IsPartOf lib h name → (d : ℕ) × IsDeep d h name
  deep h name (itself parent) = (zero, alone parent)
  deep h name (of_body parent at) = (zero, in_body parent at)
  deep h name (of_subunit {outer = outer} parent at rest) = let r = deep outer name rest in (suc r.0, in_subunit parent at r.1)

  same_mention : (h : Header) (m k : Mention) → h.parent_body ≡ Some m → h.parent_body ≡ Some k → m ≡ k
  same_mention h m k first second = some_is m k (sym first ∙ second)

  no_outer : (h outer : Header) (m k : Mention) → h.parent_body ≡ Some m → h.parent_body ≡ Some k → unit_at lib (m.name, Sub) ≡ None → unit_at lib (k.name, Sub) ≡ Some outer → ⊥
  no_outer h outer m k first second none some = none_is outer (sym none ∙ ap (λ (j : Mention). unit_at lib (j.name, Sub)) (same_mention h m k first second) ∙ some)

  one_outer : (h o p : Header) (m k : Mention) → h.parent_body ≡ Some m → h.parent_body ≡ Some k → unit_at lib (m.name, Sub) ≡ Some o → unit_at lib (k.name, Sub) ≡ Some p → o ≡ p
  one_outer h o p m k first second here there = some_is o p (sym here ∙ ap (λ (j : Mention). unit_at lib (j.name, Sub)) (same_mention h m k first second) ∙ there)

  one_depth : (d e : ℕ) (h : Header) (name other : List ℕ) → IsDeep d h name → IsDeep e h other → d ≡ e
  one_depth d e h name other (alone parent) (alone again) = refl
  one_depth d e h name other (alone parent) (in_body again at) = refl
  one_depth d e h name other (alone parent) (in_subunit {m = m} again at rest) = absurd (none_is m (sym parent ∙ again))
  one_depth d e h name other (in_body parent at) (alone again) = refl
  one_depth d e h name other (in_body parent at) (in_body again there) = refl
  one_depth d e h name other (in_body {m = m} parent at) (in_subunit {outer = p} {m = k} again there rest) = absurd (no_outer h p m k parent again at there)
  one_depth d e h name other (in_subunit {m = m} parent at rest) (alone again) = absurd (none_is m (sym again ∙ parent))
  one_depth d e h name other (in_subunit {outer = o} {m = m} parent at rest) (in_body {m = k} again there) = absurd (no_outer h o k m again parent there at)
  one_depth d e h name other (in_subunit {d = a} {outer = o} {m = m} parent at rest) (in_subunit {d = b} {outer = p} {m = k} again there others) =
      ap (λ n. suc n) (one_depth a b o name other rest (subst (λ g. IsDeep b g other) (sym (one_outer h o p m k parent again at there)) others))

  -- so many steps are enough
  found_within : (d : ℕ) (h : Header) (name : List ℕ) (n : ℕ) → IsDeep d h name → d < n → part_within n lib h ≡ Some name
  found_within d h name zero found less = absurd (omega (arith, less))
  found_within d h name (suc n) (alone parent) less = rw parent refl
  found_within d h name (suc n) (in_body parent at) less = rw parent (rw at refl)
  found_within d h name (suc n) (in_subunit {d = e} {outer = outer} parent at rest) less = rw parent (rw at (found_within e outer name n rest (omega (arith, less))))

  abbrev same_file : List ℕ → List ℕ → Bool
  same_file = eq_by_cmp name_cmp

  -- the file holds a unit that is less deep
  abbrev HoldsAbove : ℕ → List ℕ → Type 0
  HoldsAbove d file = (u : Header) × (e : ℕ) × (name : List ℕ) × (unit_in lib file ≡ Some u) × IsDeep e u name × (e < d)

  record ArePassed (d : ℕ) : Type 0 where
    files : List (List ℕ)
    many : length files ≡ d
    distinct : IsDistinct same_file files
    above : AllByRecursion (λ f. HoldsAbove d f) files

  weaker : (d : ℕ) (fs : List (List ℕ)) → AllByRecursion (λ f. HoldsAbove d f) fs → AllByRecursion (λ f. HoldsAbove (suc d) f) fs
  weaker d [] all = tt
  weaker d (f ∷ fs) all = let a = all.0 in ((a.0, a.1, a.2, a.3, a.4, omega (arith, a.5)), weaker d fs all.1)

  not_equal : (b : Bool) → (b ≡ true → ⊥) → b ≡ false
  not_equal true fails = absurd (fails refl)
  not_equal false fails = refl

  -- the file of a unit that is as deep is none of these
  apart : (d : ℕ) (file : List ℕ) (u : Header) (name : List ℕ) → unit_in lib file ≡ Some u → IsDeep d u name → (fs : List (List ℕ)) → AllByRecursion (λ f. HoldsAbove d f) fs → AllByRecursion (λ f. same_file file f ≡ false) fs
  apart d file u name holds is_deep [] all = tt
  apart d file u name holds is_deep (f ∷ fs) all =
      let a = all.0 in (
        not_equal (same_file file f) (λ same.
            let here : unit_in lib f ≡ Some u = subst (λ g. unit_in lib g ≡ Some u) (same_name file f same) holds in
            let unit = some_is a.0 u (sym a.3 ∙ here) in
            let depth = one_depth a.1 d u a.2 name (subst (λ g. IsDeep a.1 g a.2) unit a.4) is_deep in
            omega (arith, depth, a.5)),
        apart d file u name holds is_deep fs all.1,
      )

  passed : (d : ℕ) (h : Header) (name : List ℕ) → IsDeep d h name → ArePassed d
  unfolding IsDistinct
  passed d h name (alone parent) = record { files = []; many = refl; distinct = tt; above = tt }
  passed d h name (in_body parent at) = record { files = []; many = refl; distinct = tt; above = tt }
  passed d h name (in_subunit {d = e} {outer = outer} {m = m} parent at rest) =
      let before = passed e outer name rest in
      let held = (at_key lib (m.name, Sub) outer at).0 in
      record {
        files = file_name_of (m.name, Sub) ∷ before.files;
        many = ap (λ n. suc n) before.many;
        distinct = (apart e (file_name_of (m.name, Sub)) outer name held rest before.files before.above, before.distinct);
        above = ((outer, e, name, held, rest, omega arith), weaker e before.files before.above);
      }

  there_by : (d : ℕ) (f : List ℕ) (fs : List (List ℕ)) (q : List ℕ) → HoldsAbove d f → (list_any (same_file q) fs ≡ true → IsSome (source_at lib q)) → (b : Bool) → same_file q f ≡ b → list_any (same_file q) (f ∷ fs) ≡ true → IsSome (source_at lib q)
  there_by d f fs q a rest true same any =
      let held = in_file lib f a.0 a.3 in
      let there : source_at lib q ≡ Some held.source = subst (λ g. source_at lib g ≡ Some held.source) (sym (same_name q f same)) held.there in
      rw there refl
  there_by d f fs q a rest false same any = rest (grind (arith, same, any))

  is_there : (d : ℕ) (fs : List (List ℕ)) → AllByRecursion (λ f. HoldsAbove d f) fs → (q : List ℕ) → list_any (same_file q) fs ≡ true → IsSome (source_at lib q)
  is_there d [] all q any = absurd (cc)
  is_there d (f ∷ fs) all q any = there_by d f fs q all.0 (is_there d fs all.1 q) (same_file q f) refl any

  shallow : (d : ℕ) (h : Header) (name : List ℕ) → IsDeep d h name → d ≤ length lib
  shallow d h name is_deep =
      let p = passed d h name is_deep in
      let fits = length-le_from_keys (eq_by_cmp_equiv nat_list_cmp_total) p.files lib p.distinct (λ q any. is_there d p.files p.above q any) in
      subst (λ n. n ≤ length lib) p.many fits

pub parts_are_reported : PartsAreReported
unfolding part_of
parts_are_reported lib h name = (
  (λ is. part_told lib (suc (length lib)) h name is),
  (λ p.
      let r = deep lib h name p in
      let bound = shallow lib r.0 h name r.1 in
      found_within lib r.0 h name (suc (length lib)) r.1 (omega (arith, bound))),
)
