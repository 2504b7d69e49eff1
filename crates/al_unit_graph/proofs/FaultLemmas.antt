-- The lists of faults hold what breaks a rule.
use Rattle.std.proofs.Common.{◌≡◌, ℕ, Bool, true, false, not, ◌&&◌, ◌⊎◌, inl, inr, List, ◌++◌, Option, Some, None, refl, subst, sym}
use Rattle.std.specs.Option.{is_none, option_map_or}
use Rattle.std.specs.Str.{bytes_eq}
use Rattle.std.specs.List.{Contains, flat_map, list_any}
use Rattle.std.proofs.lemmas.List.Elements.{Contains-append_left, Contains-append_right, Contains-append_cases}
use Rattle.std.proofs.lemmas.Slice.Eq.{bytes_eq-Decides}
use Rattle.al_base.specs.Batch.{Finding, Key}
use Rattle.al_base.specs.FileNames.{file_name_of}
use Rattle.al_base.specs.declared.place.Place.{Place}
use Rattle.al_base.specs.declared.unit_key.UnitKind.TheVariants.{Decl}
use Rattle.al_unit_graph.specs.Headers.{Mention, Header, Library, key_of_unit, is_package, is_package_body, is_library_body}
use Rattle.al_unit_graph.specs.Names.{parent_of, is_predefined, is_reserved}
use Rattle.al_unit_graph.specs.Library.{unit_at, declaration_of, parent_body_of, has_declaration_file, has_body_file}
use Rattle.al_unit_graph.specs.Faults.{finding, Fits, IsNoPackage, Misnames, BreaksByItself}
use Rattle.al_unit_graph.specs.Faults.Misnames.{other_file, reserved}
use Rattle.al_unit_graph.specs.Faults.BreaksByItself.{missing_mention, missing_parent_body, missing_declaration, missing_parent, parent_no_package, no_stub, misfit}
use Rattle.al_unit_graph.specs.FaultLists.{finding_if, name_faults, is_missing, mention_faults, is_no_package, is_no_parent, has_no_parent, has_stub, lacks_stub, has_no_stub, parent_faults, is_alike, fits, is_misfit, declaration_faults, own_faults, NameFaultsAreMisnames, OwnFaultsAreBroken}
use Rattle.al_unit_graph.proofs.BoolLemmas.{not_both, not_true, true_not, not_so, both, and}
use Rattle.al_unit_graph.proofs.ClosureLemmas.{found}
use Rattle.al_base_graph.proofs.Members.{any_into, nowhere, the_one, one, from_flat_map, into_flat_map}

alike : (x y : Bool) → is_alike x y ≡ true → x ≡ y
alike true true is = refl
alike true false is = absurd (cc)
alike false true is = absurd (cc)
alike false false is = refl

told_alike : (x y : Bool) → x ≡ y → is_alike x y ≡ true
told_alike true true same = refl
told_alike true false same = absurd (cc)
told_alike false true same = absurd (cc)
told_alike false false same = refl

none : {X : Type 0} (o : Option X) → is_none o ≡ true → o ≡ None
none None is = refl
none (Some x) is = absurd (cc)

told_none : {X : Type 0} (o : Option X) → o ≡ None → is_none o ≡ true
told_none o is = rw is refl

some : {X : Type 0} (p : X → Bool) (o : Option X) → option_map_or p o false ≡ true → (x : X) × (o ≡ Some x) × (p x ≡ true)
some p None is = absurd (cc)
some p (Some x) is = (x, refl, is)

told_some : {X : Type 0} (p : X → Bool) (o : Option X) (b : Bool) (x : X) → o ≡ Some x → p x ≡ true → option_map_or p o b ≡ true
told_some p o b x is holds = rw is holds

-- names in lists
pub any : (ns : List (List ℕ)) (stub : List ℕ) → list_any (λ m. bytes_eq m stub) ns ≡ true → Contains ns stub
any ns stub is = found bytes_eq (λ a b same. (bytes_eq-Decides a b).0 same) ns stub is

pub told_any : (ns : List (List ℕ)) (stub : List ℕ) → Contains ns stub → list_any (λ m. bytes_eq m stub) ns ≡ true
told_any ns stub c = any_into (λ m. bytes_eq m stub) ns stub c ((bytes_eq-Decides stub stub).1 refl)

module _ (file : List ℕ) where
  pub from_if : (b : Bool) (place : Place) (code : ℕ) (f : Finding) → Contains (finding_if b file place code) f → (b ≡ true) × (finding file place code ≡ f)
  from_if true place code f c = (refl, the_one (finding file place code) f c)
  from_if false place code f c = absurd (nowhere f c)

  pub into_if : (b : Bool) (place : Place) (code : ℕ) → b ≡ true → Contains (finding_if b file place code) (finding file place code)
  into_if true place code holds = one (finding file place code)
  into_if false place code holds = absurd (cc)

  module _ (h : Header) where
    abbrev differs : Bool
    differs = not (bytes_eq file (file_name_of (key_of_unit h)))

    from_name : (f : Finding) → Contains (name_faults file h) f → Misnames file h f
    unfolding name_faults
    from_name f c =
        elim (Contains-append_cases (finding_if differs file h.place 201) (finding_if (is_reserved h.name) file h.place 207) f c) [
          | inl l ↦
              let r = from_if differs h.place 201 f l in
              let fails = not_true (bytes_eq file (file_name_of (key_of_unit h))) r.0 in
              subst (λ g. Misnames file h g) r.1 (other_file (λ same. not_both (bytes_eq file (file_name_of (key_of_unit h))) ((bytes_eq-Decides file (file_name_of (key_of_unit h))).1 same) fails))
          | inr l ↦
              let r = from_if (is_reserved h.name) h.place 207 f l in
              subst (λ g. Misnames file h g) r.1 (reserved r.0)
        ]

    into_name : (f : Finding) → Misnames file h f → Contains (name_faults file h) f
    unfolding name_faults
    into_name f (other_file fails) =
        Contains-append_left (finding_if differs file h.place 201) (finding_if (is_reserved h.name) file h.place 207) f (into_if differs h.place 201 (not_so (bytes_eq file (file_name_of (key_of_unit h))) (λ holds. fails ((bytes_eq-Decides file (file_name_of (key_of_unit h))).0 holds))))
    into_name f (reserved is) =
        Contains-append_right (finding_if differs file h.place 201) (finding_if (is_reserved h.name) file h.place 207) f (into_if (is_reserved h.name) h.place 207 is)

    module _ (lib : Library) where
      abbrev Broken : Finding → Type 0
      Broken f = BreaksByItself lib file h f

      from_mentions : (f : Finding) → Contains (flat_map (mention_faults lib file) h.mentions) f → Broken f
      from_mentions f c =
          let m = from_flat_map (mention_faults lib file) h.mentions f c in
          let r = from_if (is_missing lib m.0.name) m.0.place 202 f m.2 in
          let parts = both (not (is_predefined m.0.name)) (is_none (declaration_of lib m.0.name)) r.0 in
          subst Broken r.1 (missing_mention m.1 (not_true (is_predefined m.0.name) parts.0) (none (declaration_of lib m.0.name) parts.1))

      no_parent_by : (parent : List ℕ) (o : Option Key) → declaration_of lib parent ≡ o → option_map_or (is_no_package lib) o true ≡ true → (declaration_of lib parent ≡ None) ⊎ IsNoPackage lib parent
      no_parent_by parent None is holds = inl is
      no_parent_by parent (Some key) is holds =
          let d = some (λ d. not (is_package d.form)) (unit_at lib key) holds in
          inr (key, d.0, is, d.1, not_true (is_package d.0.form) d.2)

      told_no_parent : (parent : List ℕ) → IsNoPackage lib parent → is_no_parent lib parent ≡ true
      told_no_parent parent n =
          told_some (is_no_package lib) (declaration_of lib parent) true n.0 n.2 (told_some (λ d. not (is_package d.form)) (unit_at lib n.0) false n.1 n.3 (true_not (is_package n.1.form) n.4))

      from_parent : (o : Option Mention) → h.parent_body ≡ o → (f : Finding) → Contains (parent_faults lib file h o) f → Broken f
      from_parent None is f c =
          let r = from_if (has_no_parent lib (parent_of h.name)) h.place 205 f c in
          let p = some (is_no_parent lib) (parent_of h.name) r.0 in
          subst Broken r.1 (elim (no_parent_by p.0 (declaration_of lib p.0) refl p.2) [ inl missing ↦ missing_parent is p.1 missing | inr n ↦ parent_no_package is p.1 n ])
      from_parent (Some m) is f c =
          elim (Contains-append_cases (finding_if (not (has_body_file lib m.name)) file m.place 202) (finding_if (has_no_stub lib m.name h.designator) file h.place 206) f c) [
            | inl l ↦
                let r = from_if (not (has_body_file lib m.name)) m.place 202 f l in
                subst Broken r.1 (missing_parent_body is (not_true (has_body_file lib m.name) r.0))
            | inr l ↦
                let r = from_if (has_no_stub lib m.name h.designator) h.place 206 f l in
                let k = some (lacks_stub lib h.designator) (parent_body_of lib m.name) r.0 in
                let p = some (λ parent. not (has_stub h.designator parent)) (unit_at lib k.0) k.2 in
                subst Broken r.1 (no_stub is k.1 p.1 (λ d. not_both (has_stub h.designator p.0) (told_any p.0.stubs h.designator d) (not_true (has_stub h.designator p.0) p.2)))
          ]

      told_fits : (d : Header) → Fits d h → fits h d ≡ true
      told_fits d fit = and d.needs_body (is_alike (is_package d.form) (is_package_body h.form)) fit.0 (told_alike (is_package d.form) (is_package_body h.form) fit.1)

      from_fits : (d : Header) → fits h d ≡ true → Fits d h
      from_fits d is =
          let parts = both d.needs_body (is_alike (is_package d.form) (is_package_body h.form)) is in
          (parts.0, alike (is_package d.form) (is_package_body h.form) parts.1)

      abbrev undeclared : Bool
      undeclared = is_package_body h.form && not (has_declaration_file lib h.name)

      abbrev misfitting : Bool
      misfitting = option_map_or (λ d. not (fits h d)) (unit_at lib (h.name, Decl)) false

      from_declaration : (f : Finding) → Contains (declaration_faults lib file h) f → Broken f
      from_declaration f c =
          elim (Contains-append_cases (finding_if undeclared file h.place 202) (finding_if (is_misfit lib h) file h.place 209) f c) [
            | inl l ↦
                let r = from_if undeclared h.place 202 f l in
                let parts = both (is_package_body h.form) (not (has_declaration_file lib h.name)) r.0 in
                subst Broken r.1 (missing_declaration parts.0 (not_true (has_declaration_file lib h.name) parts.1))
            | inr l ↦
                let r = from_if (is_misfit lib h) h.place 209 f l in
                let parts = both (is_library_body h.form) misfitting r.0 in
                let d = some (λ d. not (fits h d)) (unit_at lib (h.name, Decl)) parts.1 in
                subst Broken r.1 (misfit parts.0 d.1 (λ fit. not_both (fits h d.0) (told_fits d.0 fit) (not_true (fits h d.0) d.2)))
          ]

      abbrev of_mentions : List Finding
      of_mentions = flat_map (mention_faults lib file) h.mentions

      abbrev of_parent : List Finding
      of_parent = parent_faults lib file h h.parent_body

      abbrev of_declaration : List Finding
      of_declaration = declaration_faults lib file h

      from_own : (f : Finding) → Contains (own_faults lib file h) f → Broken f
      unfolding own_faults
      from_own f c =
          elim (Contains-append_cases (of_mentions ++ of_parent) of_declaration f c) [
            | inl l ↦ elim (Contains-append_cases of_mentions of_parent f l) [ inl m ↦ from_mentions f m | inr p ↦ from_parent h.parent_body refl f p ]
            | inr d ↦ from_declaration f d
          ]

      at_parent : (f : Finding) → Contains of_parent f → Contains (own_faults lib file h) f
      unfolding own_faults
      at_parent f c = Contains-append_left (of_mentions ++ of_parent) of_declaration f (Contains-append_right of_mentions of_parent f c)

      at_declaration : (f : Finding) → Contains of_declaration f → Contains (own_faults lib file h) f
      unfolding own_faults
      at_declaration f c = Contains-append_right (of_mentions ++ of_parent) of_declaration f c

      at_mention : (f : Finding) → Contains of_mentions f → Contains (own_faults lib file h) f
      unfolding own_faults
      at_mention f c = Contains-append_left (of_mentions ++ of_parent) of_declaration f (Contains-append_left of_mentions of_parent f c)

      into_own : (f : Finding) → Broken f → Contains (own_faults lib file h) f
      into_own f (missing_mention {m = m} c known missing) =
          at_mention f (into_flat_map (mention_faults lib file) h.mentions m f c (into_if (is_missing lib m.name) m.place 202 (and (not (is_predefined m.name)) (is_none (declaration_of lib m.name)) (true_not (is_predefined m.name) known) (told_none (declaration_of lib m.name) missing))))
      into_own f (missing_parent_body {m = m} is missing) =
          let l = finding_if (not (has_body_file lib m.name)) file m.place 202 in
          let r = finding_if (has_no_stub lib m.name h.designator) file h.place 206 in
          let c = Contains-append_left l r f (into_if (not (has_body_file lib m.name)) m.place 202 (true_not (has_body_file lib m.name) missing)) in
          at_parent f (subst (λ o. Contains (parent_faults lib file h o) f) (sym is) c)
      into_own f (no_stub {m = m} {key = key} {parent = parent} is body unit lacks) =
          let l = finding_if (not (has_body_file lib m.name)) file m.place 202 in
          let r = finding_if (has_no_stub lib m.name h.designator) file h.place 206 in
          let lacking = told_some (λ p. not (has_stub h.designator p)) (unit_at lib key) false parent unit (not_so (has_stub h.designator parent) (λ holds. lacks (any parent.stubs h.designator holds))) in
          let holds = told_some (lacks_stub lib h.designator) (parent_body_of lib m.name) false key body lacking in
          let c = Contains-append_right l r f (into_if (has_no_stub lib m.name h.designator) h.place 206 holds) in
          at_parent f (subst (λ o. Contains (parent_faults lib file h o) f) (sym is) c)
      into_own f (missing_parent {parent = parent} is named missing) =
          let none_there : is_no_parent lib parent ≡ true = rw missing refl in
          let holds = told_some (is_no_parent lib) (parent_of h.name) false parent named none_there in
          at_parent f (subst (λ o. Contains (parent_faults lib file h o) f) (sym is) (into_if (has_no_parent lib (parent_of h.name)) h.place 205 holds))
      into_own f (parent_no_package {parent = parent} is named n) =
          let holds = told_some (is_no_parent lib) (parent_of h.name) false parent named (told_no_parent parent n) in
          at_parent f (subst (λ o. Contains (parent_faults lib file h o) f) (sym is) (into_if (has_no_parent lib (parent_of h.name)) h.place 205 holds))
      into_own f (missing_declaration is missing) =
          let l = finding_if undeclared file h.place 202 in
          let r = finding_if (is_misfit lib h) file h.place 209 in
          at_declaration f (Contains-append_left l r f (into_if undeclared h.place 202 (and (is_package_body h.form) (not (has_declaration_file lib h.name)) is (true_not (has_declaration_file lib h.name) missing))))
      into_own f (misfit {declaration = d} is unit fails) =
          let l = finding_if undeclared file h.place 202 in
          let r = finding_if (is_misfit lib h) file h.place 209 in
          let misfits = told_some (λ e. not (fits h e)) (unit_at lib (h.name, Decl)) false d unit (not_so (fits h d) (λ holds. fails (from_fits d holds))) in
          at_declaration f (Contains-append_right l r f (into_if (is_misfit lib h) h.place 209 (and (is_library_body h.form) misfitting is misfits)))

pub name_faults_are_misnames : NameFaultsAreMisnames
name_faults_are_misnames file h f = (from_name file h f, into_name file h f)

pub own_faults_are_broken : OwnFaultsAreBroken
own_faults_are_broken lib file h f = (from_own file h lib f, into_own file h lib f)
