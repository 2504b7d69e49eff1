-- A subunit that is needed is part of a needed body, if no unit breaks a rule.
use Rattle.std.proofs.Common.{◌≡◌, ◌<◌, ℕ, zero, suc, ◌+◌, true, false, Bool, not, List, [], ◌∷◌, ◌++◌, length, Option, Some, None, if◌then◌else◌, refl, ap, subst, sym, ◌∙◌, arith}
use Rattle.std.specs.Option.{is_some, option_map_or}
use Rattle.std.specs.List.{Contains, flat_map, list_any}
use Rattle.std.specs.Str.{bytes_eq}
use Rattle.std.proofs.lemmas.Slice.Eq.{bytes_eq-Decides}
use Rattle.std.proofs.lemmas.List.{length-append}
use Rattle.std.proofs.lemmas.List.Elements.{Contains-append_left}
use Rattle.al_base.specs.Batch.{Key}
use Rattle.al_base.specs.FileNames.{file_name_of}
use Rattle.al_base.specs.declared.unit_key.UnitKind.{UnitKind}
use Rattle.al_base.specs.declared.unit_key.UnitKind.TheVariants.{Decl, Body, Sub}
use Rattle.al_base_graph.proofs.Members.{any_from, any_into, first, into_flat_map}
use Rattle.al_unit_graph.specs.Headers.{Header, Library, Mention, kind_of}
use Rattle.al_unit_graph.specs.Library.{has_body_file, is_kind, is_unit, parent_body_of, unit_at}
use Rattle.al_unit_graph.specs.Dependence.{dependences, direct, listed, mention_dependences, parent_dependences}
use Rattle.al_unit_graph.specs.Faults.{finding}
use Rattle.al_unit_graph.specs.Faults.BreaksByItself.{missing_parent_body, no_stub}
use Rattle.al_unit_graph.specs.Faults.Breaks.{by_itself}
use Rattle.al_unit_graph.specs.Needed.{Needed, present, subunits_of}
use Rattle.al_unit_graph.specs.Needed.Needed.{dependence}
use Rattle.al_unit_graph.proofs.BoolLemmas.{not_both}
use Rattle.al_unit_faults.proofs.UnitLemmas.{at_key, in_file}
use Rattle.al_unit_faults.specs.Reached.{is_faultless}
use Rattle.al_unit_faults.specs.Read.{NameParentBodies, NamesParentBody}
use Rattle.al_unit_faults.proofs.FaultlessLemmas.{breaks_nothing}
use Rattle.al_bind.specs.Elaboration.{IsPartOf}
use Rattle.al_bind.specs.Elaboration.IsPartOf.{itself, subunit}

-- the unit is part of a needed body
pub record IsInBody (lib : Library) (main : List ℕ) (p : Key) : Type 0 where
  pub name : List ℕ
  pub needed : Needed lib main (name, Body)
  pub there : is_unit lib (name, Body) ≡ true
  pub part : IsPartOf lib (name, Body) p

pub some_there : {X : Type 0} (o : Option X) → is_some o ≡ true → (x : X) × (o ≡ Some x)
some_there None is = absurd (cc)
some_there (Some x) is = (x, refl)

longer : (a b : List ℕ) → length a < length (a ++ 46 ∷ b)
longer a b = let e : length (a ++ 46 ∷ b) ≡ length a + suc (length b) = length-append a (46 ∷ b) in omega (arith, e)

module _ (lib : Library) (main : List ℕ) (named : NameParentBodies lib) (no_rule_broken : (k : Key) (h : Header) → unit_at lib k ≡ Some h → is_faultless lib k ≡ true) (direct_there : (k d : Key) (h : Header) → unit_at lib k ≡ Some h → Contains (direct lib k) d → is_unit lib d ≡ true) where
  names : (k : Key) (h : Header) → unit_at lib k ≡ Some h → NamesParentBody h
  names k h at = let held = in_file lib (file_name_of k) h (at_key lib k h at).0 in named (file_name_of k) held.source h held.there held.headed

  module _ (n : List ℕ) (h : Header) (at : unit_at lib (n, Sub) ≡ Some h) (m : Mention) (parent : h.parent_body ≡ Some m) where
    -- its parent body has a file
    body_file : has_body_file lib m.name ≡ true
    body_file = by (has_body_file lib m.name) refl
      where
        by : (b : Bool) → has_body_file lib m.name ≡ b → b ≡ true
        by true is = refl
        by false is = absurd (breaks_nothing lib (n, Sub) h (finding (file_name_of (n, Sub)) m.place 202) (no_rule_broken (n, Sub) h at) at (by_itself (missing_parent_body parent is)))

    name_is : n ≡ m.name ++ 46 ∷ h.designator
    name_is = sym (ap (λ (k : Key). k.0) (at_key lib (n, Sub) h at).1) ∙ (names (n, Sub) h at).name m parent

    shorter : length m.name < length n
    shorter = subst (λ (x : List ℕ). length m.name < length x) (sym name_is) (longer m.name h.designator)

    -- what holds of its parent body
    module _ (k : UnitKind) (is : parent_body_of lib m.name ≡ Some (m.name, k)) where
      abbrev p : Key
      p = (m.name, k)

      depends : Contains (direct lib (n, Sub)) p
      unfolding dependences
      depends =
          let here : Contains (parent_dependences lib h (Some m)) p = subst (λ (o : Option Key). Contains (listed o) p) (sym is) (first p []) in
          let parents : Contains (parent_dependences lib h h.parent_body) p = subst (λ (o : Option Mention). Contains (parent_dependences lib h o) p) (sym parent) here in
          let all : Contains (dependences lib h) p = Contains-append_left (parent_dependences lib h h.parent_body) (flat_map (mention_dependences lib) h.mentions) p parents in
          subst (λ (o : Option Header). Contains (option_map_or (dependences lib) o []) p) (sym at) all

      parent_there : is_unit lib p ≡ true
      parent_there = direct_there (n, Sub) p h at depends

      -- it has a stub of the subunit
      stubbed : (g : Header) → unit_at lib p ≡ Some g → Contains g.stubs h.designator
      stubbed g g_at = by (list_any (bytes_eq h.designator) g.stubs) refl
        where
          by : (b : Bool) → list_any (bytes_eq h.designator) g.stubs ≡ b → Contains g.stubs h.designator
          by true any =
              let r = any_from (bytes_eq h.designator) g.stubs any in
              subst (λ (x : List ℕ). Contains g.stubs x) (sym ((bytes_eq-Decides h.designator r.0).0 r.2)) r.1
          by false any =
              let none : Contains g.stubs h.designator → ⊥ = λ c. not_both (list_any (bytes_eq h.designator) g.stubs) (any_into (bytes_eq h.designator) g.stubs h.designator c ((bytes_eq-Decides h.designator h.designator).1 refl)) any in
              absurd (breaks_nothing lib (n, Sub) h (finding (file_name_of (n, Sub)) h.place 206) (no_rule_broken (n, Sub) h at) at (by_itself (no_stub parent is g_at none)))

      among : (g : Header) → unit_at lib p ≡ Some g → Contains (subunits_of lib m.name g) (n, Sub)
      among g g_at =
          let key : Key = (m.name ++ 46 ∷ h.designator, Sub) in
          let same : key ≡ (n, Sub) = ap (λ (x : List ℕ). let y : Key = (x, Sub) in y) (sym name_is) in
          let there : is_unit lib key ≡ true = subst (λ (x : Key). is_unit lib x ≡ true) (sym same) (ap is_some at) in
          let here : Contains (present lib key) key = subst (λ (b : Bool). Contains (if b then key ∷ [] else []) key) (sym there) (first key []) in
          subst (λ (x : Key). Contains (subunits_of lib m.name g) x) same (into_flat_map (λ (x : List ℕ). present lib (m.name ++ 46 ∷ x, Sub)) g.stubs h.designator key (stubbed g g_at) here)

    parent_subunit : is_some (unit_at lib (m.name, Sub)) ≡ true → parent_body_of lib m.name ≡ Some (m.name, Sub)
    unfolding parent_body_of
    parent_subunit is = let file = body_file in rw file (rw is refl)

    parent_body : is_some (unit_at lib (m.name, Sub)) ≡ false → parent_body_of lib m.name ≡ Some (m.name, Body)
    unfolding parent_body_of
    parent_body is = let file = body_file in rw file (rw is refl)

  has_parent : (n : List ℕ) (h : Header) → unit_at lib (n, Sub) ≡ Some h → (m : Mention) × (h.parent_body ≡ Some m)
  has_parent n h at =
      let kind : kind_of h.form ≡ Sub = ap (λ (k : Key). k.1) (at_key lib (n, Sub) h at).1 in
      some_there h.parent_body ((names (n, Sub) h at).has ∙ ap (λ (k : UnitKind). is_kind k Sub) kind)

  -- by induction on the length of its name
  in_body_by : (bound : ℕ) (n : List ℕ) (h : Header) → length n < bound → Needed lib main (n, Sub) → unit_at lib (n, Sub) ≡ Some h → IsInBody lib main (n, Sub)
  in_body_by zero n h less needed at = absurd (omega (arith, less))
  in_body_by (suc bound) n h less needed at =
      let p = has_parent n h at in
      let m = p.0 in
      let short : length m.name < bound = let s = shorter n h at m p.1 in omega (arith, s, less) in
      by m p.1 (λ g g_needed g_at. in_body_by bound m.name g short g_needed g_at) (unit_at lib (m.name, Sub)) refl
    where
      by : (m : Mention) (parent : h.parent_body ≡ Some m) → ((g : Header) → Needed lib main (m.name, Sub) → unit_at lib (m.name, Sub) ≡ Some g → IsInBody lib main (m.name, Sub)) → (o : Option Header) → unit_at lib (m.name, Sub) ≡ o → IsInBody lib main (n, Sub)
      by m parent outer (Some g) g_at =
          let is = parent_subunit n h at m parent (ap is_some g_at) in
          let o = outer g (dependence needed (depends n h at m parent Sub is)) g_at in
          record { name = o.name; needed = o.needed; there = o.there; part = subunit o.part g_at (among n h at m parent Sub is g g_at) }
      by m parent outer None none =
          let is = parent_body n h at m parent (ap is_some none) in
          let there = parent_there n h at m parent Body is in
          let g = some_there (unit_at lib (m.name, Body)) there in
          record { name = m.name; needed = dependence needed (depends n h at m parent Body is); there = there; part = subunit itself g.1 (among n h at m parent Body is g.0 g.1) }

  pub in_body : (n : List ℕ) (h : Header) → Needed lib main (n, Sub) → unit_at lib (n, Sub) ≡ Some h → IsInBody lib main (n, Sub)
  in_body n h needed at = in_body_by (suc (length n)) n h (omega arith) needed at
