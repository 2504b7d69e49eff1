-- The needed bodies and subunits are there, and complete what they must.
use Rattle.std.proofs.Common.{◌≡◌, ◌⊎◌, inl, inr, ℕ, Bool, true, false, List, [], ◌∷◌, ◌++◌, Option, Some, None, if◌then◌else◌, refl, ap, subst, sym, ◌∙◌}
use Rattle.std.specs.Option.{is_some, option_map, option_map_or}
use Rattle.std.specs.List.{Contains, flat_map}
use Rattle.al_base.specs.Batch.{Key, key_of}
use Rattle.al_base.specs.declared.unit_key.UnitKey.{UnitKey}
use Rattle.al_base.specs.declared.unit_key.UnitKind.{UnitKind}
use Rattle.al_base.specs.declared.unit_key.UnitKind.TheVariants.{Decl, Body, Sub}
use Rattle.al_base_graph.proofs.Members.{first, into_flat_map}
use Rattle.al_view.specs.Interfaces as interfaces
use Rattle.al_view.specs.ViewUses.{link}
use Rattle.al_view.specs.declared.link.LinkKind.TheVariants.{Code}
use Rattle.al_view.specs.declared.link.LinkSymbol.{LinkSymbol}
use Rattle.al_view.specs.declared.part.Part.TheVariants.{Stub}
use Rattle.al_view.specs.declared.view.ViewKind.{ViewKind}
use Rattle.al_query.specs.Answers.{declaration, own_view_of, views_of}
use Rattle.al_query.specs.Known.{body, has_unit, predefined_units}
use Rattle.al_query.specs.Queries.{unit_of}
use Rattle.al_query.specs.Reads.{Table}
use Rattle.al_query.specs.declared.answer.AnswerKind.{AnswerKind}
use Rattle.al_query.specs.declared.query.Property.TheVariants.{Completions, Kind}
use Rattle.al_query.specs.declared.query.Query.{Query}
use Rattle.al_query.specs.declared.query.Query.TheVariants.{Named, Of}
use Rattle.al_view_typed.specs.UnitTrees.{UnitTree}
use Rattle.al_view_typed.specs.Uses.{unit_defines}
use Rattle.al_unit_graph.specs.Headers.{Header, Library}
use Rattle.al_unit_graph.specs.Library.{is_unit, parent_body_of, unit_at}
use Rattle.al_unit_graph.specs.Needed.{Needed, present}
use Rattle.al_unit_graph.specs.Needed.Needed.{body as needed_body, subunit as needed_subunit}
use Rattle.al_unit_graph.proofs.BoolLemmas.{both, not_both}
use Rattle.al_query_outcome.specs.Defines.{Completes, Has, IsDefined, IsStubs, is_simple}
use Rattle.al_query_outcome.specs.Equations.{IsSetting, Meaning, Setting, Solves, entry, is_reached, is_sound, table, unit_named}
use Rattle.al_query_outcome.specs.Left.{body_named, first_view, last_of, left_by, left_to, one_view, separate, stub_view, views_links}
use Rattle.al_query_outcome.specs.ReadsLaw.{subunit}
use Rattle.al_query_outcome.specs.Results.{Outcome, Faulty, Sound}
use Rattle.al_query_outcome.specs.Tables.{answer_of, no_answer, part_of}
use Rattle.al_query_outcome.specs.declared.interface.UnitInterface.{UnitInterface}
use Rattle.al_bind.specs.Faults.{IsComplete}
use Rattle.al_bind.specs.Missing.{lacks_body, missing_stub, missing_stubs}
use Rattle.al_engine.specs.Completing.{AreAllSound, KeepParts, ShowNoCode}
use Rattle.al_engine.proofs.SubunitNames.{last_is, parent_is}

-- the outcome of a unit is sound
pub record IsSound (f : UnitKey → Option Outcome) (u : UnitKey) : Type 0 where
  pub interface : UnitInterface
  pub tree : UnitTree
  pub has : Has f u interface tree

sound_by : (f : UnitKey → Option Outcome) (u : UnitKey) (o : Option Outcome) → f u ≡ o → is_sound o ≡ true → IsSound f u
sound_by f u None is sound = absurd (cc)
sound_by f u (Some (Faulty faults)) is sound = absurd (cc)
sound_by f u (Some (Sound interface tree)) is sound = record { interface = interface; tree = tree; has = is }

reached_by : (b : Bool) (o p : Outcome) → (if b then Some o else None) ≡ Some p → b ≡ true
reached_by true o p is = refl
reached_by false o p is = absurd (cc)

abbrev kind_in : Option Key → Option UnitKind
kind_in o = option_map (λ k. k.1) o

kinds_apart : (n : List ℕ) (o : Option Key) → o ≡ Some (n, Body) → o ≡ Some (n, Sub) → ⊥
kinds_apart n o one two = let same : Some Body ≡ Some Sub = ap kind_in (sym one ∙ two) in absurd (cc)

-- a Boolean that isn't false is true
there_by : (b : Bool) → (b ≡ false → ⊥) → b ≡ true
there_by true not_false = refl
there_by false not_false = absurd (not_false refl)

module _ (meaning : Meaning) (s : Setting) (is_setting : IsSetting s) (main : List ℕ) (f : UnitKey → Option Outcome) (solves : Solves meaning s f) (sound : AreAllSound s f) (parts : KeepParts s f) (complete : IsComplete s.files main) where
  abbrev lib : Library
  lib = s.files

  pub sound_unit : (u : UnitKey) → is_unit lib (key_of u) ≡ true → IsSound f u
  sound_unit u there = sound_by f u (f u) refl (sound u there)

  pub faultless : (u : UnitKey) (i : UnitInterface) (tree : UnitTree) → Has f u i tree → s.is_faultless u ≡ true
  faultless u i tree has =
      let r : is_reached s f u ≡ true = reached_by (is_reached s f u) (meaning u (table s f)) (Sound i tree) (sym (solves u) ∙ has) in
      (both (s.is_faultless u) _ r).0

  pub unit_is : (u : UnitKey) (i : UnitInterface) (tree : UnitTree) → Has f u i tree → unit_at lib (key_of u) ≡ Some (s.header_of u)
  unit_is u i tree has = is_setting.headed u (faultless u i tree has)

  body_is_there : (n : List ℕ) → Needed lib main (n, Decl) → (h : Header) → unit_at lib (n, Decl) ≡ Some h → h.needs_body ≡ true → is_unit lib (n, Body) ≡ true
  body_is_there n needed h at needs = there_by (is_unit lib (n, Body)) (λ none.
      let lacks : lacks_body lib (n, Decl) ≡ true = rw at (rw needs (rw none refl)) in
      complete.1 n ((n, Decl), needed, subst (λ b. Contains (if b then n ∷ [] else []) n) (sym lacks) (first n [])))

  body_needed : (n : List ℕ) → Needed lib main (n, Decl) → is_unit lib (n, Body) ≡ true → Needed lib main (n, Body)
  body_needed n needed there =
      let key : Key = (n, Body) in
      needed_body needed (subst (λ b. Contains (if b then key ∷ [] else []) key) (sym there) (first key []))

  subunit_is_there : (v : UnitKey) (h : Header) (stub : List ℕ) → Needed lib main (key_of v) → unit_at lib (key_of v) ≡ Some h → Contains h.stubs stub → is_unit lib (v.name ++ 46 ∷ stub, Sub) ≡ true
  subunit_is_there v h stub needed at c = there_by (is_unit lib (v.name ++ 46 ∷ stub, Sub)) (λ none.
      let name = v.name ++ 46 ∷ stub in
      let here : Contains (missing_stub lib v.name stub) name = subst (λ b. Contains (if b then [] else name ∷ []) name) (sym none) (first name []) in
      let all : Contains (flat_map (missing_stub lib v.name) h.stubs) name = into_flat_map (missing_stub lib v.name) h.stubs stub name c here in
      let missing : Contains (missing_stubs lib (key_of v)) name = subst (λ o. Contains (option_map_or (λ (x : Header). flat_map (missing_stub lib v.name) x.stubs) o []) name) (sym at) all in
      complete.2 name (key_of v, needed, missing))

  subunit_needed : (v : UnitKey) (h : Header) (stub : List ℕ) → Needed lib main (key_of v) → unit_at lib (key_of v) ≡ Some h → Contains h.stubs stub → is_unit lib (v.name ++ 46 ∷ stub, Sub) ≡ true → Needed lib main (v.name ++ 46 ∷ stub, Sub)
  subunit_needed v h stub needed at c there =
      let key : Key = (v.name ++ 46 ∷ stub, Sub) in
      let here : Contains (present lib key) key = subst (λ b. Contains (if b then key ∷ [] else []) key) (sym there) (first key []) in
      needed_subunit needed at (into_flat_map (λ (x : List ℕ). present lib (v.name ++ 46 ∷ x, Sub)) h.stubs stub key c here)

  -- ---- answers

  -- a unit that breaks a rule has no outcome
  pub no_outcome : (u : UnitKey) → s.is_faultless u ≡ false → f u ≡ None
  no_outcome u gone = solves u ∙ rw gone refl

  -- a sound unit answers by its interface
  pub answers : (q : Query) (i : UnitInterface) (tree : UnitTree) → Has f (unit_of q) i tree → table s f q ≡ answer_of i q
  answers q i tree has = at (has_unit predefined_units (unit_of q)) refl
    where
      at : (b : Bool) → has_unit predefined_units (unit_of q) ≡ b → (if b then s.predefined q else entry (f (unit_of q)) q) ≡ answer_of i q
      at true is = absurd (not_both (s.is_faultless (unit_of q)) (faultless (unit_of q) i tree has) (is_setting.without_files (unit_of q) is).0)
      at false is = ap (λ (o : Option Outcome). entry o q) has

  -- a unit that isn't there answers nothing
  pub silent : (q : Query) → has_unit predefined_units (unit_of q) ≡ false → s.is_faultless (unit_of q) ≡ false → table s f q ≡ no_answer q
  silent q own gone = rw own (ap (λ (o : Option Outcome). entry o q) (no_outcome (unit_of q) gone))

  -- the predefined units are declarations
  not_predefined : (n : List ℕ) → has_unit predefined_units (body n) ≡ false
  not_predefined n = by (has_unit predefined_units (body n)) refl
    where
      by : (b : Bool) → has_unit predefined_units (body n) ≡ b → b ≡ false
      by true is = absurd (cc)
      by false is = refl

  -- ---- bodies

  -- what is left to a body
  abbrev Completed : UnitKey → LinkSymbol → Type 0
  Completed v x = (j : UnitInterface) × (other : UnitTree) × Needed lib main (key_of (body v.name)) × Has f (body v.name) j other × (Contains (unit_defines other) x ⊎ IsStubs j x)

  of_declaration : (n : List ℕ) (i : UnitInterface) (tree : UnitTree) (x : LinkSymbol) → Needed lib main (n, Decl) → Has f (declaration n) i tree → Contains (left_by i.properties.completions) x → Completed (declaration n) x
  of_declaration n i tree x needed has c =
      let needs = ((parts (declaration n) i tree has).left x c).1 in
      let there = body_is_there n needed (s.header_of (declaration n)) (unit_is (declaration n) i tree has) needs in
      let o = sound_unit (body n) there in
      let asked : table s f (Of (declaration n) Completions) ≡ i.properties.completions = answers (Of (declaration n) Completions) i tree has in
      let left : Contains (left_to (body n) (table s f)) x = subst (λ (a : AnswerKind). Contains (left_by a) x) (sym asked) c in (
        o.interface,
        o.tree,
        body_needed n needed there,
        o.has,
        elim ((parts (body n) o.interface o.tree o.has).completes x left) as (λ _. Contains (unit_defines o.tree) x ⊎ IsStubs o.interface x) [
          | inl d ↦ inl d
          | inr d ↦ inr d.1
        ],
      )

  pub completed : (v : UnitKey) (i : UnitInterface) (tree : UnitTree) (x : LinkSymbol) → Needed lib main (key_of v) → Has f v i tree → Contains (left_by i.properties.completions) x → Completed v x
  completed v i tree x needed has c =
      let kind = ((parts v i tree has).left x c).0 in
      let same : declaration v.name ≡ v = ap (λ k. let u : UnitKey = record { name = v.name; kind = k } in u) (sym kind) in
      subst (λ (u : UnitKey). Completed u x) same (of_declaration v.name i tree x (subst (λ (u : UnitKey). Needed lib main (key_of u)) (sym same) needed) (subst (λ (u : UnitKey). Has f u i tree) (sym same) has) c)

  -- ---- subunits

  -- a body and a subunit of one name would be in one file
  no_body : (n : List ℕ) → s.is_faultless (subunit n) ≡ true → s.is_faultless (body n) ≡ false
  no_body n there = by (s.is_faultless (body n)) refl
    where
      by : (b : Bool) → s.is_faultless (body n) ≡ b → b ≡ false
      by true is = absurd (kinds_apart n (parent_body_of s.files n) (is_setting.body_there n is) (is_setting.subunit_there n there))
      by false is = refl

  -- a parent body by its name
  named_by_kind : (k : UnitKind) (n : List ℕ) (i : UnitInterface) (tree : UnitTree) → Has f (unit_named (n, k)) i tree → (k ≡ Decl → ⊥) → body_named (table s f) n ≡ unit_named (n, k)
  named_by_kind Decl n i tree has inside = absurd (inside refl)
  named_by_kind Body n i tree has inside =
      let a : table s f (Of (body n) Kind) ≡ answer_of i (Of (body n) Kind) = answers (Of (body n) Kind) i tree has in
      ap (λ (x : AnswerKind). if is_some (own_view_of x) then body n else subunit n) a
  named_by_kind Sub n i tree has inside =
      let a : table s f (Of (body n) Kind) ≡ no_answer (Of (body n) Kind) = silent (Of (body n) Kind) (not_predefined n) (no_body n (faultless (subunit n) i tree has)) in
      ap (λ (x : AnswerKind). if is_some (own_view_of x) then body n else subunit n) a

  -- what is declared by a stub is left to the subunit
  left_to_subunit : (v : UnitKey) (i : UnitInterface) (tree : UnitTree) (stub : List ℕ) (x : LinkSymbol) → Has f v i tree → (v.kind ≡ Decl → ⊥) → is_simple stub ≡ true
      → Contains (views_links (one_view (first_view (interfaces.views_of (part_of i.parts (Stub stub)) separate)))) x → Contains (left_to (subunit (v.name ++ 46 ∷ stub)) (table s f)) x
  left_to_subunit v i tree stub x has inside simple c =
      let t : Table = table s f in
      let name = v.name ++ 46 ∷ stub in
      let named : body_named t v.name ≡ v = named_by_kind v.kind v.name i tree has inside in
      let asked : Query = Named v (Stub stub) separate in
      let question : Named (body_named t v.name) (Stub (last_of name)) separate ≡ asked = ap (λ (u : UnitKey). Named u (Stub (last_of name)) separate) named ∙ ap (λ (n : List ℕ). Named v (Stub n) separate) (last_is v.name stub simple) in
      let view : stub_view t name v.name ≡ first_view (interfaces.views_of (part_of i.parts (Stub stub)) separate) = ap (λ (q : Query). first_view (views_of (t q))) question ∙ ap (λ (a : AnswerKind). first_view (views_of a)) (answers asked i tree has) in
      let all : left_to (subunit name) t ≡ views_links (one_view (stub_view t name v.name)) = ap (λ (o : Option (List ℕ)). views_links (option_map_or (λ (p : List ℕ). one_view (stub_view t name p)) o [])) (parent_is v.name stub simple) in
      subst (λ (xs : List LinkSymbol). Contains xs x) (sym (all ∙ ap (λ (o : Option ViewKind). views_links (one_view o)) view)) c

  -- a subunit has no stub in the place of what it completes
  defined_inside : (other : UnitTree) (j : UnitInterface) (x : LinkSymbol) → Contains (unit_defines other) x ⊎ ((Sub ≡ Body) × IsStubs j x) → Contains (unit_defines other) x
  defined_inside other j x (inl d) = d
  defined_inside other j x (inr d) = let no : Sub ≡ Body = d.0 in absurd (cc)

  pub of_stub : (v : UnitKey) (i : UnitInterface) (tree : UnitTree) (x : LinkSymbol) → Needed lib main (key_of v) → Has f v i tree → IsStubs i x → IsDefined s main f x
  of_stub v i tree x needed has stub =
      let h = s.header_of v in
      let at = unit_is v i tree has in
      let told = (parts v i tree has).stubs stub.0 stub.1 in
      let name = v.name ++ 46 ∷ stub.0.stub in
      let there = subunit_is_there v h stub.0.stub needed at told.named in
      let o = sound_unit (subunit name) there in
      let left = left_to_subunit v i tree stub.0.stub (link Code stub.0.symbol) has told.inside told.simple told.answered in
      let defines = defined_inside o.tree o.interface (link Code stub.0.symbol) ((parts (subunit name) o.interface o.tree o.has).completes (link Code stub.0.symbol) left) in
      (subunit name, o.interface, o.tree, subunit_needed v h stub.0.stub needed at told.named there, o.has, subst (λ (y : LinkSymbol). Contains (unit_defines o.tree) y) (sym stub.2) defines)

  pub all_complete : ShowNoCode s → Completes s main f
  all_complete shows = record {
    bodies = completed;
    subunits = of_stub;
    predefined = shows;
  }
