-- What a unit that is reached names is near it.
use Rattle.std.proofs.Common.{◌≡◌, ◌⊎◌, inl, inr, ℕ, Bool, true, false, List, [], ◌∷◌, Option, Some, None, refl, sym, ◌∙◌, ap, subst, if◌then◌else◌, map}
use Rattle.std.specs.List.{Contains, flat_map}
use Rattle.std.specs.Option.{option_map_or}
use Rattle.std.proofs.lemmas.List.Elements.{Contains-append_left, Contains-append_right}
use Rattle.al_base.specs.Batch.{Key, key_of}
use Rattle.al_base.specs.declared.unit_key.UnitKey.{UnitKey}
use Rattle.al_base.specs.declared.unit_key.UnitKind.TheVariants.{Body}
use Rattle.al_base_graph.proofs.Members.{first, into_flat_map}
use Rattle.al_unit_graph.specs.Dependence.{DependsOn, directly, direct, dependences, listed, mention_dependences, parent_dependences, parent_declaration, own_declaration}
use Rattle.al_unit_graph.specs.Headers.{Header, Library, Mention, key_of_unit, kind_of, is_library_body}
use Rattle.al_unit_graph.specs.Library.{declaration_of, parent_body_of}
use Rattle.al_unit_graph.specs.Names.{lineage, parent_of}
use Rattle.al_unit_graph.specs.declared.header.UnitForm.{UnitForm}
use Rattle.al_unit_graph.specs.declared.header.UnitForm.TheVariants.{PackageDeclaration, SubprogramDeclaration, PackageBody, SubprogramBody, SubunitBody}
use Rattle.al_query.specs.Answers.{declaration}
use Rattle.al_query.specs.Known.{body, has_unit, predefined_units}
use Rattle.al_query_outcome.specs.ReadsLaw.{named_by, own_names, subunit}
use Rattle.al_query_outcome.specs.Equations.{Setting, IsSetting, unit_named}
use Rattle.al_query_outcome.proofs.Members.{Each, contains-has, each-append, each-cons, each-flat, each-map, each-none, each-one}
use Rattle.al_query_outcome.proofs.Near.{Fine, itself, depended, missing, Near, near-other, near-there}

-- case on a test
pub tested : (b : Bool) → (b ≡ true) ⊎ (b ≡ false)
tested true = inl refl
tested false = inr refl

-- what is among the dependences of a unit with this header
module _ (lib : Library) (h : Header) where
  parent-in : (p : List ℕ) (k : Key) → parent_of h.name ≡ Some p → declaration_of lib p ≡ Some k → Contains (parent_declaration lib h.name) k
  parent-in p k f d = rw (f, d) (first k [])

  dep-parent : (p : List ℕ) (k : Key) → None ≡ h.parent_body → parent_of h.name ≡ Some p → declaration_of lib p ≡ Some k → Contains (dependences lib h) k
  unfolding dependences
  dep-parent p k e f d =
      Contains-append_left (parent_dependences lib h h.parent_body) (flat_map (mention_dependences lib) h.mentions) k
      (subst (λ (o : Option Mention). Contains (parent_dependences lib h o) k) e (Contains-append_left (parent_declaration lib h.name) (own_declaration lib h) k (parent-in p k f d)))

  body-in : (m : Mention) (k : Key) → parent_body_of lib m.name ≡ Some k → Contains (parent_dependences lib h (Some m)) k
  body-in m k d = rw d (first k [])

  dep-body : (m : Mention) (k : Key) → Some m ≡ h.parent_body → parent_body_of lib m.name ≡ Some k → Contains (dependences lib h) k
  unfolding dependences
  dep-body m k e d =
      Contains-append_left (parent_dependences lib h h.parent_body) (flat_map (mention_dependences lib) h.mentions) k
      (subst (λ (o : Option Mention). Contains (parent_dependences lib h o) k) e (body-in m k d))

  dep-mention : (m : Mention) (n : List ℕ) (k : Key) → Contains h.mentions m → Contains (lineage m.name) n → declaration_of lib n ≡ Some k → Contains (dependences lib h) k
  unfolding dependences
  dep-mention m n k c d e =
      Contains-append_right _ _ k (into_flat_map (mention_dependences lib) h.mentions m k c
      (into_flat_map (λ x. listed (declaration_of lib x)) (lineage m.name) n k d (rw e (first k []))))

module _ (s : Setting) (is : IsSetting s) where
  pub near-predefined : (u x : UnitKey) → has_unit predefined_units x ≡ true → Near s u x
  near-predefined u x h = let m = is.without_files x h in (missing m.0, λ k g. missing m.1)

  -- what a library unit's file depends on
  module _ (u : UnitKey) (there : s.is_faultless u ≡ true) where
    direct-is : direct s.files (key_of u) ≡ dependences s.files (s.header_of u)
    direct-is = rw (is.headed u there) refl

    pub into-direct : (k : Key) → Contains (dependences s.files (s.header_of u)) k → DependsOn s.files (key_of u) k
    into-direct k c = directly (subst (λ (l : List Key). Contains l k) (sym direct-is) c)

    -- all on which the unit depends by itself is there
    module _ (sound : (k : Key) → Contains (dependences s.files (s.header_of u)) k → s.is_faultless (unit_named k) ≡ true) where
      -- a declaration that the unit depends on where there is one
      pub near-name : (n : List ℕ) → ((k : Key) → declaration_of s.files n ≡ Some k → Contains (dependences s.files (s.header_of u)) k) → Near s u (declaration n)
      near-name n h =
          elim (tested (s.is_faultless (declaration n))) as (λ _. Near s u (declaration n)) [
            | inl e ↦ near-there s u (declaration n) e (depended (into-direct _ (h _ (is.declared n e))))
            | inr e ↦ (missing e, λ k m. body-near e)
          ]
        where
          body-near : s.is_faultless (declaration n) ≡ false → Fine s u (body n)
          body-near e =
              elim (tested (s.is_faultless (body n))) as (λ _. Fine s u (body n)) [
                | inl b ↦ elim (is.acting n b e) as (λ _. Fine s u (body n)) [
                  | inl d ↦ depended (into-direct _ (h _ d))
                  | inr d ↦ let t = sound _ (h _ d) in absurd (cc)
                ]
                | inr b ↦ missing b
              ]

      near-body : (n : List ℕ) → ((k : Key) → parent_body_of s.files n ≡ Some k → Contains (dependences s.files (s.header_of u)) k) → Near s u (body n)
      near-body n h =
          elim (tested (s.is_faultless (body n))) as (λ _. Near s u (body n)) [
            | inl e ↦ near-there s u (body n) e (depended (into-direct _ (h _ (is.body_there n e))))
            | inr e ↦ near-other s u (body n) refl (missing e)
          ]

      near-subunit : (n : List ℕ) → ((k : Key) → parent_body_of s.files n ≡ Some k → Contains (dependences s.files (s.header_of u)) k) → Near s u (subunit n)
      near-subunit n h =
          elim (tested (s.is_faultless (subunit n))) as (λ _. Near s u (subunit n)) [
            | inl e ↦ near-there s u (subunit n) e (depended (into-direct _ (h _ (is.subunit_there n e))))
            | inr e ↦ near-other s u (subunit n) refl (missing e)
          ]

      -- its own declaration, of a body
      own-near : (h : Header) → is_library_body h.form ≡ true → key_of_unit h ≡ key_of u → Near s u (declaration h.name)
      own-near h form key =
          elim (tested (s.is_faultless (declaration h.name))) as (λ _. Near s u (declaration h.name)) [
            | inl e ↦
                let b : s.is_faultless (body h.name) ≡ true = subst (λ (x : UnitKey). s.is_faultless x ≡ true) (sym self) there in
                let c = is.completes h.name b e in
                near-there s u (declaration h.name) e (depended (directly (subst (λ (x : UnitKey). Contains (direct s.files (key_of x)) (key_of (declaration h.name))) self c)))
            | inr e ↦ (missing e, λ k m. itself (sym self))
          ]
        where
          kind : (f : UnitForm) → is_library_body f ≡ true → kind_of f ≡ Body
          kind PackageDeclaration t = absurd (cc)
          kind SubprogramDeclaration t = absurd (cc)
          kind PackageBody t = refl
          kind SubprogramBody t = refl
          kind SubunitBody t = absurd (cc)

          self : body h.name ≡ u
          self = ap (λ k. unit_named (h.name, k)) (sym (kind h.form form)) ∙ ap unit_named key

      own-names : (o : Option Mention) → o ≡ (s.header_of u).parent_body → Each (Near s u) (own_names (s.header_of u) o)
      own-names None e = each-append (Near s u) _ _ (own (is_library_body (s.header_of u).form) refl) (parent (parent_of (s.header_of u).name) refl)
        where
          own : (b : Bool) → is_library_body (s.header_of u).form ≡ b → Each (Near s u) (if b then declaration (s.header_of u).name ∷ [] else [])
          own true f = each-one (Near s u) _ (own-near (s.header_of u) f (is.keyed u there))
          own false f = each-none (Near s u)

          parent : (p : Option (List ℕ)) → parent_of (s.header_of u).name ≡ p → Each (Near s u) (option_map_or (λ q. declaration q ∷ []) p [])
          parent None f = each-none (Near s u)
          parent (Some p) f = each-one (Near s u) _ (near-name p (λ k d. dep-parent s.files (s.header_of u) p k e f d))
      own-names (Some m) e =
          let h = s.header_of u in
          each-cons (Near s u) (body m.name) (subunit m.name ∷ []) (near-body m.name (λ k d. dep-body s.files h m k e d)) (each-one (Near s u) _ (near-subunit m.name (λ k d. dep-body s.files h m k e d)))

      mentioned : (m : Mention) → Contains (s.header_of u).mentions m → (n : List ℕ) → Contains (lineage m.name) n → Near s u (declaration n)
      mentioned m c n d = near-name n (λ k e. dep-mention s.files (s.header_of u) m n k c d e)

      pub names-near : Each (Near s u) (named_by (s.header_of u))
      unfolding named_by
      names-near =
          each-append (Near s u) predefined_units _ (λ x c. near-predefined u x (contains-has predefined_units x c))
          (each-append (Near s u) _ _ (own-names (s.header_of u).parent_body refl)
          (each-flat (Near s u) (λ (m : Mention). map declaration (lineage m.name)) (s.header_of u).mentions (λ m c. each-map (Near s u) declaration (lineage m.name) (mentioned m c))))
