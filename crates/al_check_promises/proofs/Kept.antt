-- What holds of a result that was tested.
use Rattle.std.proofs.Common.{◌≡◌, ◌+◌, ◌≤◌, ℕ, Bool, true, false, ◌&&◌, ◌||◌, ◌⊎◌, inl, inr, List, [], ◌∷◌, ◌++◌, map, refl, sym, ap, subst, if◌then◌else◌, nat_le, nat_lt, arith}
use Rattle.std.specs.List.{All, Contains, flat_map, list_all}
use Rattle.std.proofs.lemmas.Bool.Decides.{nat_tests}
use Rattle.std.proofs.lemmas.List.Elements.{All-nil, All-cons, Contains-append_cases, Contains-append_left, Contains-append_right}
use Rattle.std.proofs.lemmas.Slice.Eq.{bytes_eq-Decides}
use Rattle.al_base.specs.Batch.{key_of}
use Rattle.al_base.specs.FileNames.{file_name_of}
use Rattle.al_base.specs.declared.diagnostic.Diagnostic.{Diagnostic}
use Rattle.al_base.specs.declared.unit_key.UnitKey.{UnitKey}
use Rattle.al_base_graph.proofs.Members.{first, first_or_later, later, nowhere}
use Rattle.al_unit_graph.proofs.Lists.{into_filter}
use Rattle.al_view.specs.Symbols.{same_unit}
use Rattle.al_view.proofs.SymbolLemmas.{same_unit-one, same_unit-self}
use Rattle.al_view.specs.ViewUses.{link, view_uses}
use Rattle.al_view.specs.declared.link.LinkKind.TheVariants as kind
use Rattle.al_view.specs.declared.link.LinkSymbol.{LinkSymbol}
use Rattle.al_view.specs.declared.view.ViewKind.{ViewKind}
use Rattle.al_query.specs.Reads.{Log}
use Rattle.al_view_typed.specs.UnitTrees.{UnitTree}
use Rattle.al_view_typed.specs.Uses.{unit_defines, unit_uses}
use Rattle.al_view_typed.specs.WellFormed.{IsWellFormed}
use Rattle.al_query_outcome.specs.Defines.{DefinesOwn, IsAccounted, IsStubs, ShowsOnly, interface_uses}
use Rattle.al_query_outcome.specs.Left.{is_of_body}
use Rattle.al_query_outcome.specs.ReadsLaw.{FaultsFit, UsesOnly, is_fault_of, log_uses}
use Rattle.al_query_outcome.specs.Results.{Faulty, Sound}
use Rattle.al_query_outcome.specs.declared.interface.StubDeclarations.{StubDeclarations}
use Rattle.al_query_outcome.specs.declared.interface.UnitInterface.{UnitInterface}
use Rattle.al_query_outcome.proofs.Members.{all-at}
use Rattle.al_check_promises.specs.Links.{is_among}
use Rattle.al_check_promises.specs.Laws.{FaultsAreReported, NotYetIsReported, Promised, WhatIsTestedKeeps}
use Rattle.al_check_promises.specs.SelfChecks.{accounted, defined, is_allowed, is_declared, is_kept, is_well_formed, left_shown, not_checked, self_checked, stub_codes}
use Rattle.al_check_promises.specs.Shown.{WereShown}
use Rattle.al_check_promises.proofs.Used.{among-contains, both}

-- ---- a result that was kept

stub_of : (stubs : List StubDeclarations) (x : LinkSymbol) → Contains (map (λ s. link kind.Code s.symbol) stubs) x → (stub : StubDeclarations) × Contains stubs stub × (x ≡ link kind.Code stub.symbol)
stub_of [] x c = absurd (nowhere x c)
stub_of (s ∷ stubs) x c =
    elim (first_or_later (link kind.Code s.symbol) (map (λ s. link kind.Code s.symbol) stubs) x c) [
      | inl is ↦ (s, first s stubs, sym is)
      | inr k ↦ let r = stub_of stubs x k in (r.0, later s stubs r.0 r.1, r.2)
    ]

-- what is defined, by the unit or by its stubs
pub defined_is : (i : UnitInterface) (tree : UnitTree) (x : LinkSymbol) → Contains (defined i tree) x → Contains (unit_defines tree) x ⊎ IsStubs i x
defined_is i tree x c =
    elim (Contains-append_cases (unit_defines tree) (stub_codes i) x c) [
      | inl d ↦ inl d
      | inr s ↦ inr (stub_of i.parts.stubs x s)
    ]

either : (a b : Bool) → a ≡ false → (a || b) ≡ true → b ≡ true
either true b other h = absurd (cc)
either false b other h = h

module _ (i : UnitInterface) (tree : UnitTree) (x : LinkSymbol) where
  of_defined : Contains (defined i tree) x → IsAccounted i tree x
  of_defined c =
      elim (defined_is i tree x c) as (λ _. IsAccounted i tree x) [
        | inl d ↦ inl d
        | inr s ↦ inr (inr s)
      ]

  of_left : (b : Bool) → is_of_body x.kind ≡ b → (is_of_body x.kind ≡ false → is_among (defined i tree) x ≡ true) → Contains (left_shown i) x → IsAccounted i tree x
  of_left true is other c = inr (inl (into_filter (λ (y : LinkSymbol). is_of_body y.kind) (left_shown i) x c is))
  of_left false is other c = of_defined (among-contains (defined i tree) x (other is))

  -- what is accounted for; what is left and isn't of a body is defined
  pub accounted_is : (Contains (left_shown i) x → is_of_body x.kind ≡ false → is_among (defined i tree) x ≡ true) → is_among (accounted i tree) x ≡ true → IsAccounted i tree x
  accounted_is other h =
      elim (Contains-append_cases (defined i tree) (left_shown i) x (among-contains (accounted i tree) x h)) as (λ _. IsAccounted i tree x) [
        | inl d ↦ of_defined d
        | inr l ↦ of_left (is_of_body x.kind) refl (other l) l
      ]

  pub declared_is : list_all (is_declared (defined i tree)) (left_shown i) ≡ true → Contains (left_shown i) x → is_of_body x.kind ≡ false → is_among (defined i tree) x ≡ true
  declared_is declared c other = either (is_of_body x.kind) (is_among (defined i tree) x) other (all-at (is_declared (defined i tree)) (left_shown i) x declared c)

module _ (unit : UnitKey) (log : Log) (shown : List ViewKind) (i : UnitInterface) (tree : UnitTree) (were : WereShown unit log shown) where
  abbrev Allowed : LinkSymbol → Bool
  Allowed x = is_allowed unit (flat_map view_uses shown) (accounted i tree) x

  -- what is allowed is the unit's own, or was shown
  own_or_shown : (x : LinkSymbol) → Allowed x ≡ true → (x.symbol.unit ≡ unit) ⊎ Contains (log_uses log) x
  own_or_shown x h = by (same_unit x.symbol.unit unit) refl h
    where
      by : (b : Bool) → same_unit x.symbol.unit unit ≡ b → (if b then is_among (accounted i tree) x else is_among (flat_map view_uses shown) x) ≡ true → (x.symbol.unit ≡ unit) ⊎ Contains (log_uses log) x
      by true is h = inl (same_unit-one x.symbol.unit unit is)
      by false is h = were x (among-contains (flat_map view_uses shown) x h)

  -- what is allowed of its own is accounted for
  own_accounted : list_all (is_declared (defined i tree)) (left_shown i) ≡ true → (x : LinkSymbol) → x.symbol.unit ≡ unit → Allowed x ≡ true → IsAccounted i tree x
  own_accounted declared x own h = by (same_unit x.symbol.unit unit) refl h
    where
      itself : same_unit x.symbol.unit unit ≡ true
      itself = subst (λ (u : UnitKey). same_unit x.symbol.unit u ≡ true) own (same_unit-self x.symbol.unit)

      by : (b : Bool) → same_unit x.symbol.unit unit ≡ b → (if b then is_among (accounted i tree) x else is_among (flat_map view_uses shown) x) ≡ true → IsAccounted i tree x
      by true is h = accounted_is i tree x (declared_is i tree x declared) h
      by false is h = absurd (cc (itself, is))

  module _ (allowed : list_all Allowed (unit_uses tree ++ interface_uses i) ≡ true) where
    uses : UsesOnly unit log (Sound i tree)
    uses x c = own_or_shown x (all-at Allowed (unit_uses tree ++ interface_uses i) x allowed (Contains-append_left (unit_uses tree) (interface_uses i) x c))

    shows : ShowsOnly unit log (Sound i tree)
    shows x c = own_or_shown x (all-at Allowed (unit_uses tree ++ interface_uses i) x allowed (Contains-append_right (unit_uses tree) (interface_uses i) x c))

    defines : list_all (is_declared (defined i tree)) (left_shown i) ≡ true → DefinesOwn unit (Sound i tree)
    defines declared x own c = own_accounted declared x own (all-at Allowed (unit_uses tree ++ interface_uses i) x allowed c)

-- ---- code

all_from : {X : Type 0} (p : X → Bool) (P : X → Type 0) → ((x : X) → p x ≡ true → P x) → (xs : List X) → list_all p xs ≡ true → All P xs
all_from p P f [] h = All-nil P
all_from p P f (x ∷ xs) h = let two = both (p x) (list_all p xs) h in All-cons P x xs (f x two.0) (all_from p P f xs two.1)

le_is : (a b : ℕ) → nat_le a b ≡ true → a ≤ b
le_is a b h = grind (arith, nat_tests)

lt_is : (a b : ℕ) → nat_lt a b ≡ true → a + 1 ≤ b
lt_is a b h = grind (arith, nat_tests)

well_formed : (tree : UnitTree) → is_well_formed tree ≡ true → IsWellFormed tree
well_formed tree h =
    let two = both (list_all (λ p. nat_le p.word tree.words) tree.objects) (list_all (λ p. nat_lt p.word tree.words) tree.flags && list_all (λ p. nat_le (p.word + p.words) tree.words) tree.protected_objects) h in
    let more = both (list_all (λ p. nat_lt p.word tree.words) tree.flags) (list_all (λ p. nat_le (p.word + p.words) tree.words) tree.protected_objects) two.1 in
    record {
      objects = all_from (λ p. nat_le p.word tree.words) (λ p. p.word ≤ tree.words) (λ p e. le_is p.word tree.words e) tree.objects two.0;
      flags = all_from (λ p. nat_lt p.word tree.words) (λ p. p.word + 1 ≤ tree.words) (λ p e. lt_is p.word tree.words e) tree.flags more.0;
      regions = all_from (λ p. nat_le (p.word + p.words) tree.words) (λ p. p.word + p.words ≤ tree.words) (λ p e. le_is (p.word + p.words) tree.words e) tree.protected_objects more.1;
    }

-- ---- errors

pub own_fault : (unit : UnitKey) → list_all (is_fault_of unit) (not_checked unit) ≡ true
own_fault unit = ap (λ b. (b && true) && true) ((bytes_eq-Decides (file_name_of (key_of unit)) (file_name_of (key_of unit))).1 refl)

module _ (unit : UnitKey) (log : Log) where
  wrong : (faults : List Diagnostic) → FaultsFit unit (Faulty faults) → Promised unit log (Faulty faults)
  wrong faults fit = record { uses = tt; defines = tt; shows = tt; code = tt; faults = fit }

  pub not_yet : Promised unit log (Faulty (not_checked unit))
  not_yet = wrong (not_checked unit) (refl, own_fault unit)

pub faults_told : FaultsAreReported
faults_told unit log faults fit = wrong unit log faults fit

pub not_yet_told : NotYetIsReported
not_yet_told unit log = not_yet unit log

pub tested_keeps : WhatIsTestedKeeps
unfolding is_kept self_checked
tested_keeps unit log shown i tree complete were = by (is_kept unit shown i tree) complete refl
  where
    by : (b c : Bool) → is_kept unit shown i tree ≡ b → Promised unit log (if b && c then Sound i tree else Faulty (not_checked unit))
    by false c is = not_yet unit log
    by true false is = not_yet unit log
    by true true is =
        let b = both (list_all (is_allowed unit (flat_map view_uses shown) (accounted i tree)) (unit_uses tree ++ interface_uses i)) _ is in
        let d = both (list_all (is_declared (defined i tree)) (left_shown i)) (same_unit tree.unit unit && is_well_formed tree) b.1 in
        let c = both (same_unit tree.unit unit) (is_well_formed tree) d.1 in
        record {
          uses = uses unit log shown i tree were b.0;
          defines = defines unit log shown i tree were b.0 d.0;
          shows = shows unit log shown i tree were b.0;
          code = (same_unit-one tree.unit unit c.0, well_formed tree c.1);
          faults = tt;
        }
