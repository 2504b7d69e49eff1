-- The least of some names, and what a partition lacks.
use Rattle.std.proofs.Common.{◌≡◌, ℕ, Bool, true, false, ◌&&◌, cond, List, [], ◌∷◌, Option, Some, None, inl, inr, refl, sym, ap, subst, ◌∙◌, true≢false, MatchOption}
use Rattle.std.specs.List.{Contains, flat_map}
use Rattle.std.specs.Option.{is_some, option_map_or}
use Rattle.std.specs.Prelude.{not}
use Rattle.std.specs.Ordering.{is_gt, ordering_reverse}
use Rattle.std.specs.Cmp.{upto, tied_itself}
use Rattle.std.specs.Cmp.Lexicographic.{nat_list_cmp_total}
use Rattle.std.specs.declared.cmp.Ordering.{Ordering}
use Rattle.std.specs.declared.cmp.Ordering.TheVariants.{Less, Equal, Greater}
use Rattle.al_base.specs.Batch.{Key}
use Rattle.al_base.specs.Files.{name_cmp}
use Rattle.al_base_graph.proofs.Members.{nowhere, first, later, first_or_later, the_one, from_flat_map, into_flat_map}
use Rattle.al_unit_graph.specs.Headers.{Header, Library}
use Rattle.al_unit_graph.specs.Library.{unit_at, is_unit, is_kind}
use Rattle.al_base.specs.declared.unit_key.UnitKind.TheVariants.{Decl, Body}
use Rattle.al_unit_graph.specs.Needed.{ListsUnits, Needed}
use Rattle.al_bind.specs.Missing.{IsLeastName, least_of, missing_bodies, missing_stub, missing_stubs, LacksBody, LacksSubunit}

-- one name isn't after another
abbrev Upto : List ℕ → List ℕ → Type 0
Upto a b = is_gt (name_cmp a b) ≡ false

itself_upto : (a : List ℕ) → Upto a a
itself_upto a = ap is_gt (tied_itself nat_list_cmp_total a)

-- the least of the found name and some more
record Found (found : List ℕ) (names : List (List ℕ)) : Type 0 where
  name : List ℕ
  is : least_of (Some found) names ≡ Some name
  among : Contains (found ∷ names) name
  least : (other : List ℕ) → Contains (found ∷ names) other → Upto name other

turned : (o : Ordering) → is_gt o ≡ true → o ≡ Greater
turned Less h = absurd (true≢false (sym h))
turned Equal h = absurd (true≢false (sym h))
turned Greater h = refl

-- what is after another isn't before it
after : (a b : List ℕ) → is_gt (name_cmp a b) ≡ true → Upto b a
after a b h = ap is_gt (nat_list_cmp_total.antisymm b a ∙ ap ordering_reverse (turned (name_cmp a b) h))

by_test : (b : Bool) (found n : List ℕ) (ns : List (List ℕ)) → is_gt (name_cmp found n) ≡ b → Found n ns → Found found ns → Found found (n ∷ ns)
by_test true found n ns test more kept = record {
  name = more.name;
  is = ap (λ (x : Bool). least_of (cond x (Some n) (Some found)) ns) test ∙ more.is;
  among = later found (n ∷ ns) more.name more.among;
  least = λ other c. elim (first_or_later found (n ∷ ns) other c) [
    | inl same ↦ subst (λ (x : List ℕ). Upto more.name x) same (upto nat_list_cmp_total more.name n found (more.least n (first n ns)) (after found n test))
    | inr h ↦ more.least other h
  ];
}
by_test false found n ns test more kept = record {
  name = kept.name;
  is = ap (λ (x : Bool). least_of (cond x (Some n) (Some found)) ns) test ∙ kept.is;
  among = elim (first_or_later found ns kept.name kept.among) [
    | inl same ↦ subst (λ (x : List ℕ). Contains (found ∷ n ∷ ns) x) same (first found (n ∷ ns))
    | inr h ↦ later found (n ∷ ns) kept.name (later n ns kept.name h)
  ];
  least = λ other c. elim (first_or_later found (n ∷ ns) other c) [
    | inl same ↦ subst (λ (x : List ℕ). Upto kept.name x) same (kept.least found (first found ns))
    | inr h ↦ elim (first_or_later n ns other h) [
      | inl same ↦ subst (λ (x : List ℕ). Upto kept.name x) same (upto nat_list_cmp_total kept.name found n (kept.least found (first found ns)) test)
      | inr rest ↦ kept.least other (later found ns other rest)
    ]
  ];
}

find_least : (found : List ℕ) (names : List (List ℕ)) → Found found names
find_least found [] = record {
  name = found;
  is = refl;
  among = first found [];
  least = λ other c. subst (λ (x : List ℕ). Upto found x) (the_one found other c) (itself_upto found);
}
find_least found (n ∷ ns) = by_test (is_gt (name_cmp found n)) found n ns refl (find_least n ns) (find_least found ns)

-- the least of the names for which this holds, if a list has those
abbrev IsLeastIf : (List ℕ → Type 0) → Option (List ℕ) → Type 0
IsLeastIf IsSo found = MatchOption found ((name : List ℕ) → IsSo name → ⊥) (IsLeastName IsSo)

least_so : (IsSo : List ℕ → Type 0) (names : List (List ℕ)) → ((n : List ℕ) → Contains names n → IsSo n) → ((n : List ℕ) → IsSo n → Contains names n) → IsLeastIf IsSo (least_of None names)
least_so IsSo [] from into = λ name so. nowhere name (into name so)
least_so IsSo (n ∷ ns) from into =
    let f = find_least n ns in
    subst (λ (r : Option (List ℕ)). IsLeastIf IsSo r) (sym f.is) (record { holds = from f.name f.among; least = λ other so. f.least other (into other so) })

-- a unit that lacks something is one of the library
some_unit : (A : Type 0) (u : Option Header) (f : Header → List A) (a : A) → Contains (option_map_or f u []) a → is_some u ≡ true
some_unit A None f a c = absurd (nowhere a c)
some_unit A (Some h) f a c = refl

stubs_of_units : (lib : Library) (x : Key) (n : List ℕ) → Contains (missing_stubs lib x) n → is_unit lib x ≡ true
stubs_of_units lib x n c = some_unit (List ℕ) (unit_at lib x) (λ h. flat_map (missing_stub lib x.0) h.stubs) n c

needs_some : (u : Option Header) (k b : Bool) (n m : List ℕ) → Contains (cond (k && (option_map_or (λ h. h.needs_body) u false && b)) (m ∷ []) []) n → is_some u ≡ true
needs_some (Some h) k b n m c = refl
needs_some None true b n m c = absurd (nowhere n c)
needs_some None false b n m c = absurd (nowhere n c)

bodies_of_units : (lib : Library) (x : Key) (n : List ℕ) → Contains (missing_bodies lib x) n → is_unit lib x ≡ true
bodies_of_units lib x n c = needs_some (unit_at lib x) (is_kind x.1 Decl) (not (is_unit lib (x.0, Body))) n x.0 c

lacks : (lib : Library) (main : List ℕ) (keys : List Key) (missing : Key → List (List ℕ)) → ((x : Key) (n : List ℕ) → Contains (missing x) n → is_unit lib x ≡ true) → ListsUnits lib keys (Needed lib main) → IsLeastIf (λ n. (x : Key) × Needed lib main x × Contains (missing x) n) (least_of None (flat_map missing keys))
lacks lib main keys missing unit lists =
    least_so (λ n. (x : Key) × Needed lib main x × Contains (missing x) n) (flat_map missing keys)
    (λ n c. let f = from_flat_map missing keys n c in (f.0, ((lists.all f.0).0 f.1).0, f.2))
    (λ n so. into_flat_map missing keys so.0 n ((lists.all so.0).1 (so.1, unit so.0 n so.2)) so.2)

pub lacks_body_least : (lib : Library) (main : List ℕ) (keys : List Key) (found : Option (List ℕ)) → ListsUnits lib keys (Needed lib main) → found ≡ least_of None (flat_map (missing_bodies lib) keys) → MatchOption found ((name : List ℕ) → LacksBody lib main name → ⊥) (IsLeastName (LacksBody lib main))
lacks_body_least lib main keys found lists is = subst (λ (r : Option (List ℕ)). IsLeastIf (LacksBody lib main) r) (sym is) (lacks lib main keys (missing_bodies lib) (bodies_of_units lib) lists)

pub lacks_subunit_least : (lib : Library) (main : List ℕ) (keys : List Key) (found : Option (List ℕ)) → ListsUnits lib keys (Needed lib main) → found ≡ least_of None (flat_map (missing_stubs lib) keys) → MatchOption found ((name : List ℕ) → LacksSubunit lib main name → ⊥) (IsLeastName (LacksSubunit lib main))
lacks_subunit_least lib main keys found lists is = subst (λ (r : Option (List ℕ)). IsLeastIf (LacksSubunit lib main) r) (sym is) (lacks lib main keys (missing_stubs lib) (stubs_of_units lib) lists)
