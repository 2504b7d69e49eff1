-- The walk over a unit's item is the same under two tables that answer alike of units that may be asked (Known), by names that may be asked for.
use Rattle.std.proofs.Common.{◌≡◌, refl, sym, subst, true≢false, inl, inr, ◌∙◌, ap, ℕ, Bool, ◌||◌, true, false, not, List, [], ◌∷◌, ◌++◌, length, take, Option, Some, None, Ok, Err, if◌then◌else◌, ◌-◌}
use Rattle.std.specs.Bool.{⊤}
use Rattle.std.specs.BTreeMap.{insert_entry, is_at}
use Rattle.std.specs.List.{flat_map, list_any}
use Rattle.std.specs.Map.{lookup}
use Rattle.std.specs.Ordering.{is_eq, match_ordering}
use Rattle.std.proofs.lemmas.Slice.Eq.{bytes_eq-Decides}
use Rattle.std.proofs.lemmas.Map.Text.{is_eq-slice_cmp}
use Rattle.std.specs.declared.cmp.Ordering.{Ordering}
use Rattle.std.specs.declared.cmp.Ordering.TheVariants.{Less, Equal, Greater}
use Rattle.std.specs.Prelude.{Result, suc, unwrap_or, zero}
use Rattle.al_base.specs.Files.{name_cmp}
use Rattle.al_base.specs.declared.unit_key.UnitKey.{UnitKey}
use Rattle.al_base_fault.specs.declared.fault.Fault.{Fault}
use Rattle.al_check_here.specs.declared.state.CheckState.{CheckState}
use Rattle.al_check_reading.specs.Ada.{ada}
use Rattle.al_decl.specs.Regions.{in_regions}
use Rattle.al_overload_lookup.specs.Keys.{denoted}
use Rattle.al_overload_lookup.specs.Lookups.{looked_up_all, names_at}
use Rattle.al_overload_lookup.specs.TextNames.{identifier_names, selector_names}
use Rattle.al_query.specs.Known.{has_unit}
use Rattle.al_query.specs.Reads.{Table}
use Rattle.al_query.specs.declared.answer.UseClause.{UseClause}
use Rattle.al_query.specs.declared.answer.UseClause.TheVariants.{Package, «Type», Operators}
use Rattle.al_query.specs.declared.query.Property.{Property}
use Rattle.al_query.specs.declared.query.Query.TheVariants.{Named, Of}
use Rattle.al_scope.specs.Places.{Place, encloses, in_last, is_declared_round, is_region_of, is_within, with_part, with_private_types, with_uses}
use Rattle.al_scope.specs.Seen.{subtype_recast, subtype_seen_at}
use Rattle.al_scope.specs.UnitPlaces.{at_stub, at_stubs, continued, declaration_parts, entered_as, inward, is_package_view, own_declaration, own_parts, own_uses, standard_parts, standard_symbol, standard_unit, unit_regions, view_at, view_symbol, ancestor_units, library_name, opened, outward_opened, part_of, part_uses, private_regions, sees_at, some_private, symbol_at, told_types, with_clause, with_clauses, with_part_of}
use Rattle.al_scope.specs.UseClauses.{Uses, no_use, operators_in, package_unit, use_of, with_operators_in, with_package, with_type, with_type_view}
use Rattle.al_scope.specs.declared.own.OwnText.{OwnText}
use Rattle.al_scope.specs.declared.region.Region.{Region}
use Rattle.al_scope.specs.declared.region.UnitPart.{UnitPart}
use Rattle.al_scope.specs.declared.uses.PackageUse.{PackageUse}
use Rattle.al_scope_context.specs.UsesAt.{used_in, uses_at as clauses_at}
use Rattle.al_stmts.specs.Units.{unit_walked}
use Rattle.al_tree_grammar.specs.Grammar.{Label, Lexeme}
use Rattle.al_tree_syntax.specs.Symbols.{Symbol as symbols}
use Rattle.al_tree_syntax.specs.DeclarationTrees.{CompoundNameTree, UseTree, after as tokens_after, compound_tokens}
use Rattle.al_tree_syntax.specs.ExpressionTrees.{ExpressionTree, expression_tokens, name_tokens, simple_tokens, stands}
use Rattle.al_tree_syntax.specs.ExpressionTrees.Level.{NameLevel, SimpleLevel}
use Rattle.al_tree_syntax.specs.UnitTrees.{LibraryItemTree, library_item_tokens}
use Rattle.al_view.specs.declared.part.Part.TheVariants as part
use Rattle.al_base.specs.declared.unit_key.UnitKind.TheVariants.{Decl}
use Rattle.al_unit_graph.specs.Names.{is_without_file}
use Rattle.al_view.specs.Symbols.{same_kind, same_symbol}
use Rattle.al_view.specs.declared.symbol.Symbol.{Symbol}
use Rattle.al_view.specs.declared.types.TypeView.{TypeView}
use Rattle.al_view.specs.declared.view.SubtypeView.{SubtypeView}
use Rattle.al_check_bound_laws.proofs.AllLemmas.{All, all-append, all-flat, all-left, all-right, one_of}
use Rattle.al_check_bound_laws.proofs.SameAda as the_ada
use Rattle.al_check_bound_laws.proofs.SameDeclarations.{Stays}
use Rattle.al_check_bound_laws.proofs.SameNames as names
use Rattle.al_check_bound_laws.proofs.SamePlaces as places
use Rattle.al_check_bound_laws.proofs.SameStarts as starts
use Rattle.al_check_bound_laws.proofs.SameUses as uses
use Rattle.al_check_bound_laws.proofs.SameWalk as walk
use Rattle.al_check_bound_laws.proofs.Spelt.{May, Spells, names-may, of-placed}

-- names that compare as equal are one
same_name : (a b : List ℕ) → name_cmp a b ≡ Equal → a ≡ b
same_name a b is = (bytes_eq-Decides a b).0 (sym (is_eq-slice_cmp a b) ∙ ap is_eq is)

all-insert : {Y : Type 0} (F : List ℕ × Y → Type 0) (es : List (List ℕ × Y)) (k : List ℕ) (v : Y) → F (k, v) → All F es → All F (insert_entry name_cmp es k v)
all-insert F [] k v q a = (q, tt)
all-insert F (e ∷ es) k v q a = at (name_cmp k e.0) refl (all-insert F es k v q a.1)
  where
    at : (o : Ordering) → name_cmp k e.0 ≡ o → All F (insert_entry name_cmp es k v) → All F (match_ordering o ((k, v) ∷ e ∷ es) ((e.0, v) ∷ es) (e ∷ insert_entry name_cmp es k v))
    at Less is m = (q, a)
    at Equal is m = (subst (λ (n : List ℕ). F (n, v)) (same_name k e.0 is) q, a.1)
    at Greater is m = (a.0, m)

all-take : {X : Type 0} (F : X → Type 0) (n : ℕ) (xs : List X) → All F xs → All F (take n xs)
all-take F n [] a = at n
  where
    at : (m : ℕ) → All F (take m [])
    at zero = tt
    at (suc m) = tt
all-take F zero (x ∷ xs) a = tt
all-take F (suc n) (x ∷ xs) a = (a.0, all-take F n xs a.1)

-- a clause changes no construct: what encloses the place is the same after it
encloses-last : (u : UnitKey) (f : Uses → Uses) (rs : List Region) → encloses u (in_last (with_uses f) rs) ≡ encloses u rs
encloses-last u f [] = refl
encloses-last u f (r ∷ []) = refl
encloses-last u f (r ∷ q ∷ rs) = ap (λ b. is_within u r || b) (encloses-last u f (q ∷ rs))

encloses-if : (u : UnitKey) (f : Uses → Uses) (b : Bool) (rs : List Region) → encloses u (if b then rs else in_last (with_uses f) rs) ≡ encloses u rs
encloses-if u f true rs = refl
encloses-if u f false rs = encloses-last u f rs

encloses-after : (u : UnitKey) (c : UseClause) (rs : List Region) → encloses u (with_clause c rs) ≡ encloses u rs
encloses-after u (Package v) rs = encloses-if u (with_package v.name) (encloses v rs) rs
encloses-after u («Type» x) rs = encloses-if u (with_type x) (is_declared_round x rs) rs
encloses-after u (Operators x types) rs = encloses-if u (with_type_view x types) (is_declared_round x rs) rs

module _ (Q : Lexeme → Type 0) (MayName : List ℕ → Type 0) (spells : Spells Q MayName) (Known : UnitKey → Type 0) (t s : Table)
    (alike : (u : UnitKey) (p : Property) → starts.is_plain p ≡ true → Known u → t (Of u p) ≡ s (Of u p))
    (named : (p : UnitPart) (name : List ℕ) → Known p.unit → MayName name → t (Named p.unit p.part name) ≡ s (Named p.unit p.part name)) where
  abbrev MayPart : UnitPart → Type 0
  MayPart p = Known p.unit

  abbrev pub RegionOk : Region → Type 0
  RegionOk r = places.RegionOk MayPart MayName t s named r

  abbrev pub P : Place → Type 0
  P p = All RegionOk p.regions

  -- what a use clause opens may be asked, unless it has no effect among these regions
  abbrev pub FitsIn : List Region → UseClause → Type 0
  FitsIn rs (Package u) = encloses u rs ≡ false → Known (package_unit u.name)
  FitsIn rs («Type» x) = is_declared_round x rs ≡ false → Known (package_unit x.unit.name)
  FitsIn rs (Operators x types) = ⊤

  -- among any
  abbrev pub Always : UseClause → Type 0
  Always c = (rs : List Region) → FitsIn rs c

  last-ok : (change : Region → Region) → ((r : Region) → RegionOk r → RegionOk (change r)) → (rs : List Region) → All RegionOk rs → All RegionOk (in_last change rs)
  last-ok change h [] a = tt
  last-ok change h (r ∷ []) a = (h r a.0, tt)
  last-ok change h (r ∷ q ∷ rs) a = (a.0, last-ok change h (q ∷ rs) a.1)

  abbrev UseOk : List ℕ × PackageUse → Type 0
  UseOk u = places.UseOk MayPart MayName t s named u

  -- what use clauses say of a package
  use-ok : (name : List ℕ) (us : Uses) → All UseOk us → UseOk (name, use_of us name)
  use-ok name [] a = λ e. absurd (cc)
  use-ok name (u ∷ us) a = at (name_cmp name u.0) refl (use-ok name us a.1)
    where
      at : (o : Ordering) → name_cmp name u.0 ≡ o → UseOk (name, use_of us name) → UseOk (name, unwrap_or (if is_eq o then Some u.1 else lookup (is_at (name_cmp name)) us) no_use)
      at Less is more = more
      at Equal is more = subst (λ (n : List ℕ). UseOk (n, u.1)) (sym (same_name name u.0 is)) a.0
      at Greater is more = more

  view-ok : (x : Symbol) (types : List TypeView) (us : Uses) → All UseOk us → UseOk (x.unit.name, with_operators_in x types (use_of us x.unit.name))
  view-ok x types us a = at (list_any (same_symbol x) (use_of us x.unit.name).types) (use-ok x.unit.name us a)
    where
      at : (b : Bool) → UseOk (x.unit.name, use_of us x.unit.name) → UseOk (x.unit.name, (if b then use_of us x.unit.name else record (use_of us x.unit.name) { types = (use_of us x.unit.name).types ++ x ∷ []; operators = (use_of us x.unit.name).operators ++ operators_in x types ∷ [] }))
      at true k = k
      at false k = k

  clause-ok : (c : UseClause) (rs : List Region) → FitsIn rs c → All RegionOk rs → All RegionOk (with_clause c rs)
  clause-ok (Package u) rs k a = at (encloses u rs) k
    where
      at : (b : Bool) → (b ≡ false → Known (package_unit u.name)) → All RegionOk (if b then rs else in_last (with_uses (with_package u.name)) rs)
      at true f = a
      at false f = last-ok _ (λ r m. (m.0, (all-insert UseOk r.uses u.name _ (λ e. f refl) m.1.0, m.1.1))) rs a
  clause-ok («Type» x) rs k a = at (is_declared_round x rs) k
    where
      at : (b : Bool) → (b ≡ false → Known (package_unit x.unit.name)) → All RegionOk (if b then rs else in_last (with_uses (with_type x)) rs)
      at true f = a
      at false f = last-ok _ (λ r m. (m.0, (all-insert UseOk r.uses x.unit.name _ (λ e. f refl) m.1.0, m.1.1))) rs a
  clause-ok (Operators x types) rs k a =
      one_of (All RegionOk) (is_declared_round x rs) rs _ a (last-ok _ (λ r m. (m.0, (all-insert UseOk r.uses x.unit.name _ (view-ok x types r.uses m.1.0) m.1.0, m.1.1))) rs a)

  fits-after : (c d : UseClause) (rs : List Region) → FitsIn rs d → FitsIn (with_clause c rs) d
  fits-after c (Package u) rs k = λ e. k (sym (encloses-after u c rs) ∙ e)
  fits-after c («Type» x) rs k = λ e. k (ap (λ b. not (same_kind x.unit.kind Decl) || b) (sym (encloses-after x.unit c rs)) ∙ e)
  fits-after c (Operators x types) rs k = tt

  all-fit-after : (c : UseClause) (cs : List UseClause) (rs : List Region) → All (FitsIn rs) cs → All (FitsIn (with_clause c rs)) cs
  all-fit-after c [] rs k = tt
  all-fit-after c (d ∷ cs) rs k = (fits-after c d rs k.0, all-fit-after c cs rs k.1)

  pub clauses-ok : (cs : List UseClause) (rs : List Region) → All (FitsIn rs) cs → All RegionOk rs → All RegionOk (with_clauses cs rs)
  clauses-ok [] rs k a = a
  clauses-ok (c ∷ cs) rs k a = clauses-ok cs (with_clause c rs) (all-fit-after c cs rs k.1) (clause-ok c rs k.0 a)

  all-fit : (cs : List UseClause) (rs : List Region) → All Always cs → All (FitsIn rs) cs
  all-fit [] rs k = tt
  all-fit (c ∷ cs) rs k = (k.0 rs, all-fit cs rs k.1)

  part-kept : (x : Symbol) (p : UnitPart) → MayPart p → (rs : List Region) → All RegionOk rs → All RegionOk (with_part x p rs)
  part-kept x p k [] a = tt
  part-kept x p k (r ∷ rs) a = one_of (All RegionOk) (is_region_of x r) _ _ ((all-append MayPart r.parts (p ∷ []) a.0.0 (k, tt), a.0.1), a.1) (a.0, part-kept x p k rs a.1)

  part-of-kept : (o : Option Symbol) (p : UnitPart) → MayPart p → (rs : List Region) → All RegionOk rs → All RegionOk (with_part_of o p rs)
  part-of-kept None p k rs a = a
  part-of-kept (Some x) p k rs a = part-kept x p k rs a

  -- packages that are mentioned may be asked
  abbrev pub KP : List UnitKey → Type 0
  KP ps = (u : UnitKey) → has_unit ps u ≡ true → Known u × Known (package_unit u.name)

  -- ---- names of the text

  pub simple-ok : (x : ExpressionTree) → All Q (simple_tokens x) → All Q (expression_tokens x)
  simple-ok x w = of-placed Q MayName spells (stands SimpleLevel x) (expression_tokens x) w

  name-ok : (x : ExpressionTree) → All Q (name_tokens x) → All Q (expression_tokens x)
  name-ok x w = of-placed Q MayName spells (stands NameLevel x) (expression_tokens x) w

  selectors-may : (key : List ℕ) (ls : List Label) → All Q (tokens_after symbols.Dot ls) → All (May Q MayName spells) (selector_names key ls)
  selectors-may key [] w = tt
  selectors-may key (l ∷ ls) w = (spells.identifier l w.1.0, selectors-may (Rattle.al_overload_lookup.specs.Keys.dotted key l.text) ls w.1.1)

  pub look : (ps : List UnitKey) → KP ps → (p : Place) → P p → (n : CompoundNameTree) → All Q (compound_tokens n) → looked_up_all t p ps (identifier_names n.first n.selectors) ≡ looked_up_all s p ps (identifier_names n.first n.selectors)
  look ps k p a n w = names.all-looked-up-same MayPart MayName t s named p a ps (λ x e. (k x.unit e).0) (identifier_names n.first n.selectors) (spells.identifier n.first w.0, selectors-may n.first.text n.selectors w.1)

  pub seen : (p : Place) → P p → (x : SubtypeView) → subtype_seen_at t p x ≡ subtype_seen_at s p x
  unfolding subtype_seen_at
  seen p a x = ap (λ r. subtype_recast r x) (names.views-same MayPart MayName t s named p a x.types)

  pub denote : (ps : List UnitKey) → KP ps → (p : Place) → P p → (x : ExpressionTree) → All Q (expression_tokens x) → denoted (names_at t p ps x) ≡ denoted (names_at s p ps x)
  denote ps k p a x w = ap denoted (names.names-same MayPart MayName t s named p a ps (λ y e. (k y.unit e).0) x (names-may Q MayName spells x w))

  -- units that enclose the place: each use clause that is told with a part of one opens what may be asked, and the private types that it names may be asked for
  module _ (Near : UnitKey → Type 0) (near : (u : UnitKey) → Near u → Known u) (told : (p : UnitPart) → Near p.unit → All Always (part_uses t p))
      (types : (p : UnitPart) → Near p.unit → All MayName (told_types t p)) where
    abbrev near-alike : (u : UnitKey) (p : Property) → starts.is_plain p ≡ true → Near u → t (Of u p) ≡ s (Of u p)
    near-alike u p q k = alike u p q (near u k)

    abbrev NearPart : UnitPart → Type 0
    NearPart p = Near p.unit

    parts-known : (ps : List UnitPart) → All NearPart ps → All MayPart ps
    parts-known [] k = tt
    parts-known (p ∷ ps) k = (near p.unit k.0, parts-known ps k.1)

    outward-ok : (b : Bool) (us : List UnitKey) (rs : List Region) → All Near us → All RegionOk rs → All RegionOk (outward_opened t b us rs)
    outward-ok b [] rs k a = a
    outward-ok b (u ∷ us) rs k a =
        let p = part_of u part.Private in
        outward-ok b us _ k.1 (one_of (All RegionOk) (b || some_private t us) rs (opened t u rs) a (clauses-ok (part_uses t p) _ (all-fit (part_uses t p) (with_part_of (symbol_at t u) p rs) (told p k.0)) (part-of-kept (symbol_at t u) p (near u k.0) rs a)))

    -- the regions at the start fit
    continued-ok : (c : Option Symbol) (ps us : List UnitPart) (rs : List Region) → All MayPart ps → All NearPart us → All RegionOk rs → All RegionOk (continued t c ps us rs)
    continued-ok c ps us rs k l a =
        let next_regions : List Region = in_last (with_private_types (flat_map (told_types t) us)) (rs ++ entered_as c ps rs ∷ []) in
        let entered = all-append RegionOk rs (entered_as c ps rs ∷ []) a ((k, (places.uses-of MayPart MayName t s named rs a, tt)), tt) in
        let telling = last-ok (with_private_types (flat_map (told_types t) us)) (λ r m. (m.0, (m.1.0, all-flat NearPart MayName (told_types t) types us l))) (rs ++ entered_as c ps rs ∷ []) entered in
        clauses-ok (flat_map (part_uses t) us) next_regions (all-fit (flat_map (part_uses t) us) next_regions (all-flat NearPart Always (part_uses t) told us l)) telling

    inward-ok : (b : Bool) (us : List UnitKey) (rs : List Region) → All Near us → All RegionOk rs → All RegionOk (inward t b us rs)
    inward-ok b [] rs k a = a
    inward-ok b (u ∷ us) rs k a =
        let ps = declaration_parts u (b || some_private t us) in
        let kp = starts.declaration-known Near t s near-alike u (b || some_private t us) k.0 in
        inward-ok b us (continued t (symbol_at t u) ps ps rs) k.1 (continued-ok (symbol_at t u) ps ps rs (parts-known ps kp) kp a)

    at-stubs-ok : (ps : List UnitPart) (rs : List Region) → All (starts.StubKnown Near t s near-alike) ps → All RegionOk rs → All RegionOk (at_stubs t ps rs)
    at-stubs-ok [] rs k a = a
    at-stubs-ok (p ∷ ps) rs k a =
        let v = view_at t p.unit in
        let b = is_package_view v in
        let d = all-left Near (own_declaration p.unit) (p.unit ∷ []) k.0 in
        let u = (all-right Near (own_declaration p.unit) (p.unit ∷ []) k.0).0 in
        let parts = all-append NearPart (own_parts p.unit b) (p ∷ []) (starts.own-parts-known Near t s near-alike p.unit b d) (u, tt) in
        at-stubs-ok ps (at_stub t p v rs) k.1 (continued-ok (view_symbol v) (own_parts p.unit b ++ p ∷ []) (own_uses p.unit b ++ p ∷ []) rs
        (parts-known (own_parts p.unit b ++ p ∷ []) parts) (all-append NearPart (own_uses p.unit b) (p ∷ []) (starts.own-uses-known Near t s near-alike p.unit b d) (u, tt)) a)

    abbrev pub KO : OwnText → Type 0
    KO own = starts.RoundKnown Near t s near-alike own

    pub start-fits : (own : OwnText) → KO own → Known standard_unit → All Always own.uses → All RegionOk (unit_regions t own [])
    start-fits own k std cs =
        let first : List Region = entered_as (Some standard_symbol) standard_parts [] ∷ [] in
        let in_ = inward t (sees_at t own) (ancestor_units (library_name own)) first in
        let parts = starts.own-parts-known Near t s near-alike own.unit own.is_package k.declaration in
        let regions : List Region = continued t (Some own.symbol) (own_parts own.unit own.is_package) (own_uses own.unit own.is_package) (at_stubs t own.stubs in_) in
        clauses-ok own.uses regions (all-fit own.uses regions cs) (continued-ok (Some own.symbol) (own_parts own.unit own.is_package) (own_uses own.unit own.is_package) (at_stubs t own.stubs in_) (parts-known (own_parts own.unit own.is_package) parts) (starts.own-uses-known Near t s near-alike own.unit own.is_package k.declaration)
        (at-stubs-ok own.stubs in_ k.stubs (inward-ok (sees_at t own) (ancestor_units (library_name own)) first k.ancestors (((std, tt), (tt, tt)), tt))))

    privates : (own : OwnText) → KO own → (p : Place) → P p → (private_regions t own p.regions ≡ private_regions s own p.regions) × P (in_regions p (private_regions t own p.regions))
    privates own k p a = (starts.private-regions-same Near t s near-alike own p.regions k, outward-ok (sees_at t own) (ancestor_units (library_name own)) p.regions k.ancestors a)

    module _ (predefined : (name : List ℕ) → is_without_file name ≡ true → Known (package_unit name)) where
      opened-fits : (rs : List Region) (c : UseClause) → uses.Opened Known predefined rs c → FitsIn rs c
      opened-fits rs (Package u) k = λ e. k
      opened-fits rs («Type» x) (inl i) = λ e. absurd (true≢false (sym i ∙ e))
      opened-fits rs («Type» x) (inr k) = λ e. k
      opened-fits rs (Operators x types) k = tt

      all-opened-fit : (rs : List Region) (cs : List UseClause) → All (uses.Opened Known predefined rs) cs → All (FitsIn rs) cs
      all-opened-fit rs [] k = tt
      all-opened-fit rs (c ∷ cs) k = (opened-fits rs c k.0, all-opened-fit rs cs k.1)

      opens : (ps : List UnitKey) → KP ps → (p : Place) → P p → (u : UseTree) → P (in_regions p (used_in (clauses_at t p ps u) p.regions))
      opens ps k p a u = at (clauses_at t p ps u) (uses.uses-opened Known predefined t ps k p u)
        where
          at : (r : Result (List UseClause) Fault) → uses.IfRight (All (uses.Opened Known predefined p.regions)) r → All RegionOk (used_in r p.regions)
          at (Ok cs) m = clauses-ok cs p.regions (all-opened-fit p.regions cs m) a
          at (Err f) m = a

      stays : Stays P
      stays = record {
        begun = λ p n a. last-ok _ (λ r m. m) p.regions a;
        declared = λ p name v a. last-ok _ (λ r m. m) p.regions a;
        region = λ p a. all-append RegionOk p.regions _ a ((tt, (places.uses-of MayPart MayName t s named p.regions a, tt)), tt);
      }

      moves : the_ada.Moves P
      moves = record {
        construct = λ p x a. all-append RegionOk p.regions _ a ((tt, (places.uses-of MayPart MayName t s named p.regions a, tt)), tt);
        left = λ p a. all-take RegionOk (length p.regions - 1) p.regions a;
        nowhere = tt;
        mentions = λ p m a. a;
      }

      abbrev pub Fits : CheckState → Type 0
      Fits h = P h.env.scope × (KP h.unit.packages × KO h.unit.own)

      -- the walk over the item of a unit
      pub walked-same : (h : CheckState) → Fits h → (x : LibraryItemTree) → All Q (library_item_tokens x) → unit_walked (ada t) h x ≡ unit_walked (ada s) h x
      unfolding ada
      walked-same h i x w =
          (walk.unit-same (ada t) (ada s) Fits Q
          (the_ada.ada-same Q MayName spells.identifier simple-ok name-ok t s P KP KO stays moves (λ name m p a. places.innermost-same MayPart MayName t s named p.mentioned name m p.regions a) denote look seen privates (λ ps k p a u w. opens ps k p a u))
          h i x w).0
