-- What a result completes that was tested.
use Rattle.std.proofs.Common.{◌≡◌, Bool, true, false, ◌&&◌, ◌||◌, not, ◌⊎◌, inl, inr, ℕ, List, Option, Some, None, refl, sym, subst, if◌then◌else◌}
use Rattle.std.specs.List.{Contains, flat_map, list_all, list_any}
use Rattle.std.specs.Option.{is_none}
use Rattle.std.specs.Str.{bytes_eq}
use Rattle.std.proofs.lemmas.Slice.Eq.{bytes_eq-Decides}
use Rattle.al_base.specs.declared.unit_key.UnitKey.{UnitKey}
use Rattle.al_base.specs.declared.unit_key.UnitKind.{UnitKind}
use Rattle.al_base.specs.declared.unit_key.UnitKind.TheVariants.{Decl, Body, Sub}
use Rattle.al_base_graph.proofs.Members.{any_from}
use Rattle.al_unit_graph.specs.Headers.{Header}
use Rattle.al_unit_graph.proofs.Lists.{from_filter, into_filter}
use Rattle.al_view.specs.Interfaces.{views_of}
use Rattle.al_view.specs.Symbols.{same_kind}
use Rattle.al_view.specs.ViewUses.{link, view_uses}
use Rattle.al_view.specs.declared.link.LinkKind.TheVariants.{Code}
use Rattle.al_view.specs.declared.link.LinkSymbol.{LinkSymbol}
use Rattle.al_view.specs.declared.part.Part.TheVariants.{Stub}
use Rattle.al_query.specs.Answers.{declaration, own_view_of}
use Rattle.al_query.specs.Reads.{Table}
use Rattle.al_query.specs.declared.query.Property.TheVariants.{Kind}
use Rattle.al_query.specs.declared.query.Query.TheVariants.{Of}
use Rattle.al_view_typed.specs.UnitTrees.{UnitTree}
use Rattle.al_view_typed.specs.Uses.{unit_defines}
use Rattle.al_query_outcome.specs.Defines.{DeclaresItself, DefinesParts, IsAccounted, IsStubs, IsToldStub, is_simple}
use Rattle.al_query_outcome.specs.Left.{first_view, is_of_body, left_by, left_to, one_view, own_code, separate, views_left}
use Rattle.al_query_outcome.specs.Results.{Faulty, Sound}
use Rattle.al_query_outcome.specs.Tables.{part_of}
use Rattle.al_query_outcome.specs.declared.interface.StubDeclarations.{StubDeclarations}
use Rattle.al_query_outcome.specs.declared.interface.UnitInterface.{UnitInterface}
use Rattle.al_query_outcome.proofs.Members.{all-at}
use Rattle.al_check_promises.specs.Links.{is_among}
use Rattle.al_check_promises.specs.Laws.{PartsAreCompleted}
use Rattle.al_check_promises.specs.SelfChecks.{accounted, completing, declares_itself, defined, has_main, is_complete, is_completed, is_kept, is_told_stub, leaves_rightly, left_shown, not_checked, self_checked}
use Rattle.al_check_promises.proofs.Kept.{accounted_is, defined_is}
use Rattle.al_check_promises.proofs.Used.{among-contains, both}

kind_one : (k l : UnitKind) → same_kind k l ≡ true → k ≡ l
kind_one Decl Decl h = refl
kind_one Body Body h = refl
kind_one Sub Sub h = refl
kind_one Decl Body h = absurd (cc)
kind_one Decl Sub h = absurd (cc)
kind_one Body Decl h = absurd (cc)
kind_one Body Sub h = absurd (cc)
kind_one Sub Decl h = absurd (cc)
kind_one Sub Body h = absurd (cc)

kind_self : (k l : UnitKind) → k ≡ l → same_kind k l ≡ true
kind_self Decl l is = subst (λ (m : UnitKind). same_kind Decl m ≡ true) is refl
kind_self Body l is = subst (λ (m : UnitKind). same_kind Body m ≡ true) is refl
kind_self Sub l is = subst (λ (m : UnitKind). same_kind Sub m ≡ true) is refl

or_cases : (a b : Bool) → (a || b) ≡ true → (a ≡ true) ⊎ (b ≡ true)
or_cases true b h = inl refl
or_cases false b h = inr h

not_both : (b : Bool) → b ≡ true → not b ≡ true → ⊥
not_both true h k = cc
not_both false h k = cc

-- if the first doesn't hold, the second does
unless : (a b : Bool) → a ≡ true → (not a || b) ≡ true → b ≡ true
unless true b h k = k
unless false b h k = absurd (cc)

and_true : (a b : Bool) → a ≡ true → b ≡ true → (a && b) ≡ true
and_true true b h k = k
and_true false b h k = absurd (cc)

or_left : (a b : Bool) → a ≡ true → (a || b) ≡ true
or_left true b h = refl
or_left false b h = absurd (cc)

or_right : (a b : Bool) → b ≡ true → (a || b) ≡ true
or_right true b h = refl
or_right false b h = h

none_is : {X : Type 0} (o : Option X) → o ≡ None → is_none o ≡ true
none_is None is = refl
none_is (Some x) is = absurd (cc)

itself_told : (unit : UnitKey) (t : Table) → DeclaresItself unit t → declares_itself unit t ≡ true
itself_told unit t (inl is) = or_left (same_kind unit.kind Decl) (same_kind unit.kind Body && is_none (own_view_of (t (Of (declaration unit.name) Kind)))) (kind_self unit.kind Decl is)
itself_told unit t (inr is) =
    or_right (same_kind unit.kind Decl) (same_kind unit.kind Body && is_none (own_view_of (t (Of (declaration unit.name) Kind))))
    (and_true (same_kind unit.kind Body) (is_none (own_view_of (t (Of (declaration unit.name) Kind)))) (kind_self unit.kind Body is.0) (none_is (own_view_of (t (Of (declaration unit.name) Kind))) is.1))

module _ (unit : UnitKey) (h : Header) (t : Table) (i : UnitInterface) (tree : UnitTree) where
  left_rightly : leaves_rightly unit h i ≡ true → (x : LinkSymbol) → Contains (left_by i.properties.completions) x → (unit.kind ≡ Decl) × (h.needs_body ≡ true)
  left_rightly answered x c =
      let of_body = from_filter (λ (y : LinkSymbol). is_of_body y.kind) (left_shown i) x c in
      elim (or_cases (same_kind unit.kind Decl && h.needs_body) (list_all (λ y. not (is_of_body y.kind)) (left_shown i)) answered) as (λ _. (unit.kind ≡ Decl) × (h.needs_body ≡ true)) [
        | inl needs ↦ let two = both (same_kind unit.kind Decl) h.needs_body needs in (kind_one unit.kind Decl two.0, two.1)
        | inr none ↦ absurd (not_both (is_of_body x.kind) of_body.1 (all-at (λ (y : LinkSymbol). not (is_of_body y.kind)) (left_shown i) x none of_body.0))
      ]

  completed_by : (b : Bool) → same_kind unit.kind Body ≡ b → (x : LinkSymbol) → Contains (if b then defined i tree else unit_defines tree) x → Contains (unit_defines tree) x ⊎ ((unit.kind ≡ Body) × IsStubs i x)
  completed_by true is x c =
      elim (defined_is i tree x c) as (λ _. Contains (unit_defines tree) x ⊎ ((unit.kind ≡ Body) × IsStubs i x)) [
        | inl d ↦ inl d
        | inr s ↦ inr (kind_one unit.kind Body is, s)
      ]
  completed_by false is x c = inl c

  completed : list_all (is_completed (completing unit i tree)) (flat_map view_uses (views_left unit.kind unit.name t)) ≡ true → (x : LinkSymbol) → Contains (left_to unit t) x → Contains (unit_defines tree) x ⊎ ((unit.kind ≡ Body) × IsStubs i x)
  completed answered x c =
      let seen = flat_map view_uses (views_left unit.kind unit.name t) in
      let of_body = from_filter (λ (y : LinkSymbol). is_of_body y.kind) seen x c in
      let is = unless (is_of_body x.kind) (is_among (completing unit i tree) x) of_body.1 (all-at (is_completed (completing unit i tree)) seen x answered of_body.0) in
      completed_by (same_kind unit.kind Body) refl x (among-contains (completing unit i tree) x is)

  stub_told : (s : StubDeclarations) → is_told_stub unit h i s ≡ true → IsToldStub unit h i s
  stub_told s answered =
      let seen = flat_map view_uses (one_view (first_view (views_of (part_of i.parts (Stub s.stub)) separate))) in
      let a = both (not (same_kind unit.kind Decl)) _ answered in
      let b = both (list_any (bytes_eq s.stub) h.stubs) _ a.1 in
      let c = both (is_simple s.stub) (is_among seen (link Code s.symbol)) b.1 in
      let name = any_from (bytes_eq s.stub) h.stubs b.0 in
      record {
        inside = λ is. not_both (same_kind unit.kind Decl) (kind_self unit.kind Decl is) a.0;
        named = subst (λ (n : List ℕ). Contains h.stubs n) (sym ((bytes_eq-Decides s.stub name.0).0 name.2)) name.1;
        simple = c.0;
        answered = into_filter (λ (y : LinkSymbol). is_of_body y.kind) seen (link Code s.symbol) (among-contains seen (link Code s.symbol) c.1) refl;
      }

  main_told : has_main unit h (declares_itself unit t) i tree ≡ true → h.is_parameterless_procedure ≡ true → DeclaresItself unit t → IsAccounted i tree (own_code unit)
  main_told answered fits declares =
      let so = and_true h.is_parameterless_procedure (declares_itself unit t) fits (itself_told unit t declares) in
      accounted_is i tree (own_code unit) (λ c other. absurd (cc)) (unless (h.is_parameterless_procedure && declares_itself unit t) (is_among (accounted i tree) (own_code unit)) so answered)

pub parts_completed : PartsAreCompleted
unfolding self_checked is_complete
parts_completed unit h t shown i tree = at (is_kept unit shown i tree) (is_complete unit h (views_left unit.kind unit.name t) (declares_itself unit t) i tree) refl
  where
    at : (k c : Bool) → is_complete unit h (views_left unit.kind unit.name t) (declares_itself unit t) i tree ≡ c → DefinesParts unit h t (if k && c then Sound i tree else Faulty (not_checked unit))
    at false c is = tt
    at true false is = tt
    at true true is =
        let a = both (leaves_rightly unit h i) _ is in
        let b = both (list_all (is_completed (completing unit i tree)) (flat_map view_uses (views_left unit.kind unit.name t))) _ a.1 in
        let c = both (list_all (is_told_stub unit h i) i.parts.stubs) (has_main unit h (declares_itself unit t) i tree) b.1 in
        record {
          left = left_rightly unit h t i tree a.0;
          completes = completed unit h t i tree b.0;
          stubs = λ s k. stub_told unit h t i tree s (all-at (is_told_stub unit h i) i.parts.stubs s c.0 k);
          main = main_told unit h t i tree c.1;
        }
