-- What may be asked is left to a unit by a table as it is within bounds.
use Rattle.std.proofs.Common.{◌≡◌, ◌∙◌, ℕ, Bool, true, false, ◌&&◌, ◌||◌, List, [], Option, Some, None, if◌then◌else◌, is_some, refl, sym, ap, subst}
use Rattle.std.specs.Option.{is_none, option_map_or}
use Rattle.al_base.specs.declared.unit_key.UnitKey.{UnitKey}
use Rattle.al_base.specs.declared.unit_key.UnitKind.{UnitKind}
use Rattle.al_base.specs.declared.unit_key.UnitKind.TheVariants.{Decl, Body, Sub}
use Rattle.al_unit_graph.specs.Headers.{Header}
use Rattle.al_unit_graph.specs.Names.{parent_of}
use Rattle.al_view.specs.Symbols.{same_kind}
use Rattle.al_view.specs.declared.part.Part.TheVariants.{Stub}
use Rattle.al_view.specs.declared.view.ViewKind.{ViewKind}
use Rattle.al_view.proofs.SymbolLemmas.{both}
use Rattle.al_query.specs.Answers.{declaration, own_view_of, views_of}
use Rattle.al_query.specs.Known.{body}
use Rattle.al_query.specs.Reads.{Table}
use Rattle.al_query.specs.declared.answer.AnswerKind.{AnswerKind}
use Rattle.al_query.specs.declared.query.Property.TheVariants.{Completions, Kind}
use Rattle.al_query.specs.declared.query.Query.TheVariants.{Named, Of}
use Rattle.al_view_typed.specs.UnitTrees.{UnitTree}
use Rattle.al_query_outcome.specs.Defines.{DefinesParts}
use Rattle.al_query_outcome.specs.Left.{body_named, completed_views, first_view, last_of, one_view, separate, stub_view, views_left}
use Rattle.al_query_outcome.specs.ReadsLaw.{subunit}
use Rattle.al_query_outcome.specs.Results.{Faulty, Sound}
use Rattle.al_query_outcome.specs.declared.interface.UnitInterface.{UnitInterface}
use Rattle.al_check_bounded.specs.Bounding.{bounded, may_ask}
use Rattle.al_check_bounded.specs.declared.bounds.Bounds.{Bounds}
use Rattle.al_check_bounded.proofs.BoundLemmas.{bounded-asked}
use Rattle.al_check_promises.specs.Laws.{PartsAreCompleted}
use Rattle.al_check_promises.specs.SelfChecks.{declares_itself, is_complete, is_kept, not_checked, self_checked}
use Rattle.al_check_bounded.specs.LeftHere.{completed_by, learns, learns_as, learns_in}

module _ (b : Bounds) (t : Table) where
  stub_same : (p n : List ℕ) → learns_in b p n (bounded b t) ≡ true → stub_view (bounded b t) n p ≡ stub_view t n p
  stub_same p n h =
      let two = both (may_ask b (Of (body p) Kind)) (may_ask b (Named (body_named (bounded b t) p) (Stub (last_of n)) separate)) h in
      let named : body_named (bounded b t) p ≡ body_named t p = ap (λ (a : AnswerKind). if is_some (own_view_of a) then body p else subunit p) (bounded-asked b (Of (body p) Kind) t two.0) in
      ap (λ (a : AnswerKind). first_view (views_of a)) (bounded-asked b (Named (body_named (bounded b t) p) (Stub (last_of n)) separate) t two.1)
      ∙ ap (λ (u : UnitKey). first_view (views_of (t (Named u (Stub (last_of n)) separate)))) named

  stubs_same : (n : List ℕ) (o : Option (List ℕ)) → option_map_or (λ (p : List ℕ). learns_in b p n (bounded b t)) o true ≡ true → option_map_or (λ (p : List ℕ). one_view (stub_view (bounded b t) n p)) o [] ≡ option_map_or (λ (p : List ℕ). one_view (stub_view t n p)) o []
  stubs_same n None h = refl
  stubs_same n (Some p) h = ap one_view (stub_same p n h)

  views_same : (k : UnitKind) (n : List ℕ) → learns_as b k n (bounded b t) ≡ true → views_left k n (bounded b t) ≡ views_left k n t
  views_same Decl n h = refl
  views_same Body n h =
      let two = both (may_ask b (Of (declaration n) Completions)) (may_ask b (Of (declaration n) Kind)) h in
      ap completed_views (bounded-asked b (Of (declaration n) Completions) t two.0)
  views_same Sub n h = stubs_same n (parent_of n) h

  declares_same : (k : UnitKind) (n : List ℕ) → learns_as b k n (bounded b t) ≡ true
      → (same_kind k Decl || (same_kind k Body && is_none (own_view_of (bounded b t (Of (declaration n) Kind))))) ≡ (same_kind k Decl || (same_kind k Body && is_none (own_view_of (t (Of (declaration n) Kind)))))
  declares_same Decl n h = refl
  declares_same Body n h =
      let two = both (may_ask b (Of (declaration n) Completions)) (may_ask b (Of (declaration n) Kind)) h in
      ap (λ (a : AnswerKind). is_none (own_view_of a)) (bounded-asked b (Of (declaration n) Kind) t two.1)
  declares_same Sub n h = refl

  module _ (h : Header) (shown : List ViewKind) (i : UnitInterface) (tree : UnitTree) (law : PartsAreCompleted) where
    untold : DefinesParts b.unit h t (self_checked b.unit shown false i tree)
    unfolding self_checked
    untold = at (is_kept b.unit shown i tree)
      where
        at : (k : Bool) → DefinesParts b.unit h t (if k && false then Sound i tree else Faulty (not_checked b.unit))
        at true = tt
        at false = tt

    -- so a unit whose test was passed within bounds completes what it must by every table
    pub completes_within : DefinesParts b.unit h t (self_checked b.unit shown (completed_by b h i tree (bounded b t)) i tree)
    unfolding completed_by
    completes_within = by (completed_by b h i tree (bounded b t)) refl
      where
        by : (c : Bool) → (learns b (bounded b t) && is_complete b.unit h (views_left b.unit.kind b.unit.name (bounded b t)) (declares_itself b.unit (bounded b t)) i tree) ≡ c → DefinesParts b.unit h t (self_checked b.unit shown c i tree)
        by false is = untold
        by true is =
            let two = both (learns b (bounded b t)) _ is in
            let views = views_same b.unit.kind b.unit.name two.0 in
            let declares = declares_same b.unit.kind b.unit.name two.0 in
            let names_answered : is_complete b.unit h (views_left b.unit.kind b.unit.name t) (declares_itself b.unit t) i tree ≡ true =
            sym (ap (λ (vs : List ViewKind). is_complete b.unit h vs (declares_itself b.unit (bounded b t)) i tree) views ∙ ap (λ (d : Bool). is_complete b.unit h (views_left b.unit.kind b.unit.name t) d i tree) declares) ∙ two.1 in
            subst (λ (c : Bool). DefinesParts b.unit h t (self_checked b.unit shown c i tree)) names_answered (law b.unit h t shown i tree)

-- what is left, what is learned and what was tested, put together
pub completed_is : (b : Bounds) (h : Header) (i : UnitInterface) (tree : UnitTree) (t : Table) (views : List ViewKind) (learned declares complete : Bool) → learned ≡ learns b t → views ≡ views_left b.unit.kind b.unit.name t
    → declares ≡ declares_itself b.unit t → complete ≡ is_complete b.unit h views declares i tree → (learned && complete) ≡ completed_by b h i tree t
unfolding completed_by
completed_is b h i tree t views learned declares complete l v d c =
    ap (λ (x : Bool). x && complete) l
    ∙ ap (λ (x : Bool). learns b t && x)
    (c ∙ ap (λ (vs : List ViewKind). is_complete b.unit h vs declares i tree) v ∙ ap (λ (x : Bool). is_complete b.unit h (views_left b.unit.kind b.unit.name t) x i tree) d)

-- what is left to a unit of that kind
pub of_kind : (b : Bounds) (t : Table) (k : UnitKind) (views : List ViewKind) (learned : Bool) → b.unit.kind ≡ k → (views ≡ views_left k b.unit.name t) × (learned ≡ learns_as b k b.unit.name t)
    → (views ≡ views_left b.unit.kind b.unit.name t) × (learned ≡ learns b t)
of_kind b t k views learned is a =
    (a.0 ∙ ap (λ (x : UnitKind). views_left x b.unit.name t) (sym is), a.1 ∙ ap (λ (x : UnitKind). learns_as b x b.unit.name t) (sym is))

-- what is left to a subunit with that parent, if it has one
pub in_parent : (b : Bounds) (t : Table) (o : Option (List ℕ)) (views : List ViewKind) (learned : Bool) → o ≡ parent_of b.unit.name
    → (views ≡ option_map_or (λ (p : List ℕ). one_view (stub_view t b.unit.name p)) o []) × (learned ≡ option_map_or (λ (p : List ℕ). learns_in b p b.unit.name t) o true)
    → (views ≡ views_left Sub b.unit.name t) × (learned ≡ learns_as b Sub b.unit.name t)
in_parent b t o views learned is a =
    (a.0 ∙ ap (λ (x : Option (List ℕ)). option_map_or (λ (p : List ℕ). one_view (stub_view t b.unit.name p)) x []) is, a.1 ∙ ap (λ (x : Option (List ℕ)). option_map_or (λ (p : List ℕ). learns_in b p b.unit.name t) x true) is)

-- whether a unit of that kind declares itself
pub declares_of : (b : Bounds) (t : Table) (k : UnitKind) (d : Bool) → b.unit.kind ≡ k → d ≡ (same_kind k Decl || (same_kind k Body && is_none (own_view_of (t (Of (declaration b.unit.name) Kind))))) → d ≡ declares_itself b.unit t
declares_of b t k d is e = e ∙ ap (λ (x : UnitKind). same_kind x Decl || (same_kind x Body && is_none (own_view_of (t (Of (declaration b.unit.name) Kind))))) (sym is)
