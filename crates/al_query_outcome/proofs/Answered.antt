-- What a unit without faults answers has nothing that its interface has not.
use Rattle.std.proofs.Common.{◌≡◌, ℕ, Bool, true, false, List, [], ◌∷◌, ◌++◌, Some, refl, subst, map, if◌then◌else◌}
use Rattle.std.specs.List.{Contains, find, flat_map}
use Rattle.std.specs.Option.{option_map}
use Rattle.std.specs.Prelude.{unwrap_or}
use Rattle.std.specs.Map.{lookup}
use Rattle.std.specs.Str.{bytes_eq}
use Rattle.std.proofs.lemmas.List.Elements.{Contains-append_left, Contains-append_right}
use Rattle.al_base_graph.proofs.Members.{first, later, nowhere, into_flat_map}
use Rattle.al_base.specs.declared.unit_key.UnitKey.{UnitKey}
use Rattle.al_view.specs.declared.link.LinkSymbol.{LinkSymbol}
use Rattle.al_view.specs.declared.part.Part.{Part}
use Rattle.al_view.specs.declared.part.Part.TheVariants as part
use Rattle.al_view.specs.declared.view.ViewKind.{ViewKind}
use Rattle.al_view.specs.Interfaces.{views_of}
use Rattle.al_view.specs.Named.{Declarations}
use Rattle.al_view.specs.ViewUses.{view_uses}
use Rattle.al_query.specs.Answers.{units_named}
use Rattle.al_query.specs.declared.answer.AnswerKind.{AnswerKind}
use Rattle.al_query.specs.declared.answer.AnswerKind.TheVariants as answers
use Rattle.al_query.specs.declared.query.Property.TheVariants as property
use Rattle.al_query.specs.declared.query.Query.{Query}
use Rattle.al_query.specs.declared.query.Query.TheVariants as query
use Rattle.al_view_typed.specs.UnitTrees.{UnitTree}
use Rattle.al_query_outcome.specs.Defines.{interface_uses}
use Rattle.al_query_outcome.specs.ReadsLaw.{answer_uses, declarations_of, outcome_units, property_answers}
use Rattle.al_query_outcome.specs.Results.{Sound}
use Rattle.al_query_outcome.specs.Tables.{answer_of, before_stub, part_of}
use Rattle.al_query_outcome.specs.declared.interface.StubDeclarations.{StubDeclarations}
use Rattle.al_query_outcome.specs.declared.interface.UnitInterface.{UnitInterface}

-- of what a view and an answer have, as units or symbols
module _ {X : Type 0} (of_view : ViewKind → List X) (of_answer : AnswerKind → List X) where
  abbrev declared : Declarations → List X
  declared ds = flat_map (λ e. flat_map of_view e.1) ds

  -- the views of one name are among those of all names
  named-in : (ds : Declarations) (name : List ℕ) (x : X) → Contains (flat_map of_view (views_of ds name)) x → Contains (declared ds) x
  named-in [] name x c = absurd (nowhere x c)
  named-in (d ∷ ds) name x c = at (bytes_eq name d.0) c (named-in ds name x)
    where
      at : (b : Bool) → Contains (flat_map of_view (unwrap_or (if b then Some d.1 else lookup (bytes_eq name) ds) [])) x → (Contains (flat_map of_view (views_of ds name)) x → Contains (declared ds) x) → Contains (flat_map of_view d.1 ++ declared ds) x
      at true c more = Contains-append_left (flat_map of_view d.1) (declared ds) x c
      at false c more = Contains-append_right (flat_map of_view d.1) (declared ds) x (more c)

  -- what stands before one stub is among what stands before all
  stub-in : (stubs : List StubDeclarations) (name : List ℕ) (x : X) → Contains (declared (unwrap_or (before_stub stubs name) [])) x → Contains (flat_map declared (map (λ s. s.before) stubs)) x
  stub-in [] name x c = absurd (nowhere x c)
  stub-in (t ∷ ts) name x c = at (bytes_eq t.stub name) c (stub-in ts name x)
    where
      at : (b : Bool) → Contains (declared (unwrap_or (option_map (λ (s : StubDeclarations). s.before) (if b then Some t else find (λ s. bytes_eq s.stub name) ts)) [])) x → (Contains (declared (unwrap_or (before_stub ts name) [])) x → Contains (flat_map declared (map (λ s. s.before) ts)) x) → Contains (declared t.before ++ flat_map declared (map (λ s. s.before) ts)) x
      at true c more = Contains-append_left (declared t.before) (flat_map declared (map (λ s. s.before) ts)) x c
      at false c more = Contains-append_right (declared t.before) (flat_map declared (map (λ s. s.before) ts)) x (more c)

  module _ (i : UnitInterface) where
    abbrev pub all_of : List X
    all_of = flat_map of_answer (property_answers i) ++ flat_map declared (declarations_of i)

    abbrev Rest : List Declarations
    Rest = map (λ (s : StubDeclarations). s.before) i.parts.stubs

    part-in : (p : Part) (x : X) → Contains (declared (part_of i.parts p)) x → Contains (flat_map declared (declarations_of i)) x
    part-in part.Visible x c = into_flat_map declared (declarations_of i) i.parts.visible x (first i.parts.visible (i.parts.private_part ∷ i.parts.body ∷ Rest)) c
    part-in part.Private x c = into_flat_map declared (declarations_of i) i.parts.private_part x (later i.parts.visible (i.parts.private_part ∷ i.parts.body ∷ Rest) i.parts.private_part (first i.parts.private_part (i.parts.body ∷ Rest))) c
    part-in part.Body x c = into_flat_map declared (declarations_of i) i.parts.body x (later i.parts.visible (i.parts.private_part ∷ i.parts.body ∷ Rest) i.parts.body (later i.parts.private_part (i.parts.body ∷ Rest) i.parts.body (first i.parts.body Rest))) c
    part-in (part.Stub name) x c =
        Contains-append_right (declared i.parts.visible) (declared i.parts.private_part ++ (declared i.parts.body ++ flat_map declared Rest)) x
        (Contains-append_right (declared i.parts.private_part) (declared i.parts.body ++ flat_map declared Rest) x
        (Contains-append_right (declared i.parts.body) (flat_map declared Rest) x (stub-in i.parts.stubs name x c)))

    -- one of the property's answers
    among : (a : AnswerKind) → Contains (property_answers i) a → (x : X) → Contains (of_answer a) x → Contains all_of x
    among a c x d = Contains-append_left (flat_map of_answer (property_answers i)) (flat_map declared (declarations_of i)) x (into_flat_map of_answer (property_answers i) a x c d)

    pub answered : ((vs : List ViewKind) → of_answer (answers.Views vs) ≡ flat_map of_view vs) → ((b : Bool) → of_answer (answers.IsPrivate b) ≡ []) → ((b : Bool) → of_answer (answers.NeedsBody b) ≡ [])
        → (q : Query) (x : X) → Contains (of_answer (answer_of i q)) x → Contains all_of x
    answered views private_ needs (query.Named unit p name) x c =
        Contains-append_right (flat_map of_answer (property_answers i)) (flat_map declared (declarations_of i)) x
        (part-in p x (named-in (part_of i.parts p) name x (subst (λ (l : List X). Contains l x) (views (views_of (part_of i.parts p) name)) c)))
    answered views private_ needs (query.Of unit property.Kind) x c = among (answers.Kind i.properties.kind) (first (answers.Kind i.properties.kind) (i.properties.parent ∷ i.properties.context ∷ i.properties.completions ∷ [])) x c
    answered views private_ needs (query.Of unit property.Parent) x c =
        among i.properties.parent (later (answers.Kind i.properties.kind) (i.properties.parent ∷ i.properties.context ∷ i.properties.completions ∷ []) i.properties.parent (first i.properties.parent (i.properties.context ∷ i.properties.completions ∷ []))) x c
    answered views private_ needs (query.Of unit property.IsPrivate) x c = absurd (nowhere x (subst (λ (l : List X). Contains l x) (private_ i.properties.is_private) c))
    answered views private_ needs (query.Of unit property.Context) x c =
        among i.properties.context (later (answers.Kind i.properties.kind) (i.properties.parent ∷ i.properties.context ∷ i.properties.completions ∷ []) i.properties.context (later i.properties.parent (i.properties.context ∷ i.properties.completions ∷ []) i.properties.context (first i.properties.context (i.properties.completions ∷ [])))) x c
    answered views private_ needs (query.Of unit property.NeedsBody) x c = absurd (nowhere x (subst (λ (l : List X). Contains l x) (needs i.properties.needs_body) c))
    answered views private_ needs (query.Of unit property.Completions) x c =
        among i.properties.completions (later (answers.Kind i.properties.kind) (i.properties.parent ∷ i.properties.context ∷ i.properties.completions ∷ []) i.properties.completions (later i.properties.parent (i.properties.context ∷ i.properties.completions ∷ []) i.properties.completions (later i.properties.context (i.properties.completions ∷ []) i.properties.completions (first i.properties.completions [])))) x c

-- an answer names no unit that the outcome doesn't
pub answer-named : (i : UnitInterface) (tree : UnitTree) (q : Query) (x : UnitKey) → Contains (units_named (answer_of i q)) x → Contains (outcome_units (Sound i tree)) x
unfolding outcome_units units_named
answer-named i tree (query.Named unit p name) x c = absurd (nowhere x c)
answer-named i tree (query.Of unit property.Kind) x c = absurd (nowhere x c)
answer-named i tree (query.Of unit property.Parent) x c = into_flat_map units_named (property_answers i) i.properties.parent x (later (answers.Kind i.properties.kind) (i.properties.parent ∷ i.properties.context ∷ i.properties.completions ∷ []) i.properties.parent (first i.properties.parent (i.properties.context ∷ i.properties.completions ∷ []))) c
answer-named i tree (query.Of unit property.IsPrivate) x c = absurd (nowhere x c)
answer-named i tree (query.Of unit property.Context) x c = into_flat_map units_named (property_answers i) i.properties.context x (later (answers.Kind i.properties.kind) (i.properties.parent ∷ i.properties.context ∷ i.properties.completions ∷ []) i.properties.context (later i.properties.parent (i.properties.context ∷ i.properties.completions ∷ []) i.properties.context (first i.properties.context (i.properties.completions ∷ [])))) c
answer-named i tree (query.Of unit property.NeedsBody) x c = absurd (nowhere x c)
answer-named i tree (query.Of unit property.Completions) x c = into_flat_map units_named (property_answers i) i.properties.completions x (later (answers.Kind i.properties.kind) (i.properties.parent ∷ i.properties.context ∷ i.properties.completions ∷ []) i.properties.completions (later i.properties.parent (i.properties.context ∷ i.properties.completions ∷ []) i.properties.completions (later i.properties.context (i.properties.completions ∷ []) i.properties.completions (first i.properties.completions [])))) c

-- an answer shows nothing that the interface doesn't
pub answer-uses : (i : UnitInterface) (q : Query) (x : LinkSymbol) → Contains (answer_uses (answer_of i q)) x → Contains (interface_uses i) x
unfolding interface_uses answer_uses
answer-uses i q x c = answered view_uses answer_uses i (λ vs. refl) (λ b. refl) (λ b. refl) q x c
