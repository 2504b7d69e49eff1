-- What recorded answers show.
use Rattle.std.proofs.Common.{◌≡◌, ℕ, inl, inr, Bool, true, false, ◌&&◌, List, [], ◌∷◌, ◌++◌, map, refl, sym, ap, subst, ◌∙◌, if◌then◌else◌}
use Rattle.std.specs.List.{Contains, flat_map, list_any}
use Rattle.std.specs.Str.{bytes_eq}
use Rattle.std.proofs.lemmas.List.Elements.{Contains-append_cases}
use Rattle.std.proofs.lemmas.Slice.Eq.{bytes_eq-Decides}
use Rattle.al_base.specs.declared.unit_key.UnitKey.{UnitKey}
use Rattle.al_base_graph.proofs.Members.{any_from, first, first_or_later, from_flat_map, into_flat_map, later, nowhere}
use Rattle.al_view.specs.declared.part.Part.{Part}
use Rattle.al_view.specs.declared.part.Part.TheVariants.{Visible, Private, Body, Stub}
use Rattle.al_view.specs.declared.view.ViewKind.{ViewKind}
use Rattle.al_query.specs.Known.{has_unit}
use Rattle.al_query.specs.Reads.{Agrees, Log, Table}
use Rattle.al_query.specs.declared.answer.AnswerKind.{AnswerKind}
use Rattle.al_query.specs.declared.query.Property.TheVariants as property
use Rattle.al_query.specs.declared.query.Query.{Query}
use Rattle.al_query.specs.declared.query.Query.TheVariants.{Named, Of}
use Rattle.al_query_outcome.proofs.Members.{has-contains}
use Rattle.al_check_bounded.specs.Questions.{AreShown, ShownViewsAreAnswered, answer_views, has_part, is_wanted, named_in, of_unit, parts_of, recorded_views, shown_by, shown_in, wanted_queries}
use Rattle.al_check_bounded.specs.declared.wanted.Wanted.{Wanted}

both : (a b : Bool) → (a && b) ≡ true → (a ≡ true) × (b ≡ true)
both true b h = (refl, h)
both false b h = absurd (cc)

in_map : {A B : Type 0} (f : A → B) (xs : List A) (x : A) → Contains xs x → Contains (map f xs) (f x)
in_map f [] x c = absurd (nowhere x c)
in_map f (y ∷ ys) x c =
    elim (first_or_later y ys x c) [
      | inl is ↦ subst (λ z. Contains (map f (y ∷ ys)) (f z)) is (first (f y) (map f ys))
      | inr k ↦ later (f y) (map f ys) (f x) (in_map f ys x k)
    ]

among : (names : List (List ℕ)) (n : List ℕ) → list_any (bytes_eq n) names ≡ true → Contains names n
among names n h =
    let r = any_from (bytes_eq n) names h in
    subst (λ (m : List ℕ). Contains names m) (sym ((bytes_eq-Decides n r.0).0 r.2)) r.1

-- a part that is wanted
part_in : (stubs : List (List ℕ)) (p : Part) → has_part stubs p ≡ true → Contains (parts_of stubs) p
part_in stubs Visible h = first Visible (Private ∷ Body ∷ map Stub stubs)
part_in stubs Private h = later Visible (Private ∷ Body ∷ map Stub stubs) Private (first Private (Body ∷ map Stub stubs))
part_in stubs Body h = later Visible (Private ∷ Body ∷ map Stub stubs) Body (later Private (Body ∷ map Stub stubs) Body (first Body (map Stub stubs)))
part_in stubs (Stub name) h =
    later Visible (Private ∷ Body ∷ map Stub stubs) (Stub name) (later Private (Body ∷ map Stub stubs) (Stub name)
    (later Body (map Stub stubs) (Stub name) (in_map Stub stubs name (among stubs name h))))

-- a question that is wanted is one of the list
wanted_in : (w : Wanted) (q : Query) → is_wanted w q ≡ true → Contains (wanted_queries w) q
unfolding wanted_queries
wanted_in w (Named unit part name) h =
    let one = both (has_unit w.units unit) (has_part w.stubs part && list_any (bytes_eq name) w.names) h in
    let two = both (has_part w.stubs part) (list_any (bytes_eq name) w.names) one.1 in
    let q = Named unit part name in
    let names = flat_map (named_in unit w.names) (parts_of w.stubs) in
    let there : Contains names q =
    into_flat_map (named_in unit w.names) (parts_of w.stubs) part q (part_in w.stubs part two.0) (in_map (Named unit part) w.names name (among w.names name two.1)) in
    into_flat_map (of_unit w) w.units unit q (has-contains w.units unit one.0)
    (later (Of unit property.Kind) (Of unit property.Completions ∷ names) q (later (Of unit property.Completions) names q there))
wanted_in w (Of unit property.Kind) h =
    let names = flat_map (named_in unit w.names) (parts_of w.stubs) in
    into_flat_map (of_unit w) w.units unit (Of unit property.Kind) (has-contains w.units unit h) (first (Of unit property.Kind) (Of unit property.Completions ∷ names))
wanted_in w (Of unit property.Completions) h =
    let names = flat_map (named_in unit w.names) (parts_of w.stubs) in
    into_flat_map (of_unit w) w.units unit (Of unit property.Completions) (has-contains w.units unit h)
    (later (Of unit property.Kind) (Of unit property.Completions ∷ names) (Of unit property.Completions) (first (Of unit property.Completions) names))
wanted_in w (Of unit _) h = absurd (cc)

-- an entry of a log that a table agrees with
agreed : (t : Table) (log : Log) (e : Query × AnswerKind) → Agrees t log → Contains log e → t e.0 ≡ e.1
agreed t [] e a c = absurd (nowhere e c)
agreed t (x ∷ xs) e a c =
    elim (first_or_later x xs e c) [
      | inl is ↦ subst (λ (y : Query × AnswerKind). t y.0 ≡ y.1) is a.0
      | inr k ↦ agreed t xs e a.1 k
    ]

pub shown : (w : Wanted) (log : Log) → AreShown w log (recorded_views w log)
unfolding shown_by
shown w log t a v c =
    let r = from_flat_map (shown_in w) log v c in
    by r.0 (agreed t log r.0 a r.1) (is_wanted w r.0.0) refl r.2
  where
    by : (e : Query × AnswerKind) → t e.0 ≡ e.1 → (b : Bool) → is_wanted w e.0 ≡ b → Contains (if b then answer_views e.1 else []) v → Contains (flat_map (λ q. answer_views (t q)) (wanted_queries w)) v
    by e same true is k =
        into_flat_map (λ q. answer_views (t q)) (wanted_queries w) e.0 v (wanted_in w e.0 is) (subst (λ (x : AnswerKind). Contains (answer_views x) v) (sym same) k)
    by e same false is k = absurd (nowhere v k)

pub answered : ShownViewsAreAnswered
unfolding shown_by
answered w t v c = let r = from_flat_map (λ q. answer_views (t q)) (wanted_queries w) v c in (r.0, r.2)
