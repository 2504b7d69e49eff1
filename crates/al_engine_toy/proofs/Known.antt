-- The units that are known to a check of the toy checker.
use Rattle.std.proofs.Common.{◌≡◌, ℕ, Bool, true, false, ◌&&◌, ◌||◌, not, if◌then◌else◌, List, [], ◌∷◌, ◌++◌, Option, Some, None, map, cond, refl, sym, ap, subst, ◌∙◌}
use Rattle.std.specs.List.{Contains, flat_map}
use Rattle.std.specs.Option.{option_map_or}
use Rattle.std.specs.Str.{bytes_eq}
use Rattle.std.proofs.lemmas.List.Elements.{Contains-append_left, Contains-append_right}
use Rattle.std.proofs.lemmas.Slice.Eq.{bytes_eq-Decides}
use Rattle.al_base.specs.declared.unit_key.UnitKey.{UnitKey}
use Rattle.al_base_graph.proofs.Members.{first, later, one}
use Rattle.al_unit_graph.specs.Headers.{Header, Mention, is_library_body, is_subprogram_body}
use Rattle.al_unit_graph.specs.Names.{ancestors, lineage}
use Rattle.al_unit_graph.specs.Names.{parent_of as parent_of_name}
use Rattle.al_unit_graph.specs.declared.header.UnitForm.{UnitForm}
use Rattle.al_unit_graph.specs.declared.header.UnitForm.TheVariants as form
use Rattle.al_view.specs.Symbols.{same_unit}
use Rattle.al_query.specs.Answers.{declaration, parent_of, units_named}
use Rattle.al_query.specs.Known.{has_unit, learned, predefined_units}
use Rattle.al_query.specs.declared.answer.AnswerKind.{AnswerKind}
use Rattle.al_query.specs.declared.answer.AnswerKind.TheVariants as answers
use Rattle.al_query.specs.declared.query.Property.TheVariants.{Parent}
use Rattle.al_query.specs.declared.query.Query.TheVariants.{Of}
use Rattle.al_query_outcome.specs.ReadsLaw.{named_by, own_names}
use Rattle.al_engine_toy.specs.Toys.{another, first_mentioned, first_named, header_in, header_of, is_body_of, words_from}

-- who is another unit
another_by : (unit d e : UnitKey) (b : Bool) → same_unit unit e ≡ b → cond b None (Some e) ≡ Some d → (e ≡ d) × (same_unit unit d ≡ false)
another_by unit d e true is same = absurd (cc)
another_by unit d e false is same = let one : e ≡ d = cc in (one, ap (same_unit unit) (sym one) ∙ is)

pub another_is : (unit : UnitKey) (o : Option UnitKey) (d : UnitKey) → another unit o ≡ Some d → (o ≡ Some d) × (same_unit unit d ≡ false)
another_is unit None d is = absurd (cc)
another_is unit (Some e) d is = let r = another_by unit d e (same_unit unit e) refl is in (ap Some r.0, r.1)

last_mapped : (n : List ℕ) (ns : List (List ℕ)) → Contains (map declaration (ns ++ n ∷ [])) (declaration n)
last_mapped n [] = one (declaration n)
last_mapped n (m ∷ ms) = later (declaration m) (map declaration (ms ++ n ∷ [])) (declaration n) (last_mapped n ms)

in_lineage : (n : List ℕ) → Contains (map declaration (lineage n)) (declaration n)
in_lineage n = last_mapped n (ancestors n)

in_mentions : (ms : List Mention) (d : UnitKey) → first_mentioned ms ≡ Some d → Contains (flat_map (λ m. map declaration (lineage m.name)) ms) d
in_mentions [] d is = absurd (cc)
in_mentions (m ∷ ms) d is =
    let same : declaration m.name ≡ d = cc in
    Contains-append_left (map declaration (lineage m.name)) (flat_map (λ m. map declaration (lineage m.name)) ms) d
    (subst (λ (x : UnitKey). Contains (map declaration (lineage m.name)) x) same (in_lineage m.name))

-- the first unit that is mentioned is named by the source
pub first_is_named : (unit : UnitKey) (h : Header) (d : UnitKey) → first_named unit h ≡ Some d → Contains (named_by h) d
unfolding named_by
first_is_named unit h d is =
    Contains-append_right (predefined_units ++ own_names h h.parent_body) (flat_map (λ m. map declaration (lineage m.name)) h.mentions) d (in_mentions h.mentions d (another_is unit (first_mentioned h.mentions) d is).0)

library_too : (f : UnitForm) → is_subprogram_body f ≡ true → is_library_body f ≡ true
library_too form.PackageDeclaration is = absurd (cc)
library_too form.SubprogramDeclaration is = absurd (cc)
library_too form.PackageBody is = refl
library_too form.SubprogramBody is = refl
library_too form.SubunitBody is = absurd (cc)

own_first : (h : Header) (n : List ℕ) → is_library_body h.form ≡ true → h.name ≡ n → Contains (own_names h None) (declaration n)
own_first h n is same =
    let named : Contains (if is_library_body h.form then declaration h.name ∷ [] else []) (declaration n) =
    subst (λ (b : Bool). Contains (if b then declaration h.name ∷ [] else []) (declaration n)) (sym is) (subst (λ (m : List ℕ). Contains (declaration m ∷ []) (declaration n)) (sym same) (one (declaration n))) in
    Contains-append_left (if is_library_body h.form then declaration h.name ∷ [] else []) (option_map_or (λ p. declaration p ∷ []) (parent_of_name h.name) []) (declaration n) named

both : (b c : Bool) → (b && c) ≡ true → (b ≡ true) × (c ≡ true)
both true c is = (refl, is)
both false c is = absurd (cc)

-- a body's declaration is named by its source
pub own_is_named : (h : Header) (n : List ℕ) → is_body_of h n ≡ true → h.parent_body ≡ None → Contains (named_by h) (declaration n)
unfolding named_by
own_is_named h n of none =
    let parts = both (is_subprogram_body h.form) (bytes_eq h.name n) of in
    let named = own_first h n (library_too h.form parts.0) ((bytes_eq-Decides h.name n).0 parts.1) in
    let rest = flat_map (λ m. map declaration (lineage m.name)) h.mentions in
    Contains-append_right predefined_units (own_names h h.parent_body ++ rest) (declaration n)
    (Contains-append_left (own_names h h.parent_body) rest (declaration n) (subst (λ (p : Option Mention). Contains (own_names h p) (declaration n)) (sym none) named))

-- no source of the toy names a parent body
no_parent_of : (form : ℕ) (names : List (List ℕ)) → (header_of form names).parent_body ≡ None
no_parent_of form [] = refl
no_parent_of form (n ∷ ns) = refl

pub no_parent_body : (text : List ℕ) → (header_in text).parent_body ≡ None
no_parent_body [] = refl
no_parent_body (a ∷ []) = refl
no_parent_body (a ∷ b ∷ rest) = no_parent_of a (words_from [] rest)

-- a parent that is answered is learned
pub parent_is_learned : (first : UnitKey) (a : AnswerKind) (p : UnitKey) → parent_of a ≡ Some p → Contains (learned (Of first Parent) a) p
unfolding units_named
parent_is_learned first (answers.Parent (Some q)) p is = let same : q ≡ p = cc in subst (λ (x : UnitKey). Contains (x ∷ []) p) (sym same) (one p)
parent_is_learned first (answers.Parent None) p is = absurd (cc)
parent_is_learned first answers.Nothing p is = absurd (cc)
parent_is_learned first (answers.Views views) p is = absurd (cc)
parent_is_learned first (answers.Kind view) p is = absurd (cc)
parent_is_learned first (answers.IsPrivate b) p is = absurd (cc)
parent_is_learned first (answers.Context c) p is = absurd (cc)
parent_is_learned first (answers.NeedsBody b) p is = absurd (cc)
parent_is_learned first (answers.Completions c) p is = absurd (cc)

-- a question of another unit
pub of_another : (unit d : UnitKey) (b : Bool) → has_unit predefined_units d ≡ b → same_unit unit d ≡ false → (b || not (same_unit unit d)) ≡ true
of_another unit d true is apart = refl
of_another unit d false is apart = ap not apart
