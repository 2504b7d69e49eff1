-- Which structures of the program are names.
use Rattle.std.proofs.Common.{◌≡◌, ℕ, List, [], ◌∷◌, ◌++◌, Option, Some, None, refl, sym, ap, map, ◌∙◌}
use Rattle.std.proofs.lemmas.List.{map-append}
use Rattle.std.specs.Option.{option_to_list}
use Rattle.std.specs.Prelude.{option_map}
use Rattle.al_tree_grammar.specs.Grammar.{Label}
use Rattle.al_tree_syntax.specs.ExpressionTrees.{ExpressionTree}
use Rattle.al_tree.specs.ExpressionViews.{expression_model, infix_model, longer_model, member_of, member_model, part_model, prefixed_model}
use Rattle.al_tree.specs.Lexemes.{place_label}
use Rattle.al_tree.specs.declared.expression.Infix.{Infix}
use Rattle.al_tree.specs.declared.expression.Longer.{Longer, out-Longer}
use Rattle.al_tree.specs.declared.expression.Member.{Member, out-Member}
use Rattle.al_tree.specs.declared.expression.Prefixed.{Prefixed}
use Rattle.al_overload_lookup.proofs.Fields.{infix_fields, longer_fields, member_fields, prefixed_fields}
use Rattle.al_overload_lookup.specs.Endings.{all_selected}
use Rattle.al_overload_lookup.specs.Keys.{dotted, key_of, key_with}
use Rattle.al_tree.specs.Lexemes.{identifier_label}
use Rattle.al_tree.specs.declared.names.Identifier.{Identifier}

pub longer_key : (n : Longer) → key_of (longer_model n) ≡ key_with (key_of (expression_model (out-Longer n).prefix)) (part_model (out-Longer n).part)
longer_key n = ap key_of (longer_fields n)

pub prefixed_key : (p : Prefixed) → key_of (prefixed_model p) ≡ None
prefixed_key p = ap key_of (prefixed_fields p)

pub infix_key : (i : Infix) → key_of (infix_model i) ≡ None
infix_key i = ap key_of (infix_fields i)

no_key : (s : ExpressionTree) (n : Option Label) (t : ExpressionTree) (u : Option ExpressionTree) → key_of (member_of s n t u) ≡ None
no_key s n t None = refl
no_key s n t (Some u) = refl

pub member_key : (m : Member) → key_of (member_model m) ≡ None
member_key m = ap key_of (member_fields m)
    ∙ no_key (expression_model (out-Member m).left) (option_map place_label (out-Member m).not) (expression_model (out-Member m).low) (option_map expression_model (out-Member m).high)

-- ---- a name with one more selector at its beginning

pub first_selected : (selectors : List Identifier) (selector : Identifier) (key : Option (List ℕ)) → all_selected (selectors ++ selector ∷ []) key ≡ all_selected selectors (option_map (λ k. dotted k (identifier_label selector).text) key)
first_selected [] selector key = refl
first_selected (s ∷ selectors) selector key = ap (option_map (λ k. dotted k (identifier_label s).text)) (first_selected selectors selector key)

pub none_selected : (selectors : List Identifier) → all_selected selectors None ≡ None
none_selected [] = refl
none_selected (s ∷ selectors) = ap (option_map (λ k. dotted k (identifier_label s).text)) (none_selected selectors)

-- ---- the entries of a list, each of which is a selector

-- a step down: one more selector
pub pushed_selected : {R : Type 0} (now : R → Identifier) (old new : List R) (s : R) (before rest whole : Option (List ℕ)) → new ≡ old ++ s ∷ [] → option_map (λ k. dotted k (identifier_label (now s)).text) before ≡ rest
    → all_selected (map now old) rest ≡ whole → all_selected (map now new) before ≡ whole
pushed_selected {R} now old new s before rest whole items step known =
    ap (λ (xs : List R). all_selected (map now xs) before) items
    ∙ ap (λ (xs : List Identifier). all_selected xs before) (map-append now old (s ∷ []))
    ∙ first_selected (map now old) (now s) before
    ∙ ap (all_selected (map now old)) step
    ∙ known

-- a step up: the next selector is put after the key
pub popped_selected : {R : Type 0} (now : R → Identifier) (old new : List R) (o : Option R) (s : R) (key next : List ℕ) (whole : Option (List ℕ)) → old ≡ new ++ option_to_list o → o ≡ Some s
    → next ≡ dotted key (identifier_label (now s)).text → all_selected (map now old) (Some key) ≡ whole → all_selected (map now new) (Some next) ≡ whole
popped_selected {R} now old new o s key next whole items is step known =
    ap (λ (k : List ℕ). all_selected (map now new) (Some k)) step
    ∙ sym (first_selected (map now new) (now s) (Some key))
    ∙ ap (λ (xs : List Identifier). all_selected xs (Some key)) (sym (map-append now new (s ∷ [])))
    ∙ ap (λ (xs : List R). all_selected (map now xs) (Some key)) (sym (items ∙ ap (λ (x : Option R). new ++ option_to_list x) is))
    ∙ known
