-- What begins with an operand or a name, with one more link at its beginning and without it.
use Rattle.std.proofs.Common.{◌≡◌, ℕ, ◌≤◌, true, false, List, [], ◌∷◌, ◌++◌, Option, Some, None, refl, sym, ap, subst, ◌∙◌, append_assoc, append-nil, arith}
use Rattle.std.specs.Option.{option_to_list}
use Rattle.std.specs.Prelude.{option_map}
use Rattle.al_tree_grammar.specs.Grammar.{Label}
use Rattle.al_overload_lookup.proofs.Fields.{infix_fields, longer_fields, member_fields, prefixed_fields}
use Rattle.al_overload_lookup.specs.Keys.{key_of}
use Rattle.al_overload_lookup.proofs.Found.{infix_names, longer_names, bounds_names, mark_names}
use Rattle.al_overload_lookup.specs.Chains.{AreBelow, AreWithin, IsBelow, IsLeft, chained_key, chained_names, leans, link_key, link_names, operation_names, test_names, tested_names}
use Rattle.al_overload_lookup.specs.TextNames.{names_in, part_names}
use Rattle.al_overload_lookup.specs.declared.chain.Link.{Link}
use Rattle.al_overload_lookup.specs.declared.chain.Link.TheVariants as links
use Rattle.al_overload_lookup.specs.declared.name.TextName.{TextName}
use Rattle.al_tree_syntax.specs.ExpressionTrees.{ExpressionTree}
use Rattle.al_tree.specs.ExpressionViews.{expression_model, infix_model, longer_model, member_of, member_model, part_model, prefixed_model}
use Rattle.al_tree.specs.Lexemes.{place_label}
use Rattle.al_tree.specs.declared.expression.Expression.{Expression, size-Expression}
use Rattle.al_tree.specs.declared.expression.Infix.{Infix, out-Infix}
use Rattle.al_tree.specs.declared.expression.Longer.{Longer, out-Longer}
use Rattle.al_tree.specs.declared.expression.Member.{Member, out-Member}
use Rattle.al_tree.specs.declared.expression.Prefixed.{Prefixed}

-- ---- which texts lean

pub longer_leans : (n : Longer) → leans (longer_model n) ≡ true
longer_leans n = ap leans (longer_fields n)

pub infix_leans : (i : Infix) → leans (infix_model i) ≡ true
infix_leans i = ap leans (infix_fields i)

member_of_leans : (s : ExpressionTree) (n : Option Label) (t : ExpressionTree) (u : Option ExpressionTree) → leans (member_of s n t u) ≡ true
member_of_leans s n t None = refl
member_of_leans s n t (Some u) = refl

pub member_leans : (m : Member) → leans (member_model m) ≡ true
member_leans m = ap leans (member_fields m)
    ∙ member_of_leans (expression_model (out-Member m).left) (option_map place_label (out-Member m).not) (expression_model (out-Member m).low) (option_map expression_model (out-Member m).high)

pub prefixed_leans : (p : Prefixed) → leans (prefixed_model p) ≡ false
prefixed_leans p = ap leans (prefixed_fields p)

-- ---- a text by its last link

pub longer_split : (n : Longer) → names_in (longer_model n) ≡ names_in (expression_model (out-Longer n).prefix) ++ part_names (key_of (expression_model (out-Longer n).prefix)) (part_model (out-Longer n).part)
longer_split n = longer_names n

pub infix_split : (i : Infix) → names_in (infix_model i) ≡ names_in (expression_model (out-Infix i).left) ++ operation_names i
infix_split i = infix_names i

pub member_split : (m : Member) → names_in (member_model m) ≡ names_in (expression_model (out-Member m).left) ++ test_names m
member_split m = at (out-Member m).high refl
  where
    left : List TextName
    left = names_in (expression_model (out-Member m).left)

    low : ExpressionTree
    low = expression_model (out-Member m).low

    at : (high : Option Expression) → (out-Member m).high ≡ high → names_in (member_model m) ≡ left ++ test_names m
    at None is = mark_names m is ∙ ap (λ (u : Option Expression). left ++ tested_names low (option_map expression_model u)) (sym is)
    at (Some high) is = bounds_names m high is ∙ ap (λ (u : Option Expression). left ++ tested_names low (option_map expression_model u)) (sym is)

-- ---- a list with one more link

last_keys : (key : Option (List ℕ)) (links : List Link) (link : Link) → chained_key key (links ++ link ∷ []) ≡ chained_key (link_key key link) links
last_keys key [] link = refl
last_keys key (x ∷ links) link = ap (λ (k : Option (List ℕ)). link_key k x) (last_keys key links link)

last_names : (key : Option (List ℕ)) (links : List Link) (link : Link) → chained_names key (links ++ link ∷ []) ≡ link_names key link ++ chained_names (link_key key link) links
last_names key [] link = sym (append-nil (link_names key link))
last_names key (x ∷ links) link =
    ap (λ (ns : List TextName). ns ++ link_names (chained_key key (links ++ link ∷ [])) x) (last_names key links link)
    ∙ ap (λ (k : Option (List ℕ)). (link_names key link ++ chained_names (link_key key link) links) ++ link_names k x) (last_keys key links link)
    ∙ append_assoc (link_names key link) (chained_names (link_key key link) links) (link_names (chained_key (link_key key link) links) x)

-- a step down
pub first_link : (links new : List Link) (link : Link) (rest left whole : List TextName) (key before : Option (List ℕ))
    → new ≡ links ++ link ∷ [] → rest ≡ left ++ link_names before link → key ≡ link_key before link → rest ++ chained_names key links ≡ whole → left ++ chained_names before new ≡ whole
first_link links new link rest left whole key before is step key_is known =
    ap (λ (ls : List Link). left ++ chained_names before ls) is
    ∙ ap (λ (ns : List TextName). left ++ ns) (last_names before links link)
    ∙ sym (append_assoc left (link_names before link) (chained_names (link_key before link) links))
    ∙ ap (λ (ns : List TextName). ns ++ chained_names (link_key before link) links) (sym step)
    ∙ ap (λ (k : Option (List ℕ)). rest ++ chained_names k links) (sym key_is)
    ∙ known

-- a step up: what was found so far, and the next link
next_link : (links old : List Link) (link : Link) (start found next whole : List TextName) (key after : Option (List ℕ))
    → old ≡ links ++ link ∷ [] → next ≡ found ++ link_names key link → after ≡ link_key key link → found ++ chained_names key old ≡ start ++ whole → next ++ chained_names after links ≡ start ++ whole
next_link links old link start found next whole key after is step key_is known =
    ap (λ (k : Option (List ℕ)). next ++ chained_names k links) key_is
    ∙ ap (λ (ns : List TextName). ns ++ chained_names (link_key key link) links) step
    ∙ append_assoc found (link_names key link) (chained_names (link_key key link) links)
    ∙ ap (λ (ns : List TextName). found ++ ns) (sym (last_names key links link))
    ∙ ap (λ (ls : List Link). found ++ chained_names key ls) (sym is)
    ∙ known

pub last_below : (whole : Expression) (links : List Link) (link : Link) → AreBelow whole (links ++ link ∷ []) → AreBelow whole links × IsBelow whole link
last_below whole [] link all = (tt, all.0)
last_below whole (x ∷ links) link all = let rest = last_below whole links link all.1 in ((all.0, rest.0), rest.1)

pub more_below : (whole : Expression) (links : List Link) (link : Link) → AreBelow whole links → IsBelow whole link → AreBelow whole (links ++ link ∷ [])
more_below whole [] link all one = (one, tt)
more_below whole (x ∷ links) link all one = (all.0, more_below whole links link all.1 one)

still_below : (whole rest : Expression) (link : Link) → size-Expression rest ≤ size-Expression whole → IsBelow rest link → IsBelow whole link
still_below whole rest (links.Part longer) less one = omega (arith, less, one)
still_below whole rest (links.Operator operation) less one = omega (arith, less, one)
still_below whole rest (links.Test member) less one = omega (arith, less, one)

-- a step down
pub pushed_below : (whole rest left : Expression) (links new : List Link) (link : Link) → new ≡ links ++ link ∷ [] → AreWithin whole rest links → IsBelow rest link → IsLeft rest left → AreWithin whole left new
pushed_below whole rest left links new link is all one before =
    (omega (arith, all.0, before), subst (AreBelow whole) (sym is) (more_below whole links link all.1 (still_below whole rest link all.0 one)))

-- ---- the next link from the left end on

pub popped : (old new : List Link) (o : Option Link) (link : Link) → old ≡ new ++ option_to_list o → o ≡ Some link → old ≡ new ++ link ∷ []
popped old new o link items is = items ∙ ap (λ (x : Option Link). new ++ option_to_list x) is

pub popped_below : (whole : Expression) (old new : List Link) (o : Option Link) (link : Link) → old ≡ new ++ option_to_list o → o ≡ Some link → AreBelow whole old → AreBelow whole new × IsBelow whole link
popped_below whole old new o link items is all = last_below whole new link (subst (AreBelow whole) (popped old new o link items is) all)

-- ---- the same of a link of a known form

pub next_below : (whole : Expression) (old new : List Link) (o : Option Link) (link made : Link) → old ≡ new ++ option_to_list o → o ≡ Some link → link ≡ made → AreBelow whole old → IsBelow whole made
next_below whole old new o link made items is form all = subst (IsBelow whole) form (popped_below whole old new o link items is all).1

-- what is left to find, and that it is less deep
pub next_step : (expression : Expression) (old new : List Link) (o : Option Link) (link made : Link) (start found next whole : List TextName) (key after : Option (List ℕ)) → old ≡ new ++ option_to_list o → o ≡ Some link → link ≡ made
    → next ≡ found ++ link_names key made → after ≡ link_key key made → (found ++ chained_names key old ≡ start ++ whole) × AreBelow expression old → (next ++ chained_names after new ≡ start ++ whole) × AreBelow expression new
next_step expression old new o link made start found next whole key after items is form step key_is known = (
  next_link new old link start found next whole key after (popped old new o link items is) (step ∙ ap (λ (l : Link). found ++ link_names key l) (sym form)) (key_is ∙ ap (λ (l : Link). link_key key l) (sym form)) known.0,
  (popped_below expression old new o link items is known.1).0,
)
