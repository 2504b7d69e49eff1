-- A name with one selector more.
use Rattle.std.proofs.Common.{◌≡◌, ℕ, zero, suc, ◌<◌, List, [], ◌∷◌, ◌++◌, map, length, take, get_or, Option, Some, Result, refl, sym, ap, ◌∙◌, append_assoc, append-nil, arith}
use Rattle.std.specs.Prelude.{fold}
use Rattle.al_tree_grammar.specs.Grammar.{Label}
use Rattle.al_base_fault.specs.Judging.{next}
use Rattle.al_base_fault.specs.declared.fault.Fault.{Fault}
use Rattle.al_overload_lookup.specs.Keys.{Denotations, dotted, key_of, key_with}
use Rattle.al_overload_lookup.specs.Places.{place_of}
use Rattle.al_overload_lookup.specs.TextNames.{identifier_names, names_in, part_names, selected_names, selector_names}
use Rattle.al_overload_lookup.specs.declared.name.TextName.{TextName}
use Rattle.al_overload_lookup.specs.declared.name.TextName.TheVariants.{Selected, Simple}
use Rattle.al_overload_readings.specs.Readings.{ReadTree, named, selected}
use Rattle.al_tree_syntax.specs.ExpressionTrees.{ExpressionTree, ExpressionTree as e, PartTree as part}
use Rattle.al_overload_readings.specs.Noted.{NotedTree, plain, with_selector as noted_selector}
use Rattle.al_overload_readings.specs.Texts.{noted, with_part}
use Rattle.al_overload_values.specs.CompoundNames.{name_text, with_selector}
use Rattle.al_tree.specs.Lexemes.{identifier_label}
use Rattle.al_tree.specs.declared.names.Identifier.{Identifier}

folded : (x : ExpressionTree) (xs : List Identifier) (i : ℕ) (d : Identifier) → i < length xs → d ≡ get_or xs i d
    → fold with_selector x (map identifier_label (take (suc i) xs)) ≡ with_selector (fold with_selector x (map identifier_label (take i xs))) (identifier_label d)
folded x [] i d h here = absurd (omega arith)
folded x (y ∷ ys) zero d h here = ap (λ (z : Identifier). with_selector x (identifier_label z)) (sym here)
folded x (y ∷ ys) (suc i) d h here = folded (with_selector x (identifier_label y)) ys i d (omega arith) here

text_more : (first : Label) (xs : List Identifier) (n i : ℕ) (d : Identifier) → n ≡ suc i → i < length xs → d ≡ get_or xs i d
    → name_text (record { first = first; selectors = map identifier_label (take n xs) })
    ≡ with_selector (name_text (record { first = first; selectors = map identifier_label (take i xs) })) (identifier_label d)
unfolding name_text
text_more first xs n i d is h here = ap (λ (k : ℕ). fold with_selector (e.Name first) (map identifier_label (take k xs))) is ∙ folded (e.Name first) xs i d h here

-- its names, the key of what is selected in it next, and what it may be
names_more : (x : ExpressionTree) (l : Label) → names_in (with_selector x l) ≡ names_in x ++ selected_names (key_of x) l.text
unfolding names_in part_names
names_more x l = refl

read_more : (d : Denotations) (x : ExpressionTree) (l : Label) (r : Result ReadTree Fault) → plain r ≡ noted d x → plain (next r (selected d l)) ≡ noted d (with_selector x l)
unfolding noted with_part
read_more d x l r is = ap (λ (n : NotedTree). noted_selector d l n) is

-- the names of a text of identifiers are those of the identifiers
after_selectors : (x : ExpressionTree) (key : List ℕ) (ls : List Label) → key_of x ≡ Some key → names_in (fold with_selector x ls) ≡ names_in x ++ selector_names key ls
after_selectors x key [] is = sym (append-nil (names_in x))
after_selectors x key (l ∷ ls) is =
    after_selectors (with_selector x l) (dotted key l.text) ls (ap (λ (o : Option (List ℕ)). key_with o (part.Selector l)) is)
    ∙ ap (λ (ns : List TextName). ns ++ selector_names (dotted key l.text) ls) (names_more x l ∙ ap (λ (o : Option (List ℕ)). names_in x ++ selected_names o l.text) is)
    ∙ append_assoc (names_in x) (Selected key l.text ∷ []) (selector_names (dotted key l.text) ls)

first_named : (first : Label) → names_in (e.Name first) ≡ Simple first.text ∷ []
unfolding names_in
first_named first = refl

pub names_of_text : (first : Label) (ls : List Label) → names_in (name_text (record { first = first; selectors = ls })) ≡ identifier_names first ls
unfolding name_text
names_of_text first ls =
    after_selectors (e.Name first) first.text ls refl
    ∙ ap (λ (ns : List TextName). ns ++ selector_names first.text ls) (first_named first)

pub checked_more : (names : Denotations) (first : Label) (xs : List Identifier) (n i : ℕ) (d : Identifier) (before after : Result ReadTree Fault) → n ≡ suc i → i < length xs → d ≡ get_or xs i d
    → plain before ≡ noted names (name_text (record { first = first; selectors = map identifier_label (take i xs) }))
    → after ≡ next before (selected names (identifier_label d))
    → plain after ≡ noted names (name_text (record { first = first; selectors = map identifier_label (take n xs) }))
checked_more names first xs n i d before after is h here b a =
    let l = identifier_label d in
    ap (λ (r : Result ReadTree Fault). plain r) a
    ∙ read_more names (name_text (record { first = first; selectors = map identifier_label (take i xs) })) l before b
    ∙ ap (noted names) (sym (text_more first xs n i d is h here))

-- the first identifier alone
pub first_read : (d : Denotations) (first : Label) → noted d (name_text (record { first = first; selectors = [] })) ≡ plain (named (place_of first) first.text (d.visible first.text) first)
unfolding name_text noted
first_read d first = refl
