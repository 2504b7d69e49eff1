-- Which packages need a body, in words.
use Rattle.std.proofs.Common.{◌≡◌, ℕ, Bool, true, false, ◌||◌, ◌⊎◌, inl, inr, List, [], ◌∷◌, ◌++◌, Option, None, Some, codes, refl, sym, ap, ◌∙◌}
use Rattle.std.specs.List.{list_all, list_any, take_while}
use Rattle.std.proofs.lemmas.List.Folds.{Any-from_list_any, list_any-from_Any}
use Rattle.std.proofs.lemmas.List.Sums.{AllPass-from_list_all, list_all-from_AllPass}
use Rattle.std.proofs.lemmas.Slice.Eq.{bytes_eq-Decides}
use Rattle.std.specs.Str.{bytes_eq}
use Rattle.al_tree_grammar.specs.Grammar.{Label}
use Rattle.al_tree_syntax.specs.DeclarationTrees.{CompoundNameTree, DeclarationTree, PragmaArgumentsTree, PragmaTree}
use Rattle.al_tree_syntax.specs.DeclarationTrees.CommonTree.{ObjectDeclaration, TypeDeclaration, SubtypeDeclaration, UseClause, PragmaItem}
use Rattle.al_tree_syntax.specs.DeclarationTrees.DeclarationTree.{CommonDeclaration, SubprogramDeclaration, TaskDeclaration, ProtectedDeclaration}
use Rattle.al_tree_syntax.specs.UnitTrees.{PackageTree}
use Rattle.al_unit_header.specs.Units.{arguments_in, asks_for_body, declarations_of, declares_nothing, has_elaborate_body, is_completed_by_body, is_elaborate_body, is_only, last_identifier, names_only, package_needs_body}
use Rattle.al_unit_header.specs.Laws.{HasBody, DeclaresNothing, IsElaborateBody, NeedsBody, BodiesAreNeeded}
use Rattle.al_unit_header.specs.Laws.HasBody.{subprogram, task, protected}
use Rattle.al_unit_header.specs.Laws.DeclaresNothing.{use_clause, some_pragma}
use Rattle.al_unit_header.specs.Laws.IsElaborateBody.{alone, named}
use Rattle.al_unit_header.specs.Laws.NeedsBody.{completed, asked}
use Rattle.al_unit_header.proofs.PackageLemmas.{in_front-cons}
use Rattle.al_unit_graph.proofs.BoolLemmas.{both, and}

-- ---- tests

either : (a b : Bool) → (a || b) ≡ true → (a ≡ true) ⊎ (b ≡ true)
either true b is = inl refl
either false b is = inr is

or_right : (a b : Bool) → b ≡ true → (a || b) ≡ true
or_right true b is = refl
or_right false b is = is

-- ---- declarations

from_completed : (d : DeclarationTree) → is_completed_by_body d ≡ true → HasBody d
from_completed (CommonDeclaration c) is = absurd (cc)
from_completed (SubprogramDeclaration s) is = subprogram
from_completed (TaskDeclaration t) is = task
from_completed (ProtectedDeclaration l p) is = protected

into_completed : (d : DeclarationTree) → HasBody d → is_completed_by_body d ≡ true
into_completed d subprogram = refl
into_completed d task = refl
into_completed d protected = refl

from_nothing : (d : DeclarationTree) → declares_nothing d ≡ true → DeclaresNothing d
from_nothing (CommonDeclaration (UseClause u)) is = use_clause
from_nothing (CommonDeclaration (PragmaItem p)) is = some_pragma
from_nothing (CommonDeclaration (ObjectDeclaration o)) is = absurd (cc)
from_nothing (CommonDeclaration (TypeDeclaration t)) is = absurd (cc)
from_nothing (CommonDeclaration (SubtypeDeclaration s)) is = absurd (cc)
from_nothing (SubprogramDeclaration s) is = absurd (cc)
from_nothing (TaskDeclaration t) is = absurd (cc)
from_nothing (ProtectedDeclaration l p) is = absurd (cc)

into_nothing : (d : DeclarationTree) → DeclaresNothing d → declares_nothing d ≡ true
into_nothing d use_clause = refl
into_nothing d some_pragma = refl

the_pragma : (name : CompoundNameTree) (d : DeclarationTree) → asks_for_body name d ≡ true → (p : PragmaTree) × (d ≡ CommonDeclaration (PragmaItem p)) × (is_elaborate_body name p ≡ true)
the_pragma name (CommonDeclaration (PragmaItem p)) is = (p, refl, is)
the_pragma name (CommonDeclaration (UseClause u)) is = absurd (cc)
the_pragma name (CommonDeclaration (ObjectDeclaration o)) is = absurd (cc)
the_pragma name (CommonDeclaration (TypeDeclaration t)) is = absurd (cc)
the_pragma name (CommonDeclaration (SubtypeDeclaration s)) is = absurd (cc)
the_pragma name (SubprogramDeclaration s) is = absurd (cc)
the_pragma name (TaskDeclaration t) is = absurd (cc)
the_pragma name (ProtectedDeclaration l p) is = absurd (cc)

-- ---- the pragma

abbrev body_word : List ℕ
body_word = codes "elaborate_body"

module _ (name : CompoundNameTree) (p : PragmaTree) where
  sole : (a : PragmaArgumentsTree) (ss : List Label) → a.names.first.selectors ≡ ss → is_only (last_identifier name).text a.names.first.first ss ≡ true → p.name.text ≡ body_word → p.arguments ≡ Some a → a.names.others ≡ [] → IsElaborateBody name p
  sole a [] none is word has one = named word has ((bytes_eq-Decides a.names.first.first.text (last_identifier name).text).0 is) none one
  sole a (s ∷ ss) some is word has one = absurd (cc)

  one_name : (a : PragmaArgumentsTree) (ns : List CompoundNameTree) → a.names.others ≡ ns → names_only (last_identifier name) (a.names.first ∷ ns) ≡ true → p.name.text ≡ body_word → p.arguments ≡ Some a → IsElaborateBody name p
  one_name a [] one is word has = sole a a.names.first.selectors refl is word has one
  one_name a (n ∷ ns) one is word has = absurd (cc)

  from_arguments : (o : Option PragmaArgumentsTree) → p.arguments ≡ o → names_only (last_identifier name) (arguments_in o) ≡ true → p.name.text ≡ body_word → IsElaborateBody name p
  from_arguments None has is word = alone word has
  from_arguments (Some a) has is word = one_name a a.names.others refl is word has

  from_pragma : is_elaborate_body name p ≡ true → IsElaborateBody name p
  from_pragma is =
      let parts = both (bytes_eq p.name.text body_word) (names_only (last_identifier name) (arguments_in p.arguments)) is in
      from_arguments p.arguments refl parts.1 ((bytes_eq-Decides p.name.text body_word).0 parts.0)

  into_pragma : IsElaborateBody name p → is_elaborate_body name p ≡ true
  into_pragma (alone word none) =
      and (bytes_eq p.name.text body_word) (names_only (last_identifier name) (arguments_in p.arguments)) ((bytes_eq-Decides p.name.text body_word).1 word)
      (ap (λ o. names_only (last_identifier name) (arguments_in o)) none)
  into_pragma (named {a} word has first none one) =
      and (bytes_eq p.name.text body_word) (names_only (last_identifier name) (arguments_in p.arguments)) ((bytes_eq-Decides p.name.text body_word).1 word)
      (ap (λ o. names_only (last_identifier name) (arguments_in o)) has
      ∙ ap (λ ns. names_only (last_identifier name) (a.names.first ∷ ns)) one
      ∙ ap (λ ss. is_only (last_identifier name).text a.names.first.first ss) none
      ∙ (bytes_eq-Decides a.names.first.first.text (last_identifier name).text).1 first)

-- ---- its place

module _ (name : CompoundNameTree) where
  abbrev Stands : List DeclarationTree → Type 0
  Stands ds = (before : List DeclarationTree) × (p : PragmaTree) × (after : List DeclarationTree) × (ds ≡ before ++ CommonDeclaration (PragmaItem p) ∷ after) × (list_all declares_nothing before ≡ true) × (is_elaborate_body name p ≡ true)

  from_front : (ds : List DeclarationTree) → list_any (asks_for_body name) (take_while declares_nothing ds) ≡ true → Stands ds
  from_front [] is = absurd (cc)
  from_front (d ∷ ds) is =
      let rest : Bool = list_any (asks_for_body name) (take_while declares_nothing ds) in
      let parts = both (declares_nothing d) (asks_for_body name d || rest) (sym (in_front-cons declares_nothing (asks_for_body name) d ds) ∙ is) in
      elim (either (asks_for_body name d) rest parts.1) [
        | inl here ↦ let found = the_pragma name d here in ([], found.0, ds, ap (λ e. e ∷ ds) found.1, refl, found.2)
        | inr later ↦
            let found = from_front ds later in
            (d ∷ found.0, found.1, found.2, ap (λ es. d ∷ es) found.3, and (declares_nothing d) (list_all declares_nothing found.0) parts.0 found.4, found.5)
      ]

  into_front : (before : List DeclarationTree) (p : PragmaTree) (after : List DeclarationTree) → list_all declares_nothing before ≡ true → is_elaborate_body name p ≡ true → list_any (asks_for_body name) (take_while declares_nothing (before ++ CommonDeclaration (PragmaItem p) ∷ after)) ≡ true
  into_front [] p after all is =
      in_front-cons declares_nothing (asks_for_body name) (CommonDeclaration (PragmaItem p)) after
      ∙ ap (λ b. b || list_any (asks_for_body name) (take_while declares_nothing after)) is
  into_front (d ∷ ds) p after all is =
      let parts = both (declares_nothing d) (list_all declares_nothing ds) all in
      let rest : Bool = list_any (asks_for_body name) (take_while declares_nothing (ds ++ CommonDeclaration (PragmaItem p) ∷ after)) in
      in_front-cons declares_nothing (asks_for_body name) d (ds ++ CommonDeclaration (PragmaItem p) ∷ after)
      ∙ and (declares_nothing d) (asks_for_body name d || rest) parts.0 (or_right (asks_for_body name d) rest (into_front ds p after parts.1 is))

-- ---- packages

from_needed : (k : PackageTree) → package_needs_body k ≡ true → NeedsBody k
from_needed k is =
    elim (either (list_any is_completed_by_body (declarations_of k)) (has_elaborate_body k) is) [
      | inl some ↦
          let found = Any-from_list_any is_completed_by_body (declarations_of k) some in
          completed {d = found.1} (found.0, found.2, found.3) (from_completed found.1 found.4)
      | inr stands ↦
          let found = from_front k.name (declarations_of k) stands in
          asked found.0 found.2 found.1 found.3 (λ i d less. from_nothing _ (AllPass-from_list_all declares_nothing found.0 found.4 i d less)) (from_pragma k.name found.1 found.5)
    ]

into_needed : (k : PackageTree) → NeedsBody k → package_needs_body k ≡ true
into_needed k (completed {d} c has) =
    ap (λ b. b || has_elaborate_body k) (list_any-from_Any is_completed_by_body (declarations_of k) (c.0, d, c.1, c.2, into_completed d has))
into_needed k (asked before after p split all is) =
    or_right (list_any is_completed_by_body (declarations_of k)) (has_elaborate_body k)
    (ap (λ ds. list_any (asks_for_body k.name) (take_while declares_nothing ds)) split
    ∙ into_front k.name before p after (list_all-from_AllPass declares_nothing before (λ i d less. into_nothing _ (all i d less))) (into_pragma k.name p is))

pub bodies_are_needed : BodiesAreNeeded
bodies_are_needed k = (from_needed k, into_needed k)
