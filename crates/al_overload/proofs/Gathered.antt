-- Operands from the last one on, and terms in a row.
use Rattle.std.proofs.Common.{◌≡◌, suc, List, [], ◌∷◌, ◌++◌, map, length, refl, ap}
use Rattle.al_overload.specs.Counts.{plain}
use Rattle.al_overload.specs.Labelling.{Trees, MoreTrees}
use Rattle.al_overload.specs.declared.term.Term.{Term as HeadTerm}
use Rattle.al_overload.specs.TermViews.{term_model, terms_of}
use Rattle.al_overload.specs.Terms.{TermTree}
use Rattle.al_overload.specs.declared.heads_term.Term.{Term}
use Rattle.al_view_typed.specs.Listed.{listed}
use Rattle.al_overload.specs.Aggregates.{how_many}
use Rattle.al_overload.specs.HeadsHeads.{heads_of, plain_head, trees_of}
use Rattle.al_overload.specs.declared.everywhere.Predefined.{Predefined}

-- these heads before those operands
abbrev pub before : List HeadTerm → Trees → Trees
before heads operands = listed MoreTrees operands (map plain heads)

pub last_before : (heads : List HeadTerm) (head : HeadTerm) (operands : Trees) → before (heads ++ head ∷ []) operands ≡ before heads (MoreTrees (plain head) operands)
last_before [] head operands = refl
last_before (x ∷ heads) head operands = ap (MoreTrees (plain x)) (last_before heads head operands)

pub all_listed : (p : Predefined) (xs : List TermTree) → trees_of (map (plain_head p) xs) ≡ heads_of p (terms_of xs)
all_listed p [] = refl
all_listed p (x ∷ xs) = ap (MoreTrees (plain_head p x)) (all_listed p xs)

pub count_model : (xs : List Term) → how_many (terms_of (map term_model xs)) ≡ length xs
count_model [] = refl
count_model (x ∷ xs) = ap suc (count_model xs)
