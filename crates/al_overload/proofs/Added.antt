-- A head with all that declarations may be.
use Rattle.std.proofs.Common.{◌≡◌, List, [], ◌∷◌, ◌++◌, refl, sym, ap, ◌∙◌, append_assoc, append-nil}
use Rattle.std.specs.List.{flat_map}
use Rattle.al_overload.specs.Labelling.{Tree, Node, Trees}
use Rattle.al_overload.specs.declared.term.Candidate.{Candidate}
use Rattle.al_view.specs.declared.symbol.Symbol.{Symbol}
use Rattle.al_view.specs.declared.view.ViewKind.{ViewKind}
use Rattle.al_overload.specs.Candidates.{candidates_of, with_all, with_candidates}
use Rattle.al_overload.specs.Heads.{all_candidates, operated}

candidates_added : (before cs : List Candidate) (args : Trees) → with_candidates (Node before args) cs ≡ Node (before ++ cs) args
candidates_added before [] args = ap (λ (l : List Candidate). Node l args) (sym (append-nil before))
candidates_added before (c ∷ cs) args = candidates_added (before ++ c ∷ []) cs args ∙ ap (λ (l : List Candidate). Node l args) (append_assoc before (c ∷ []) cs)

views_added : (root : Symbol) (before : List Candidate) (visible : List ViewKind) (args : Trees) → with_all root (Node before args) visible ≡ Node (before ++ flat_map (candidates_of root) visible) args
views_added root before [] args = ap (λ (l : List Candidate). Node l args) (sym (append-nil before))
views_added root before (v ∷ vs) args =
    ap (λ (t : Tree). with_all root t vs) (candidates_added before (candidates_of root v) args)
    ∙ views_added root (before ++ candidates_of root v) vs args
    ∙ ap (λ (l : List Candidate). Node l args) (append_assoc before (candidates_of root v) (flat_map (candidates_of root) vs))

pub all_added : (root : Symbol) (visible : List ViewKind) (args : Trees) → with_all root (Node [] args) visible ≡ all_candidates root visible args
all_added root visible args = views_added root [] visible args

more_views : (root : Symbol) (visible roots : List ViewKind) → flat_map (candidates_of root) (visible ++ roots) ≡ flat_map (candidates_of root) visible ++ flat_map (candidates_of root) roots
more_views root [] roots = refl
more_views root (v ∷ vs) roots = ap (λ (l : List Candidate). candidates_of root v ++ l) (more_views root vs roots) ∙ sym (append_assoc (candidates_of root v) (flat_map (candidates_of root) vs) (flat_map (candidates_of root) roots))

pub both_added : (root : Symbol) (visible roots : List ViewKind) (args : Trees) → with_all root (with_all root (Node [] args) visible) roots ≡ operated root visible roots args
both_added root visible roots args =
    ap (λ (t : Tree). with_all root t roots) (views_added root [] visible args)
    ∙ views_added root (flat_map (candidates_of root) visible) roots args
    ∙ ap (λ (l : List Candidate). Node l args) (sym (more_views root visible roots))
