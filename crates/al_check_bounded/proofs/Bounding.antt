-- Bounds, and what a check means within them.
use Rattle.std.proofs.Common.{◌≡◌, ◌∙◌, ℕ, Bool, true, ◌&&◌, List, sym, ap, if◌then◌else◌}
use Rattle.al_base.specs.declared.unit_key.UnitKey.{UnitKey}
use Rattle.al_tree_syntax.specs.UnitTrees.{CompilationUnitTree}
use Rattle.al_unit_header.specs.Units.{header_of}
use Rattle.al_unit_graph.specs.Headers.{Header}
use Rattle.al_view.specs.declared.view.ViewKind.{ViewKind}
use Rattle.al_query.specs.Reads.{Table}
use Rattle.al_view_typed.specs.UnitTrees.{UnitTree}
use Rattle.al_query_outcome.specs.Results.{Outcome, Faulty, Sound}
use Rattle.al_query_outcome.specs.declared.interface.UnitInterface.{UnitInterface}
use Rattle.al_check_bounded.specs.Bounding.{bounded}
use Rattle.al_check_bounded.specs.declared.bounds.Bounds.{Bounds}
use Rattle.al_check_promises.specs.SelfChecks.{is_kept, not_checked, self_checked}
use Rattle.al_check_bounded.specs.Verdicts.{Verdict}
use Rattle.al_check_bounded.specs.Within.{bounds_of, concluded, meaning_within}

unfoldable pub made : UnitKey → List UnitKey → List (List ℕ) → Bounds
made unit known names = record { unit = unit; known = known; names = names }

pub same_bounds : (u v : UnitKey) (k l : List UnitKey) (m n : List (List ℕ)) → u ≡ v → k ≡ l → m ≡ n → made u k m ≡ made v l n
same_bounds u v k l m n a b c = ap (λ (x : UnitKey). made x k m) a ∙ ap (λ (y : List UnitKey). made v y m) b ∙ ap (λ (z : List (List ℕ)). made v l z) c

-- what a check gives by bounds that are these under the table
pub means : (units : UnitKey → Header → Table → List UnitKey) (names : UnitKey → Header → Table → List (List ℕ)) (verdict : UnitKey → List ℕ → CompilationUnitTree → Table → Verdict) (unit : UnitKey) (text : List ℕ) (tree : CompilationUnitTree) (t : Table) (b : Bounds) (h : Header) (found : Verdict) (outcome : Outcome)
    → h ≡ header_of tree → b ≡ bounds_of unit text (units unit (header_of tree) t) (names unit (header_of tree) t) → found ≡ verdict b.unit text tree (bounded b t) → outcome ≡ concluded b h found (bounded b t)
    → outcome ≡ meaning_within units names verdict unit text tree t
means units names verdict unit text tree t b h found outcome headed is finds gives =
    gives ∙ ap (λ (x : Header). concluded b x found (bounded b t)) headed ∙ ap (λ (v : Verdict). concluded b (header_of tree) v (bounded b t)) finds
    ∙ ap (λ (x : Bounds). concluded x (header_of tree) (verdict x.unit text tree (bounded x t)) (bounded x t)) is

-- the same views
pub same_test : (unit : UnitKey) (v w : List ViewKind) (c : Bool) (i : UnitInterface) (tree : UnitTree) → v ≡ w → self_checked unit v c i tree ≡ self_checked unit w c i tree
same_test unit v w c i tree a = ap (λ (y : List ViewKind). self_checked unit y c i tree) a

-- views with which the unit is kept alike, and the same of what it completes
pub same_kept : (unit : UnitKey) (v w : List ViewKind) (c d : Bool) (i : UnitInterface) (tree : UnitTree) → is_kept unit v i tree ≡ is_kept unit w i tree → c ≡ d → self_checked unit v c i tree ≡ self_checked unit w d i tree
unfolding self_checked
same_kept unit v w c d i tree kept is =
    ap (λ (b : Bool). if b && c then Sound i tree else Faulty (not_checked unit)) kept ∙ ap (λ (x : Bool). if is_kept unit w i tree && x then Sound i tree else Faulty (not_checked unit)) is

-- so the test is passed with them
pub passes : (unit : UnitKey) (v w : List ViewKind) (i : UnitInterface) (tree : UnitTree) (kept : Bool) → v ≡ w → kept ≡ is_kept unit v i tree → kept ≡ true → is_kept unit w i tree ≡ true
passes unit v w i tree kept a is passed = sym (ap (λ (y : List ViewKind). is_kept unit y i tree) a) ∙ sym is ∙ passed
