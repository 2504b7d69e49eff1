-- What is tested part by part is what is tested as a whole.
use Rattle.std.proofs.Common.{◌≡◌, Bool, true, false, ◌&&◌, ◌||◌, not, List, [], ◌∷◌, ◌++◌, append-nil, append_assoc, map, ℕ, refl, sym, ap, ◌∙◌, if◌then◌else◌}
use Rattle.std.specs.List.{flat_map, list_all}
use Rattle.std.proofs.lemmas.List.Folds.{list_all-append}
use Rattle.al_base.specs.declared.unit_key.UnitKey.{UnitKey}
use Rattle.al_view.specs.Symbols.{same_unit}
use Rattle.al_view.specs.ViewUses.{view_uses}
use Rattle.al_view.specs.declared.link.LinkSymbol.{LinkSymbol}
use Rattle.al_view.specs.declared.view.ViewKind.{ViewKind}
use Rattle.al_query.specs.declared.answer.Completion.{Completion}
use Rattle.al_view_typed.specs.UnitTrees.{UnitTree}
use Rattle.al_view_typed.specs.Uses.{unit_uses}
use Rattle.al_query_outcome.specs.Defines.{declared_uses, interface_uses}
use Rattle.al_query_outcome.specs.Left.{is_of_body}
use Rattle.al_query_outcome.specs.ReadsLaw.{answer_uses}
use Rattle.al_query_outcome.specs.Tables.{interface_of}
use Rattle.al_query_outcome.specs.declared.interface.Parts.{Parts}
use Rattle.al_query_outcome.specs.declared.interface.Properties.{Properties}
use Rattle.al_query_outcome.specs.declared.interface.StubDeclarations.{StubDeclarations}
use Rattle.al_check_promises.specs.Links.{Gains, has_link, is_among}
use Rattle.al_check_promises.specs.declared.link_set.LinkSet.{LinkSet}
use Rattle.al_check_promises.specs.Parts.{part_uses, property_uses}
use Rattle.al_check_promises.specs.SelfChecks.{accounted, defined, is_allowed, is_completed, is_declared, is_kept, is_well_formed, left_shown}
use Rattle.al_check_promises.specs.Rules.{permits}
use Rattle.al_check_promises.specs.declared.rule.LinkRule.{LinkRule}
use Rattle.al_check_promises.specs.Tests.{completes, declares}
use Rattle.al_check_promises.specs.declared.completed.Completing.{Completing}
use Rattle.al_check_promises.specs.declared.tested.Declared.{Declared}

-- ---- lists

-- a test of what stubs hold
stubs_flat : {X : Type 0} (f : List (List ℕ × List ViewKind) → List X) (stubs : List StubDeclarations) → flat_map f (map (λ s. s.before) stubs) ≡ flat_map (λ s. f s.before) stubs
stubs_flat f [] = refl
stubs_flat f (s ∷ stubs) = ap (λ ys. f s.before ++ ys) (stubs_flat f stubs)

-- four lists, grouped otherwise
grouped : {X : Type 0} (a b c d : List X) → a ++ (b ++ (c ++ d)) ≡ ((a ++ b) ++ c) ++ d
grouped a b c d = sym (append_assoc (a ++ b) c d ∙ append_assoc a b (c ++ d))

-- ---- what a unit shows

pub interface_parts : (q : Properties) (parts : Parts) → interface_uses (interface_of q parts) ≡ property_uses q ++ part_uses parts
unfolding interface_uses answer_uses
interface_parts q parts =
    ap (λ xs. (view_uses q.kind ++ xs) ++ (declared_uses parts.visible ++ (declared_uses parts.private_part ++ (declared_uses parts.body ++ flat_map declared_uses (map (λ s. s.before) parts.stubs))))) (append-nil (flat_map (λ c. view_uses c.view) q.completions))
    ∙ ap (λ xs. property_uses q ++ xs)
    (ap (λ ys. declared_uses parts.visible ++ (declared_uses parts.private_part ++ (declared_uses parts.body ++ ys))) (stubs_flat declared_uses parts.stubs)
    ∙ grouped (declared_uses parts.visible) (declared_uses parts.private_part) (declared_uses parts.body) (flat_map (λ s. declared_uses s.before) parts.stubs))

and_three : (a b c : Bool) → (a && (b && c)) ≡ ((a && b) && c)
and_three true b c = refl
and_three false b c = refl

-- whether all is allowed that a unit uses and shows
pub links_tested : (p : LinkSymbol → Bool) (q : Properties) (parts : Parts) (tree : UnitTree) → list_all p (unit_uses tree ++ interface_uses (interface_of q parts)) ≡ ((list_all p (unit_uses tree) && list_all p (property_uses q)) && list_all p (part_uses parts))
links_tested p q parts tree =
    ap (λ xs. list_all p (unit_uses tree ++ xs)) (interface_parts q parts) ∙ list_all-append p (unit_uses tree) (property_uses q ++ part_uses parts)
    ∙ ap (λ b. list_all p (unit_uses tree) && b) (list_all-append p (property_uses q) (part_uses parts))
    ∙ and_three (list_all p (unit_uses tree)) (list_all p (property_uses q)) (list_all p (part_uses parts))

-- ---- sets

or_false : (b : Bool) → (b || false) ≡ b
or_false true = refl
or_false false = refl

pub all_alike : {X : Type 0} (p q : X → Bool) → ((x : X) → p x ≡ q x) → (xs : List X) → list_all p xs ≡ list_all q xs
all_alike p q h [] = refl
all_alike p q h (x ∷ xs) = ap (λ b. b && list_all p xs) (h x) ∙ ap (λ b. q x && b) (all_alike p q h xs)

-- a set of links that was empty has what it gained
pub gained : (none set : LinkSet) (links : List LinkSymbol) → ((x : LinkSymbol) → has_link none x ≡ false) → Gains none set links → (x : LinkSymbol) → has_link set x ≡ is_among links x
gained none set links empty gains x = gains x ∙ ap (λ b. is_among links x || b) (empty x) ∙ or_false (is_among links x)

-- what is allowed, by sets
pub allowed_by : (a : LinkRule) (unit : UnitKey) (own shown : List LinkSymbol) → a.unit ≡ unit → ((x : LinkSymbol) → has_link a.own x ≡ is_among own x) → ((x : LinkSymbol) → has_link a.others x ≡ is_among shown x) → (x : LinkSymbol) → permits a x ≡ is_allowed unit shown own x
unfolding permits
allowed_by a unit own shown is one two x =
    ap (λ (u : UnitKey). if same_unit x.symbol.unit u then has_link a.own x else has_link a.others x) is
    ∙ ap (λ (b : Bool). if same_unit x.symbol.unit unit then b else has_link a.others x) (one x)
    ∙ ap (λ (b : Bool). if same_unit x.symbol.unit unit then is_among own x else b) (two x)

-- what is declared, by a set
pub declared_by : (d : Declared) (links : List LinkSymbol) → ((x : LinkSymbol) → has_link d.links x ≡ is_among links x) → (x : LinkSymbol) → declares d x ≡ is_declared links x
unfolding declares
declared_by d links one x = ap (λ (b : Bool). is_of_body x.kind || b) (one x)

-- what is completed, by a set
pub completed_by : (c : Completing) (links : List LinkSymbol) → ((x : LinkSymbol) → has_link c.links x ≡ is_among links x) → (x : LinkSymbol) → completes c x ≡ is_completed links x
unfolding completes
completed_by c links one x = ap (λ (b : Bool). not (is_of_body x.kind) || b) (one x)

-- by no set nothing of a body is
pub nothing_completed : (c : Completing) → ((x : LinkSymbol) → has_link c.links x ≡ false) → (x : LinkSymbol) → completes c x ≡ not (is_of_body x.kind)
unfolding completes
nothing_completed c empty x = ap (λ (b : Bool). not (is_of_body x.kind) || b) (empty x) ∙ or_false (not (is_of_body x.kind))

-- the views of completions
pub flat_viewed : (cs : List Completion) → flat_map (λ c. view_uses c.view) cs ≡ flat_map view_uses (map (λ c. c.view) cs)
flat_viewed [] = refl
flat_viewed (c ∷ cs) = ap (λ xs. view_uses c.view ++ xs) (flat_viewed cs)

-- ---- the whole test

pub kept_by : (unit : UnitKey) (shown : List ViewKind) (q : Properties) (parts : Parts) (tree : UnitTree) (a : LinkRule) (links declared code : Bool)
    → ((x : LinkSymbol) → permits a x ≡ is_allowed unit (flat_map view_uses shown) (accounted (interface_of q parts) tree) x)
    → links ≡ ((list_all (permits a) (unit_uses tree) && list_all (permits a) (property_uses q)) && list_all (permits a) (part_uses parts))
    → declared ≡ list_all (is_declared (defined (interface_of q parts) tree)) (left_shown (interface_of q parts))
    → code ≡ (same_unit tree.unit unit && is_well_formed tree)
    → (links && (declared && code)) ≡ is_kept unit shown (interface_of q parts) tree
unfolding is_kept
kept_by unit shown q parts tree a links declared code by_allowed is_links is_left is_code =
    let allowed = is_allowed unit (flat_map view_uses shown) (accounted (interface_of q parts) tree) in
    let whole = list_all (is_allowed unit (flat_map view_uses shown) (accounted (interface_of q parts) tree)) (unit_uses tree ++ interface_uses (interface_of q parts)) in
    let left = list_all (is_declared (defined (interface_of q parts) tree)) (left_shown (interface_of q parts)) in
    let one : links ≡ whole =
    is_links ∙ sym (links_tested (permits a) q parts tree) ∙ all_alike (permits a) allowed by_allowed (unit_uses tree ++ interface_uses (interface_of q parts)) in
    ap (λ (b : Bool). b && (declared && code)) one ∙ ap (λ (b : Bool). whole && (b && code)) is_left ∙ ap (λ (b : Bool). whole && (left && b)) is_code
