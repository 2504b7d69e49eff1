-- A graph as its fields hold it: a Vec of a Vec for each node.
use Rattle.std.proofs.Common.{◌≡◌, ℕ, ◌<◌, List, [], ◌∷◌, ◌++◌, length, get_or, set, map, Vec, Global, sym, ap, ◌∙◌, subst, arith}
use Rattle.std.proofs.lemmas.List.{get_or-map, map-set, set-get_or, length-map}
use Rattle.al_base_graph.specs.Graphs.{successors_of, IsClosed, with_step}

abbrev pub view_of : List (Vec ℕ Global) → List (List ℕ)
view_of vs = map (λ v. v.items) vs

-- what is read at a node
pub read_view : (vs : List (Vec ℕ Global)) (i : ℕ) (v : Vec ℕ Global) → i < length vs → v ≡ get_or vs i v → v.items ≡ successors_of (view_of vs) i
read_view vs i v l e = ap (λ w. w.items) e ∙ sym (get_or-map (λ w. w.items) vs i v [] l)

pub view_kept : (vs : List (Vec ℕ Global)) (i : ℕ) (v w : Vec ℕ Global) → i < length vs → v ≡ get_or vs i v → w.items ≡ v.items → view_of (set vs i w) ≡ view_of vs
view_kept vs i v w l e same =
    map-set (λ u. u.items) vs i w
    ∙ ap (λ xs. set (view_of vs) i xs) (same ∙ read_view vs i v l e)
    ∙ set-get_or (view_of vs) i []

pub view_added : (vs : List (Vec ℕ Global)) (i to : ℕ) (v w : Vec ℕ Global) → i < length vs → v ≡ get_or vs i v → w.items ≡ v.items ++ to ∷ [] → view_of (set vs i w) ≡ with_step (view_of vs) i to
view_added vs i to v w l e more =
    map-set (λ u. u.items) vs i w
    ∙ ap (λ xs. set (view_of vs) i xs) (more ∙ ap (λ xs. xs ++ to ∷ []) (read_view vs i v l e))

pub IsClosed-same : (g h : List (List ℕ)) → g ≡ h → IsClosed h → IsClosed g
IsClosed-same g h e closed = subst IsClosed (sym e) closed

-- a node is one of the Vecs
pub within_view : (vs : List (Vec ℕ Global)) (g : List (List ℕ)) (i : ℕ) → view_of vs ≡ g → i < length g → i < length vs
within_view vs g i e l =
    let same : length (view_of vs) ≡ length g = ap length e in
    let there : length (view_of vs) ≡ length vs = length-map vs (λ v. v.items) in
    omega arith
