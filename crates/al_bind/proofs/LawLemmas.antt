-- What an elaboration order keeps.
use Rattle.std.proofs.Common.{◌≡◌, ℕ, zero, suc, ◌+◌, ◌<◌, ◌≤◌, Bool, true, false, not, cond, List, [], ◌∷◌, length, take, get_or, refl, sym, ap, subst, ◌∙◌, arith}
use Rattle.std.specs.List.{Contains, flat_map}
use Rattle.std.proofs.lemmas.List.{get_or-take, get_or_default, length-take-le}
use Rattle.std.proofs.lemmas.List.Concat.{get_or-flat_map}
use Rattle.std.proofs.lemmas.List.Folds.{length-flat_map-take}
use Rattle.al_base.specs.Batch.{Key}
use Rattle.al_base.specs.declared.unit_key.UnitKind.TheVariants.{Decl, Body, Sub}
use Rattle.al_base_graph.specs.declared.edge.Edge.{Edge}
use Rattle.al_base_graph.specs.declared.edge.Reason.{Reason}
use Rattle.al_base_graph.proofs.PlacingLemmas.{place_in}
use Rattle.al_base_graph.proofs.RelationLemmas.{stands_before}
use Rattle.al_unit_graph.specs.Headers.{Library}
use Rattle.al_unit_graph.proofs.Lists.{into_filter}
use Rattle.al_bind.specs.Binding.{IsElaboration, items_at, items_of, key_at}
use Rattle.al_bind.specs.Elaboration.{Carries, IsItem, is_pair, node_of}
use Rattle.al_bind.specs.Laws.{PairsStayTogether, StandsBefore}
use Rattle.al_unit_graph.specs.Needed.{ListsUnits, Needed}
use Rattle.al_bind.specs.Numbers.{ComesAfter, IsAt, TellsEdge, is_node, nodes_among}

-- a node's node is itself
is_node_by : (lib : Library) (name : List ℕ) (b : Bool) → is_pair lib name ≡ b → is_node lib (cond b (name, Decl) (name, Body)) ≡ true
is_node_by lib name true is = refl
is_node_by lib name false is = ap not is

nodes_are_nodes : (lib : Library) (x : Key) → (x.1 ≡ Sub → ⊥) → is_node lib (node_of lib x) ≡ true
nodes_are_nodes lib (name, Decl) item = refl
nodes_are_nodes lib (name, Body) item = is_node_by lib name (is_pair lib name) refl
nodes_are_nodes lib (name, Sub) item = absurd (item refl)

-- an item of the partition whose node is one too
abbrev pub IsWhole : Library → List ℕ → Key → Type 0
IsWhole lib main x = IsItem lib main x × IsItem lib main (node_of lib x)

-- the place of a needed item's node
node_place : (lib : Library) (main : List ℕ) (keys : List Key) → ListsUnits lib keys (Needed lib main) → (x : Key) → IsWhole lib main x → Contains (nodes_among lib keys) (node_of lib x)
node_place lib main keys lists x (item, node) =
    into_filter (is_node lib) keys (node_of lib x) ((lists.all (node_of lib x)).1 (node.0, node.1)) (nodes_are_nodes lib x item.2)

-- an item is one of its node's
of_its_node_by : (lib : Library) (name : List ℕ) (b : Bool) → is_pair lib name ≡ b → Contains (items_of lib (cond b (name, Decl) (name, Body))) (name, Body)
of_its_node_by lib name true is =
    let same : items_of lib (name, Decl) ≡ (name, Decl) ∷ (name, Body) ∷ [] = ap (λ (b : Bool). (name, Decl) ∷ cond b ((name, Body) ∷ []) []) is in
    subst (λ (ks : List Key). Contains ks (name, Body)) (sym same) (1, omega arith, refl)
of_its_node_by lib name false is = (0, omega arith, refl)

of_its_node : (lib : Library) (x : Key) → (x.1 ≡ Sub → ⊥) → Contains (items_of lib (node_of lib x)) x
of_its_node lib (name, Decl) item = (0, omega arith, refl)
of_its_node lib (name, Body) item = of_its_node_by lib name (is_pair lib name) refl
of_its_node lib (name, Sub) item = absurd (item refl)

-- pieces one after the other
take_twice : {X : Type 0} (i j : ℕ) (xs : List X) → i ≤ j → take i (take j xs) ≡ take i xs
take_twice zero j xs le = refl
take_twice (suc i) zero xs le = absurd (omega (arith, le))
take_twice (suc i) (suc j) [] le = refl
take_twice (suc i) (suc j) (x ∷ xs) le = ap (λ ys. x ∷ ys) (take_twice i j xs (omega (arith, le)))

module _ {X A : Type 0} (f : X → List A) (xs : List X) where
  pieces_apart : (i j : ℕ) (d : X) → i < j → j ≤ length xs → length (flat_map f (take i xs)) + length (f (get_or xs i d)) ≤ length (flat_map f (take j xs))
  pieces_apart i j d less within =
      let size = length-take-le j xs within in
      let in' : i < length (take j xs) = omega (arith, less, size) in
      let upto = length-flat_map-take f (take j xs) i d in' in
      let same = ap (λ (ys : List X). length (flat_map f ys)) (take_twice i j xs (omega (arith, less))) in
      let here = ap (λ (x : X). length (f x)) (get_or-take j xs i d less) in
      omega (arith, upto, same, here)

  -- an item of one piece comes before one of a later piece
  pub in_pieces : (i : ℕ) (d : X) (k : ℕ) (a : A) → i < length xs → k < length (f (get_or xs i d)) → get_or (f (get_or xs i d)) k a ≡ a → get_or (flat_map f xs) (length (flat_map f (take i xs)) + k) a ≡ a
  in_pieces i d k a within there is = get_or-flat_map f xs i k d a within there ∙ is

  pub piece_within : (i : ℕ) (d : X) (k : ℕ) → i < length xs → k < length (f (get_or xs i d)) → length (flat_map f (take i xs)) + k < length (flat_map f xs)
  piece_within i d k within there = let upto = length-flat_map-take f xs i d within in omega (arith, upto, there)

  pub pieces_before : (i j : ℕ) (d : X) (k m : ℕ) → i < j → j ≤ length xs → k < length (f (get_or xs i d)) → length (flat_map f (take i xs)) + k < length (flat_map f (take j xs)) + m
  pieces_before i j d k m less within there = let upto = pieces_apart i j d less within in omega (arith, upto, there)

-- the item at its node's place in the order
module _ (lib : Library) (nodes : List Key) (order : List ℕ) where
  abbrev piece : ℕ → List Key
  piece i = items_of lib (key_at nodes i)

  in_piece : (x : Key) (p n : ℕ) → (x.1 ≡ Sub → ⊥) → IsAt nodes (node_of lib x) n → get_or order p 0 ≡ n → Contains (piece (get_or order p 0)) x
  in_piece x p n item at is =
      let node : key_at nodes (get_or order p 0) ≡ node_of lib x = ap (λ (i : ℕ). key_at nodes i) is ∙ get_or_default nodes n ([], Decl) (node_of lib x) at.0 ∙ at.1 in
      subst (λ (k : Key). Contains (items_of lib k) x) (sym node) (of_its_node lib x item)

  pub before_in_order : (y x : Key) (b a m n : ℕ) → (y.1 ≡ Sub → ⊥) → (x.1 ≡ Sub → ⊥) → IsAt nodes (node_of lib y) m → IsAt nodes (node_of lib x) n → get_or order b 0 ≡ m → get_or order a 0 ≡ n → b < a → a < length order → StandsBefore (items_at lib nodes order) y x
  before_in_order y x b a m n y_item x_item y_at x_at b_is a_is less within =
      let (j, j_in, j_is) = in_piece y b m y_item y_at b_is in
      let (k, k_in, k_is) = in_piece x a n x_item x_at a_is in
      let b_in : b < length order = omega (arith, less, within) in
      record {
        first = length (flat_map piece (take b order)) + j;
        second = length (flat_map piece (take a order)) + k;
        first_at = (piece_within piece order b 0 j b_in j_in, in_pieces piece order b 0 j y b_in j_in j_is);
        second_at = (piece_within piece order a 0 k within k_in, in_pieces piece order a 0 k x within k_in k_is);
        before = pieces_before piece order b a 0 j k less (omega (arith, within)) j_in;
      }

-- if an edge leads from the node of x to that of y, y comes before x
pub whole_items_obey : (lib : Library) (main : List ℕ) (items : List Key) → IsElaboration lib main items → (reason : Reason) (x y : Key) → IsWhole lib main x → IsWhole lib main y → Carries lib main reason x y → StandsBefore items y x
whole_items_obey lib main items is reason x y whole_x whole_y carries =
    let nodes = nodes_among lib is.keys in
    let (n, n_in, n_is) = node_place lib main is.keys is.lists x whole_x in
    let (m, m_in, m_is) = node_place lib main is.keys is.lists y whole_y in
    let (i, i_in, i_is) = (is.lists.all x).1 (whole_x.0.0, whole_x.0.1) in
    let (j, j_in, j_is) = (is.lists.all y).1 (whole_y.0.0, whole_y.0.1) in
    let t : Edge = record { after = n; before = m; reason = reason; x = i; y = j } in
    let edge : TellsEdge lib main is.keys t = record { x = x; y = y; carries = carries; x_at = (i_in, i_is); y_at = (j_in, j_is); after_at = (n_in, n_is); before_at = (m_in, m_is) } in
    let (a, a_in, a_is) = place_in is.order n (is.ordered.all n n_in) in
    let comes : ComesAfter lib main is.keys n m = (t, edge, (refl, refl)) in
    let (b, less, b_is) = stands_before (length nodes) (ComesAfter lib main is.keys) is.order is.ordered a a_in m (subst (λ (k : ℕ). ComesAfter lib main is.keys k m) (sym a_is) comes) in
    subst (λ (ks : List Key). StandsBefore ks y x) (sym is.items_are)
    (before_in_order lib nodes is.order y x b a m n whole_y.0.2 whole_x.0.2 (m_in, m_is) (n_in, n_is) b_is a_is less a_in)

-- a pair's items are side by side
pub pairs_stay : PairsStayTogether
pairs_stay lib main items is name pair item =
    let nodes = nodes_among lib is.keys in
    let d : Key = (name, Decl) in
    let (n, n_in, n_is) = node_place lib main is.keys is.lists d (item, item) in
    let (a, a_in, a_is) = place_in is.order n (is.ordered.all n n_in) in
    let f : ℕ → List Key = λ i. items_of lib (key_at nodes i) in
    let node : key_at nodes (get_or is.order a 0) ≡ d = ap (λ (i : ℕ). key_at nodes i) a_is ∙ get_or_default nodes n ([], Decl) d n_in ∙ n_is in
    let both : f (get_or is.order a 0) ≡ d ∷ (name, Body) ∷ [] = ap (λ (k : Key). items_of lib k) node ∙ ap (λ (b : Bool). d ∷ cond b ((name, Body) ∷ []) []) pair in
    let two : length (f (get_or is.order a 0)) ≡ 2 = ap (λ (ks : List Key). length ks) both in
    let at = length (flat_map f (take a is.order)) in
    let none : at + 0 ≡ at = omega arith in
    let one_is = in_pieces f is.order a 0 0 d a_in (omega (arith, two)) (ap (λ (ks : List Key). get_or ks 0 d) both) in
    let two_is = in_pieces f is.order a 0 1 (name, Body) a_in (omega (arith, two)) (ap (λ (ks : List Key). get_or ks 1 (name, Body)) both) in
    let one_in = piece_within f is.order a 0 0 a_in (omega (arith, two)) in
    let two_in = piece_within f is.order a 0 1 a_in (omega (arith, two)) in
    subst (λ (ks : List Key). (i : ℕ) × IsAt ks d i × IsAt ks (name, Body) (i + 1)) (sym is.items_are) (at, subst (λ (j : ℕ). IsAt (flat_map f is.order) d j) none (one_in, one_is), (two_in, two_is))
