-- The graph of the units of the files: what leads back to itself there depends on itself.
use Rattle.std.proofs.Common.{◌≡◌, ℕ, zero, suc, ◌+◌, ◌<◌, ◌⊎◌, inl, inr, Bool, true, false, List, [], ◌∷◌, ◌++◌, map, length, get_or, Option, Some, None, if◌then◌else◌, refl, ap, subst, sym, ◌∙◌, arith}
use Rattle.std.specs.Option.{is_some, option_map_or}
use Rattle.std.specs.List.{Contains}
use Rattle.std.specs.Map.{keys_of}
use Rattle.std.proofs.lemmas.List.Elements.{Contains-push, Contains-push_cases, Contains-append_left}
use Rattle.al_base.specs.Batch.{Key}
use Rattle.al_base.specs.FileNames.{file_name_of}
use Rattle.al_base_graph.specs.Graphs.{Step, Reaches, IsOnCycle, Marks, with_step}
use Rattle.al_base_graph.specs.Graphs.Reaches.{here, further}
use Rattle.al_base_graph.proofs.Members.{nowhere, one, the_one, first, later, from_flat_map, into_flat_map}
use Rattle.al_base_graph.proofs.ReachLemmas.{Reaches-trans}
use Rattle.al_base_graph.proofs.StepLemmas.{Step-with_step, Step-added, Step-kept, length-with_step}
use Rattle.al_unit_graph.specs.Headers.{Header, Library, key_of_unit}
use Rattle.al_unit_graph.specs.Library.{unit_in, unit_at}
use Rattle.al_unit_graph.specs.Dependence.{listed, dependences, direct, DependsOn}
use Rattle.al_unit_graph.specs.Dependence.DependsOn.{directly, through}
use Rattle.al_unit_faults.specs.Cycles.{depends_on_itself}
use Rattle.al_unit_faults.specs.Numbers.{IsNumbering, number_at, node_of, targets, AddsFrom, StepsBelow}
use Rattle.al_unit_faults.proofs.UnitLemmas.{some_is, in_file, at_key, at_own_key, among_files}
use Rattle.al_unit_faults.proofs.CycleLemmas.{depending_is_unit, itself_decided}
use Rattle.al_unit_faults.proofs.NumberLemmas.{at_or_before}

-- one step more from a node
pub no_steps : (g : List (List ℕ)) (from : ℕ) → AddsFrom g g from []
no_steps g from = record {
  count = refl;
  steps = λ a b. ((λ s. inl s), (λ e. elim e [ inl s ↦ s | inr r ↦ absurd (nowhere b r.1) ]));
}

pub step_added : (g h : List (List ℕ)) (from : ℕ) (tos : List ℕ) (to : ℕ) → from < length h → AddsFrom g h from tos → AddsFrom g (with_step h from to) from (tos ++ to ∷ [])
step_added g h from tos to within so_far = record {
  count = length-with_step h from to ∙ so_far.count;
  steps = λ a b. (
    (λ s. elim (Step-with_step h from to within a b s) [
      | inl old ↦ elim ((so_far.steps a b).0 old) [ inl first ↦ inl first | inr r ↦ inr (r.0, Contains-append_left tos (to ∷ []) b r.1) ]
      | inr new ↦ inr (new.0, subst (λ n. Contains (tos ++ to ∷ []) n) (sym new.1) (Contains-push tos to))
    ]),
    (λ e. elim e [
      | inl first ↦ Step-kept h from to within a b ((so_far.steps a b).1 (inl first))
      | inr r ↦ elim (Contains-push_cases tos to b r.1) [
        | inl old ↦ Step-kept h from to within a b ((so_far.steps a b).1 (inr (r.0, old)))
        | inr new ↦ subst (λ n. Step (with_step h from to) a n) new (subst (λ n. Step (with_step h from to) n to) (sym r.0) (Step-added h from to within))
      ]
    ]),
  );
}

default_free : {X : Type 0} (xs : List X) (i : ℕ) (d e : X) → i < length xs → get_or xs i d ≡ get_or xs i e
default_free [] i d e within = absurd (omega (arith, within))
default_free (x ∷ xs) zero d e within = refl
default_free (x ∷ xs) (suc i) d e within = default_free xs i d e (omega (arith, within))

contains_map : {X Y : Type 0} (f : X → Y) (xs : List X) (x : X) → Contains xs x → Contains (map f xs) (f x)
contains_map f xs x c = contains_at f xs c.0 x c.1 c.2
  where
    contains_at : {X Y : Type 0} (f : X → Y) (xs : List X) (i : ℕ) (x : X) → i < length xs → get_or xs i x ≡ x → Contains (map f xs) (f x)
    contains_at f [] i x within is = absurd (omega (arith, within))
    contains_at f (y ∷ ys) zero x within is = subst (λ v. Contains (f y ∷ map f ys) (f v)) is (first (f y) (map f ys))
    contains_at f (y ∷ ys) (suc i) x within is = later (f y) (map f ys) (f x) (contains_at f ys i x (omega (arith, within)) is)

from_listed : {X : Type 0} (o : Option X) (y : X) → Contains (listed o) y → o ≡ Some y
from_listed None y c = absurd (nowhere y c)
from_listed (Some x) y c = ap (λ k. Some k) (the_one x y c)

into_listed : {X : Type 0} (o : Option X) (y : X) → o ≡ Some y → Contains (listed o) y
into_listed o y is = subst (λ p. Contains (listed p) y) (sym is) (one y)

pub bools : (a b : Bool) → (a ≡ true → b ≡ true) → (b ≡ true → a ≡ true) → a ≡ b
bools true b go back = sym (go refl)
bools false true go back = back refl
bools false false go back = refl

depends_is_unit : (lib : Library) (x y : Key) → DependsOn lib x y → (h : Header) × (unit_at lib x ≡ Some h)
depends_is_unit lib x y (directly c) = depending_is_unit lib x y c
depends_is_unit lib x y (through {y = z} d e) = depends_is_unit lib x z d

module _ (lib : Library) (files : List (List ℕ)) (ns : List (List ℕ × ℕ)) (numbering : IsNumbering files (length files) ns) where
  abbrev node : Key → Option ℕ
  node key = node_of lib ns key

  abbrev file_at : ℕ → List ℕ
  file_at i = get_or files i []

  node_by : (key : Key) (n : ℕ) (o : Option Header) → unit_at lib key ≡ o → (if is_some o then number_at ns (file_name_of key) else None) ≡ Some n → (h : Header) × (unit_at lib key ≡ Some h) × (number_at ns (file_name_of key) ≡ Some n)
  node_by key n None at is = absurd (cc)
  node_by key n (Some h) at is = (h, at, is)

  pub from_node : (key : Key) (n : ℕ) → node key ≡ Some n → (h : Header) × (unit_at lib key ≡ Some h) × (number_at ns (file_name_of key) ≡ Some n)
  from_node key n is = node_by key n (unit_at lib key) refl is

  into_node : (key : Key) (n : ℕ) (h : Header) → unit_at lib key ≡ Some h → number_at ns (file_name_of key) ≡ Some n → node key ≡ Some n
  into_node key n h at is = rw at is

  from_targets : (file : List ℕ) (t : ℕ) → Contains (targets lib ns file) t → (key : Key) × Contains (option_map_or (dependences lib) (unit_in lib file) []) key × (node key ≡ Some t)
  from_targets file t c =
      let r = from_flat_map (λ key. listed (node key)) (option_map_or (dependences lib) (unit_in lib file) []) t c in
      (r.0, r.1, from_listed (node r.0) t r.2)

  pub targets_within : (file : List ℕ) (t : ℕ) → Contains (targets lib ns file) t → t < length files
  targets_within file t c =
      let r = from_targets file t c in
      (numbering.right (file_name_of r.0) t (from_node r.0 t r.2).2).0

  pub steps_more : (i : ℕ) (g h : List (List ℕ)) → StepsBelow lib files ns i g → AddsFrom g h i (targets lib ns (file_at i)) → StepsBelow lib files ns (i + 1) h
  steps_more i g h so_far more = record {
    nodes = more.count ∙ so_far.nodes;
    steps = λ a b. (
      (λ s. elim ((more.steps a b).0 s) [
        | inl old ↦ let r = (so_far.steps a b).0 old in (omega (arith, r.0), r.1)
        | inr r ↦ (omega (arith, r.0), subst (λ n. Contains (targets lib ns (file_at n)) b) (sym r.0) r.1)
      ]),
      (λ r. elim (at_or_before a i r.0) [
        | inl less ↦ (more.steps a b).1 (inl ((so_far.steps a b).1 (less, r.1)))
        | inr same ↦ (more.steps a b).1 (inr (same, subst (λ n. Contains (targets lib ns (file_at n)) b) same r.1))
      ]),
    );
  }

  -- a node is of one unit
  one_key : (x y : Key) (n : ℕ) → node x ≡ Some n → node y ≡ Some n → x ≡ y
  one_key x y n is too =
      let a = from_node x n is in
      let b = from_node y n too in
      let files_same = sym (numbering.right (file_name_of x) n a.2).1 ∙ (numbering.right (file_name_of y) n b.2).1 in
      let s = at_key lib x a.0 a.1 in
      let t = at_key lib y b.0 b.1 in
      let headers = some_is a.0 b.0 (sym s.0 ∙ ap (λ f. unit_in lib f) files_same ∙ t.0) in
      sym s.1 ∙ ap (λ g. key_of_unit g) headers ∙ t.1

  module _ (all_files : files ≡ keys_of lib) where
    numbered : (file : List ℕ) → Contains files file → (n : ℕ) × (number_at ns file ≡ Some n)
    numbered file c =
        let r = numbering.total c.0 c.1 in
        let same : file_at c.0 ≡ file = default_free files c.0 [] file c.1 ∙ c.2 in
        (r.0, subst (λ f. number_at ns f ≡ Some r.0) same r.1)

    pub has_node : (x : Key) (h : Header) → unit_at lib x ≡ Some h → (n : ℕ) × (node x ≡ Some n)
    has_node x h at =
        let r = at_key lib x h at in
        let held = in_file lib (file_name_of x) h r.0 in
        let e = among_files lib (file_name_of x) held.source held.there in
        let there : Contains (keys_of lib) (file_name_of x) = subst (λ f. Contains (keys_of lib) f) (sym e.2) (contains_map (λ (f : _). f.0) lib e.0 e.1) in
        let n = numbered (file_name_of x) (subst (λ fs. Contains fs (file_name_of x)) (sym all_files) there) in
        (n.0, into_node x n.0 h at n.1)

    module _ (g : List (List ℕ)) (below : StepsBelow lib files ns (length files) g) where
      -- what the file of a node gives
      pub same_unit : (x : Key) (i : ℕ) → node x ≡ Some i → unit_in lib (file_at i) ≡ unit_at lib x
      same_unit x i is =
          let a = from_node x i is in
          ap (λ f. unit_in lib f) (numbering.right (file_name_of x) i a.2).1 ∙ (at_key lib x a.0 a.1).0 ∙ sym a.1

      from_step : (x : Key) (i j : ℕ) → node x ≡ Some i → Step g i j → (y : Key) × Contains (direct lib x) y × (node y ≡ Some j)
      from_step x i j is s =
          let r = from_targets (file_at i) j ((below.steps i j).0 s).1 in
          (r.0, subst (λ o. Contains (option_map_or (dependences lib) o []) r.0) (same_unit x i is) r.1, r.2)

      into_step : (x y : Key) (i j : ℕ) → node x ≡ Some i → Contains (direct lib x) y → node y ≡ Some j → Step g i j
      into_step x y i j is c too =
          let within = (numbering.right (file_name_of x) i (from_node x i is).2).0 in
          let d = subst (λ o. Contains (option_map_or (dependences lib) o []) y) (sym (same_unit x i is)) c in
          (below.steps i j).1 (within, into_flat_map (λ key. listed (node key)) (option_map_or (dependences lib) (unit_in lib (file_at i)) []) y j d (into_listed (node y) j too))

      pub from_way : (x : Key) (i j : ℕ) → node x ≡ Some i → Reaches g i j → (y : Key) × (node y ≡ Some j) × ((x ≡ y) ⊎ DependsOn lib x y)
      from_way x i j is here = (x, is, inl refl)
      from_way x i j is (further b r s) =
          let p = from_way x i b is r in
          let q = from_step p.0 b j p.1 s in (
            q.0,
            q.2,
            elim p.2 [
              | inl same ↦ inr (directly (subst (λ k. Contains (direct lib k) q.0) (sym same) q.1))
              | inr d ↦ inr (through d (directly q.1))
            ],
          )

      from_cycle : (x : Key) (i : ℕ) → node x ≡ Some i → IsOnCycle g i → DependsOn lib x x
      from_cycle x i is c =
          let p = from_step x i c.0 is c.1 in
          let q = from_way p.0 c.0 i p.2 c.2 in
          let back = one_key q.0 x i q.1 is in
          elim q.2 [
            | inl same ↦ directly (subst (λ k. Contains (direct lib x) k) (same ∙ back) p.1)
            | inr d ↦ through (directly p.1) (subst (λ k. DependsOn lib p.0 k) back d)
          ]

      pub into_way : (x y : Key) (i j : ℕ) → DependsOn lib x y → node x ≡ Some i → node y ≡ Some j → (b : ℕ) × Step g i b × Reaches g b j
      into_way x y i j (directly c) is too = (j, into_step x y i j is c too, here)
      into_way x y i j (through {y = z} d e) is too =
          let u = depends_is_unit lib z y e in
          let n = has_node z u.0 u.1 in
          let a = into_way x z i n.0 d is n.1 in
          let b = into_way z y n.0 j e n.1 too in
          (a.0, a.1, Reaches-trans a.0 n.0 j a.2 (Reaches-trans n.0 b.0 j (further n.0 here b.1) b.2))

      pub cycles_told : (flags : List Bool) → Marks flags (length g) (IsOnCycle g) → (file : List ℕ) (h : Header) → unit_in lib file ≡ Some h → option_map_or (λ n. get_or flags n false) (number_at ns file) false ≡ depends_on_itself lib (key_of_unit h)
      cycles_told flags marks file h is =
          let x = key_of_unit h in
          let n = has_node x h (at_own_key lib file h is) in
          let named = (in_file lib file h is).named in
          let number : number_at ns file ≡ Some n.0 = subst (λ f. number_at ns f ≡ Some n.0) (sym named) (from_node x n.0 n.1).2 in
          rw number (bools (get_or flags n.0 false) (depends_on_itself lib x)
          (λ set. (itself_decided lib x).1 (from_cycle x n.0 n.1 ((marks.1 n.0).0 set)))
          (λ itself. (marks.1 n.0).1 (into_way x x n.0 n.0 ((itself_decided lib x).0 itself) n.1 n.1)))
