-- What an interpretation is: the list of all labellings of an expression at a type, and which of them are acceptable.
use Rattle.std.specs.Prelude.{ℕ, suc, Bool, true, false, ◌==◌, ◌&&◌, ◌||◌, not, List, [], ◌∷◌, ◌++◌, map, if◌then◌else◌}
use Rattle.std.specs.List.{flat_map, filter, list_any}
use Rattle.al_overload.specs.declared.term.Candidate.{Candidate}
use Rattle.al_overload.specs.declared.types.Expected.{Expected}
use Rattle.al_overload.specs.Fitting.{fits}

-- An expression whose heads have their candidates.
mutual
  pub data Tree : Type 0 where
    Node : List Candidate → Trees → Tree

  pub data Trees : Type 0 where
    NoTree : Trees
    MoreTrees : Tree → Trees → Trees

-- one more candidate of the head
abbrev pub with_candidate : Tree → Candidate → Tree
with_candidate (Node cs args) c = Node (cs ++ c ∷ []) args

-- An expression with one candidate, by its number, at each head, and whether that is an operator of the root type.
mutual
  pub data Label : Type 0 where
    NodeAs : ℕ → Bool → Labels → Label

  pub data Labels : Type 0 where
    NoLabel : Labels
    MoreLabels : Label → Labels → Labels

abbrev pub suits : Candidate → Expected → Bool
suits c t = fits c.given t

-- candidates with their numbers, from this one on
abbrev pub numbered : ℕ → List Candidate → List (ℕ × Candidate)
numbered n [] = []
numbered n (c ∷ cs) = (n, c) ∷ numbered (suc n) cs

-- each choice of a first operand with each choice of the others
abbrev pub pairs : List Label → List Labels → List Labels
pairs xs ys = flat_map (λ x. map (MoreLabels x) ys) xs

-- the labellings that have this candidate at their head, with these choices of operands
abbrev pub heads : (List Expected → List Labels) → Expected → ℕ × Candidate → List Label
heads f t d = if suits d.1 t then map (NodeAs d.0 d.1.is_root) (f d.1.operands) else []

-- All labellings of an expression that is to be this.
abbrev mutual
  pub labellings : Tree → Expected → List Label
  labellings (Node cs args) t = flat_map (λ d. if suits d.1 t then map (NodeAs d.0 d.1.is_root) (fillings args d.1.operands) else []) (numbered 0 cs)

  pub fillings : Trees → List Expected → List Labels
  fillings NoTree [] = NoLabel ∷ []
  fillings NoTree (t ∷ ts) = []
  fillings (MoreTrees a more) [] = []
  fillings (MoreTrees a more) (t ∷ ts) = pairs (labellings a t) (fillings more ts)

-- The first labelling is the second one, but that at some heads it may have the root type's operator, where the second
-- one has another. (What is below such an operator isn't compared.)
abbrev mutual
  pub covers : Label → Label → Bool
  covers (NodeAs n r xs) (NodeAs m q ys) = if n == m then covers_all xs ys else (r && not q)

  pub covers_all : Labels → Labels → Bool
  covers_all NoLabel m = true
  covers_all (MoreLabels x xs) NoLabel = true
  covers_all (MoreLabels x xs) (MoreLabels y ys) = covers x y && covers_all xs ys

abbrev pub beats : Label → Label → Bool
beats o m = covers o m && not (covers m o)

abbrev pub beats_all : Labels → Labels → Bool
beats_all o m = covers_all o m && not (covers_all m o)

-- the members that no other one beats
abbrev pub acceptable : List Label → List Label
acceptable all = filter (λ m. not (list_any (λ o. beats o m) all)) all

abbrev pub acceptable_all : List Labels → List Labels
acceptable_all all = filter (λ m. not (list_any (λ o. beats_all o m) all)) all

abbrev pub is_some_of : {A : Type 0} → List A → Bool
is_some_of [] = false
is_some_of (x ∷ xs) = true

abbrev pub same_bool : Bool → Bool → Bool
same_bool true b = b
same_bool false b = not b

-- The preferred labelling by recursion, as two passes compute it: at each head the root type's operators alone, if one of them fits;
-- below it each choice of what is preferred there.
abbrev mutual
  pub preferred : Tree → Expected → List Label
  preferred (Node cs args) t =
      flat_map (λ d. if d.1.is_root || not (list_any (λ e. e.1.is_root && is_some_of (if suits e.1 t then map (NodeAs e.0 e.1.is_root) (preferred_all args e.1.operands) else [])) (numbered 0 cs))
      then (if suits d.1 t then map (NodeAs d.0 d.1.is_root) (preferred_all args d.1.operands) else []) else []) (numbered 0 cs)

  pub preferred_all : Trees → List Expected → List Labels
  preferred_all NoTree [] = NoLabel ∷ []
  preferred_all NoTree (t ∷ ts) = []
  preferred_all (MoreTrees a more) [] = []
  preferred_all (MoreTrees a more) (t ∷ ts) = pairs (preferred a t) (preferred_all more ts)

-- what is preferred under one candidate, if this is one of the root type's operators, or isn't
abbrev pub of_kind : Trees → Expected → Bool → ℕ × Candidate → List Label
of_kind args t root d = if same_bool d.1.is_root root then heads (preferred_all args) t d else []

-- what is preferred under the candidates of one kind
abbrev pub under : Trees → Expected → Bool → List Candidate → List Label
under args t root cs = flat_map (of_kind args t root) (numbered 0 cs)
