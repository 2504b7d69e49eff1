-- A search: what it found, and what it has still to look at.
use Rattle.std.proofs.Common.{◌≡◌, ◌↔◌, ℕ, ◌+◌, ◌<◌, ◌≤◌, Bool, true, false, cond, List, [], ◌∷◌, ◌++◌, length, get_or, set, sym, ap, ◌∙◌, subst, inl, inr, arith, IsTrue}
use Rattle.std.specs.List.{Contains, count_by}
use Rattle.std.proofs.lemmas.Bool.{cases_eq, cases_lt}
use Rattle.std.proofs.lemmas.List.{append_assoc, get_or-set_same, get_or-set_other, get_or_append_left, get_or_default, length_push, length-append}
use Rattle.std.proofs.lemmas.List.Elements.{Contains-get_or, Contains-append_left, Contains-append_right, Contains-push, Contains-push_cases, Contains-append_cases}
use Rattle.std.proofs.lemmas.List.Sums.{sum_by-set}
use Rattle.al_base_graph.specs.Graphs.{Step, IsReached, successors_of}
use Rattle.al_base_graph.specs.Searches.{AreFound, Grows}
use Rattle.al_base_graph.proofs.ListLemmas.{Contains-same, set_within}
use Rattle.al_base_graph.proofs.ReachLemmas.{reached_start, reached_step, least}

abbrev weight : Bool → ℕ
weight flag = cond flag 1 0

-- one node more is found
module _ (flags : List Bool) (nodes : List ℕ) (node : ℕ) (l : node < length flags) (new : get_or flags node false ≡ false) (found : AreFound flags nodes) where
  flagged_after : (a : ℕ) → IsTrue (get_or (set flags node true) a false) → Contains (nodes ++ node ∷ []) a
  flagged_after a t =
      elim (cases_eq a node) [
        | inl e ↦ let P : ℕ → Type 0 = λ n. Contains (nodes ++ node ∷ []) n in subst P (sym e) (Contains-push nodes node)
        | inr n ↦ Contains-append_left nodes (node ∷ []) a ((found.flagged a).0 (sym (get_or-set_other flags node a true false n) ∙ t))
      ]

  after_flagged : (a : ℕ) → Contains (nodes ++ node ∷ []) a → IsTrue (get_or (set flags node true) a false)
  after_flagged a h =
      elim (cases_eq a node) [
        | inl e ↦ let P : ℕ → Type 0 = λ n. get_or (set flags node true) n false ≡ true in subst P (sym e) (get_or-set_same flags node true false l)
        | inr n ↦ elim (Contains-push_cases nodes node a h) [
          | inl old ↦ get_or-set_other flags node a true false n ∙ (found.flagged a).1 old
          | inr e ↦ absurd (n (sym e))
        ]
      ]

  once_after : count_by (λ flag. flag) (set flags node true) ≡ length (nodes ++ node ∷ [])
  once_after =
      let written : count_by (λ (flag : Bool). flag) (set flags node true) + weight (get_or flags node false) ≡ count_by (λ (flag : Bool). flag) flags + 1 = sum_by-set weight flags node true false l in
      let nothing : weight (get_or flags node false) ≡ 0 = ap weight new in
      let before = found.once in
      let longer = length_push nodes node in
      omega arith

  pub AreFound-add : AreFound (set flags node true) (nodes ++ node ∷ [])
  AreFound-add = record { flagged = λ a. (flagged_after a, after_flagged a); once = once_after }

pub found_within : (flags : List Bool) (nodes : List ℕ) (k d : ℕ) → AreFound flags nodes → k < length nodes → get_or nodes k d < length flags
found_within flags nodes k d found l = set_within flags (get_or nodes k d) ((found.flagged (get_or nodes k d)).1 (Contains-get_or nodes k d l))

pub kept : (old new more : List ℕ) (a : ℕ) → Grows old new more → Contains old a → Contains new a
kept old new more a g h = Contains-same _ _ a (sym g.goes_on) (Contains-append_left old g.rest a h)

pub more_found : (old new : List ℕ) (next : ℕ) (more : List ℕ) → next < length old → Grows old new more → next + 1 ≤ length new
more_found old new next more l g = let e = ap length g.goes_on in omega (arith, length-append old g.rest)

-- what is added first to one list, and then one number to the other
pub Grows-push : (old mid new more : List ℕ) (x : ℕ) → Grows old mid more → Grows mid new (x ∷ []) → Grows old new (more ++ x ∷ [])
Grows-push old mid new more x g h = record {
  rest = g.rest ++ h.rest;
  goes_on = h.goes_on ∙ ap (λ xs. xs ++ h.rest) g.goes_on ∙ append_assoc old g.rest h.rest;
  all = λ a m. elim (Contains-append_cases more (x ∷ []) a m) [ inl left ↦ kept mid new (x ∷ []) a h (g.all a left) | inr right ↦ h.all a right ];
  only = λ a m. elim (Contains-append_cases g.rest h.rest a m) [ inl left ↦ Contains-append_left more (x ∷ []) a (g.only a left) | inr right ↦ Contains-append_right more (x ∷ []) a (h.only a right) ];
}

-- the starts are found, as are the successors of the nodes before `next`, and each node found is reached
pub record IsSearched (g : List (List ℕ)) (starts nodes : List ℕ) (next : ℕ) : Type 0 where
  pub reached : (a : ℕ) → Contains nodes a → IsReached g starts a
  pub begun : (a : ℕ) → Contains starts a → Contains nodes a
  pub done : (k : ℕ) → k < next → (b : ℕ) → Step g (get_or nodes k 0) b → Contains nodes b

pub IsSearched-none : (g : List (List ℕ)) (starts nodes : List ℕ) → Grows [] nodes starts → IsSearched g starts nodes 0
IsSearched-none g starts nodes grows = record {
  reached = λ a h. reached_start g starts a (grows.only a (Contains-same _ _ a grows.goes_on h));
  begun = λ a h. grows.all a h;
  done = λ k l b s. absurd (omega arith);
}

module _ (g : List (List ℕ)) (starts old new : List ℕ) (next : ℕ) (l : next < length old) (searched : IsSearched g starts old next) (grows : Grows old new (successors_of g (get_or old next 0))) where
  reached_after : (a : ℕ) → Contains new a → IsReached g starts a
  reached_after a h =
      elim (Contains-append_cases old grows.rest a (Contains-same _ _ a grows.goes_on h)) [
        | inl before ↦ searched.reached a before
        | inr more ↦ reached_step g starts (get_or old next 0) a (searched.reached _ (Contains-get_or old next 0 l)) (grows.only a more)
      ]

  same_front : (k : ℕ) → k < length old → get_or new k 0 ≡ get_or old k 0
  same_front k m = ap (λ xs. get_or xs k 0) grows.goes_on ∙ get_or_append_left old grows.rest 0 k m

  done_after : (k : ℕ) → k < next + 1 → (b : ℕ) → Step g (get_or new k 0) b → Contains new b
  done_after k m b s =
      let P : ℕ → Type 0 = λ a. Step g a b in
      let there : Step g (get_or old k 0) b = subst P (same_front k (omega arith)) s in
      elim (cases_lt k next) [
        | inl before ↦ kept old new _ b grows (searched.done k before b there)
        | inr after ↦ let e : k ≡ next = omega arith in let Q : ℕ → Type 0 = λ n. Step g (get_or old n 0) b in grows.all b (subst Q e there)
      ]

  pub IsSearched-more : IsSearched g starts new (next + 1)
  IsSearched-more = record {
    reached = reached_after;
    begun = λ a h. kept old new _ a grows (searched.begun a h);
    done = done_after;
  }

-- all is looked at
pub IsSearched-all : (g : List (List ℕ)) (starts nodes : List ℕ) (next : ℕ) → length nodes ≤ next → IsSearched g starts nodes next → (a : ℕ) → Contains nodes a ↔ IsReached g starts a
IsSearched-all g starts nodes next whole searched a =
    let P : ℕ → Type 0 = λ b. Contains nodes b in
    let closed : (c d : ℕ) → P c → Step g c d → P d = λ c d h s.
    let Q : ℕ → Type 0 = λ n. Step g n d in
    let l : h.0 < length nodes = h.1 in
    searched.done h.0 (omega arith) d (subst Q (sym (get_or_default nodes h.0 0 c h.1 ∙ h.2)) s) in
    (searched.reached a, λ r. least g r.0 a P closed (searched.begun r.0 r.1) r.2)
