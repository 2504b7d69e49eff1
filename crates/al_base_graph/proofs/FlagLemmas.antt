-- Flags at nodes, and the list of the nodes whose flags are set.
use Rattle.std.proofs.Common.{◌≡◌, ◌↔◌, ℕ, ◌+◌, ◌<◌, ◌≤◌, Bool, true, false, List, [], ◌∷◌, ◌++◌, length, get_or, sym, ◌∙◌, subst, inl, inr, arith, IsTrue}
use Rattle.std.specs.List.{Contains}
use Rattle.std.proofs.lemmas.Bool.{cases_lt, false≢true}
use Rattle.std.proofs.lemmas.List.Elements.{Contains-append_left, Contains-push, Contains-push_cases}
use Rattle.al_base_graph.specs.Graphs.{IsOnCycle, IsAscending, Lists, Marks}
use Rattle.al_base_graph.proofs.ListLemmas.{set_within}
use Rattle.al_base_graph.proofs.StepLemmas.{Step-from}
use Rattle.al_base_graph.proofs.AscendingLemmas.{IsAscending-push}

pub both_ways : {A B C : Type 0} → A ↔ B → B ↔ C → A ↔ C
both_ways f g = (λ a. g.0 (f.0 a), λ c. f.1 (g.1 c))

-- the numbers below i whose flags are set
pub record AreNumbers (flags : List Bool) (i : ℕ) (nodes : List ℕ) : Type 0 where
  pub ascending : IsAscending nodes
  pub below : (a : ℕ) → Contains nodes a → a < i
  pub listed : (a : ℕ) → Contains nodes a → IsTrue (get_or flags a false)
  pub all : (a : ℕ) → a < i → IsTrue (get_or flags a false) → Contains nodes a

module _ (flags : List Bool) (i : ℕ) (nodes : List ℕ) (numbers : AreNumbers flags i nodes) where
  pub AreNumbers-no : get_or flags i false ≡ false → AreNumbers flags (i + 1) nodes
  AreNumbers-no unset = record {
    ascending = numbers.ascending;
    below = λ a h. let l = numbers.below a h in omega arith;
    listed = numbers.listed;
    all = λ a l t. elim (cases_lt a i) [
      | inl before ↦ numbers.all a before t
      | inr after ↦
          let e : a ≡ i = omega arith in
          let P : ℕ → Type 0 = λ n. get_or flags n false ≡ true in
          absurd (false≢true (sym unset ∙ subst P e t))
    ];
  }

  pub AreNumbers-yes : get_or flags i false ≡ true → AreNumbers flags (i + 1) (nodes ++ i ∷ [])
  AreNumbers-yes t = record {
    ascending = IsAscending-push nodes i numbers.ascending numbers.below;
    below = λ a h. elim (Contains-push_cases nodes i a h) [ inl old ↦ let l = numbers.below a old in omega arith | inr e ↦ omega arith ];
    listed = λ a h. elim (Contains-push_cases nodes i a h) [
      | inl old ↦ numbers.listed a old
      | inr e ↦ let P : ℕ → Type 0 = λ n. get_or flags n false ≡ true in subst P e t
    ];
    all = λ a l u. elim (cases_lt a i) [
      | inl before ↦ Contains-append_left nodes (i ∷ []) a (numbers.all a before u)
      | inr after ↦
          let e : i ≡ a = omega arith in
          let P : ℕ → Type 0 = λ n. Contains (nodes ++ i ∷ []) n in
          subst P e (Contains-push nodes i)
    ];
  }

pub AreNumbers-all : (flags : List Bool) (i : ℕ) (nodes : List ℕ) → length flags ≤ i → AreNumbers flags i nodes → Lists nodes (λ a. IsTrue (get_or flags a false))
AreNumbers-all flags i nodes whole numbers =
    (numbers.ascending, λ a. (numbers.listed a, λ t. let l = set_within flags a t in numbers.all a (omega arith) t))

pub Lists-same : (nodes : List ℕ) (P Q : ℕ → Type 0) → ((a : ℕ) → P a ↔ Q a) → Lists nodes P → Lists nodes Q
Lists-same nodes P Q same lists = (lists.0, λ a. both_ways (lists.1 a) (same a))

-- flags at the nodes below a number mark a set that has no other node
pub Marks-from_below : (flags : List Bool) (n : ℕ) (P : ℕ → Type 0) → ((a : ℕ) → P a → a < n) → length flags ≡ n → ((a : ℕ) → a < n → IsTrue (get_or flags a false) ↔ P a) → Marks flags n P
Marks-from_below flags n P within count marks =
    (count, λ a. (λ t. let l = set_within flags a t in (marks a (omega arith)).0 t, λ p. (marks a (within a p)).1 p))

pub on_cycle_within : (g : List (List ℕ)) (a : ℕ) → IsOnCycle g a → a < length g
on_cycle_within g a cycle = Step-from g a cycle.0 cycle.1
