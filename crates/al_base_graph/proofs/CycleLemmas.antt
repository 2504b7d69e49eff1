-- The walk over stuck nodes.
use Rattle.std.proofs.Common.{◌≡◌, ◌≢◌, ◌↔◌, ◌⊎◌, ℕ, zero, suc, ◌+◌, ◌-◌, ◌<◌, ◌≤◌, Bool, true, false, not, cond, List, [], ◌∷◌, ◌++◌, length, get_or, set, take, drop, replicate, refl, sym, ap, ◌∙◌, subst, inl, inr, arith, IsTrue}
use Rattle.std.specs.List.{Contains, count_by}
use Rattle.std.proofs.lemmas.Bool.{cases_eq, cases_lt, false≢true}
use Rattle.std.proofs.lemmas.List.{get_or_past, get_or_append_left, get_or_push, get_or-set_same, get_or-set_other, length-set, length_push, take-append-drop, get_or-drop, length-drop, length-replicate, get_or-replicate}
use Rattle.std.proofs.lemmas.List.Sums.{sum_by-set}
use Rattle.std.proofs.lemmas.List.Elements.{Contains-append_left, Contains-push, Contains-push_cases, Contains-get_or}
use Rattle.al_base_graph.proofs.Members.{nowhere}
use Rattle.al_base_graph.specs.Graphs.{successors_of, Step, IsClosed}
use Rattle.al_base_graph.specs.Orders.{IsLeast, IsStuck, AreDistinct, IsStuckWalk, IsCycle}
use Rattle.al_base_graph.specs.Placings.{TellStuck}
use Rattle.al_base_graph.proofs.CountLemmas.{one_if}

no_flag : (n a : ℕ) → IsTrue (get_or (replicate n false) a false) → ⊥
no_flag n a t =
    elim (cases_lt a n) [
      | inl below ↦ false≢true (sym (get_or-replicate n a false false below) ∙ t)
      | inr past ↦ false≢true (sym (get_or_past (replicate n false) a false (let e = length-replicate n false in omega arith)) ∙ t)
    ]

-- the walk comes to a node: the nodes met so far, none twice, and the node, which may be one of them
pub record IsAt (g : List (List ℕ)) (met : List Bool) (walk : List ℕ) (node : ℕ) : Type 0 where
  pub count : length met ≡ length g
  pub met_is : (a : ℕ) → IsTrue (get_or met a false) ↔ Contains walk a
  pub stuck : IsStuck g node
  pub distinct : AreDistinct walk
  pub walked : IsStuckWalk g (walk ++ node ∷ [])

abbrev pub is_unmet : Bool → Bool
is_unmet flag = not flag

pub stuck_before : (g : List (List ℕ)) (a : ℕ) → IsStuck g a → (b : ℕ) × Step g a b × IsStuck g b
stuck_before g a stuck = let e = stuck.1 a stuck.2 in (e.0, e.1, (stuck.0, stuck.1, e.2))

pub least_stuck : (g : List (List ℕ)) (missing : List ℕ) (a b : ℕ) → TellStuck g missing → IsLeast (λ c. Step g a c × (0 < get_or missing c 0)) b → IsLeast (λ c. Step g a c × IsStuck g c) b
least_stuck g missing a b tell least = ((least.0.0, (tell b).1 least.0.1), λ c h. least.1 c (h.0, (tell c).0 h.1))

pub walk_begins : (g : List (List ℕ)) (first : ℕ) → IsLeast (IsStuck g) first → IsStuckWalk g (first ∷ [])
walk_begins g first least = record { begins = least; goes_on = λ i l. absurd (omega (arith, l)) }

module _ (g : List (List ℕ)) (met : List Bool) (walk : List ℕ) (node next : ℕ) (at : IsAt g met walk node) (new : get_or met node false ≡ false) (in' : node < length met) (least : IsLeast (λ c. Step g node c × IsStuck g c) next) where
  absent : Contains walk node → ⊥
  absent h = let t = (at.met_is node).1 h in let f : true ≡ false = sym t ∙ new in absurd (cc)

  distinct_after : AreDistinct (walk ++ node ∷ [])
  distinct_after i j l m =
      let longer = length_push walk node in
      let first : get_or (walk ++ node ∷ []) i 0 ≡ get_or walk i 0 = get_or_append_left walk (node ∷ []) 0 i (omega arith) in
      elim (cases_lt j (length walk)) [
        | inl before ↦
            let second : get_or (walk ++ node ∷ []) j 0 ≡ get_or walk j 0 = get_or_append_left walk (node ∷ []) 0 j before in
            λ e. at.distinct i j l before (sym first ∙ e ∙ second)
        | inr after ↦
            let second : get_or (walk ++ node ∷ []) j 0 ≡ node = get_or_push walk node 0 j (omega arith) in
            let P : ℕ → Type 0 = λ x. Contains walk x in
            λ e. absent (subst P (sym first ∙ e ∙ second) (Contains-get_or walk i 0 (omega arith)))
      ]

  walked_after : IsStuckWalk g ((walk ++ node ∷ []) ++ next ∷ [])
  walked_after =
      let longer = length_push walk node in
      let longest = length_push (walk ++ node ∷ []) next in
      let keeps : (i : ℕ) → i < length walk + 1 → get_or ((walk ++ node ∷ []) ++ next ∷ []) i 0 ≡ get_or (walk ++ node ∷ []) i 0 = λ i l. get_or_append_left (walk ++ node ∷ []) (next ∷ []) 0 i (omega arith) in
      record {
        begins = let P : ℕ → Type 0 = λ x. IsLeast (IsStuck g) x in subst P (sym (keeps 0 (omega arith))) at.walked.begins;
        goes_on = λ i l.
            let R : ℕ → ℕ → Type 0 = λ x y. IsLeast (λ b. Step g x b × IsStuck g b) y in
            let P : ℕ → Type 0 = λ x. R x (get_or ((walk ++ node ∷ []) ++ next ∷ []) (i + 1) 0) in
            subst P (sym (keeps i (omega arith))) (
            elim (cases_lt (i + 1) (length walk + 1)) [
              | inl before ↦
                  let Q : ℕ → Type 0 = λ y. R (get_or (walk ++ node ∷ []) i 0) y in
                  subst Q (sym (keeps (i + 1) before)) (at.walked.goes_on i (omega arith))
              | inr after ↦
                  let Q : ℕ → Type 0 = λ y. R (get_or (walk ++ node ∷ []) i 0) y in
                  let S : ℕ → Type 0 = λ x. R x next in
                  let last : get_or (walk ++ node ∷ []) i 0 ≡ node = get_or_push walk node 0 i (omega arith) in
                  subst Q (sym (get_or_push (walk ++ node ∷ []) next 0 (i + 1) (omega arith))) (subst S (sym last) least)
            ]);
      }

  pub IsAt-more : IsAt g (set met node true) (walk ++ node ∷ []) next
  IsAt-more = record {
    count = length-set met node true ∙ at.count;
    met_is = λ a. elim (cases_eq a node) [
      | inl e ↦
          let P : ℕ → Type 0 = λ n. IsTrue (get_or (set met node true) n false) ↔ Contains (walk ++ node ∷ []) n in
          subst P (sym e) (λ t. Contains-push walk node, λ h. get_or-set_same met node true false in')
      | inr n ↦ (
        λ t. Contains-append_left walk (node ∷ []) a ((at.met_is a).0 (sym (get_or-set_other met node a true false n) ∙ t)),
        λ h. elim (Contains-push_cases walk node a h) [ inl old ↦ get_or-set_other met node a true false n ∙ (at.met_is a).1 old | inr e ↦ absurd (n (sym e)) ],
      )
    ];
    stuck = least.0.1;
    distinct = distinct_after;
    walked = walked_after;
  }

pub fewer_unmet : (met : List Bool) (node : ℕ) → node < length met → get_or met node false ≡ false → count_by (λ flag. not flag) (set met node true) < count_by (λ flag. not flag) met
fewer_unmet met node l new =
    let e : count_by (λ (flag : Bool). not flag) (set met node true) + one_if (not (get_or met node false)) ≡ count_by (λ (flag : Bool). not flag) met + one_if (not true) = sum_by-set (λ flag. one_if (not flag)) met node true false l in
    let one : one_if (not (get_or met node false)) ≡ 1 = ap (λ t. one_if (not t)) new in
    omega arith

pub cut_cycle : (g : List (List ℕ)) (met : List Bool) (walk : List ℕ) (node begin : ℕ) → IsAt g met walk node → begin < length walk → get_or walk begin 0 ≡ node → IsCycle g (drop begin walk)
cut_cycle g met walk node begin at l there =
    let whole : take begin walk ++ drop begin walk ≡ walk = take-append-drop begin walk in
    let first : get_or (drop begin walk) 0 0 ≡ node = get_or-drop begin walk 0 0 ∙ ap (λ k. get_or walk k 0) (omega arith) ∙ there in
    let size = length-drop begin walk in
    record {
      front = take begin walk;
      some = omega arith;
      distinct = subst AreDistinct (sym whole) at.distinct;
      walk =
          let P : ℕ → Type 0 = λ x. IsStuckWalk g ((take begin walk ++ drop begin walk) ++ x ∷ []) in
          let Q : List ℕ → Type 0 = λ xs. IsStuckWalk g (xs ++ node ∷ []) in
          subst P (sym first) (subst Q (sym whole) at.walked);
    }

pub IsAt-none : (g : List (List ℕ)) (met : List Bool) (walk : List ℕ) (first n : ℕ) → met ≡ replicate n false → n ≡ length g → walk ≡ [] → IsLeast (IsStuck g) first → IsAt g met walk first
IsAt-none g met walk first n is size none least =
    let P : List ℕ → Type 0 = λ xs. IsAt g met xs first in
    let Q : List Bool → Type 0 = λ xs. IsAt g xs [] first in
    subst P (sym none) (subst Q (sym is) (record {
      count = length-replicate n false ∙ size;
      met_is = λ a. (λ t. absurd (no_flag n a t), λ h. absurd (nowhere a h));
      stuck = least.0;
      distinct = λ i j l m. absurd (omega (arith, m));
      walked = walk_begins g first least;
    }))

-- the least successor of which predecessors are missing
pub some_stuck : (g : List (List ℕ)) (missing : List ℕ) (a : ℕ) → TellStuck g missing → IsStuck g a → (b : ℕ) × Contains (successors_of g a) b × (0 < get_or missing b 0)
some_stuck g missing a tell stuck = let r = stuck_before g a stuck in (r.0, r.1, (tell r.0).0 r.2)

pub first_stuck : (g : List (List ℕ)) (missing : List ℕ) (a : ℕ) → TellStuck g missing → IsLeast (λ b. 0 < get_or missing b 0) a → IsLeast (IsStuck g) a
first_stuck g missing a tell least = ((tell a).1 least.0, λ b stuck. least.1 b ((tell b).0 stuck))
