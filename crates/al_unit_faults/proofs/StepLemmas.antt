-- The graph of dependences, one step and one place more at a time.
use Rattle.std.proofs.Common.{◌≡◌, ℕ, zero, suc, ◌+◌, ◌<◌, ◌⊎◌, inl, inr, List, [], ◌∷◌, ◌++◌, map, take, length, get_or, refl, subst, sym, ap, ◌∙◌, arith}
use Rattle.std.specs.List.{Contains}
use Rattle.std.specs.List.Sorted.{IsStrictlySortedBy}
use Rattle.std.proofs.lemmas.List.Elements.{Contains-push, Contains-push_cases, Contains-append_left, Contains-get_or}
use Rattle.std.proofs.lemmas.List.{take_more, map-append}
use Rattle.al_base.specs.Batch.{Key, key_of}
use Rattle.al_base.specs.declared.unit_key.UnitKey.{UnitKey}
use Rattle.al_base.specs.declared.unit_key.UnitKind.TheVariants.{Decl}
use Rattle.al_base_graph.specs.Graphs.{Step, with_step}
use Rattle.al_base_graph.proofs.Members.{nowhere}
use Rattle.al_base_graph.proofs.StepLemmas.{Step-with_step, Step-added, Step-kept, length-with_step}
use Rattle.al_unit_graph.specs.Headers.{Library}
use Rattle.al_unit_graph.specs.Dependence.{direct}
use Rattle.al_unit_graph.specs.Orders.{key_cmp}
use Rattle.al_unit_faults.proofs.NumberLemmas.{at_or_before}
use Rattle.al_unit_faults.specs.Steps.{AddsFrom, IsAt, StepsBelow, key_at}
use Rattle.al_unit_faults.proofs.PlaceLemmas.{one_place}

pub default_free : {X : Type 0} (xs : List X) (i : ℕ) (d e : X) → i < length xs → get_or xs i d ≡ get_or xs i e
default_free [] i d e within = absurd (omega (arith, within))
default_free (x ∷ xs) zero d e within = refl
default_free (x ∷ xs) (suc i) d e within = default_free xs i d e (omega (arith, within))

-- where a key stands, it is read
pub read_at : (units : List Key) (key : Key) (i : ℕ) → IsAt units key i → key_at units i ≡ key
read_at units key i at = default_free units i ([], Decl) key at.0 ∙ at.1

pub no_steps : (g : List (List ℕ)) (from : ℕ) (units : List Key) → AddsFrom g g from units []
no_steps g from units = record {
  count = refl;
  steps = λ a b. ((λ s. inl s), (λ e. elim e [ inl s ↦ s | inr r ↦ absurd (nowhere (key_at units b) r.2) ]));
}

module _ (g h : List (List ℕ)) (from : ℕ) (units keys : List Key) (key : Key) (so_far : AddsFrom g h from units keys) where
  kept : (a b : ℕ) → Step h a b → Step g a b ⊎ ((a ≡ from) × (b < length units) × Contains (keys ++ key ∷ []) (key_at units b))
  kept a b s = elim ((so_far.steps a b).0 s) [ inl first ↦ inl first | inr r ↦ inr (r.0, r.1, Contains-append_left keys (key ∷ []) (key_at units b) r.2) ]

  pub step_added : (to : ℕ) → from < length h → IsStrictlySortedBy key_cmp units → IsAt units key to → AddsFrom g (with_step h from to) from units (keys ++ key ∷ [])
  step_added to within ascend at = record {
    count = length-with_step h from to ∙ so_far.count;
    steps = λ a b. (
      (λ s. elim (Step-with_step h from to within a b s) [
        | inl old ↦ kept a b old
        | inr new ↦
            let same : key_at units b ≡ key = ap (key_at units) new.1 ∙ read_at units key to at in
            inr (new.0, subst (λ n. n < length units) (sym new.1) at.0, subst (λ k. Contains (keys ++ key ∷ []) k) (sym same) (Contains-push keys key))
      ]),
      (λ e. elim e [
        | inl first ↦ Step-kept h from to within a b ((so_far.steps a b).1 (inl first))
        | inr r ↦ elim (Contains-push_cases keys key (key_at units b) r.2) [
          | inl old ↦ Step-kept h from to within a b ((so_far.steps a b).1 (inr (r.0, r.1, old)))
          | inr new ↦
              let same : to ≡ b = one_place units to b ascend at.0 r.1 (read_at units key to at ∙ new) in
              subst (λ n. Step (with_step h from to) a n) same (subst (λ n. Step (with_step h from to) n to) (sym r.0) (Step-added h from to within))
        ]
      ]),
    );
  }

  pub step_passed : (Contains units key → ⊥) → AddsFrom g h from units (keys ++ key ∷ [])
  step_passed none = record {
    count = so_far.count;
    steps = λ a b. (
      kept a b,
      (λ e. elim e [
        | inl first ↦ (so_far.steps a b).1 (inl first)
        | inr r ↦ elim (Contains-push_cases keys key (key_at units b) r.2) [
          | inl old ↦ (so_far.steps a b).1 (inr (r.0, r.1, old))
          | inr new ↦ absurd (none (subst (λ k. Contains units k) (sym new) (Contains-get_or units b ([], Decl) r.1)))
        ]
      ]),
    );
  }

pub steps_more : (lib : Library) (units : List Key) (i : ℕ) (g h : List (List ℕ)) → StepsBelow lib units i g → AddsFrom g h i units (direct lib (key_at units i)) → StepsBelow lib units (i + 1) h
steps_more lib units i g h so_far more = record {
  nodes = more.count ∙ so_far.nodes;
  steps = λ a b. (
    (λ s. elim ((more.steps a b).0 s) [
      | inl old ↦ let r = (so_far.steps a b).0 old in (omega (arith, r.0), r.1, r.2)
      | inr r ↦ (omega (arith, r.0), r.1, subst (λ n. Contains (direct lib (key_at units n)) (key_at units b)) (sym r.0) r.2)
    ]),
    (λ r. elim (at_or_before a i r.0) [
      | inl less ↦ (more.steps a b).1 (inl ((so_far.steps a b).1 (less, r.1, r.2)))
      | inr same ↦ (more.steps a b).1 (inr (same, r.1, subst (λ n. Contains (direct lib (key_at units n)) (key_at units b)) same r.2))
    ]),
  );
}

-- one key more
pub keys_more : (keys : List UnitKey) (i : ℕ) (k : UnitKey) → i < length keys → k ≡ get_or keys i k → map key_of (take (i + 1) keys) ≡ map key_of (take i keys) ++ key_of k ∷ []
keys_more keys i k within is = ap (map key_of) (take_more keys i k within) ∙ map-append key_of (take i keys) (get_or keys i k ∷ []) ∙ ap (λ (x : UnitKey). map key_of (take i keys) ++ key_of x ∷ []) (sym is)
