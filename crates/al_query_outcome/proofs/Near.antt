-- The units that a check may come to know of: those on which its unit depends, and units that no map gives an outcome.
use Rattle.std.proofs.Common.{◌≡◌, inl, inr, true, false, List, [], ◌∷◌, ◌++◌, sym, ◌∙◌, subst}
use Rattle.std.specs.List.{Contains, list_all, flat_map}
use Rattle.al_base.specs.Batch.{key_of}
use Rattle.al_base_graph.proofs.Members.{first_or_later, nowhere}
use Rattle.al_base.specs.declared.unit_key.UnitKey.{UnitKey}
use Rattle.al_view.specs.Symbols.{same_kind}
use Rattle.al_base.specs.declared.unit_key.UnitKind.TheVariants.{Decl}
use Rattle.al_view.proofs.SymbolLemmas.{both}
use Rattle.al_query.specs.Reads.{Agrees}
use Rattle.al_query.specs.Queries.{unit_of}
use Rattle.al_query.specs.declared.answer.AnswerKind.{AnswerKind}
use Rattle.al_query.specs.declared.query.Query.{Query}
use Rattle.al_unit_graph.specs.Dependence.{DependsOn, through}
use Rattle.al_query.specs.Known.{Grounded, body, learned}
use Rattle.al_query_outcome.specs.ReadsLaw.{is_of_another}
use Rattle.al_query_outcome.specs.Equations.{Setting}
use Rattle.al_query_outcome.proofs.Members.{Each, each-append, each-none, has-contains}

abbrev pub Depends : Setting → UnitKey → UnitKey → Type 0
Depends s u x = DependsOn s.files (key_of u) (key_of x)

-- the unit itself, one on which it depends, one without an outcome in any map
pub data Fine (s : Setting) (u x : UnitKey) : Type 0 where
  itself : u ≡ x → Fine s u x
  depended : Depends s u x → Fine s u x
  missing : s.is_faultless x ≡ false → Fine s u x

-- and where a declaration is missing, so is its body, unless the unit depends on that
abbrev pub Near : Setting → UnitKey → UnitKey → Type 0
Near s u x = Fine s u x × (same_kind x.kind Decl ≡ true → s.is_faultless x ≡ false → Fine s u (body x.name))

module _ (s : Setting) (u : UnitKey) where
  -- what is near a unit on which this one depends is near this one
  fine-through : (y : UnitKey) → Depends s u y → (x : UnitKey) → Fine s y x → Fine s u x
  fine-through y d x (itself is) = depended (subst (λ (z : UnitKey). Depends s u z) is d)
  fine-through y d x (depended e) = depended (through d e)
  fine-through y d x (missing m) = missing m

  pub near-through : (y : UnitKey) → Depends s u y → (x : UnitKey) → Near s y x → Near s u x
  near-through y d x n = (fine-through y d x n.0, λ k m. fine-through y d (body x.name) (n.1 k m))

  -- a unit that is there
  pub near-there : (x : UnitKey) → s.is_faultless x ≡ true → Fine s u x → Near s u x
  near-there x is f = (f, λ k m. absurd (cc))

  -- one that isn't, and no declaration
  pub near-other : (x : UnitKey) → same_kind x.kind Decl ≡ false → Fine s u x → Near s u x
  near-other x other f = (f, λ k m. absurd (cc))

  -- a log that agrees with one table agrees with another that gives the same of all that is near
  module _ (t v : Query → AnswerKind) (same : (q : Query) → is_of_another u q ≡ true → Near s u (unit_of q) → t q ≡ v q) (learns : (q : Query) → is_of_another u q ≡ true → Near s u (unit_of q) → Each (Near s u) (learned q (t q))) where
    pub log-moves : (known : List UnitKey) (log : List (Query × AnswerKind)) → Each (Near s u) known → Grounded known log → list_all (λ (e : Query × AnswerKind). is_of_another u e.0) log ≡ true → Agrees t log → Agrees v log × Each (Near s u) (flat_map (λ (e : Query × AnswerKind). learned e.0 e.1) log)
    log-moves known [] near grounded others agrees = (tt, each-none (Near s u))
    log-moves known (e ∷ es) near grounded others agrees =
        let two = both (is_of_another u e.0) (list_all (λ (d : Query × AnswerKind). is_of_another u d.0) es) others in
        let here : Near s u (unit_of e.0) = near (unit_of e.0) (has-contains known (unit_of e.0) grounded.0) in
        let more : Each (Near s u) (learned e.0 e.1) = subst (λ (a : AnswerKind). Each (Near s u) (learned e.0 a)) agrees.0 (learns e.0 two.0 here) in
        let rest = log-moves (known ++ learned e.0 e.1) es (each-append (Near s u) known (learned e.0 e.1) near more) grounded.1 two.1 agrees.1 in
        ((sym (same e.0 two.0 here) ∙ agrees.0, rest.0), each-append (Near s u) (learned e.0 e.1) (flat_map (λ (d : Query × AnswerKind). learned d.0 d.1) es) more rest.1)

    -- each question of a log that agrees is of a unit that is near
    pub log-near : (known : List UnitKey) (log : List (Query × AnswerKind)) → Each (Near s u) known → Grounded known log → list_all (λ (e : Query × AnswerKind). is_of_another u e.0) log ≡ true → Agrees t log → (d : Query × AnswerKind) → Contains log d → (is_of_another u d.0 ≡ true) × Near s u (unit_of d.0) × (t d.0 ≡ d.1)
    log-near known [] near grounded others agrees d c = absurd (nowhere d c)
    log-near known (e ∷ es) near grounded others agrees d c =
        let two = both (is_of_another u e.0) (list_all (λ (d : Query × AnswerKind). is_of_another u d.0) es) others in
        let here : Near s u (unit_of e.0) = near (unit_of e.0) (has-contains known (unit_of e.0) grounded.0) in
        let more : Each (Near s u) (learned e.0 e.1) = subst (λ (a : AnswerKind). Each (Near s u) (learned e.0 a)) agrees.0 (learns e.0 two.0 here) in
        elim (first_or_later e es d c) as (λ _. (is_of_another u d.0 ≡ true) × Near s u (unit_of d.0) × (t d.0 ≡ d.1)) [
          | inl is ↦ subst (λ (x : Query × AnswerKind). (is_of_another u x.0 ≡ true) × Near s u (unit_of x.0) × (t x.0 ≡ x.1)) is (two.0, here, agrees.0)
          | inr k ↦ log-near (known ++ learned e.0 e.1) es (each-append (Near s u) known (learned e.0 e.1) near more) grounded.1 two.1 agrees.1 d k
        ]
