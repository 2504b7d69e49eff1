-- What the code of a needed unit uses, a needed unit defines.
use Rattle.std.proofs.Common.{◌≡◌, ◌⊎◌, inl, inr, ℕ, zero, suc, ◌<◌, Bool, true, false, List, ◌++◌, Option, Some, None, refl, sym, ◌∙◌, subst, if◌then◌else◌, arith}
use Rattle.std.specs.List.{Contains}
use Rattle.std.proofs.lemmas.List.Elements.{Contains-append_left, Contains-append_right}
use Rattle.al_base.specs.Batch.{Key, key_of}
use Rattle.al_base.specs.declared.unit_key.UnitKey.{UnitKey}
use Rattle.al_base_graph.proofs.Members.{nowhere, from_flat_map}
use Rattle.al_query.specs.Queries.{unit_of}
use Rattle.al_query.specs.Known.{body, has_unit, predefined_units}
use Rattle.al_view.specs.declared.link.LinkSymbol.{LinkSymbol}
use Rattle.al_view_typed.specs.Uses.{unit_defines, unit_uses}
use Rattle.al_query_outcome.specs.Defines.{AllAccountedDefined, AllDefined, Completes, Has, IsDefined, IsStubs, KeepsSymbols, interface_uses}
use Rattle.al_query_outcome.specs.ReadsLaw.{answer_uses, is_of_another, log_uses, named_by}
use Rattle.al_query_outcome.proofs.Answered.{answer-uses}
use Rattle.al_query.specs.declared.answer.AnswerKind.{AnswerKind}
use Rattle.al_query.specs.declared.query.Query.{Query}
use Rattle.al_query.specs.declared.query.Query.TheVariants as query
use Rattle.al_view_typed.specs.UnitTrees.{UnitTree}
use Rattle.al_unit_graph.specs.Dependence.{DependsOn, directly, through}
use Rattle.al_unit_graph.specs.Needed.{Needed, dependence}
use Rattle.al_query_outcome.specs.Results.{Outcome, Faulty, Sound}
use Rattle.al_query_outcome.specs.Tables.{no_answer}
use Rattle.al_query_outcome.specs.declared.interface.UnitInterface.{UnitInterface}
use Rattle.al_query_outcome.specs.Equations.{KeepsReads, Setting, IsSetting, Meaning, Solves, entry, is_reached, is_sound, table}
use Rattle.al_query_outcome.proofs.Near.{Depends, Fine, itself, depended, missing, Near, log-near}
use Rattle.al_query_outcome.proofs.Only.{closed-below, knows, learns, near-depended, others-not, outcome-none, solves-all, sound-of}

-- on what a needed unit depends is needed
needed-too : (lib : Rattle.al_unit_graph.specs.Headers.Library) (main : List ℕ) (a b : Key) → DependsOn lib a b → Needed lib main a → Needed lib main b
needed-too lib main a b (directly c) n = dependence n c
needed-too lib main a b (through {y = y} d e) n = needed-too lib main y b e (needed-too lib main a y d n)

nothing-used : (q : Query) (x : LinkSymbol) → Contains (answer_uses (no_answer q)) x → ⊥
unfolding answer_uses
nothing-used (query.Named unit part name) x c = nowhere x c
nothing-used (query.Of unit property) x c = nowhere x c

module _ (meaning : Meaning) (s : Setting) (is : IsSetting s) (keeps : KeepsReads meaning s.header_of) (main : List ℕ) (f : UnitKey → Option Outcome) (solves : Solves meaning s f)
    (symbols : (u : UnitKey) (i : UnitInterface) (tree : UnitTree) → Has f u i tree → KeepsSymbols u (keeps u (table s f)).log i tree) (whole : Completes s main f) where
  abbrev DefinedBy : LinkSymbol → Type 0
  DefinedBy x = IsDefined s main f x

  -- what a needed unit accounts for
  pub accounted : AllAccountedDefined s main f
  accounted v i tree n has x a =
      elim a as (λ _. DefinedBy x) [
        | inl d ↦ (v, i, tree, n, has, d)
        | inr (inl d) ↦ completed (whole.bodies v i tree x n has d)
        | inr (inr d) ↦ whole.subunits v i tree x n has d
      ]
    where
      completed : (j : UnitInterface) × (other : UnitTree) × Needed s.files main (key_of (body v.name)) × Has f (body v.name) j other × (Contains (unit_defines other) x ⊎ IsStubs j x) → DefinedBy x
      completed b = elim b.4 as (λ _. DefinedBy x) [
        | inl d ↦ (body v.name, b.0, b.1, b.2, b.3, d)
        | inr d ↦ whole.subunits (body v.name) b.0 b.1 x b.2 b.3 d
      ]

  -- what a needed unit promises
  kept : (v : UnitKey) (i : UnitInterface) (tree : UnitTree) → Needed s.files main (key_of v) → Has f v i tree → (x : LinkSymbol) → x.symbol.unit ≡ v → Contains (unit_uses tree ++ interface_uses i) x → DefinedBy x
  kept v i tree n has x own c = accounted v i tree n has x ((symbols v i tree has).defines x own c)

  reached-of : (u : UnitKey) (i : UnitInterface) (tree : UnitTree) → Has f u i tree → is_reached s f u ≡ true
  reached-of u i tree has = sound-of meaning s is keeps f u (f u) (solves u) (rw has refl)

  -- a symbol of a recorded answer is shown by a unit on which this one depends
  answered : (u : UnitKey) → is_reached s f u ≡ true → (q : Query) (x : LinkSymbol) → is_of_another u q ≡ true → Near s u (unit_of q) → Contains (answer_uses (table s f q)) x
      → (y : UnitKey) × (j : UnitInterface) × (other : UnitTree) × Depends s u y × Has f y j other × Contains (interface_uses j) x
  answered u r q x o near c = at (has_unit predefined_units (unit_of q)) refl near.0 c
    where
      Shown : Type 0
      Shown = (y : UnitKey) × (j : UnitInterface) × (other : UnitTree) × Depends s u y × Has f y j other × Contains (interface_uses j) x

      shown : (v : Option Outcome) → v ≡ f (unit_of q) → is_sound v ≡ true → Depends s u (unit_of q) → Contains (answer_uses (entry v q)) x → (y : UnitKey) × (j : UnitInterface) × (other : UnitTree) × Depends s u y × Has f y j other × Contains (interface_uses j) x
      shown None e t d k = absurd (cc)
      shown (Some (Faulty faults)) e t d k = absurd (cc)
      shown (Some (Sound j other)) e t d k = (unit_of q, j, other, d, sym e, answer-uses j q x k)

      at : (b : Bool) → has_unit predefined_units (unit_of q) ≡ b → Fine s u (unit_of q) → Contains (answer_uses (if b then s.predefined q else entry (f (unit_of q)) q)) x → (y : UnitKey) × (j : UnitInterface) × (other : UnitTree) × Depends s u y × Has f y j other × Contains (interface_uses j) x
      at true h fine k = absurd (whole.predefined q x h k)
      at false h (itself e) k = absurd (others-not u (unit_of q) _ h o e)
      at false h (depended d) k = shown (f (unit_of q)) refl (near-depended meaning s is keeps f u (unit_of q) d r (solves-all meaning s is keeps (is.rank u) f solves)).0 d k
      at false h (missing g) k =
          let none : f (unit_of q) ≡ None = solves (unit_of q) ∙ outcome-none meaning s is keeps f (unit_of q) g in
          absurd (nothing-used q x (subst (λ (v : Option Outcome). Contains (answer_uses (entry v q)) x) none k))

  -- what was shown to a needed unit, which stands below a rank
  shown : (n : ℕ) (u : UnitKey) (i : UnitInterface) (tree : UnitTree) → is.rank u < n → Needed s.files main (key_of u) → Has f u i tree → (x : LinkSymbol) → Contains (log_uses (keeps u (table s f)).log) x → DefinedBy x
  unfolding log_uses
  shown zero u i tree less need has x a = absurd (omega (arith, less))
  shown (suc n) u i tree less need has x a =
      let k = keeps u (table s f) in
      let r = reached-of u i tree has in
      let below = solves-all meaning s is keeps (is.rank u) f solves in
      let closed = closed-below meaning s is keeps f u r below in
      let e = from_flat_map (λ (d : Query × AnswerKind). answer_uses d.1) k.log x a in
      let near = log-near s u (table s f) (table s f) (λ q o m. refl) (learns meaning s is keeps f u r below closed) (named_by (s.header_of u)) k.log (knows meaning s is keeps f u r below closed) k.grounded k.others k.agrees e.0 e.1 in
      let y = answered u r e.0.0 x near.0 near.1 (subst (λ (b : AnswerKind). Contains (answer_uses b) x) (sym near.2) e.2) in
      let lower = (near-depended meaning s is keeps f u y.0 y.3 r below).2 in
      let needed = needed-too s.files main (key_of u) (key_of y.0) y.3 need in
      elim ((symbols y.0 y.1 y.2 y.4).shows x y.5) as (λ _. DefinedBy x) [
        | inl own ↦ kept y.0 y.1 y.2 needed y.4 x own (Contains-append_right (unit_uses y.2) (interface_uses y.1) x y.5)
        | inr more ↦ shown n y.0 y.1 y.2 (omega (arith, less, lower)) needed y.4 x more
      ]

  pub all-defined : AllDefined s main f
  all-defined u i tree n has x c =
      elim ((symbols u i tree has).uses x c) as (λ _. DefinedBy x) [
        | inl own ↦ kept u i tree n has x own (Contains-append_left (unit_uses tree) (interface_uses i) x c)
        | inr a ↦ shown (suc (is.rank u)) u i tree (omega arith) n has x a
      ]
