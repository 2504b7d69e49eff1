use Rattle.std.proofs.Common.{◌≡◌, ℕ, ◌+◌, ◌<◌, ◌≤◌, zero, suc, [], ◌∷◌, slice_index_or, refl, arith}
use Rattle.al_view_typed.specs.ExpressionTrees.FormTree.{LiteralForm}
use Rattle.al_view_typed.specs.declared.unit.ProtectedWords.{ProtectedWords}
use Rattle.al_check_example_laws.proofs.laws.labelled_units_are_well_formed.Goals as goal

ends_within : (object : ProtectedWords) → object.words ≡ 2 → object.word ≡ 2 → (k : ℕ) (d : ProtectedWords) → k < 1
    → (slice_index_or (object ∷ []) k d).word + (slice_index_or (object ∷ []) k d).words ≤ 4
ends_within object two at_two zero d lt = omega arith
ends_within object two at_two (suc k) d lt = absurd (omega arith)

pub returns-clause-regions : goal.returns-clause-regions
returns-clause-regions g unit object two = (
  λ at_two. record {
    objects = λ k d lt. absurd (omega arith);
    flags = λ k d lt. absurd (omega arith);
    regions = ends_within object two at_two;
  },
  λ at_three well. let end : object.word + object.words ≤ 4 = well.regions 0 object (omega arith) in absurd (omega arith),
)

pub returns-clause-literals : goal.returns-clause-literals
returns-clause-literals g (LiteralForm value) is = (value, refl)
returns-clause-literals g _ is = absurd is
