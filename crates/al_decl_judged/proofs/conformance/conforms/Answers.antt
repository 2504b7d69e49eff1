-- The formals, and what is returned.
use Rattle.std.proofs.Common.{sym, ◌∙◌}
use Rattle.std.proofs.lemmas.Bool.{false≢true}
use Rattle.al_decl_judged.specs.Conformance.{FormalConforms}
use Rattle.al_decl_judged.proofs.EachLemmas.{each_same}
use Rattle.al_decl_judged.proofs.conformance.conforms.Goals as goal

pub returns-then-formals_conform : goal.returns-then-formals_conform
returns-then-formals_conform c = (
  λ h. record {
    formals = each_same FormalConforms _ _ _ _ c.as_slice.ensures c.as_slice-2.ensures (c.formals_conform.ensures.0 c.if-formals_conform.true);
    returned = c.returned_conforms.ensures.0 h;
  },
  λ right. c.returned_conforms.ensures.1 right.returned,
)

pub returns-else-formals_conform : goal.returns-else-formals_conform
returns-else-formals_conform c = (
  λ h. absurd (false≢true (sym c.if-formals_conform.false ∙ h)),
  λ right. c.formals_conform.ensures.1 (each_same FormalConforms _ _ _ _ (sym c.as_slice.ensures) (sym c.as_slice-2.ensures) right.formals),
)
