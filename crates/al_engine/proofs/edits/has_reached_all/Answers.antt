use Rattle.std.proofs.Common.{◌≡◌, ℕ, [], List, map, subst}
use Rattle.std.specs.List.{Contains}
use Rattle.al_base.specs.Batch.{Finding}
use Rattle.al_unit_faults.specs.FilesSeen.{file_faults_model}
use Rattle.al_unit_faults.specs.declared.listing.FileFaults.{FileFaults}
use Rattle.al_engine.proofs.edits.has_reached_all.Goals as goal

pub returns-then-break_none : goal.returns-then-break_none
returns-then-break_none c = λ is. record {
  none = subst (λ (fs : List FileFaults). (f : List ℕ × List Finding) → Contains (map file_faults_model fs) f → f.1 ≡ []) c.as_slice.ensures.value (c.break_none.ensures c.if-break_none.true);
  reached = c.are_reached.ensures is;
}
