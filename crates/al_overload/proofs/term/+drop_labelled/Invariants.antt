use Rattle.std.proofs.Common.{◌≤◌}
use Rattle.al_overload.specs.declared.term.Labelled.{size-Labelled}
use Rattle.al_overload.specs.declared.term.LabelledTerms.{size-LabelledTerms}
use Rattle.al_overload.proofs.term.+drop_labelled.Given as goal

abbrev pub invariant-Labelled::drop-loop-first : goal.invariant-Labelled::drop-loop-first
invariant-Labelled::drop-loop-first l = size-Labelled l.self ≤ size-Labelled l.initial.self

abbrev pub decreases-Labelled::drop-loop-first : goal.decreases-Labelled::drop-loop-first
decreases-Labelled::drop-loop-first l = size-Labelled l.self

abbrev pub invariant-LabelledTerms::drop-loop-self : goal.invariant-LabelledTerms::drop-loop-self
invariant-LabelledTerms::drop-loop-self l = size-LabelledTerms l.self ≤ size-LabelledTerms l.initial.self
