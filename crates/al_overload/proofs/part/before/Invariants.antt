use Rattle.std.proofs.Common.{◌≡◌, ◌-◌, ◌≤◌}
use Rattle.al_overload.specs.PartChains.{before}
use Rattle.al_overload.proofs.part.before.Given as goal
use Rattle.al_overload.specs.TermViews.{term_model}
use Rattle.al_overload.specs.declared.heads_term.Term.{size-Term}

abbrev pub invariant-loop-count : goal.invariant-loop-count
invariant-loop-count l = record {
  most : before (l.most - l.count) (term_model l.rest) ≡ before l.most (term_model l.term);
  count : before l.count (term_model l.term) ≡ term_model l.rest;
  below : size-Term l.rest ≤ size-Term l.term;
}
