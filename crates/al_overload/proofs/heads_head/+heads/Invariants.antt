use Rattle.std.proofs.Common.{◌≡◌, ◌≤◌, None, map, take}
use Rattle.al_overload.specs.Counts.{plain}
use Rattle.al_overload.specs.HeadsChains.{chained_head, chained_universal}
use Rattle.al_overload.specs.HeadsHeads.{head_of, plain_head}
use Rattle.al_overload.specs.Parts.{part_of}
use Rattle.al_overload.specs.Universal.{is_universal}
use Rattle.al_overload.specs.TermViews.{term_model}
use Rattle.al_overload.specs.declared.heads_term.Term.{size-Term}
use Rattle.al_overload.proofs.heads_head.+heads.Given as goal

abbrev pub invariant-each-loop-term : goal.invariant-each-loop-term
invariant-each-loop-term l = map plain l.heads.items ≡ map (plain_head l.predefined) (map term_model (take l.term-index l.terms))

abbrev pub invariant-linked-loop-joints : goal.invariant-linked-loop-joints
invariant-linked-loop-joints l =
    (chained_head l.predefined l.joints.items (head_of l.predefined None (term_model l.rest)) (is_universal (term_model l.rest)) (part_of (term_model l.rest))
    ≡ chained_head l.predefined l.fn.links.items (head_of l.predefined None (term_model l.fn.term)) (is_universal (term_model l.fn.term)) (part_of (term_model l.fn.term)))
    × (chained_universal l.joints.items (is_universal (term_model l.rest)) ≡ chained_universal l.fn.links.items (is_universal (term_model l.fn.term)))
    × (size-Term l.rest ≤ size-Term l.fn.term)

abbrev pub decreases-linked-loop-joints : goal.decreases-linked-loop-joints
decreases-linked-loop-joints l = size-Term l.rest
