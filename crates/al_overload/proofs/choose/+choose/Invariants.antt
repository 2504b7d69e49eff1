use Rattle.std.proofs.Common.{◌≡◌, ◌≤◌, length, map}
use Rattle.al_overload.specs.Chains.{all_linked, listed}
use Rattle.al_overload.specs.Counts.{AreCounted, IsHead, candidates, plain_all}
use Rattle.al_overload.specs.Labelling.{Node, preferred, preferred_all}
use Rattle.al_overload.specs.declared.term.Terms.{size-Terms}
use Rattle.al_overload.proofs.choose.+choose.Given as goal

abbrev pub invariant-choose-loop-links : goal.invariant-choose-loop-links
invariant-choose-loop-links l =
    (map (all_linked l.links.items) (preferred (Node (candidates l.choices) (plain_all l.operands)) l.expected)
    ≡ preferred (Node (candidates l.fn.choices) (plain_all l.fn.operands)) l.fn.expected)
    × IsHead l.choices l.operands
    × (length (preferred (Node (candidates l.choices) (plain_all l.operands)) l.expected) ≡ 1)
    × (size-Terms l.operands ≤ size-Terms l.fn.operands)

abbrev pub decreases-choose-loop-links : goal.decreases-choose-loop-links
decreases-choose-loop-links l = size-Terms l.operands

abbrev pub invariant-choose_each-loop-rest : goal.invariant-choose_each-loop-rest
invariant-choose_each-loop-rest l =
    (map (listed l.each.items) (preferred_all (plain_all l.rest) l.rest_expected) ≡ preferred_all (plain_all l.operands) l.expected)
    × AreCounted l.rest
    × (length (preferred_all (plain_all l.rest) l.rest_expected) ≡ 1)
    × (size-Terms l.rest ≤ size-Terms l.operands)
