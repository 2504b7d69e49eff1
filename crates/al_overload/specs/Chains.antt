-- Heads whose first operand has operands too, as in a chain of operators, and lists of operands.
use Rattle.std.specs.Prelude.{◌≡◌, ◌<◌, List, [], ◌∷◌, map, length}
use Rattle.al_overload.specs.Counts.{IsHead, candidates, label_of, labels_of, plain_all}
use Rattle.al_overload.specs.Labelling.{Label, Labels, MoreLabels, Node, NodeAs, preferred}
use Rattle.al_overload.specs.declared.chain.Link.{Link}
use Rattle.al_overload.specs.declared.chain.Step.{Step}
use Rattle.al_overload.specs.declared.chain.Step.TheVariants as steps
use Rattle.al_overload.specs.declared.term.Labelled.{Labelled}
use Rattle.al_overload.specs.declared.term.Terms.{Terms, size-Terms}

-- a link with what is chosen of its first operand
abbrev pub linked : Link → Label → Label
linked link first = NodeAs link.number link.is_root (MoreLabels first (labels_of link.others))

-- the innermost link comes last
abbrev pub all_linked : List Link → Label → Label
all_linked [] first = first
all_linked (link ∷ links) first = linked link (all_linked links first)

-- these operands, and after them those
abbrev pub listed : List Labelled → Labels → Labels
listed [] others = others
listed (operand ∷ operands) others = MoreLabels (label_of operand) (listed operands others)

-- what is preferred at a head, by a step down to its first operand
abbrev pub stepped : Step → List Label
stepped (steps.Down link choices operands expected) = map (linked link) (preferred (Node (candidates choices.now) (plain_all operands.now)) expected.now)
stepped (steps.Last labelled) = label_of labelled ∷ []

-- what is in a head is less deep; it is counted too, and has one labelling
abbrev pub IsBelow : Terms → Step → Type 0
IsBelow whole (steps.Down link choices operands expected) =
    IsHead choices.now operands.now
    × (length (preferred (Node (candidates choices.now) (plain_all operands.now)) expected.now) ≡ 1)
    × (size-Terms operands.now < size-Terms whole)
IsBelow whole (steps.Last labelled) = Unit
