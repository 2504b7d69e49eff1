-- In how many ways an expression can be what is expected: what is kept at each candidate of each head.
use Rattle.std.specs.Prelude.{◌≡◌, ℕ, zero, suc, Bool, true, false, nat_lt, ◌*◌, List, [], ◌∷◌, map, length, ⊤, if◌then◌else◌}
use Rattle.std.specs.List.{sum_by}
use Rattle.al_overload.specs.declared.count.Count.{Count}
use Rattle.al_overload.specs.declared.count.Count.TheVariants as ways
use Rattle.al_overload.specs.declared.term.Candidate.{Candidate}
use Rattle.al_overload.specs.declared.term.Choice.{Choice}
use Rattle.al_overload.specs.declared.types.Expected.{Expected}
use Rattle.al_overload.specs.declared.term.Term.{Term, Head}
use Rattle.al_overload.specs.declared.term.Terms.{Terms, NoTerms, MoreTerms'}
use Rattle.al_overload.specs.declared.term.Labelled.{Labelled, HeadAs}
use Rattle.al_overload.specs.declared.term.LabelledTerms.{LabelledTerms, NoLabelled, MoreLabelled'}
use Rattle.al_overload.specs.Fitting.{fits}
use Rattle.al_overload.specs.Labelling.{Tree, Node, Trees, NoTree, MoreTrees, Label, NodeAs, Labels, NoLabel, MoreLabels, preferred_all, same_bool}

-- none, one or more
abbrev pub ways_of : ℕ → Count
ways_of zero = ways.None
ways_of (suc zero) = ways.One
ways_of (suc (suc n)) = ways.Several

abbrev pub size : Count → ℕ
size ways.None = 0
size ways.One = 1
size ways.Several = 2

abbrev pub candidates : List Choice → List Candidate
candidates choices = map (λ c. c.candidate) choices

abbrev mutual
  pub plain : Term → Tree
  plain (Head choices operands) = Node (candidates choices) (plain_all operands)

  pub plain_all : Terms → Trees
  plain_all NoTerms = NoTree
  plain_all (MoreTerms' p a q more) = MoreTrees (plain a) (plain_all more)

abbrev mutual
  pub label_of : Labelled → Label
  label_of (HeadAs n root operands) = NodeAs n root (labels_of operands)

  pub labels_of : LabelledTerms → Labels
  labels_of NoLabelled = NoLabel
  labels_of (MoreLabelled' p a q more) = MoreLabels (label_of a) (labels_of more)

-- a candidate with the ways in which its operands can be what it wants
abbrev pub counted : Trees → Candidate → Choice
counted args c = record { candidate = c; ways = ways_of (length (preferred_all args c.operands)) }

abbrev pub counted_all : Trees → List Candidate → List Choice
counted_all args cs = map (counted args) cs

-- each candidate in the expression has its count
abbrev mutual
  pub IsCounted : Term → Type 0
  IsCounted (Head choices operands) = (choices ≡ counted_all (plain_all operands) (candidates choices)) × AreCounted operands

  pub AreCounted : Terms → Type 0
  AreCounted NoTerms = ⊤
  AreCounted (MoreTerms' p a q more) = IsCounted a × AreCounted more

-- the ways that one candidate adds, if it is of this kind and gives what is expected
abbrev pub share : Bool → Expected → Choice → ℕ
share root t c = if same_bool c.candidate.is_root root then (if fits c.candidate.given t then size c.ways else 0) else 0

abbrev pub tally : Bool → Expected → List Choice → ℕ
tally root t choices = sum_by (share root t) choices

-- a head with its operands, all counted
abbrev pub IsHead : List Choice → Terms → Type 0
IsHead choices operands = (choices ≡ counted_all (plain_all operands) (candidates choices)) × AreCounted operands

abbrev pub held_in : List Choice → Expected → Count
held_in choices t = if nat_lt 0 (tally true t choices) then ways_of (tally true t choices) else ways_of (tally false t choices)

abbrev pub held : Term → Expected → Count
held (Head choices operands) t = held_in choices t

abbrev pub held_all : Terms → List Expected → Count
held_all NoTerms [] = ways.One
held_all NoTerms (t ∷ ts) = ways.None
held_all (MoreTerms' p a q more) [] = ways.None
held_all (MoreTerms' p a q more) (t ∷ ts) = ways_of (size (held a t) * size (held_all more ts))
