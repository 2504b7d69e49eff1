-- Heads whose first operand has operands too, and lists of operands, with one more at the end.
use Rattle.std.proofs.Common.{◌≡◌, ◌≤◌, ◌-◌, ℕ, Bool, List, [], ◌∷◌, ◌++◌, map, length, take, drop, get_or, refl, sym, ap, subst, ◌∙◌, arith}
use Rattle.std.proofs.lemmas.List.{append-nil, take_all}
use Rattle.al_overload.specs.Chains.{all_linked, linked, listed}
use Rattle.al_overload.specs.Counts.{label_of}
use Rattle.al_overload.specs.Labelling.{Tree, Trees, MoreTrees, Label, Labels, MoreLabels, NoLabel, NoTree, NodeAs, pairs, preferred, preferred_all}
use Rattle.al_overload.specs.declared.chain.Link.{Link}
use Rattle.al_overload.specs.declared.term.Labelled.{Labelled}
use Rattle.al_overload.specs.declared.types.Expected.{Expected}

pub first_linked : (links : List Link) (link : Link) (first : Label) → all_linked (links ++ link ∷ []) first ≡ all_linked links (linked link first)
first_linked [] link first = refl
first_linked (x ∷ links) link first = ap (linked x) (first_linked links link first)

pub first_listed : (operands : List Labelled) (operand : Labelled) (others : Labels) → listed (operands ++ operand ∷ []) others ≡ listed operands (MoreLabels (label_of operand) others)
first_listed [] operand others = refl
first_listed (x ∷ operands) operand others = ap (MoreLabels (label_of x)) (first_listed operands operand others)

-- ---- labellings of which there is one

pub same_labels : (xs : List Label) → map (all_linked []) xs ≡ xs
same_labels [] = refl
same_labels (x ∷ xs) = ap (λ (ys : List Label). x ∷ ys) (same_labels xs)

pub same_lists : (xs : List Labels) → map (listed []) xs ≡ xs
same_lists [] = refl
same_lists (x ∷ xs) = ap (λ (ys : List Labels). x ∷ ys) (same_lists xs)

-- a chain whose first operand has one labelling
pub only_one : (links : List Link) (label : Label) (last whole : List Label) → label ∷ [] ≡ last → map (all_linked links) last ≡ whole → whole ≡ all_linked links label ∷ []
only_one links label last whole is known = sym known ∙ ap (map (all_linked links)) (sym is)

-- with one more link, and with one more operand
pub first_mapped : (links : List Link) (link : Link) (xs : List Label) → map (all_linked (links ++ link ∷ [])) xs ≡ map (all_linked links) (map (linked link) xs)
first_mapped links link [] = refl
first_mapped links link (x ∷ xs) =
    ap (λ (y : Label). y ∷ map (all_linked (links ++ link ∷ [])) xs) (first_linked links link x) ∙ ap (λ (ys : List Label). all_linked links (linked link x) ∷ ys) (first_mapped links link xs)

pub operand_mapped : (each : List Labelled) (operand : Labelled) (xs : List Labels) → map (listed (each ++ operand ∷ [])) xs ≡ map (listed each) (map (MoreLabels (label_of operand)) xs)
operand_mapped each operand [] = refl
operand_mapped each operand (x ∷ xs) =
    ap (λ (y : Labels). y ∷ map (listed (each ++ operand ∷ [])) xs) (first_listed each operand x) ∙ ap (λ (ys : List Labels). listed each (MoreLabels (label_of operand) x) ∷ ys) (operand_mapped each operand xs)

-- the only choice of the other operands with each of the first one
pub head_stepped : (n : ℕ) (root : Bool) (xs : List Label) (ys : List Labels) (others : Labels) → ys ≡ others ∷ []
    → map (λ first. NodeAs n root (MoreLabels first others)) xs ≡ map (NodeAs n root) (pairs xs ys)
head_stepped n root xs ys others is = subst (λ (zs : List Labels). map (λ first. NodeAs n root (MoreLabels first others)) xs ≡ map (NodeAs n root) (pairs xs zs)) (sym is) (each xs)
  where
    each : (vs : List Label) → map (λ first. NodeAs n root (MoreLabels first others)) vs ≡ map (NodeAs n root) (pairs vs (others ∷ []))
    each [] = refl
    each (v ∷ vs) = ap (λ (ls : List Label). NodeAs n root (MoreLabels v others) ∷ ls) (each vs)

pub stepped_is : (n : ℕ) (root : Bool) (xs : List Label) (ys all : List Labels) (others : Labels) (whole : List Label) → ys ≡ others ∷ [] → all ≡ pairs xs ys → whole ≡ map (NodeAs n root) all
    → map (λ first. NodeAs n root (MoreLabels first others)) xs ≡ whole
stepped_is n root xs ys all others whole one both is = head_stepped n root xs ys others one ∙ ap (map (NodeAs n root)) (sym both) ∙ sym is

-- a head without operands
pub head_alone : (expected : List Expected) → length (preferred_all NoTree expected) ≡ 1 → preferred_all NoTree expected ≡ NoLabel ∷ []
head_alone [] one = refl
head_alone (t ∷ ts) one = absurd (omega (arith, one))

-- a step down to the first operand
pub longer : (links new : List Link) (link : Link) (rest left whole : List Label)
    → new ≡ links ++ link ∷ [] → map (linked link) left ≡ rest → map (all_linked links) rest ≡ whole → map (all_linked new) left ≡ whole
longer links new link rest left whole is step known =
    ap (λ (ls : List Link). map (all_linked ls) left) is ∙ first_mapped links link left ∙ ap (map (all_linked links)) step ∙ known

-- one operand more
pub more_listed : (each new : List Labelled) (operand : Labelled) (first : List Label) (others rest whole : List Labels)
    → new ≡ each ++ operand ∷ [] → first ≡ label_of operand ∷ [] → rest ≡ pairs first others → map (listed each) rest ≡ whole → map (listed new) others ≡ whole
more_listed each new operand first others rest whole is one both known =
    ap (λ (os : List Labelled). map (listed os) others) is ∙ operand_mapped each operand others
    ∙ ap (map (listed each)) (sym (both ∙ ap (λ (xs : List Label). pairs xs others) one ∙ append-nil (map (MoreLabels (label_of operand)) others)))
    ∙ known

-- no operand is left
pub none_left : (each : List Labelled) (expected : List Expected) (whole : List Labels) → length (preferred_all NoTree expected) ≡ 1 → map (listed each) (preferred_all NoTree expected) ≡ whole → whole ≡ listed each NoLabel ∷ []
none_left each [] whole one known = sym known
none_left each (t ∷ ts) whole one known = absurd (omega (arith, one))

-- operands by the first one, if what is expected of the others is a slice of what is expected of all
pub sliced : (a : Tree) (more : Trees) (expected : List Expected) (first : Expected) → 1 ≤ length expected → first ≡ get_or expected 0 first
    → preferred_all (MoreTrees a more) expected ≡ pairs (preferred a first) (preferred_all more (take (length expected - 1) (drop 1 expected)))
sliced a more [] first some is = absurd (omega (arith, some))
sliced a more (x ∷ xs) first some is =
    ap (λ (ts : List Expected). pairs (preferred a x) (preferred_all more ts)) (sym (take_all (length (x ∷ xs) - 1) xs (omega arith)))
    ∙ ap (λ (t : Expected). pairs (preferred a t) (preferred_all more (take (length (x ∷ xs) - 1) (drop 1 (x ∷ xs))))) (sym is)
