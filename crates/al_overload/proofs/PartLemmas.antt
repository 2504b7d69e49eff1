-- Parts of parts of an object, from any link of the chain on.
use Rattle.std.proofs.Common.{◌≡◌, ◌+◌, ◌-◌, ◌<◌, ◌≤◌, ℕ, zero, suc, List, Option, Some, None, refl, sym, ap, ◌∙◌, arith}
use Rattle.std.specs.Option.{option_and_then, option_map_or}
use Rattle.al_overload.specs.PartChains.{before, built_up, link_of, linked_part}
use Rattle.al_overload.specs.Parts.{declared_under, part_of, sole_object}
use Rattle.al_overload.specs.declared.part.Nominal.{Nominal}
use Rattle.al_overload.specs.Terms.{TermTree, TermTree as t}

pub Link : Type 0
Link = TermTree × Option (List ℕ)

part_is : (tree : TermTree) → part_of tree ≡ option_map_or (λ l. linked_part l.1 (part_of l.0)) (link_of tree) (option_and_then sole_object (declared_under tree))
part_is (t.NumberTerm a b) = refl
part_is (t.TextTerm a b) = refl
part_is (t.NamedTerm a b) = refl
part_is (t.SelectedTerm a b) = refl
part_is (t.AppliedTerm a b) = refl
part_is (t.BoundTerm a b c) = refl
part_is (t.LengthTerm a b) = refl
part_is (t.ConversionTerm a b c) = refl
part_is (t.QualifiedTerm a b c) = refl
part_is (t.AttributeTerm a b c d) = refl
part_is (t.ImageTerm a b c) = refl
part_is (t.PrefixedTerm a b c d) = refl
part_is (t.InfixTerm a b c d) = refl
part_is (t.ConcatenationTerm a b) = refl
part_is (t.ShortCircuitTerm a b c) = refl
part_is (t.MemberTerm a b c) = refl
part_is (t.RangeMemberTerm a b c d) = refl
part_is (t.GroupTerm a b) = refl
part_is (t.AggregateTerm a b) = refl
part_is (t.OthersTerm a b) = refl
part_is (t.NothingTerm a) = refl

part_link : (tree : TermTree) (l : TermTree × Option (List ℕ)) → link_of tree ≡ Some l → part_of tree ≡ linked_part l.1 (part_of l.0)
part_link tree l e = part_is tree ∙ ap (λ (o : Option (TermTree × Option (List ℕ))). option_map_or (λ l. linked_part l.1 (part_of l.0)) o (option_and_then sole_object (declared_under tree))) e

-- ---- at the end of a chain, and one link before it

before_none : (n : ℕ) (tree : TermTree) → link_of tree ≡ None → before n tree ≡ tree
before_none zero tree e = refl
before_none (suc n) tree e = ap (λ (o : Option (TermTree × Option (List ℕ))). option_map_or (λ l. before n l.0) o tree) e

before_some : (n : ℕ) (tree : TermTree) (l : TermTree × Option (List ℕ)) → link_of tree ≡ Some l → before (suc n) tree ≡ before n l.0
before_some n tree l e = ap (λ (o : Option (TermTree × Option (List ℕ))). option_map_or (λ l. before n l.0) o tree) e

built_none : (n : ℕ) (tree : TermTree) (part : Option Nominal) → link_of tree ≡ None → built_up n tree part ≡ part
built_none zero tree part e = refl
built_none (suc n) tree part e = ap (λ (o : Option (TermTree × Option (List ℕ))). option_map_or (λ l. linked_part l.1 (built_up n l.0 part)) o part) e

built_some : (n : ℕ) (tree : TermTree) (part : Option Nominal) (l : TermTree × Option (List ℕ)) → link_of tree ≡ Some l → built_up (suc n) tree part ≡ linked_part l.1 (built_up n l.0 part)
built_some n tree part l e = ap (λ (o : Option (TermTree × Option (List ℕ))). option_map_or (λ l. linked_part l.1 (built_up n l.0 part)) o part) e

-- ---- one more link

before_last_at : (n : ℕ) (tree : TermTree) (l : TermTree × Option (List ℕ))
    → ((m : TermTree × Option (List ℕ)) → link_of (before n m.0) ≡ Some l → before (suc n) m.0 ≡ l.0)
    → link_of (before (suc n) tree) ≡ Some l → (o : Option (TermTree × Option (List ℕ))) → link_of tree ≡ o → before (suc (suc n)) tree ≡ l.0
before_last_at n tree l more e None is =
    let same : link_of tree ≡ Some l = sym (ap link_of (before_none (suc n) tree is)) ∙ e in
    let never : Some l ≡ None = sym same ∙ is in
    absurd (cc)
before_last_at n tree l more e (Some m) is =
    before_some (suc n) tree m is ∙ more m (sym (ap link_of (before_some n tree m is)) ∙ e)

before_last : (n : ℕ) (tree : TermTree) (l : TermTree × Option (List ℕ)) → link_of (before n tree) ≡ Some l → before (suc n) tree ≡ l.0
before_last zero tree l e = before_some zero tree l e
before_last (suc n) tree l e = before_last_at n tree l (λ m h. before_last n m.0 l h) e (link_of tree) refl

pub before_next : (most count : ℕ) (term rest prefix : TermTree) (name : Option (List ℕ)) → link_of rest ≡ Some (prefix, name) → count < most
    → before (most - count) rest ≡ before most term → before count term ≡ rest
    → (before (most - (count + 1)) prefix ≡ before most term) × (before (count + 1) term ≡ prefix)
before_next most count term rest prefix name e within left gone =
    let one : most - count ≡ suc (most - (count + 1)) = omega (arith, within) in
    let more : count + 1 ≡ suc count = omega arith in (
      sym (before_some (most - (count + 1)) rest (prefix, name) e) ∙ ap (λ (n : ℕ). before n rest) (sym one) ∙ left,
      ap (λ (n : ℕ). before n term) more ∙ before_last count term (prefix, name) (ap link_of gone ∙ e),
    )

-- ---- the links after a place, and those before it

split_at : (n m k : ℕ) (tree : TermTree) (part : Option Nominal)
    → ((l : TermTree × Option (List ℕ)) → built_up k l.0 part ≡ built_up n l.0 (built_up m (before n l.0) part))
    → (o : Option (TermTree × Option (List ℕ))) → link_of tree ≡ o
    → built_up (suc k) tree part ≡ built_up (suc n) tree (built_up m (before (suc n) tree) part)
split_at n m k tree part more None is =
    built_none (suc k) tree part is
    ∙ sym (built_none m tree part is)
    ∙ ap (λ (x : TermTree). built_up m x part) (sym (before_none (suc n) tree is))
    ∙ sym (built_none (suc n) tree (built_up m (before (suc n) tree) part) is)
split_at n m k tree part more (Some l) is =
    built_some k tree part l is
    ∙ ap (linked_part l.1) (more l)
    ∙ ap (λ (x : TermTree). linked_part l.1 (built_up n l.0 (built_up m x part))) (sym (before_some n tree l is))
    ∙ sym (built_some n tree (built_up m (before (suc n) tree) part) l is)

parts_split : (n m k : ℕ) (tree : TermTree) (part : Option Nominal) → k ≡ n + m → built_up k tree part ≡ built_up n tree (built_up m (before n tree) part)
parts_split zero m k tree part e = let same : k ≡ m = omega arith in ap (λ (j : ℕ). built_up j tree part) same
parts_split (suc n) m zero tree part e = absurd (omega arith)
parts_split (suc n) m (suc k) tree part e = split_at n m k tree part (λ l. parts_split n m k l.0 part (omega arith)) (link_of tree) refl

pub halves : (count upper : ℕ) (tree middle : TermTree) (part inner whole : Option Nominal) → upper ≤ count → middle ≡ before upper tree
    → inner ≡ built_up (count - upper) middle part → whole ≡ built_up upper tree inner → whole ≡ built_up count tree part
halves count upper tree middle part inner whole within at lower is =
    is
    ∙ ap (built_up upper tree) (lower ∙ ap (λ (x : TermTree). built_up (count - upper) x part) at)
    ∙ sym (parts_split upper (count - upper) count tree part (omega arith))

-- ---- the part that a whole term is

whole_at : (n : ℕ) (tree : TermTree) → ((l : TermTree × Option (List ℕ)) → part_of l.0 ≡ built_up n l.0 (part_of (before n l.0)))
    → (o : Option (TermTree × Option (List ℕ))) → link_of tree ≡ o → part_of tree ≡ built_up (suc n) tree (part_of (before (suc n) tree))
whole_at n tree more None is = ap part_of (sym (before_none (suc n) tree is)) ∙ sym (built_none (suc n) tree (part_of (before (suc n) tree)) is)
whole_at n tree more (Some l) is =
    part_link tree l is
    ∙ ap (linked_part l.1) (more l)
    ∙ ap (λ (x : TermTree). linked_part l.1 (built_up n l.0 (part_of x))) (sym (before_some n tree l is))
    ∙ sym (built_some n tree (part_of (before (suc n) tree)) l is)

whole_part : (n : ℕ) (tree : TermTree) → part_of tree ≡ built_up n tree (part_of (before n tree))
whole_part zero tree = refl
whole_part (suc n) tree = whole_at n tree (λ l. whole_part n l.0) (link_of tree) refl

pub from_first : (count : ℕ) (tree first : TermTree) (part whole : Option Nominal) → first ≡ before count tree → part ≡ part_of first → whole ≡ built_up count tree part → whole ≡ part_of tree
from_first count tree first part whole at begun is = is ∙ ap (built_up count tree) (begun ∙ ap part_of at) ∙ sym (whole_part count tree)
