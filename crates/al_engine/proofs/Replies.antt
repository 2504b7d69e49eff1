-- Compiling reports one result.
use Rattle.std.proofs.Common.{◌≡◌, ◌<◌, ℕ, List, [], ◌∷◌, ◌++◌, Option, length, map, refl, sym, ap, subst, ◌∙◌, arith}
use Rattle.std.proofs.lemmas.List.{length-map}
use Rattle.al_base.specs.Batch.{Finding, Key, finding_of, key_of}
use Rattle.al_base.specs.declared.diagnostic.Diagnostic.{Diagnostic}
use Rattle.al_base.specs.declared.unit_key.UnitKey.{UnitKey}
use Rattle.al_unit_graph.specs.Headers.{Library}
use Rattle.al_unit_graph.specs.Orders.{key_cmp}
use Rattle.al_bind.specs.Binding.{IsElaboration}
use Rattle.al_bind.proofs.PlaceLemmas.{key_exact, key_total}
use Rattle.al_bind.proofs.Orders.{one_sorted}
use Rattle.al_bind.proofs.Bound.{one_elaboration, one_fault, order_or_fault}
use Rattle.al_engine.specs.Placed.{ArePlaced, AreSubunits, nothing, item}
use Rattle.al_query_outcome.specs.Defines.{main_symbol}
use Rattle.al_query_outcome.specs.Equations.{unit_named}
use Rattle.al_query_outcome.specs.Results.{Outcome}
use Rattle.al_link.specs.Images.{image_of}
use Rattle.al_link_image.specs.Images.{Image, image_bytes}
use Rattle.al_engine_refresh.specs.Found.{findings_of}
use Rattle.al_engine.specs.Batches.{IsBatch}
use Rattle.al_engine.specs.Objects.{IsLinkable, linked_units, objects_at}
use Rattle.al_engine.specs.Partitions.{IsProgram, IsTooLarge}
use Rattle.al_engine.specs.Programs.{bytes_in, image_in}
use Rattle.al_engine.specs.declared.compiled.Compiled.{Compiled}
use Rattle.al_engine.specs.declared.compiled.Compiled.TheVariants as compiled
use Rattle.al_engine.specs.Replies.{Reply, ReplyIsOne, Faulty, Unbound, TooLarge, Made, reply_of}

-- the items after an item
record Behind (lib : Library) (x : Key) (items placed : List Key) : Type 0 where
  subunits : List Key
  rest : List Key
  are : AreSubunits lib x subunits
  are_placed : ArePlaced lib items rest
  is : placed ≡ x ∷ (subunits ++ rest)

after : (lib : Library) (x : Key) (items placed : List Key) → ArePlaced lib (x ∷ items) placed → Behind lib x items placed
after lib _ _ _ (item {subunits = subunits} {placed = rest} are more) = record { subunits = subunits; rest = rest; are = are; are_placed = more; is = refl }

none_after : (lib : Library) (placed : List Key) → ArePlaced lib [] placed → placed ≡ []
none_after lib _ nothing = refl

pub one_placed : (lib : Library) (items one two : List Key) → ArePlaced lib items one → ArePlaced lib items two → one ≡ two
one_placed lib [] one two x y = none_after lib one x ∙ sym (none_after lib two y)
one_placed lib (k ∷ items) one two x y =
    let a = after lib k items one x in
    let b = after lib k items two y in
    let subunits : a.subunits ≡ b.subunits = one_sorted key_cmp key_total key_exact a.subunits b.subunits a.are.ascend b.are.ascend (λ p. ((λ c. (b.are.all p).1 ((a.are.all p).0 c)), (λ c. (a.are.all p).1 ((b.are.all p).0 c)))) in
    let rest : a.rest ≡ b.rest = one_placed lib items a.rest b.rest a.are_placed b.are_placed in
    a.is ∙ ap (λ s. k ∷ (s ++ a.rest)) subunits ∙ ap (λ r. k ∷ (b.subunits ++ r)) rest ∙ sym b.is

-- a list of errors that isn't empty is of a library with errors
found_some : (found : List Diagnostic) (all : List Finding) → map finding_of found ≡ all → 0 < length found → all ≡ [] → ⊥
found_some found all is some none = omega (arith, some, ap length is, ap length none, length-map found finding_of)

module _ (lib : Library) (f : UnitKey → Option Outcome) (main : List ℕ) where
  same_placed : (xs ys p q : List Key) → xs ≡ ys → ArePlaced lib xs p → ArePlaced lib ys q → p ≡ q
  same_placed xs ys p q same x y = one_placed lib ys p q (subst (λ (l : List Key). ArePlaced lib l p) same x) y

  too_large_or_made : (xs ys : List Key) (image : Image) (bytes : List ℕ) → IsTooLarge lib f main xs → IsProgram lib f main ys image bytes → ⊥
  too_large_or_made xs ys image bytes x y =
      let order : xs ≡ ys = one_elaboration lib main xs ys x.ordered y.ordered in
      let placed : x.placed ≡ y.placed = same_placed xs ys x.placed y.placed order x.are_placed y.are_placed in
      x.passes (subst (λ (p : List Key). IsLinkable (objects_at f (map unit_named p))) (sym placed) y.linkable)

  one_program : (xs ys : List Key) (image other : Image) (bytes others : List ℕ) → IsProgram lib f main xs image bytes → IsProgram lib f main ys other others → (xs ≡ ys) × (bytes ≡ others)
  one_program xs ys image other bytes others x y =
      let order : xs ≡ ys = one_elaboration lib main xs ys x.ordered y.ordered in
      let placed : x.placed ≡ y.placed = same_placed xs ys x.placed y.placed order x.are_placed y.are_placed in
      let same : image ≡ other = x.image_is ∙ ap (λ p. image_of (main_symbol lib main) (linked_units (objects_at f (map unit_named p)))) placed ∙ sym y.image_is in
      (order, x.bytes_are ∙ ap image_bytes same ∙ sym y.bytes_are)

pub reply_is_one : ReplyIsOne
reply_is_one lib f main (compiled.Faulty a) (compiled.Faulty b) x y = ap Faulty (x.0 ∙ sym y.0)
reply_is_one lib f main (compiled.Faulty a) (compiled.Unbound b) x y = absurd (found_some a.items (findings_of lib f) x.0 x.1 y.0)
reply_is_one lib f main (compiled.Faulty a) (compiled.TooLarge b) x y = absurd (found_some a.items (findings_of lib f) x.0 x.1 y.0)
reply_is_one lib f main (compiled.Faulty a) (compiled.Made b) x y = absurd (found_some a.items (findings_of lib f) x.0 x.1 y.0)
reply_is_one lib f main (compiled.Unbound a) (compiled.Faulty b) x y = absurd (found_some b.items (findings_of lib f) y.0 y.1 x.0)
reply_is_one lib f main (compiled.Unbound a) (compiled.Unbound b) x y = ap Unbound (one_fault lib main a b x.1 y.1)
reply_is_one lib f main (compiled.Unbound a) (compiled.TooLarge b) x y = absurd (order_or_fault lib main (map key_of b.items) a y.1.ordered x.1)
reply_is_one lib f main (compiled.Unbound a) (compiled.Made b) x y = absurd (order_or_fault lib main (map key_of b.order.items) a y.1.ordered x.1)
reply_is_one lib f main (compiled.TooLarge a) (compiled.Faulty b) x y = absurd (found_some b.items (findings_of lib f) y.0 y.1 x.0)
reply_is_one lib f main (compiled.TooLarge a) (compiled.Unbound b) x y = absurd (order_or_fault lib main (map key_of a.items) b x.1.ordered y.1)
reply_is_one lib f main (compiled.TooLarge a) (compiled.TooLarge b) x y = ap TooLarge (one_elaboration lib main (map key_of a.items) (map key_of b.items) x.1.ordered y.1.ordered)
reply_is_one lib f main (compiled.TooLarge a) (compiled.Made b) x y = absurd (too_large_or_made lib f main (map key_of a.items) (map key_of b.order.items) (image_in b) (bytes_in b) x.1 y.1)
reply_is_one lib f main (compiled.Made a) (compiled.Faulty b) x y = absurd (found_some b.items (findings_of lib f) y.0 y.1 x.0)
reply_is_one lib f main (compiled.Made a) (compiled.Unbound b) x y = absurd (order_or_fault lib main (map key_of a.order.items) b x.1.ordered y.1)
reply_is_one lib f main (compiled.Made a) (compiled.TooLarge b) x y = absurd (too_large_or_made lib f main (map key_of b.items) (map key_of a.order.items) (image_in a) (bytes_in a) y.1 x.1)
reply_is_one lib f main (compiled.Made a) (compiled.Made b) x y =
    let same = one_program lib f main (map key_of a.order.items) (map key_of b.order.items) (image_in a) (image_in b) (bytes_in a) (bytes_in b) x.1 y.1 in
    ap (λ (o : List Key). Made o (bytes_in a)) same.0 ∙ ap (λ (bs : List ℕ). Made (map key_of b.order.items) bs) same.1
