-- The parts of an item, as they are gone through.
use Rattle.std.proofs.Common.{◌≡◌, ◌↔◌, inl, inr, ℕ, ◌+◌, ◌<◌, ◌≤◌, List, [], ◌∷◌, ◌++◌, Option, Some, None, length, get_or, refl, sym, ap, subst, ◌∙◌, arith}
use Rattle.std.specs.List.{Contains}
use Rattle.std.specs.Option.{option_map_or}
use Rattle.std.proofs.lemmas.Bool.{cases_lt}
use Rattle.std.proofs.lemmas.List.{get_or_append_left, get_or_default}
use Rattle.std.proofs.lemmas.List.Elements.{Contains-append_left, Contains-append_right, Contains-append_cases}
use Rattle.al_base.specs.Batch.{Key}
use Rattle.al_base_graph.proofs.Members.{nowhere, one, the_one}
use Rattle.al_unit_graph.specs.Headers.{Header, Library}
use Rattle.al_unit_graph.specs.Library.{unit_at}
use Rattle.al_unit_graph.specs.Needed.{subunits_of}
use Rattle.al_bind.specs.Elaboration.{IsPartOf}
use Rattle.al_bind.specs.Elaboration.IsPartOf.{itself, subunit}
use Rattle.al_bind.specs.Parts.{subunits_at}

-- all keys are parts, the item is among them, and so are the subunits of the first so many
pub record ArePartsUpto (lib : Library) (x : Key) (keys : List Key) (i : ℕ) : Type 0 where
  pub sound : (p : Key) → Contains keys p → IsPartOf lib x p
  pub begun : Contains keys x
  pub closed : (k : ℕ) (d q : Key) → k < i → k < length keys → Contains (subunits_at lib (get_or keys k d)) q → Contains keys q

some_unit : (lib : Library) (x p q : Key) (u : Option Header) → unit_at lib p ≡ u → IsPartOf lib x p → Contains (option_map_or (subunits_of lib p.0) u []) q → IsPartOf lib x q
some_unit lib x p q None is part c = absurd (nowhere q c)
some_unit lib x p q (Some h) is part c = subunit part is c

pub parts_start : (lib : Library) (x : Key) → ArePartsUpto lib x (x ∷ []) 0
parts_start lib x = record {
  sound = λ p c. subst (λ (k : Key). IsPartOf lib x k) (the_one x p c) itself;
  begun = one x;
  closed = λ k d q l m c. absurd (omega (arith, l));
}

pub parts_further : (lib : Library) (x : Key) (keys : List Key) (i : ℕ) (key : Key) → ArePartsUpto lib x keys i → i < length keys → get_or keys i key ≡ key → ArePartsUpto lib x (keys ++ subunits_at lib key) (i + 1)
parts_further lib x keys i key so_far within is =
    let here : Contains keys key = (i, within, is) in
    record {
      sound = λ p c. elim (Contains-append_cases keys (subunits_at lib key) p c) [
        | inl h ↦ so_far.sound p h
        | inr h ↦ some_unit lib x key p (unit_at lib key) refl (so_far.sound key here) h
      ];
      begun = Contains-append_left keys (subunits_at lib key) x so_far.begun;
      closed = λ k d q l m c. elim (cases_lt k i) [
        | inl before ↦
            let w : k < length keys = omega (arith, before, within) in
            Contains-append_left keys (subunits_at lib key) q (so_far.closed k d q before w (subst (λ (j : Key). Contains (subunits_at lib j) q) (get_or_append_left keys (subunits_at lib key) d k w) c))
        | inr after ↦
            let e : k ≡ i = omega (arith, after, l) in
            let same : get_or (keys ++ subunits_at lib key) k d ≡ key = ap (λ (n : ℕ). get_or (keys ++ subunits_at lib key) n d) e ∙ get_or_append_left keys (subunits_at lib key) d i within ∙ get_or_default keys i d key within ∙ is in
            Contains-append_right keys (subunits_at lib key) q (subst (λ (j : Key). Contains (subunits_at lib j) q) same c)
      ];
    }

from_part : (lib : Library) (x : Key) (keys : List Key) (i : ℕ) → ArePartsUpto lib x keys i → length keys ≤ i → (p : Key) → IsPartOf lib x p → Contains keys p
from_part lib x keys i so_far ended _ itself = so_far.begun
from_part lib x keys i so_far ended _ (subunit {p} {q} {h} part is c) =
    let (k, within, there) = from_part lib x keys i so_far ended p part in
    let at : subunits_at lib (get_or keys k p) ≡ subunits_of lib p.0 h = ap (λ (j : Key). subunits_at lib j) there ∙ ap (λ (u : Option Header). option_map_or (subunits_of lib p.0) u []) is in
    so_far.closed k p q (omega (arith, within, ended)) within (subst (λ (ks : List Key). Contains ks q) (sym at) c)

pub parts_end : (lib : Library) (x : Key) (keys : List Key) (i : ℕ) → ArePartsUpto lib x keys i → length keys ≤ i → (p : Key) → Contains keys p ↔ IsPartOf lib x p
parts_end lib x keys i so_far ended p = (so_far.sound p, from_part lib x keys i so_far ended p)
