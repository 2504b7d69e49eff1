-- Items with their subunits after them.
use Rattle.std.proofs.Common.{◌≡◌, ◌↔◌, true, false, Bool, List, [], ◌∷◌, ◌++◌, append_assoc, refl, ap, sym, ◌∙◌, subst, cond, if◌then◌else◌}
use Rattle.std.proofs.lemmas.List.Elements.{filter-append}
use Rattle.std.specs.List.{Contains, filter, fold}
use Rattle.std.specs.BTreeSet.{insert_key}
use Rattle.al_base.specs.Batch.{Key}
use Rattle.al_base.specs.declared.unit_key.UnitKind.TheVariants.{Sub}
use Rattle.al_unit_graph.specs.Headers.{Library}
use Rattle.al_unit_graph.specs.Library.{is_kind}
use Rattle.al_unit_graph.specs.Orders.{in_order, key_cmp}
use Rattle.al_unit_graph.proofs.Lists.{from_filter, into_filter}
use Rattle.al_unit_graph.proofs.OrderLemmas.{from_in_order, into_in_order, in_order_ascends}
use Rattle.al_bind.specs.Elaboration.{IsPartOf}
use Rattle.al_engine.specs.Placed.{ArePlaced, AreSubunits, nothing, item, subunits_among, with_subunit}

append_nil : (l : List Key) → l ++ [] ≡ l
append_nil [] = refl
append_nil (k ∷ ks) = ap (λ (l : List Key). k ∷ l) (append_nil ks)

-- one more item
pub placed-more : (lib : Library) (items placed : List Key) (x : Key) (subunits : List Key) → ArePlaced lib items placed → AreSubunits lib x subunits → ArePlaced lib (items ++ x ∷ []) (placed ++ (x ∷ subunits))
placed-more lib _ _ x subunits nothing are = subst (λ (l : List Key). ArePlaced lib (x ∷ []) (x ∷ l)) (append_nil subunits) (item are nothing)
placed-more lib _ _ x subunits (item {x = y} {items = items} {subunits = mine} {placed = placed} own rest) are =
    subst (λ (l : List Key). ArePlaced lib (y ∷ (items ++ x ∷ [])) (y ∷ l)) (sym (append_assoc mine placed (x ∷ subunits))) (item own (placed-more lib items placed x subunits rest are))

-- the subunits among all parts
pub are-subunits : (lib : Library) (x : Key) (parts found : List Key) → ((p : Key) → Contains parts p ↔ IsPartOf lib x p) → found ≡ subunits_among parts → AreSubunits lib x found
are-subunits lib x parts found all is =
    let some = filter (λ (k : Key). is_kind k.1 Sub) parts in
    subst (λ (l : List Key). AreSubunits lib x l) (sym is) (record {
      ascend = in_order_ascends some;
      all = λ p. (
        (λ c. let f = from_filter (λ (k : Key). is_kind k.1 Sub) parts p (from_in_order some p c) in ((all p).0 f.0, f.1)),
        (λ h. into_in_order some p (into_filter (λ (k : Key). is_kind k.1 Sub) parts p ((all p).1 h.0) h.1)),
      );
    })

fold-more : {A X : Type 0} (f : A → X → A) (a : A) (xs : List X) (x : X) → fold f a (xs ++ x ∷ []) ≡ f (fold f a xs) x
fold-more f a [] x = refl
fold-more f a (y ∷ ys) x = fold-more f (f a y) ys x

pub among-none : subunits_among [] ≡ []
unfolding in_order
among-none = refl

abbrev is_subunit : Key → Bool
is_subunit k = is_kind k.1 Sub

among-by : (ks : List Key) (k : Key) (b : Bool) → is_subunit k ≡ b → subunits_among (ks ++ k ∷ []) ≡ in_order (filter is_subunit ks ++ cond b (k ∷ []) [])
among-by ks k b is = ap in_order (filter-append is_subunit ks (k ∷ []) ∙ ap (λ (t : Bool). filter is_subunit ks ++ cond t (k ∷ []) []) is)

by-kind : (ks : List Key) (k : Key) (b : Bool) → in_order (filter is_subunit ks ++ cond b (k ∷ []) []) ≡ (if b then insert_key key_cmp (subunits_among ks) k else subunits_among ks)
unfolding in_order
by-kind ks k true = fold-more (insert_key key_cmp) [] (filter is_subunit ks) k
by-kind ks k false = ap in_order (append_nil (filter is_subunit ks))

pub among-more : (ks : List Key) (k : Key) → subunits_among (ks ++ k ∷ []) ≡ with_subunit (subunits_among ks) k
among-more ks k = among-by ks k (is_subunit k) refl ∙ by-kind ks k (is_subunit k)
