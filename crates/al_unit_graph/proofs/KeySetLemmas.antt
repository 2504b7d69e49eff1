-- The keys of a set, seen as keys of units.
use Rattle.std.proofs.Common.{◌≡◌, ℕ, List, [], ◌∷◌, Vec, refl, ap, ◌∙◌}
use Rattle.std.specs.Ordering.{match_ordering}
use Rattle.std.specs.declared.cmp.Ordering.{Ordering}
use Rattle.std.specs.declared.cmp.Ordering.TheVariants.{Less, Equal, Greater}
use Rattle.std.specs.BTreeSet.{insert_key}
use Rattle.al_base.specs.declared.unit_key.UnitKind.{UnitKind}
use Rattle.al_base.specs.declared.unit_key.UnitKind.TheVariants.{Decl, Body, Sub}
use Rattle.al_unit_graph.specs.Orders.{key_cmp, keys_model}

module _ {Y : Type 0} (R : Vec ℕ Y × UnitKind → Vec ℕ Y × UnitKind → Ordering) where
  abbrev Same : Vec ℕ Y → Vec ℕ Y → UnitKind → UnitKind → Type 0
  Same n m a b = R (n, a) (m, b) ≡ key_cmp (n.items, a) (m.items, b)

  -- the order of the set is the order of keys, at each two kinds
  abbrev pub KindsAlike : Type 0
  KindsAlike = (n m : Vec ℕ Y) → Same n m Decl Decl × Same n m Decl Body × Same n m Decl Sub × Same n m Body Decl × Same n m Body Body × Same n m Body Sub × Same n m Sub Decl × Same n m Sub Body × Same n m Sub Sub

  module _ (kinds : KindsAlike) where
    alike : (n m : Vec ℕ Y) (a b : UnitKind) → Same n m a b
    alike n m Decl Decl = (kinds n m).0
    alike n m Decl Body = (kinds n m).1
    alike n m Decl Sub = (kinds n m).2
    alike n m Body Decl = (kinds n m).3
    alike n m Body Body = (kinds n m).4
    alike n m Body Sub = (kinds n m).5
    alike n m Sub Decl = (kinds n m).6
    alike n m Sub Body = (kinds n m).7
    alike n m Sub Sub = (kinds n m).8

    map_ok : (x : Vec ℕ Y × UnitKind) (xs : List (Vec ℕ Y × UnitKind)) (k : Vec ℕ Y × UnitKind) (o : Ordering) → keys_model (insert_key R xs k) ≡ insert_key key_cmp (keys_model xs) (k.0.items, k.1) → keys_model (match_ordering o (k ∷ x ∷ xs) (x ∷ xs) (x ∷ insert_key R xs k)) ≡ match_ordering o ((k.0.items, k.1) ∷ keys_model (x ∷ xs)) (keys_model (x ∷ xs)) ((x.0.items, x.1) ∷ insert_key key_cmp (keys_model xs) (k.0.items, k.1))
    map_ok x xs k Less rest = refl
    map_ok x xs k Equal rest = refl
    map_ok x xs k Greater rest = ap (λ ks. (x.0.items, x.1) ∷ ks) rest

    pub keys_model-insert_key : (xs : List (Vec ℕ Y × UnitKind)) (k : Vec ℕ Y × UnitKind) → keys_model (insert_key R xs k) ≡ insert_key key_cmp (keys_model xs) (k.0.items, k.1)
    keys_model-insert_key [] k = refl
    keys_model-insert_key (x ∷ xs) k =
        map_ok x xs k (R k x) (keys_model-insert_key xs k)
        ∙ ap (λ o. match_ordering o ((k.0.items, k.1) ∷ keys_model (x ∷ xs)) (keys_model (x ∷ xs)) ((x.0.items, x.1) ∷ insert_key key_cmp (keys_model xs) (k.0.items, k.1))) (alike k.0 x.0 k.1 x.1)
