-- Where private children may be mentioned, as it is computed and as it is told.
use Rattle.std.proofs.Common.{◌≡◌, ◌≢◌, ℕ, Bool, true, false, not, ◌&&◌, ◌||◌, ◌⊎◌, inl, inr, List, Option, Some, None, refl}
use Rattle.std.specs.Bool.{Decides}
use Rattle.std.specs.Option.{option_map_or}
use Rattle.al_base.specs.declared.unit_key.UnitKind.{UnitKind}
use Rattle.al_base.specs.declared.unit_key.UnitKind.TheVariants.{Decl, Body, Sub}
use Rattle.al_base_graph.proofs.Members.{or, any_from, any_into}
use Rattle.al_unit_graph.specs.Headers.{Header, Library, kind_of}
use Rattle.al_unit_graph.specs.Names.{ancestors, lineage}
use Rattle.al_unit_graph.specs.Library.{unit_at, is_kind, acts_as_declaration}
use Rattle.al_unit_graph.specs.Faults.{IsPrivate, Descends, DescendsBelow, IsPrivateDescendant, IsAfterDeclaration, MayMentionChildrenOf}
use Rattle.al_unit_graph.proofs.BoolLemmas.{both, and, not_true, true_not}
use Rattle.al_unit_graph.proofs.FaultLemmas.{any, told_any}
use Rattle.al_unit_faults.specs.Parts.{part_of}
use Rattle.al_unit_faults.specs.Private.{is_private, descends, descends_below, is_private_descendant, is_behind_declaration, may_mention_as, may_mention_children, MentionsAreDecided}
use Rattle.al_unit_faults.proofs.PartLemmas.{parts_are_reported}

pub some_passes : {X : Type 0} (p : X → Bool) (o : Option X) → option_map_or p o false ≡ true → (x : X) × (o ≡ Some x) × (p x ≡ true)
some_passes p None is = absurd (cc)
some_passes p (Some x) is = (x, refl, is)

pub passes_some : {X : Type 0} (p : X → Bool) (o : Option X) (x : X) → o ≡ Some x → p x ≡ true → option_map_or p o false ≡ true
passes_some p o x is holds = rw is holds

either : (a b : Bool) → (a || b) ≡ true → (a ≡ true) ⊎ (b ≡ true)
either true b is = inl refl
either false b is = inr is

pub private_told : (lib : Library) (name : List ℕ) → Decides (is_private lib name) (IsPrivate lib name)
private_told lib name = (
  (λ is. some_passes (λ (h : Header). h.is_private) (unit_at lib (name, Decl)) is),
  (λ p. passes_some (λ (h : Header). h.is_private) (unit_at lib (name, Decl)) p.0 p.1 p.2),
)

descends_told : (name : List ℕ) (ancestor : Option (List ℕ)) → Decides (descends name ancestor) (Descends name ancestor)
descends_told name None = ((λ is. tt), (λ d. refl))
descends_told name (Some a) = ((λ is. any (lineage name) a is), (λ c. told_any (lineage name) a c))

below_told : (name : List ℕ) (ancestor : Option (List ℕ)) → Decides (descends_below name ancestor) (DescendsBelow name ancestor)
below_told name None = ((λ is. tt), (λ d. refl))
below_told name (Some a) = ((λ is. any (ancestors name) a is), (λ c. told_any (ancestors name) a c))

descendant_told : (lib : Library) (name : List ℕ) (ancestor : Option (List ℕ)) → Decides (is_private_descendant lib name ancestor) (IsPrivateDescendant lib name ancestor)
descendant_told lib name ancestor =
    let test : List ℕ → Bool = λ between. is_private lib between && descends_below between ancestor in (
      (λ is.
          let r = any_from test (lineage name) is in
          let parts = both (is_private lib r.0) (descends_below r.0 ancestor) r.2 in
          (r.0, r.1, (below_told r.0 ancestor).0 parts.1, (private_told lib r.0).0 parts.0)),
      (λ d. any_into test (lineage name) d.0 d.1 (and (is_private lib d.0) (descends_below d.0 ancestor) ((private_told lib d.0).1 d.3) ((below_told d.0 ancestor).1 d.2))),
    )

other_kind : (k : UnitKind) → Decides (not (is_kind k Decl)) (k ≢ Decl)
other_kind Decl = ((λ is. absurd (cc)), (λ differs. absurd (differs refl)))
other_kind Body = ((λ is same. cc), (λ differs. refl))
other_kind Sub = ((λ is same. cc), (λ differs. refl))

after_told : (lib : Library) (h : Header) → Decides (is_behind_declaration lib h) (IsAfterDeclaration lib h)
after_told lib h =
    let first = not (is_kind (kind_of h.form) Decl) in
    let second = not (acts_as_declaration lib h) in (
      (λ is. let parts = both first second is in ((other_kind (kind_of h.form)).0 parts.0, not_true (acts_as_declaration lib h) parts.1)),
      (λ b. and first second ((other_kind (kind_of h.form)).1 b.0) (true_not (acts_as_declaration lib h) b.1)),
    )

module _ (lib : Library) (h : Header) (parent : Option (List ℕ)) where
  abbrev may : List ℕ → Bool
  may = may_mention_as lib h parent

  abbrev open_to : List ℕ → Bool
  open_to name = is_behind_declaration lib h && descends name parent

  mention_told : may_mention_children lib h parent ≡ true → MayMentionChildrenOf lib h parent
  mention_told is =
      let r = some_passes may (part_of lib h) is in
      let part = (parts_are_reported lib h r.0).0 r.1 in (
        r.0,
        part,
        elim (either (is_private_descendant lib r.0 parent) (open_to r.0) r.2) [
          | inl p ↦ inl ((descendant_told lib r.0 parent).0 p)
          | inr o ↦ let parts = both (is_behind_declaration lib h) (descends r.0 parent) o in inr ((descends_told r.0 parent).0 parts.1, (after_told lib h).0 parts.0)
        ],
      )

  told_mention : MayMentionChildrenOf lib h parent → may_mention_children lib h parent ≡ true
  told_mention m =
      let part = (parts_are_reported lib h m.0).1 m.1 in
      let holds = or (is_private_descendant lib m.0 parent) (open_to m.0) (elim m.2 [
        | inl p ↦ inl ((descendant_told lib m.0 parent).1 p)
        | inr o ↦ inr (and (is_behind_declaration lib h) (descends m.0 parent) ((after_told lib h).1 o.1) ((descends_told m.0 parent).1 o.0))
      ]) in
      passes_some may (part_of lib h) m.0 part holds

pub mentions_are_decided : MentionsAreDecided
mentions_are_decided lib h parent = (mention_told lib h parent, told_mention lib h parent)
