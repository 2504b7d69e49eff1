-- The units that enclose a unit are the same under two tables that answer alike of these.
use Rattle.std.proofs.Common.{◌≡◌, refl, ◌∙◌, ap, ℕ, zero, suc, Bool, true, false, [], ◌∷◌, ◌++◌, length, Option, Some, None, is_some, if◌then◌else◌}
use Rattle.std.specs.Option.{option_map}
use Rattle.al_base.specs.declared.unit_key.UnitKey.{UnitKey}
use Rattle.al_check_start.specs.Around.{around}
use Rattle.al_check_start.specs.Starts.{as_list, asked_of, half_kind, half_of, key, outward, own_declaration, parent_body, round, with_halves}
use Rattle.al_query.specs.Answers.{declaration, own_view_of, parent_of}
use Rattle.al_query.specs.Known.{body}
use Rattle.al_query.specs.Reads.{Table}
use Rattle.al_query.specs.declared.answer.AnswerKind.{AnswerKind}
use Rattle.al_query.specs.declared.answer.AnswerKind.TheVariants as answers
use Rattle.al_query.specs.declared.query.Property.{Property}
use Rattle.al_query.specs.declared.query.Property.TheVariants.{Kind, Parent}
use Rattle.al_query.specs.declared.query.Query.TheVariants.{Of}
use Rattle.al_query_outcome.specs.ReadsLaw.{subunit}
use Rattle.al_unit_graph.specs.Headers.{Header, Mention}
use Rattle.al_unit_graph.specs.Names as unit_names
use Rattle.al_view.specs.Symbols.{same_unit}
use Rattle.al_check_bound_laws.proofs.AllLemmas.{All, Maybe, all-right}
use Rattle.al_check_bound_laws.proofs.SamePlaces.{flat-same}
use Rattle.al_check_bound_laws.proofs.SameStarts.{is_plain}

module _ (K : UnitKey → Type 0) (t s : Table) (own : UnitKey) (asked : (u : UnitKey) (p : Property) → is_plain p ≡ true → K u → asked_of t own u p ≡ asked_of s own u p) where
  outward-same : (n : ℕ) (o : Option UnitKey) → All K (outward s own n o) → outward t own n o ≡ outward s own n o
  outward-same zero o k = refl
  outward-same (suc n) None k = refl
  outward-same (suc n) (Some u) k =
      ap (λ a. u ∷ outward t own n (parent_of a)) (asked u Parent refl k.0) ∙ ap (λ l. u ∷ l) (outward-same n (parent_of (asked_of s own u Parent)) k.1)

  -- the body that a subunit names is asked what it is
  abbrev pub ParentK : Mention → Type 0
  ParentK m = K (body m.name)

  pub round-same : (h : Header) (o : Option Mention) → Maybe ParentK o → All K (round s own h o) → round t own h o ≡ round s own h o
  round-same h None q k =
      ap (λ l. own_declaration h ++ l) (outward-same (length h.name) (option_map declaration (unit_names.parent_of h.name)) (all-right K (own_declaration h) (outward s own (length h.name) (option_map declaration (unit_names.parent_of h.name))) k))
  round-same h (Some m) q k =
      ap (λ a. outward t own (length h.name) (Some (if is_some (own_view_of a) then body m.name else subunit m.name))) (asked (body m.name) Kind refl q)
      ∙ outward-same (length h.name) (Some (parent_body s own m.name)) k

  pub half-same : (u : UnitKey) → K u → half_of t own u ≡ half_of s own u
  half-same u k = at (same_unit own u) (asked u Kind refl k)
    where
      at : (b : Bool) → (let a : AnswerKind = if b then answers.Nothing else t (Of u Kind) in a) ≡ (if b then answers.Nothing else s (Of u Kind))
          → (if b then [] else as_list (option_map (key u.name) (half_kind u.kind (t (Of u Kind))))) ≡ (if b then [] else as_list (option_map (key u.name) (half_kind u.kind (s (Of u Kind)))))
      at true e = refl
      at false e = ap (λ a. as_list (option_map (key u.name) (half_kind u.kind a))) e

  pub around-same : (h : Header) → Maybe ParentK h.parent_body → All K (round s own h h.parent_body) → around t own h ≡ around s own h
  around-same h q k =
      ap (with_halves t own) (round-same h h.parent_body q k)
      ∙ ap (λ l. round s own h h.parent_body ++ l) (flat-same K (half_of t own) (half_of s own) half-same (round s own h h.parent_body) k)
