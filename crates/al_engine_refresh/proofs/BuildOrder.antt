-- An order of dependence is an order of builds.
use Rattle.std.proofs.Common.{◌≡◌, ℕ, ◌<◌, Bool, true, false, List, [], ◌∷◌, ◌++◌, map, length, refl, ap, subst, sym, ◌∙◌, append_assoc}
use Rattle.std.specs.List.{Contains}
use Rattle.std.proofs.lemmas.List.{map-append}
use Rattle.std.proofs.lemmas.List.Elements.{Contains-append_right}
use Rattle.al_base.specs.Batch.{Key, key_of}
use Rattle.al_base.specs.declared.unit_key.UnitKey.{UnitKey}
use Rattle.al_base_graph.proofs.Members.{first}
use Rattle.al_query.specs.Known.{has_unit}
use Rattle.al_query.specs.declared.answer.AnswerKind.{AnswerKind}
use Rattle.al_query.specs.declared.query.Query.{Query}
use Rattle.al_unit_graph.specs.Headers.{Header, Library}
use Rattle.al_unit_graph.proofs.Lists.{from_map, into_map}
use Rattle.al_query_outcome.specs.Equations.{IsSetting, Setting, unit_named}
use Rattle.al_query_outcome.proofs.Members.{contains-has, has-contains}
use Rattle.al_engine_refresh.specs.Builds.{IsOrder, StandsAfter, setting}
use Rattle.al_unit_faults.specs.OrderLaws.{rank_in}
use Rattle.al_unit_faults.specs.Reached.{is_faultless, IsDependenceOrder}
use Rattle.al_unit_faults.proofs.Ranks.{below_rank, order_gives_ranks, rank_at}

-- units and their keys
key_has : (us : List UnitKey) (u : UnitKey) → Contains (map key_of us) (key_of u) → has_unit us u ≡ true
key_has us u c =
    let r = from_map key_of us (key_of u) c in
    contains-has us u (subst (λ (v : UnitKey). Contains us v) (ap unit_named r.2) r.1)

has_key : (us : List UnitKey) (u : UnitKey) → has_unit us u ≡ true → Contains (map key_of us) (key_of u)
has_key us u h = into_map key_of us u (has-contains us u h)

module _ (header : List ℕ → Header) (lib : Library) (predefined : Query → AnswerKind) (order : List UnitKey) (ordered : IsDependenceOrder lib (map key_of order)) where
  abbrev s : Setting
  s = setting header lib (λ u. is_faultless lib (key_of u)) predefined

  abbrev rank : UnitKey → ℕ
  rank u = rank_in (map key_of order) (key_of u)

  -- the keys of a part of the order, and of what is after it
  module _ (before us : List UnitKey) (u : UnitKey) (parts : order ≡ before ++ u ∷ us) where
    keys_of_parts : map key_of order ≡ map key_of before ++ key_of u ∷ map key_of us
    keys_of_parts = ap (λ (vs : List UnitKey). map key_of vs) parts ∙ map-append key_of before (u ∷ us)

    not_before : Contains (map key_of before) (key_of u) → ⊥
    not_before c = ordered.once (map key_of before) (map key_of us) (key_of u) keys_of_parts c

    is_new : (b : Bool) → has_unit before u ≡ b → b ≡ false
    is_new true h = absurd (not_before (has_key before u h))
    is_new false h = refl

    is_sound_here : is_faultless lib (key_of u) ≡ true
    is_sound_here = (ordered.all (key_of u)).0 (subst (λ (ks : List Key). Contains ks (key_of u)) (sym keys_of_parts) (Contains-append_right (map key_of before) (key_of u ∷ map key_of us) (key_of u) (first (key_of u) (map key_of us))))

    rank_here : rank u ≡ length (map key_of before)
    rank_here = ap (λ (ks : List Key). rank_in ks (key_of u)) keys_of_parts ∙ rank_at (map key_of before) (map key_of us) (key_of u) not_before

    lower_before : (d : UnitKey) → rank d < rank u → has_unit before d ≡ true
    lower_before d less =
        let l : rank d < length (map key_of before) = subst (λ n. rank d < n) rank_here less in
        key_has before d (below_rank (map key_of before) (key_of u ∷ map key_of us) (key_of d) (subst (λ (ks : List Key). rank_in ks (key_of d) < length (map key_of before)) keys_of_parts l))

  follows : (before rest : List UnitKey) → order ≡ before ++ rest → StandsAfter s rank before rest
  follows before [] parts = tt
  follows before (u ∷ us) parts = (
    is_new before us u parts (has_unit before u) refl,
    is_sound_here before us u parts,
    (λ d sound less. lower_before before us u parts d less),
    follows (before ++ u ∷ []) us (parts ∙ sym (append_assoc before (u ∷ []) us)),
  )

  pub is_order : IsOrder s rank order
  is_order = record { after = follows [] order refl; whole = λ u is. key_has order u ((ordered.all (key_of u)).1 is) }

-- the setting, with the places in the order as ranks
abbrev pub setting_by : (header : List ℕ → Header) (lib : Library) (predefined : Query → AnswerKind) (order : List UnitKey) → IsSetting (setting header lib (λ u. is_faultless lib (key_of u)) predefined) → IsDependenceOrder lib (map key_of order) → IsSetting (setting header lib (λ u. is_faultless lib (key_of u)) predefined)
setting_by header lib predefined order is ordered = record {
  rank = λ u. rank_in (map key_of order) (key_of u);
  bound = length (map key_of order);
  bounded = λ u sound. (order_gives_ranks lib (map key_of order) ordered).bounded (key_of u) sound;
  ordered = λ u d sound too on. (order_gives_ranks lib (map key_of order) ordered).lower (key_of u) (key_of d) sound too on;
  headed = is.headed;
  keyed = is.keyed;
  declared = is.declared;
  acting = is.acting;
  completes = is.completes;
  body_there = is.body_there;
  subunit_there = is.subunit_there;
  without_files = is.without_files;
  packages = is.packages;
  closed = is.closed;
}
