-- Units that depend on what is flagged, by the graph of the files.
use Rattle.std.proofs.Common.{◌≡◌, ℕ, zero, suc, ◌+◌, ◌<◌, ◌⊎◌, inl, inr, Bool, true, false, ◌||◌, List, [], ◌∷◌, ◌++◌, map, length, get_or, Option, Some, None, refl, ap, subst, sym, ◌∙◌, arith}
use Rattle.std.specs.Option.{is_none, option_map_or}
use Rattle.std.specs.List.{Contains, flat_map, list_any}
use Rattle.std.specs.Map.{keys_of}
use Rattle.std.proofs.lemmas.List.Elements.{Contains-push, Contains-push_cases, Contains-append_left}
use Rattle.al_base.specs.Batch.{Key}
use Rattle.al_base.specs.FileNames.{file_name_of}
use Rattle.al_base_graph.specs.Graphs.{Step, Reaches, ReachesSome, Marks}
use Rattle.al_base_graph.specs.Graphs.Reaches.{here, further}
use Rattle.al_base_graph.proofs.Members.{nowhere, any_from, any_into}
use Rattle.al_base_graph.proofs.ReachLemmas.{Reaches-trans}
use Rattle.al_unit_graph.specs.Headers.{Header, Library, key_of_unit}
use Rattle.al_unit_graph.specs.Library.{unit_in, unit_at}
use Rattle.al_unit_graph.specs.Dependence.{listed, dependences, direct, DependsOn}
use Rattle.al_unit_graph.specs.Dependence.DependsOn.{directly, through}
use Rattle.al_unit_faults.specs.Cycles.{all_dependences}
use Rattle.al_unit_faults.specs.Dependents.{is_unfit, depends_on_unfit, is_flagged, steps_to_flagged, AreGoals, is_dependent}
use Rattle.al_unit_faults.specs.Numbers.{IsNumbering, number_at, node_of, StepsBelow}
use Rattle.al_unit_faults.proofs.UnitLemmas.{some_is, in_file, at_own_key}
use Rattle.al_unit_faults.proofs.CycleLemmas.{depending_is_unit, dependences_are_all}
use Rattle.al_unit_faults.proofs.NumberLemmas.{at_or_before}
use Rattle.al_unit_faults.proofs.GraphLemmas.{bools, from_node, has_node, same_unit, from_way, into_way}

clash : {b : Bool} → b ≡ true → b ≡ false → ⊥
clash holds fails = cc

flag_of : (marked : List ℕ → Bool) (files : List (List ℕ)) (n : ℕ) → n < length files → get_or (map marked files) n false ≡ marked (get_or files n [])
flag_of marked [] n within = absurd (omega (arith, within))
flag_of marked (file ∷ files) zero within = refl
flag_of marked (file ∷ files) (suc n) within = flag_of marked files n (omega (arith, within))

-- the unit that depends by itself on what is depended on
last_step : (lib : Library) (x y : Key) → DependsOn lib x y → (z : Key) × ((x ≡ z) ⊎ DependsOn lib x z) × Contains (direct lib z) y
last_step lib x y (directly c) = (x, inl refl, c)
last_step lib x y (through {y = z} d e) =
    let r = last_step lib z y e in
    (r.0, elim r.1 [ inl same ↦ inr (subst (λ k. DependsOn lib x k) same d) | inr f ↦ inr (through d f) ], r.2)

no_way : (g : List (List ℕ)) (i b : ℕ) → ((c : ℕ) → Step g i c → ⊥) → Reaches g i b → i ≡ b
no_way g i b no_step here = refl
no_way g i b no_step (further a r s) = absurd (no_step b (subst (λ n. Step g n b) (sym (no_way g i a no_step r)) s))

module _ (lib : Library) (files : List (List ℕ)) (ns : List (List ℕ × ℕ)) (flags : List Bool) where
  abbrev Goals : ℕ → List ℕ → Type 0
  Goals count goals = AreGoals lib files ns flags count goals

  abbrev is_goal : ℕ → Bool
  is_goal n = steps_to_flagged lib ns flags (get_or files n [])

  pub no_goals : Goals 0 []
  no_goals a = ((λ c. absurd (nowhere a c)), (λ r. absurd (omega (arith, r.0))))

  pub goal_added : (i : ℕ) (goals : List ℕ) → Goals i goals → is_goal i ≡ true → Goals (i + 1) (goals ++ i ∷ [])
  goal_added i goals so_far holds a = (
    (λ c. elim (Contains-push_cases goals i a c) [
      | inl old ↦ let r = (so_far a).0 old in (omega (arith, r.0), r.1)
      | inr new ↦ (omega (arith, new), subst (λ n. is_goal n ≡ true) new holds)
    ]),
    (λ r. elim (at_or_before a i r.0) [
      | inl less ↦ Contains-append_left goals (i ∷ []) a ((so_far a).1 (less, r.1))
      | inr same ↦ subst (λ n. Contains (goals ++ i ∷ []) n) (sym same) (Contains-push goals i)
    ]),
  )

  pub goal_passed : (i : ℕ) (goals : List ℕ) → Goals i goals → is_goal i ≡ false → Goals (i + 1) goals
  goal_passed i goals so_far fails a = (
    (λ c. let r = (so_far a).0 c in (omega (arith, r.0), r.1)),
    (λ r. elim (at_or_before a i r.0) [
      | inl less ↦ (so_far a).1 (less, r.1)
      | inr same ↦ absurd (clash (subst (λ n. is_goal n ≡ true) same r.1) fails)
    ]),
  )

  module _ (numbering : IsNumbering files (length files) ns) (all_files : files ≡ keys_of lib) (marked : List ℕ → Bool) (flags_are : flags ≡ map marked (keys_of lib)) where
    abbrev node : Key → Option ℕ
    node key = node_of lib ns key

    flag_at : (n : ℕ) → n < length files → get_or flags n false ≡ marked (get_or files n [])
    flag_at n within = ap (λ fs. get_or fs n false) (flags_are ∙ ap (map marked) (sym all_files)) ∙ flag_of marked files n within

    flagged_by : (key : Key) (o : Option Header) → unit_at lib key ≡ o → is_flagged lib ns flags key ≡ is_unfit lib marked key
    flagged_by key None at = rw at refl
    flagged_by key (Some h) at =
        let n = has_node lib files ns numbering all_files key h at in
        let right = numbering.right (file_name_of key) n.0 (from_node lib files ns numbering key n.0 n.1).2 in
        ap (λ o. option_map_or (λ n. get_or flags n false) o true) n.1
        ∙ flag_at n.0 right.0
        ∙ ap marked right.1
        ∙ sym (ap (λ o. is_none o || marked (file_name_of key)) at)

    flagged_unfit : (key : Key) → is_flagged lib ns flags key ≡ is_unfit lib marked key
    flagged_unfit key = flagged_by key (unit_at lib key) refl

    module _ (g : List (List ℕ)) (below : StepsBelow lib files ns (length files) g) (goals : List ℕ) (are : Goals (length files) goals) where
      direct_steps : (x : Key) (i : ℕ) → node x ≡ Some i → option_map_or (dependences lib) (unit_in lib (get_or files i [])) [] ≡ direct lib x
      direct_steps x i is = ap (λ o. option_map_or (dependences lib) o []) (same_unit lib files ns numbering all_files g below x i is)

      from_goal : (x : Key) (i : ℕ) → node x ≡ Some i → ReachesSome g goals i → depends_on_unfit lib marked x ≡ true
      from_goal x i is r =
          let p = from_way lib files ns numbering all_files g below x i r.0 is r.2 in
          let s = (are r.0).0 r.1 in
          let a = any_from (is_flagged lib ns flags) (option_map_or (dependences lib) (unit_in lib (get_or files r.0 [])) []) s.1 in
          let c : Contains (direct lib p.0) a.0 = subst (λ ks. Contains ks a.0) (direct_steps p.0 r.0 p.1) a.1 in
          let d : DependsOn lib x a.0 = elim p.2 [
            | inl same ↦ directly (subst (λ k. Contains (direct lib k) a.0) (sym same) c)
            | inr e ↦ through e (directly c)
          ] in
          any_into (is_unfit lib marked) (all_dependences lib x) a.0 ((dependences_are_all lib x a.0).1 d) (sym (flagged_unfit a.0) ∙ a.2)

      into_goal : (x : Key) (i : ℕ) → node x ≡ Some i → depends_on_unfit lib marked x ≡ true → ReachesSome g goals i
      into_goal x i is holds =
          let a = any_from (is_unfit lib marked) (all_dependences lib x) holds in
          let l = last_step lib x a.0 ((dependences_are_all lib x a.0).0 a.1) in
          let u = depending_is_unit lib l.0 a.0 l.2 in
          let m = has_node lib files ns numbering all_files l.0 u.0 u.1 in
          let within = (numbering.right (file_name_of l.0) m.0 (from_node lib files ns numbering l.0 m.0 m.1).2).0 in
          let c = subst (λ ks. Contains ks a.0) (sym (direct_steps l.0 m.0 m.1)) l.2 in
          let flagged = any_into (is_flagged lib ns flags) (option_map_or (dependences lib) (unit_in lib (get_or files m.0 [])) []) a.0 c (flagged_unfit a.0 ∙ a.2) in
          let way : Reaches g i m.0 = elim l.1 [
            | inl same ↦ subst (λ n. Reaches g i n) (some_is i m.0 (sym is ∙ ap node same ∙ m.1)) here
            | inr e ↦ let w = into_way lib files ns numbering all_files g below x l.0 i m.0 e is m.1 in Reaches-trans i w.0 m.0 (further i here w.1) w.2
          ] in
          (m.0, (are m.0).1 (within, flagged), way)

      told_of : List Bool → List ℕ → Bool
      told_of told file = option_map_or (λ n. get_or told n false) (number_at ns file) false

      of_unit : (told : List Bool) → Marks told (length g) (ReachesSome g goals) → (file : List ℕ) (h : Header) → unit_in lib file ≡ Some h → told_of told file ≡ depends_on_unfit lib marked (key_of_unit h)
      unfolding told_of
      of_unit told marks file h is =
          let x = key_of_unit h in
          let n = has_node lib files ns numbering all_files x h (at_own_key lib file h is) in
          let named = (in_file lib file h is).named in
          let number : number_at ns file ≡ Some n.0 = subst (λ f. number_at ns f ≡ Some n.0) (sym named) (from_node lib files ns numbering x n.0 n.1).2 in
          rw number (bools (get_or told n.0 false) (depends_on_unfit lib marked x)
          (λ set. from_goal x n.0 n.1 ((marks.1 n.0).0 set))
          (λ holds. (marks.1 n.0).1 (into_goal x n.0 n.1 holds)))

      -- no step leads from a file without a unit
      no_goal : (file : List ℕ) (i : ℕ) → number_at ns file ≡ Some i → unit_in lib file ≡ None → ReachesSome g goals i → ⊥
      no_goal file i at none r =
          let here_none : unit_in lib (get_or files i []) ≡ None = ap (λ f. unit_in lib f) (numbering.right file i at).1 ∙ none in
          let no_step : (c : ℕ) → Step g i c → ⊥ = λ c s. nowhere c (subst (λ o. Contains (flat_map (λ key. listed (node key)) (option_map_or (dependences lib) o [])) c) here_none ((below.steps i c).0 s).1) in
          let stays : i ≡ r.0 = no_way g i r.0 no_step r.2 in
          let goal : is_goal i ≡ true = subst (λ n. is_goal n ≡ true) (sym stays) ((are r.0).0 r.1).1 in
          let never : false ≡ true = subst (λ o. list_any (is_flagged lib ns flags) (option_map_or (dependences lib) o []) ≡ true) here_none goal in
          cc

      no_unit : (told : List Bool) → Marks told (length g) (ReachesSome g goals) → (file : List ℕ) → unit_in lib file ≡ None → (n : Option ℕ) → number_at ns file ≡ n → option_map_or (λ n. get_or told n false) n false ≡ false
      no_unit told marks file none None at = refl
      no_unit told marks file none (Some i) at = bools (get_or told i false) false (λ set. absurd (no_goal file i at none ((marks.1 i).0 set))) (λ never. absurd (cc))

      by_unit : (told : List Bool) → Marks told (length g) (ReachesSome g goals) → (file : List ℕ) (o : Option Header) → unit_in lib file ≡ o → told_of told file ≡ option_map_or (λ h. depends_on_unfit lib marked (key_of_unit h)) o false
      unfolding told_of
      by_unit told marks file None is = no_unit told marks file is (number_at ns file) refl
      by_unit told marks file (Some h) is = of_unit told marks file h is

      pub dependents_told : (told : List Bool) → Marks told (length g) (ReachesSome g goals) → (file : List ℕ) → option_map_or (λ n. get_or told n false) (number_at ns file) false ≡ is_dependent lib marked file
      unfolding told_of
      dependents_told told marks file = by_unit told marks file (unit_in lib file) refl
