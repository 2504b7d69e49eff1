use Rattle.std.proofs.Common.{◌≡◌, ◌↔◌, ◌⊎◌, ℕ, ◌+◌, ◌-◌, ◌<◌, ◌≤◌, Bool, List, [], ◌∷◌, ◌++◌, length, get_or, take, drop, ltb, inl, inr, subst, sym, ap, ◌∙◌, arith, IsTrue}
use Rattle.std.specs.List.{Contains}
use Rattle.std.proofs.lemmas.Bool.{lt-ltb}
use Rattle.std.proofs.lemmas.List.Elements.{Contains-get_or}
use Rattle.std.proofs.lemmas.List.{get_or_read, get_or_default}
use Rattle.al_base_graph.specs.Graphs.{Step}
use Rattle.al_base_graph.specs.Walks.{IsWalk, KeepsSeen}
use Rattle.al_base_graph.specs.declared.walk.Walk.{Walk}
use Rattle.al_base_graph.specs.declared.walk.Place.{Place}
use Rattle.al_base_graph.proofs.AscendingLemmas.{upto_end, front_and_last}
use Rattle.al_base_graph.proofs.LookLemmas.{IsWalk-same}
use Rattle.al_base_graph.proofs.LeaveLemmas.{at_in, begins_upto, some_begins, node_in, leave_walks, close_walks, written_keeps}
use Rattle.al_base_graph.proofs.walk.Walk.leave.Goals as goal
use Rattle.al_base_graph.proofs.walk.Walk.leave.Goals.{then-len-at-gt1, else-len-at-gt1}

module _ (g : List (List ℕ)) (s : Walk) (at : ℕ) (w : IsWalk g s.places.items s.left.items s.path.items (s.visiting.items ++ at ∷ []) s.begins.items s.flags.items) (none : get_or s.left.items (get_or s.path.items at 0) 0 ≡ 0) where
  within : at < length s.path.items
  within = at_in g s.places.items s.left.items s.path.items s.visiting.items s.begins.items s.flags.items at w none

  some : 0 < length s.begins.items
  some = some_begins g s.places.items s.left.items s.path.items s.visiting.items s.begins.items s.flags.items at w none

  node_within : (i : ℕ) → i < length s.path.items → get_or s.path.items i 0 < length s.places.items
  node_within i m = node_in g s.places.items s.left.items s.path.items s.visiting.items s.begins.items s.flags.items at w none i m

  stays : get_or s.begins.items (length s.begins.items - 1) 0 < at → IsWalk g s.places.items s.left.items s.path.items s.visiting.items s.begins.items s.flags.items
  stays before = leave_walks g s.places.items s.left.items s.path.items s.visiting.items s.begins.items s.flags.items at w none
      (λ h. let l = upto_end s.begins.items at w.begins_ascend h in absurd (omega arith))

  ends : at ≤ get_or s.begins.items (length s.begins.items - 1) 0 → s.begins.items ≡ take (length s.begins.items - 1) s.begins.items ++ at ∷ []
  ends from =
      let n = some in
      let h : Contains s.begins.items (get_or s.begins.items (length s.begins.items - 1) 0) = Contains-get_or s.begins.items (length s.begins.items - 1) 0 (omega arith) in
      let l = begins_upto g s.places.items s.left.items s.path.items s.visiting.items s.begins.items s.flags.items at w none _ h in
      front_and_last s.begins.items at n (omega arith)

pub overflow_sub-last : goal.overflow_sub-last
overflow_sub-last c =
    let n = some c.args.graph.now c.args.self.now c.args.at c.requires.walk c.requires.none_left in
    let m = c.args.self.now.begins.ok.0 in
    let e = c.len-last.ensures in
    omega arith

pub index-requires : goal.index-requires
index-requires c =
    let n = some c.args.graph.now c.args.self.now c.args.at c.requires.walk c.requires.none_left in
    let m = c.args.self.now.begins.ok.0 in
    let e = c.len-last.ensures in
    omega arith

-- what was read as the last place at which a stretch begins
last_read : (v : List ℕ) (n k last : ℕ) → k ≡ n → n ≡ length v → 0 < length v → last ≡ get_or v (k - 1) last → get_or v (length v - 1) 0 ≡ last
last_read v n k last e f some read =
    let m : k - 1 ≡ length v - 1 = omega arith in
    let r : last ≡ get_or v (length v - 1) last = read ∙ ap (λ i. get_or v i last) m in
    get_or_default v (length v - 1) 0 last (omega arith) ∙ sym r

pub returns-then-index-at-clause-walk : goal.returns-then-index-at-clause-walk
returns-then-index-at-clause-walk c =
    let s : Walk = c.args.self.now in
    let read = last_read s.begins.items _ _ c.index.result.now c.len-last.ensures s.begins.ok.0 (some c.args.graph.now s c.args.at c.requires.walk c.requires.none_left) c.index.ensures in
    let before = c.if-index-at.true in
    stays c.args.graph.now s c.args.at c.requires.walk c.requires.none_left (omega arith)

pub overflow_sub-len : goal.overflow_sub-len
overflow_sub-len c =
    let n = within c.args.graph.now c.args.self.now c.args.at c.requires.walk c.requires.none_left in
    let m = c.args.self.now.path.ok.0 in
    let e = c.len.ensures in
    omega arith

pub index-requires-else-len-at-gt1 : goal.index-requires-else-len-at-gt1
index-requires-else-len-at-gt1 c =
    let n = within c.args.graph.now c.args.self.now c.args.at c.requires.walk c.requires.none_left in
    let m = c.args.self.now.path.ok.0 in
    omega arith

pub leads_to_itself-on_cycle-requires : goal.leads_to_itself-on_cycle-requires
leads_to_itself-on_cycle-requires c =
    let s : Walk = c.args.self.now in
    let n = within c.args.graph.now s c.args.at c.requires.walk c.requires.none_left in
    let l = node_within c.args.graph.now s c.args.at c.requires.walk c.requires.none_left c.args.at n in
    let e = get_or_read s.path.items c.args.at _ n c.index-else-len-at-gt1.ensures 0 in
    let count = c.requires.walk.places_count in
    omega arith

pub finish-requires : goal.finish-requires
finish-requires c =
    let s : Walk = c.args.self.now in
    let n = within c.args.graph.now s c.args.at c.requires.walk c.requires.none_left in
    record {
      at_in = omega arith;
      path_in = λ k d l.
          let m = node_within c.args.graph.now s c.args.at c.requires.walk c.requires.none_left k l in
          let e = get_or_default s.path.items k d 0 l in
          omega arith;
      flags_count = c.requires.walk.flags_count ∙ sym c.requires.walk.places_count;
    }

-- whether the nodes that are done now are on a cycle
flag_many : (g : List (List ℕ)) (path : List ℕ) (at n k : ℕ) (on_cycle : Bool) → k ≡ n → n ≡ length path → 1 < k - at → on_cycle ≡ ltb 1 (k - at) → IsTrue on_cycle ↔ ((at + 1 < length path) ⊎ Step g (get_or path at 0) (get_or path at 0))
flag_many g path at n k on_cycle e f many is =
    let m : at + 1 < length path = omega arith in
    (λ t. inl m, λ h. is ∙ lt-ltb 1 (k - at) many)

flag_one : (g : List (List ℕ)) (path : List ℕ) (at n k node : ℕ) (on_cycle itself : Bool) → k ≡ n → n ≡ length path → k - at ≤ 1 → get_or path at 0 ≡ node → on_cycle ≡ itself → IsTrue itself ↔ Step g node node → IsTrue on_cycle ↔ ((at + 1 < length path) ⊎ Step g (get_or path at 0) (get_or path at 0))
flag_one g path at n k node on_cycle itself e f one read is means =
    let P : ℕ → Type 0 = λ x. Step g x x in (
      λ t. inr (subst P (sym read) (means.0 (sym is ∙ t))),
      λ h. elim h [ inl many ↦ absurd (omega arith) | inr step ↦ is ∙ means.1 (subst P read step) ],
    )

pub returns-clause-walk : goal.returns-clause-walk
returns-clause-walk c =
    let g : List (List ℕ) = c.args.graph.now in
    let s : Walk = c.args.self.now in
    let at : ℕ = c.args.at in
    let w = c.requires.walk in
    let none = c.requires.none_left in
    let read = last_read s.begins.items _ _ c.index.result.now c.len-last.ensures s.begins.ok.0 (some g s at w none) c.index.ensures in
    let after = c.if-index-at.false in
    let count : length s.begins.items - 1 ≡ c.len-last.result - 1 = let e = c.len-last.ensures in let f = s.begins.ok.0 in omega arith in
    let now : List ℕ = take (length s.begins.items - 1) s.begins.items in
    let is : s.begins.items ≡ now ++ at ∷ [] = ends g s at w none (omega arith) in
    let flag : IsTrue c.if-len-at-gt1.on_cycle ↔ ((at + 1 < length s.path.items) ⊎ Step g (get_or s.path.items at 0) (get_or s.path.items at 0)) =
    elim c.if-len-at-gt1.branch [
      | then-len-at-gt1 v ↦ flag_many g s.path.items at _ _ c.if-len-at-gt1.on_cycle c.len.ensures s.path.ok.0 v.if-len-at-gt1.true v.on_cycle-is
      | else-len-at-gt1 v ↦ flag_one g s.path.items at _ _ v.index-else-len-at-gt1.result.now c.if-len-at-gt1.on_cycle v.leads_to_itself-on_cycle.result c.len.ensures s.path.ok.0 v.if-len-at-gt1.false
          (sym (get_or_read s.path.items at _ (within g s at w none) v.index-else-len-at-gt1.ensures 0)) v.on_cycle-is v.leads_to_itself-on_cycle.ensures
    ] in
    let e = c.finish.ensures in
    IsWalk-same e.places (ap (λ xs. xs.items) e.left) e.path (ap (λ xs. xs.items) e.visiting)
    (ap (λ xs. xs.items) e.begins ∙ c.truncate.ensures.items ∙ ap (λ n. take n s.begins.items) (sym count)) e.flags
    (close_walks g s.places.items s.left.items s.path.items s.visiting.items s.begins.items s.flags.items at w none now is c.if-len-at-gt1.on_cycle flag)

pub returns-clause-seen : goal.returns-clause-seen
returns-clause-seen c =
    let s : Walk = c.args.self.now in
    let P : List Place → Type 0 = λ ps. KeepsSeen s.places.items ps in
    subst P (sym c.finish.ensures.places) (written_keeps s.places.items (drop c.args.at s.path.items))
