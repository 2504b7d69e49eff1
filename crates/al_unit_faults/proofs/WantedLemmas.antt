-- A file reaches a changed one in the graph of wanted files just where it meets one.
use Rattle.std.proofs.Common.{◌≡◌, ℕ, ◌+◌, ◌<◌, Bool, true, false, List, [], ◌∷◌, ◌↔◌, length, get_or, ap, subst, sym, ◌∙◌, arith}
use Rattle.std.specs.Bool.{Decides}
use Rattle.std.specs.List.{All, Contains}
use Rattle.std.proofs.lemmas.List.{get_or_append_left, length-append}
use Rattle.std.proofs.lemmas.List.Elements.{All-from_get_or, Contains-get_or}
use Rattle.al_base_graph.specs.Graphs.{Step, Reaches, ReachesSome, Marks}
use Rattle.al_base_graph.specs.Graphs.Reaches.{here, further as onward}
use Rattle.al_base_graph.specs.Closing.{Reached}
use Rattle.al_base_graph.specs.Closing.Reached.{start, further}
use Rattle.al_base_graph.proofs.Members.{the_one, one, any_from, any_into}
use Rattle.al_unit_graph.specs.Headers.{Library}
use Rattle.al_unit_graph.specs.Traces.{is_changed, wants, IsTouched}
use Rattle.al_unit_graph.proofs.ObsoleteLemmas.{touched_decided}
use Rattle.al_unit_faults.specs.Obsolete.{met}
use Rattle.al_unit_faults.specs.Wanted.{IsAt, GoesOn, IsWanted, AreTouched}
use Rattle.al_unit_faults.proofs.TraceLemmas.{met_reached, met_meets}

module _ (lib : Library) (names : List (List ℕ)) (steps : List (ℕ × ℕ)) (g : List (List ℕ)) (wanted : IsWanted lib names steps (length names)) (same : (a b : ℕ) → Step g a b ↔ Contains steps (a, b)) where
  abbrev name : ℕ → List ℕ
  name a = get_or names a []

  reaches_met : (a b : ℕ) → Reaches g a b → Reached (wants lib) (name a ∷ []) (name b)
  reaches_met a b here = start (one (name a))
  reaches_met a b (onward c r s) = further (reaches_met a c r) (wanted.leads (c, b) ((same c b).0 s))

  met_reaches : (a : ℕ) → a < length names → (y : List ℕ) → Reached (wants lib) (name a ∷ []) y → (b : ℕ) × IsAt names b y × Reaches g a b
  met_reaches a within y (start c) = (a, (within, the_one (name a) y c), here)
  met_reaches a within y (further {x = x} r c) =
      let m = met_reaches a within x r in
      let t = wanted.led m.0 y m.1.0 m.1.0 (subst (λ v. Contains (wants lib v) y) (sym m.1.1) c) in
      (t.0, t.1, onward m.0 m.2 ((same m.0 t.0).1 t.2))

  module _ (old : Library) (goals : List ℕ) (changed : (a : ℕ) → Contains goals a ↔ ((a < length names) × (is_changed old lib (name a) ≡ true))) where
    -- the changed files are nodes of the graph
    pub goals_within : (count : ℕ) → count ≡ length names → All (λ a. a < count) goals
    goals_within count is = All-from_get_or (λ a. a < count) goals 0 (λ i within. let r = ((changed (get_or goals i 0)).0 (Contains-get_or goals i 0 within)).0 in omega arith)

    touches : (a : ℕ) → ReachesSome g goals a → IsTouched old lib (name a)
    touches a r =
        (touched_decided old lib (name a) (met lib (name a)) (met_meets lib (name a))).0
        (any_into (is_changed old lib) (met lib (name a)) (name r.0) ((met_reached lib (name a) (name r.0)).1 (reaches_met a r.0 r.2)) ((changed r.0).0 r.1).1)

    touched_by : (a : ℕ) → a < length names → IsTouched old lib (name a) → ReachesSome g goals a
    touched_by a within t =
        let r = any_from (is_changed old lib) (met lib (name a)) ((touched_decided old lib (name a) (met lib (name a)) (met_meets lib (name a))).1 t) in
        let m = met_reaches a within r.0 ((met_reached lib (name a) r.0).0 r.1) in
        (m.0, (changed m.0).1 (m.1.0, ap (is_changed old lib) m.1.1 ∙ r.2), m.2)

    -- the marks of what reaches a changed file tell which files are touched
    pub marks_touched : (files : List (List ℕ)) (flags : List Bool) → GoesOn files names → length g ≡ length names → Marks flags (length g) (ReachesSome g goals) → AreTouched old lib files flags
    marks_touched files flags more count marks =
        let longer : length names ≡ length files + length more.0 = ap length more.1 ∙ length-append files more.0 in (
          omega arith,
          λ a within.
              let inside : a < length names = omega arith in
              let is : name a ≡ get_or files a [] = ap (λ ns. get_or ns a []) more.1 ∙ get_or_append_left files more.0 [] a within in
              subst (λ f. Decides (get_or flags a false) (IsTouched old lib f)) is
              ((λ flag. touches a ((marks.1 a).0 flag)), (λ t. (marks.1 a).1 (touched_by a inside t))),
        )
