-- Views that every table shows which agrees with a log were shown by its recorded answers.
use Rattle.std.proofs.Common.{◌≡◌, Bool, true, false, inl, inr, List, [], ◌∷◌, map, sym, subst, if◌then◌else◌}
use Rattle.std.specs.List.{Contains}
use Rattle.al_base_graph.proofs.Members.{first, first_or_later, from_flat_map, into_flat_map, later, nowhere, the_one}
use Rattle.al_view.specs.ViewUses.{view_uses}
use Rattle.al_view.specs.declared.link.LinkSymbol.{LinkSymbol}
use Rattle.al_view.specs.declared.view.ViewKind.{ViewKind}
use Rattle.al_query.specs.Reads.{Agrees, HoldsBy, Log, Table}
use Rattle.al_query.specs.declared.answer.AnswerKind.{AnswerKind}
use Rattle.al_query.specs.declared.answer.AnswerKind.TheVariants as answers
use Rattle.al_query.specs.declared.query.Query.{Query}
use Rattle.al_query.specs.declared.query.Query.TheVariants.{Named, Of}
use Rattle.al_query_outcome.specs.ReadsLaw.{answer_uses}
use Rattle.al_query_outcome.specs.Tables.{no_answer}
use Rattle.al_check_bounded.specs.Bounding.{bounded, may_ask}
use Rattle.al_check_bounded.specs.declared.bounds.Bounds.{Bounds}
use Rattle.al_check_promises.specs.Shown.{WereShown, only_recorded}
use Rattle.al_check_promises.proofs.Recorded.{agrees, used_by_log}
use Rattle.al_check_bounded.specs.Questions.{ShownViewsAreAnswered, answer_views, shown_by}
use Rattle.al_check_bounded.specs.declared.wanted.Wanted.{Wanted}

from_map : {A B : Type 0} (f : A → B) (xs : List A) (y : B) → Contains (map f xs) y → (x : A) × Contains xs x × (y ≡ f x)
from_map f [] y c = absurd (nowhere y c)
from_map f (x ∷ xs) y c =
    elim (first_or_later (f x) (map f xs) y c) [
      | inl is ↦ (x, first x xs, sym is)
      | inr k ↦ let r = from_map f xs y k in (r.0, later x xs r.0 r.1, r.2)
    ]

-- an answer shows what its views do
uses_of : (a : AnswerKind) (v : ViewKind) (x : LinkSymbol) → Contains (answer_views a) v → Contains (view_uses v) x → Contains (answer_uses a) x
unfolding answer_uses
uses_of (answers.Views views) v x c u = into_flat_map view_uses views v x c u
uses_of (answers.Kind view) v x c u = subst (λ (w : ViewKind). Contains (view_uses w) x) (sym (the_one view v c)) u
uses_of (answers.Completions completions) v x c u =
    let r = from_map (λ k. k.view) completions v c in
    into_flat_map (λ k. view_uses k.view) completions r.0 x r.1 (subst (λ (w : ViewKind). Contains (view_uses w) x) r.2 u)
uses_of _ v x c u = absurd (nowhere v c)

none : (q : Query) (v : ViewKind) → Contains (answer_views (no_answer q)) v → ⊥
none (Named unit part name) v c = nowhere v c
none (Of unit property) v c = nowhere v c

-- within bounds nothing more is answered
within : (b : Bounds) (t : Table) (q : Query) (v : ViewKind) → Contains (answer_views (bounded b t q)) v → Contains (answer_views (t q)) v
within b t q v c = by (may_ask b q) c
  where
    by : (m : Bool) → Contains (answer_views (if m then t q else no_answer q)) v → Contains (answer_views (t q)) v
    by true c = c
    by false c = absurd (none q v c)

pub were_shown : (b : Bounds) (w : Wanted) (log : Log) (t : Table) (views : List ViewKind) → ShownViewsAreAnswered → Agrees t log → HoldsBy log (λ s. (v : ViewKind) → Contains views v → Contains (shown_by w (bounded b s)) v) → WereShown b.unit log views
were_shown b w log t views answered a h =
    let s = only_recorded log in
    let found : (v : ViewKind) → Contains views v → (q : Query) × Contains (answer_views (only_recorded log q)) v =
    λ v c. let r = answered w (bounded b s) v (h s (agrees t log a) v c) in (r.0, within b s r.0 v r.1) in
    λ x c. let r = from_flat_map view_uses views x c in let q = found r.0 r.1 in inr (used_by_log log q.0 x (uses_of (s q.0) r.0 x q.1 r.2))
