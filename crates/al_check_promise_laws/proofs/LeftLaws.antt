-- Only a declaration that needs a body leaves code to it.
use Rattle.std.proofs.Common.{◌≡◌, ◌⊎◌, inl, inr, arith, refl, sym, subst, ap, ◌∙◌, ◌<◌, Bool, true, false, List, [], Option, Some, None}
use Rattle.std.specs.List.{Contains}
use Rattle.std.specs.Prelude.{◌&&◌, not, Ok}
use Rattle.al_base.specs.declared.unit_key.UnitKey.{UnitKey}
use Rattle.al_base.specs.declared.unit_key.UnitKind.TheVariants.{Decl}
use Rattle.al_check.specs.Ada.{private_part_of, standing_of}
use Rattle.al_check_here.specs.Ends.{ends_told, hidden_by}
use Rattle.al_check_here.specs.Standings.{is_whole}
use Rattle.al_check_here.specs.declared.state.CheckState.{CheckState}
use Rattle.al_check_reading.specs.Ada.{ada}
use Rattle.al_check_start.specs.UnitsAt.{completed_at, completion, is_package_item, waiting}
use Rattle.al_check_start.specs.declared.unit.UnitStart.{UnitStart}
use Rattle.al_query.specs.Reads.{Table}
use Rattle.al_query.specs.declared.answer.AnswerKind.{AnswerKind}
use Rattle.al_query.specs.declared.answer.AnswerKind.TheVariants as answers
use Rattle.al_query.specs.declared.answer.Completion.{Completion}
use Rattle.al_query_outcome.specs.Left.{left_by}
use Rattle.al_query_outcome.specs.declared.interface.UnitInterface.{UnitInterface}
use Rattle.al_scope.specs.Places.{Place}
use Rattle.al_scope.specs.Seen.{completions_seen_at}
use Rattle.al_stmts.specs.Steps.{inside_of, nothing}
use Rattle.al_stmts.specs.Units.{unit_walked}
use Rattle.al_stmts.specs.Walking as w
use Rattle.al_tree_syntax.specs.UnitTrees.{CompilationUnitTree, LibraryItemTree}
use Rattle.al_tree_syntax.specs.UnitTrees.LibraryItemTree.{LibrarySubprogram, LibraryPackage, LibraryBody, LibraryPackageBody, Subunit}
use Rattle.al_unit_graph.specs.Headers.{kind_of}
use Rattle.al_unit_header.specs.Units.{form_of, header_of, needs_body, package_needs_body}
use Rattle.al_view.specs.Named.{Declarations}
use Rattle.al_view.specs.declared.link.LinkSymbol.{LinkSymbol}
use Rattle.al_view.specs.declared.part.Part.{Part}
use Rattle.al_view.specs.declared.part.Part.TheVariants as part
use Rattle.al_view.specs.declared.view.ViewKind.{ViewKind}
use Rattle.al_check_promise_laws.specs.Promises.{OnlyDeclarationsLeave}
use Rattle.al_check_promise_laws.proofs.BodiesLeft.{Few, body-left, package-body-left}
use Rattle.al_check_promise_laws.proofs.CleanLemmas.{Clean, followed-clean}
use Rattle.al_check_promise_laws.proofs.Found.{IsStart, keyed, right, start_of}
use Rattle.al_check_promise_laws.proofs.PackagesLeft.{package-bare}

-- ---- the start

few-seen : (t : Table) (place : Place) (unit : UnitKey) (o : Option ViewKind) → Few (completions_seen_at t place (completion unit o))
few-seen t place unit None = tt
few-seen t place unit (Some v) = tt

module _ (t : Table) (unit : UnitKey) (tree : CompilationUnitTree) (private_part : Declarations) (s : UnitStart) where
  abbrev begin : CheckState
  begin = standing_of private_part tree s

  -- what is known of the start of a unit with this item
  pub record Begins (item : LibraryItemTree) : Type 0 where
    pub is_package : s.own.is_package ≡ is_package_item item
    pub place : Place
    pub view : Option ViewKind
    pub waits : s.uncompleted ≡ completions_seen_at t place (waiting t unit item view)
    pub kind : unit.kind ≡ kind_of (form_of item)

  -- what is left is left by a declaration that needs a body
  abbrev IsLeft : LibraryItemTree → List Completion → Type 0
  IsLeft item cs = ((unit.kind ≡ Decl) × (needs_body item ≡ true)) ⊎ (cs ≡ [])

  pub whole : s.own.is_package ≡ false → is_whole begin ≡ true
  whole e = at s.own.is_package e
    where
      at : (b : Bool) → b ≡ false → (not b && true) ≡ true
      at true i = absurd (cc)
      at false i = refl

  pub left-by : (item : LibraryItemTree) → Begins item → Clean (unit_walked (ada t) begin item).1.faults → IsLeft item (unit_walked (ada t) begin item).0.env.uncompleted
  unfolding inside_of
  left-by (LibrarySubprogram p x) b c = inl (b.kind, refl)
  left-by (LibraryPackage p l k) b c = by (package_needs_body k) refl
    where
      by : (a : Bool) → package_needs_body k ≡ a → IsLeft (LibraryPackage p l k) (unit_walked (ada t) begin (LibraryPackage p l k)).0.env.uncompleted
      by true e = inl (b.kind, e)
      by false e = inr (package-bare t begin k e b.waits)
  left-by (LibraryBody x y) b c = inr (body-left t begin (whole b.is_package) refl (subst (λ (cs : List Completion). Few cs) (sym b.waits) (few-seen t b.place unit b.view)) x y (followed-clean (w.body_walked (ada t) begin x y).1.faults nothing.checked.faults c).0)
  left-by (LibraryPackageBody l k) b c = inr (package-body-left t begin k c)
  left-by (Subunit l o n x y) b c = inr (body-left t begin (whole b.is_package) refl (subst (λ (cs : List Completion). Few cs) (sym b.waits) (few-seen t b.place unit b.view)) x y (followed-clean (w.body_walked (ada t) begin x y).1.faults nothing.checked.faults c).0)

begins : (t : Table) (unit : UnitKey) (tree : CompilationUnitTree) (private_part : Declarations) (s : UnitStart) → IsStart t unit tree s → Begins t unit tree private_part s tree.item
unfolding header_of
begins t unit tree private_part s i = record {
  is_package = ap (λ (x : UnitStart). x.own.is_package) i.is;
  place = (start_of t unit tree i.context).scope;
  view = (completed_at t unit tree.item).view;
  waits = ap (λ (x : UnitStart). x.uncompleted) i.is;
  kind = ap (λ (u : UnitKey). u.kind) (keyed t unit tree i.own);
}

-- ---- the end

pub completions-same : (h : CheckState) → (ends_told h).completions ≡ h.env.uncompleted
completions-same h = at h.part
  where
    at : (p : Part) → (hidden_by p h).env.uncompleted ≡ h.env.uncompleted
    at part.Visible = refl
    at part.Private = refl
    at part.Body = refl
    at (part.Stub n) = refl

none-there : (x : LinkSymbol) → Contains [] x → ⊥
none-there x m = let less : m.0 < 0 = m.1 in absurd (omega arith)

pub only-declarations-leave : OnlyDeclarationsLeave
unfolding header_of
only-declarations-leave unit text tree t i made h x m =
    let r = right unit text tree t i made h in
    let pp = private_part_of t tree (Ok r.start) in
    let walked = unit_walked (ada t) (standing_of pp tree r.start) tree.item in
    by (left-by t unit tree pp r.start tree.item (begins t unit tree pp r.start r.started) r.made_of.clean) (ap (λ (j : UnitInterface). j.properties.completions) r.made_of.interface ∙ ap answers.Completions (completions-same walked.0))
  where
    by : {cs : List Completion} → ((unit.kind ≡ Decl) × (needs_body tree.item ≡ true)) ⊎ (cs ≡ []) → i.properties.completions ≡ answers.Completions cs → (unit.kind ≡ Decl) × (needs_body tree.item ≡ true)
    by (inl p) e = p
    by (inr n) e = absurd (none-there x (subst (λ (a : AnswerKind). Contains (left_by a) x) (e ∙ ap answers.Completions n) m))
