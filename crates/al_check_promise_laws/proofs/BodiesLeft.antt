-- The body of a unit leaves nothing to others: what it completes waited when it began, and nothing more waits at its end.
use Rattle.std.proofs.Common.{◌≡◌, refl, sym, subst, ap, ◌∙◌, true≢false, zero, Bool, true, false, List, [], ◌∷◌, ◌++◌, Option, Some, None, Ok, Err, is_some, if◌then◌else◌}
use Rattle.std.specs.Bool.{⊤}
use Rattle.al_base.specs.declared.place.Place.{Place}
use Rattle.al_base_fault.specs.Faults.{earlier, fault_at}
use Rattle.al_base_fault.specs.Judging.{unless}
use Rattle.al_base_fault.specs.declared.check_rule.CheckRule.TheVariants.{NotConformant}
use Rattle.al_base_fault.specs.declared.fault.Fault.{Fault}
use Rattle.al_check_declared.specs.DeclarationsHere.{no_place}
use Rattle.al_check_declared.specs.EnteredHere.{body_here, nested_body, read_entered, whole_body}
use Rattle.al_check_declared.specs.HeadsHere.{heading_here}
use Rattle.al_check_declared.specs.ObjectsHere.{inner_head}
use Rattle.al_check_declared.specs.WholeHere.{undotted, whole_head, whole_settled}
use Rattle.al_check_here.specs.Stacks.{is_bare}
use Rattle.al_check_here.specs.Standings.{is_nowhere, is_whole}
use Rattle.al_check_here.specs.declared.state.AnalyzedHeading.{AnalyzedHeading}
use Rattle.al_check_here.specs.declared.state.BodyRole.TheVariants as roles
use Rattle.al_check_here.specs.declared.state.CheckState.{CheckState}
use Rattle.al_check_here.specs.declared.state.OpenBody.{OpenBody}
use Rattle.al_check_reading.specs.Ada.{ada, head_here, missing_here}
use Rattle.al_decl_completes.specs.CompletingFound.{conformance, unit_completing, view_completed}
use Rattle.al_decl_judged.specs.Bodies.{body_declarations, body_declared, body_symbol, completing_fault, left_waiting, right_body}
use Rattle.al_decl_judged.specs.Declaring.{DeclaredTree}
use Rattle.al_decl_judged.specs.Headings.{heading_fault}
use Rattle.al_decl_judged.specs.Profiles.{specification_of}
use Rattle.al_decl_judged.specs.Uncompleted.{missing_fault}
use Rattle.al_decl_judged.specs.declared.body.Completing.{Completing}
use Rattle.al_decl_judged.specs.declared.body.Completing.TheVariants.{Declared, Alone}
use Rattle.al_decl_judged.specs.declared.heading.Heading.{Heading}
use Rattle.al_decl_judged.specs.declared.progress.Progress.{Progress}
use Rattle.al_overload_lookup.specs.Places.{place_of}
use Rattle.al_query.specs.Reads.{Table}
use Rattle.al_query.specs.declared.answer.Completion.{Completion}
use Rattle.al_scope.specs.declared.region.Region.{Region}
use Rattle.al_stmts.specs.FaultLists.{of_declaration}
use Rattle.al_stmts.specs.Steps.{Inside, Part, Walked, closed_by, ended_by, inside_of, nothing, part_of}
use Rattle.al_stmts.specs.Units as units
use Rattle.al_stmts.specs.Walking as w
use Rattle.al_stmts.specs.declared.extent.BodyExtent.{BodyExtent}
use Rattle.al_tree_grammar.specs.Grammar.{Label}
use Rattle.al_tree_syntax.specs.DeclarationTrees.{SpecificationTree}
use Rattle.al_tree_syntax.specs.StatementTrees.{BodyTree}
use Rattle.al_tree_syntax.specs.StatementTrees.BodyTree.{Body}
use Rattle.al_tree_syntax.specs.UnitTrees.{PackageBodyTree, PackageStatementsTree}
use Rattle.al_view.specs.declared.symbol.Symbol.{Symbol}
use Rattle.al_view.specs.declared.view.ViewKind.{ViewKind}
use Rattle.al_view.specs.declared.view.ViewKind.TheVariants.{OfSubprogram}
use Rattle.al_view_typed.specs.DeclarationTrees.{DeclarationTree}
use Rattle.al_check_promise_laws.proofs.AdaWalks.{HasHead, Same, Stays, left-body, own-regions, relates, whole-opened}
use Rattle.al_check_promise_laws.proofs.AllLemmas.{one_of}
use Rattle.al_check_promise_laws.proofs.CleanLemmas.{Clean, IsNone, IsOk, followed-clean}
use Rattle.al_check_promise_laws.proofs.RightLemmas.{Judged}
use Rattle.al_check_promise_laws.proofs.Walks as walks

-- ---- the unit's own body

-- one element at most
abbrev pub Few : {X : Type 0} → List X → Type 0
Few [] = ⊤
Few (x ∷ []) = ⊤
Few (x ∷ y ∷ ys) = ⊥

-- the head of the unit's own body was read, which has this symbol; nothing waits
abbrev pub Headed : Symbol → CheckState → Type 0
Headed symbol g =
    (read : AnalyzedHeading) × (g.pending ≡ Some read) × (is_whole g ≡ true) × (is_nowhere g ≡ false) × (g.bodies ≡ []) × (g.env.uncompleted ≡ []) × (read.role ≡ roles.Subprogram)
    × (read.symbol ≡ symbol)

-- it alone is open
abbrev pub OpenAlone : Symbol → CheckState → Type 0
OpenAlone symbol g = (b : OpenBody) × (g.bodies ≡ b ∷ []) × (b.outside.uncompleted ≡ []) × (b.role ≡ roles.Subprogram) × (b.symbol ≡ symbol)

wrong-head : (h : CheckState) (head : Heading) (own : Option Fault) (f : Fault) (a : (Progress × List Completion) × (DeclaredTree × Symbol)) → IsOk (whole_settled h head (unless (earlier None (earlier own (Some f))) (Ok a))).1 → ⊥
wrong-head h head None f a o = o
wrong-head h head (Some g) f a o = o

module _ (t : Table) (h : CheckState) (whole : is_whole h ≡ true) (bare : h.bodies ≡ []) (s : SpecificationTree) where
  abbrev pub own_head : Heading
  own_head = undotted (heading_here t h s)

  abbrev pub own_symbol : List Completion → Symbol
  own_symbol u = body_symbol h.env.progress own_head (unit_completing u own_head.name (specification_of own_head))

  right-head : (u : List Completion) (c : Completing) → left_waiting u c ≡ [] → is_nowhere h ≡ false → (f : Option Fault) → IsOk (whole_settled h own_head (unless f (Ok (right_body h.env.progress u (w.first_line s) own_head c)))).1
      → Headed (body_symbol h.env.progress own_head c) (whole_settled h own_head (unless f (Ok (right_body h.env.progress u (w.first_line s) own_head c)))).0
  right-head u c left e None o = (
    record { role = roles.Subprogram; heading = own_head; symbol = body_symbol h.env.progress own_head c },
    refl,
    whole,
    ap (λ (rs : List Region). is_bare rs) (own-regions h.unit.own.unit.name h.env.scope (body_declarations h.env.progress own_head c)) ∙ e,
    bare,
    left,
    refl,
    refl,
  )
  right-head u c left e (Some f) o = absurd o

  completed : is_nowhere h ≡ false → (c : Completion) (v : ViewKind) → IsOk (whole_settled h own_head (body_declared h.env.progress (c ∷ []) (w.first_line s) None own_head (view_completed zero own_head.name.place (specification_of own_head) v))).1
      → Headed (body_symbol h.env.progress own_head (view_completed zero own_head.name.place (specification_of own_head) v)) (whole_settled h own_head (body_declared h.env.progress (c ∷ []) (w.first_line s) None own_head (view_completed zero own_head.name.place (specification_of own_head) v))).0
  completed e c (OfSubprogram v) o =
      let completing = Declared zero v.symbol v.flag (conformance own_head.name.place (specification_of own_head) v.profile) in
      right-head (c ∷ []) completing refl e (earlier None (earlier (heading_fault own_head) (completing_fault completing))) o
  completed e c _ o = absurd (wrong-head h own_head (heading_fault own_head) (fault_at own_head.name.place NotConformant) _ o)

  whole-head : is_nowhere h ≡ false → (u : List Completion) → Few u → IsOk (whole_settled h own_head (body_declared h.env.progress u (w.first_line s) None own_head (unit_completing u own_head.name (specification_of own_head)))).1
      → Headed (own_symbol u) (whole_settled h own_head (body_declared h.env.progress u (w.first_line s) None own_head (unit_completing u own_head.name (specification_of own_head)))).0
  whole-head e [] few o = right-head [] (Alone None) refl e (earlier None (earlier (heading_fault own_head) (completing_fault (Alone None)))) o
  whole-head e (c ∷ []) few o = completed e c c.view o
  whole-head e (c ∷ d ∷ cs) few o = absurd few

  pub headed : Few h.env.uncompleted → IsOk (head_here t h s).1 → Headed (own_symbol h.env.uncompleted) (head_here t h s).0
  headed few o = by (is_nowhere h) refl o
    where
      by-whole : (b : Bool) → b ≡ true → is_nowhere h ≡ false → IsOk (if b then whole_head t h s else inner_head t h s).1 → Headed (own_symbol h.env.uncompleted) (if b then whole_head t h s else inner_head t h s).0
      by-whole true i e k = whole-head e h.env.uncompleted few k
      by-whole false i e k = absurd (true≢false (sym i))

      by : (b : Bool) → is_nowhere h ≡ b → IsOk (if b then no_place h else (if is_whole h then whole_head t h s else inner_head t h s)).1 → Headed (own_symbol h.env.uncompleted) (if b then no_place h else (if is_whole h then whole_head t h s else inner_head t h s)).0
      by true e k = absurd k
      by false e k = by-whole (is_whole h) whole e k

-- ---- inside it

module _ (t : Table) where
  open-one : (symbol : Symbol) (g : CheckState) → Headed symbol g → OpenAlone symbol (body_here t g)
  open-one symbol g n = subst (λ (o : Option AnalyzedHeading). OpenAlone symbol (read_entered t g o)) (sym n.1) (by (is_whole g) n.2)
    where
      by : (b : Bool) → b ≡ true → OpenAlone symbol (if b then whole_body t g n.0 else nested_body g n.0)
      by true i = let o = whole-opened t g n.0 n.3 in (o.0, o.1 ∙ ap (λ bs. bs ++ o.0 ∷ []) n.4, o.5 ∙ n.5, o.3 ∙ n.6, o.4 ∙ n.7)
      by false i = absurd (true≢false (sym i))

  -- what is open at its end
  pub open-at-end : (symbol : Symbol) (g k : CheckState) → Headed symbol g → Same (body_here t g) k → OpenAlone symbol k
  open-at-end symbol g k n s = let o = open-one symbol g n in (o.0, s.1 ∙ o.1, o.2, o.3, o.4)

  made-left : (symbol : Symbol) (g : CheckState) (x : BodyExtent) (f : Option Fault) (j : Judged (List DeclarationTree)) (q : CheckState × Inside) → (IsOk j → Headed symbol g) → Same (body_here t g) q.0
      → Clean (w.body_after (ada t) (g, j) x f q).1.faults → (w.body_after (ada t) (g, j) x f q).0.env.uncompleted ≡ []
  unfolding ada part_of
  made-left symbol g x f (Ok ds) q n s c = let o = open-at-end symbol g q.0 (n tt) s in (left-body q.0 [] o.0 o.1).2 ∙ o.2
  made-left symbol g x f (Err e) q n s c = absurd c.1

  pub body-left : (h : CheckState) → is_whole h ≡ true → h.bodies ≡ [] → Few h.env.uncompleted → (s : SpecificationTree) (b : BodyTree) → Clean (w.body_walked (ada t) h s b).1.faults → (w.body_walked (ada t) h s b).0.env.uncompleted ≡ []
  unfolding ada
  body-left h whole bare few s (Body is l ss e) c =
      let f = head_here t h s in
      made-left (own_symbol t h whole bare s h.env.uncompleted) f.0 (w.subprogram_extent s e) _ f.1 (walks.body_inside Stays Same HasHead (ada t) (relates t) f.0 is l ss) (headed t h whole bare s few)
      (walks.within-d Stays Same HasHead (ada t) (relates t) f.0 is l ss) c

-- ---- the body of a package

none-missing : (p : Place) (cs : List Completion) → IsNone (missing_fault p cs) → cs ≡ []
none-missing p [] n = refl
none-missing p (c ∷ cs) n = absurd n

inside-clean : (a : CheckState × Part) (b : CheckState × Walked) → Clean (w.inside_after a b).1.faults → Clean a.1.faults
unfolding inside_of
inside-clean a b =
    one_of (λ (x : CheckState × Inside). Clean x.1.faults → Clean a.1.faults) (is_some a.1.faults.end) (a.0, inside_of a.1 nothing) (b.0, inside_of a.1 b.1)
    (λ c. (followed-clean a.1.faults nothing.checked.faults c).0) (λ c. (followed-clean a.1.faults b.1.checked.faults c).0)

module _ (t : Table) where
  closed-left : (a : CheckState × Part) (l : Label) → Clean (closed_by a.1 (missing_here a.0 l)).faults → a.0.env.uncompleted ≡ []
  unfolding closed_by
  closed-left a l c = none-missing (place_of l) a.0.env.uncompleted (followed-clean a.1.faults (of_declaration (missing_here a.0 l)) c).1.1

  package-inside-left : (a : CheckState × Part) (l : Label) (o : Option PackageStatementsTree) → Clean (units.package_inside (ada t) a l o).1.faults → (units.package_inside (ada t) a l o).0.env.uncompleted ≡ []
  unfolding ada inside_of
  package-inside-left a l None c = closed-left a l (followed-clean (closed_by a.1 (missing_here a.0 l)).faults nothing.checked.faults c).0
  package-inside-left a l (Some s) c =
      let whole = units.statements_entered (ada t) (w.closed (ada t) a s.opening) in
      let q = w.statements_walked (ada t) units.enclosing_package whole.0 s.statements in
      let stays = one_of (λ (x : CheckState × Inside). Stays whole.0 x.0) (is_some whole.1.faults.end) (whole.0, inside_of whole.1 nothing) (q.0, inside_of whole.1 q.1) ((refl, refl), refl) (walks.statements-s Stays Same HasHead (ada t) (relates t) units.enclosing_package whole.0 s.statements) in
      stays.1 ∙ closed-left a s.opening (inside-clean whole q c)

  pub package-body-left : (h : CheckState) (k : PackageBodyTree) → Clean (units.package_body_walked (ada t) h k).1.faults → (units.package_body_walked (ada t) h k).0.env.uncompleted ≡ []
  unfolding ended_by
  package-body-left h k c =
      let items = w.items_walked (ada t) h k.items in
      let inside = units.package_inside (ada t) items k.end.end k.statements in
      package-inside-left items k.end.end k.statements (followed-clean inside.1.faults (of_declaration (w.end_of_compound k.name k.end.end_name)) c).0
