-- A procedure that can be the main one has its code, or leaves it to its body.
use Rattle.std.proofs.Common.{◌≡◌, inl, inr, arith, refl, sym, subst, ap, ◌∙◌, true≢false, ℕ, zero, Bool, true, false, List, [], ◌∷◌, ◌++◌, append-nil, Option, Some, None, Ok, Err, if◌then◌else◌}
use Rattle.std.specs.List.{Contains, flat_map}
use Rattle.al_base.specs.declared.unit_key.UnitKey.{UnitKey}
use Rattle.al_base.specs.declared.unit_key.UnitKind.TheVariants.{Decl, Body as BodyKind}
use Rattle.al_base_fault.specs.Faults.{earlier}
use Rattle.al_base_fault.specs.Judging.{unless}
use Rattle.al_base_fault.specs.declared.fault.Fault.{Fault}
use Rattle.al_check.specs.Ada.{private_part_of, standing_of}
use Rattle.al_check_declared.specs.DeclarationsHere.{nested_declared, no_place}
use Rattle.al_check_declared.specs.EnteredHere.{body_here}
use Rattle.al_check_declared.specs.HeadsHere.{heading_here}
use Rattle.al_check_declared.specs.WholeHere.{own_settled, undotted, whole_declared}
use Rattle.al_check_here.specs.BodiesHere.{copied_words, kind_in, kind_of, labelled, subprogram_kind, symbol_in}
use Rattle.al_check_here.specs.Stacks.{innermost}
use Rattle.al_check_here.specs.Standings.{is_nowhere, is_whole}
use Rattle.al_check_here.specs.declared.state.BodyRole.{BodyRole}
use Rattle.al_check_here.specs.declared.state.BodyRole.TheVariants as roles
use Rattle.al_check_here.specs.declared.state.CheckState.{CheckState}
use Rattle.al_check_here.specs.declared.state.OpenBody.{OpenBody}
use Rattle.al_check_here.specs.declared.state.OpenObject.{OpenObject}
use Rattle.al_check_reading.specs.Ada.{ada, head_here, subprogram_here}
use Rattle.al_check_start.specs.UnitsAt.{completed_at, completion, declared_view, depth_of, is_package_item, progress_at, waiting}
use Rattle.al_check_start.specs.declared.unit.UnitStart.{UnitStart}
use Rattle.al_decl.specs.Heads.{compound_defined, name_of}
use Rattle.al_decl_judged.specs.Headings.{heading_fault}
use Rattle.al_decl_judged.specs.Progressing.{symbol_of}
use Rattle.al_decl_judged.specs.Subprograms.{flagged_view, right_subprogram}
use Rattle.al_decl_judged.specs.declared.heading.Heading.{Heading}
use Rattle.al_decl_judged.specs.declared.progress.Progress.{Progress}
use Rattle.al_query.specs.Answers.{declaration}
use Rattle.al_query.specs.Reads.{Table}
use Rattle.al_query.specs.declared.answer.AnswerKind.TheVariants as answers
use Rattle.al_query.specs.declared.answer.Completion.{Completion}
use Rattle.al_query_outcome.specs.Defines.{DeclaresItself, IsAccounted}
use Rattle.al_query_outcome.specs.Left.{last_of, left_by, own_code}
use Rattle.al_query_outcome.specs.declared.interface.UnitInterface.{UnitInterface}
use Rattle.al_scope.specs.Places.{Place}
use Rattle.al_scope.specs.Seen.{completions_seen_at}
use Rattle.al_stmts.specs.Steps.{Inside, body_of, inside_of, nothing, part_of}
use Rattle.al_stmts.specs.Units.{unit_walked}
use Rattle.al_stmts.specs.Walking as w
use Rattle.al_stmts.specs.declared.extent.BodyExtent.{BodyExtent}
use Rattle.al_stmts.specs.declared.returns.EnclosingBody.{EnclosingBody}
use Rattle.al_stmts.specs.declared.returns.EnclosingBody.TheVariants as bodies
use Rattle.al_stmts.specs.declared.simple.ReturnContext.{ReturnContext}
use Rattle.al_tree_grammar.specs.Grammar.{Label, each}
use Rattle.al_tree_syntax.specs.DeclarationTrees.{CompoundNameTree, SpecificationTree, after, compound_tokens, specification_tokens}
use Rattle.al_tree_syntax.specs.DeclarationTrees.SpecificationTree.{FunctionSpecification, ProcedureSpecification}
use Rattle.al_tree_syntax.specs.StatementTrees.{BodyTree}
use Rattle.al_tree_syntax.specs.StatementTrees.BodyTree.{Body}
use Rattle.al_tree_syntax.specs.Symbols.{Symbol as symbols}
use Rattle.al_tree_syntax.specs.UnitTrees.{CompilationUnitTree, LibraryItemTree, context_tokens, library_item_tokens, private_tokens, tokens_of}
use Rattle.al_tree_syntax.specs.UnitTrees.LibraryItemTree.{LibrarySubprogram, LibraryPackage, LibraryBody, LibraryPackageBody, Subunit}
use Rattle.al_unit.specs.Texts.{unit_in}
use Rattle.al_unit_graph.specs.Headers.{kind_of as form_kind}
use Rattle.al_unit_header.specs.Units.{designator, dotted, form_of, full_name, header_of, is_parameterless_procedure, item_name, parent_body_name}
use Rattle.al_view.specs.Named.{Declarations}
use Rattle.al_view.specs.ViewUses.{link, view_uses}
use Rattle.al_view.specs.declared.link.LinkKind.TheVariants.{Code}
use Rattle.al_view.specs.declared.link.LinkSymbol.{LinkSymbol}
use Rattle.al_view.specs.declared.symbol.Symbol.{Symbol}
use Rattle.al_view.specs.declared.view.ViewKind.{ViewKind}
use Rattle.al_view_typed.specs.DeclarationTrees.{DeclarationTree}
use Rattle.al_view_typed.specs.StatementTrees.{StatementTree as Labelled}
use Rattle.al_view_typed.specs.UnitTrees.{BodyTree as LabelledBody, UnitTree}
use Rattle.al_view_typed.specs.Uses.{body_defines, unit_defines}
use Rattle.al_check_promise_laws.specs.Promises.{MainsAreAccounted}
use Rattle.al_check_promise_laws.proofs.AdaWalks.{HasHead, Same, Stays, relates, innermost-last}
use Rattle.al_check_promise_laws.proofs.AllLemmas.{All, all-left, all-right}
use Rattle.al_check_promise_laws.proofs.BodiesLeft.{Few, Headed, OpenAlone, headed, open-at-end, own_symbol}
use Rattle.al_check_promise_laws.proofs.CleanLemmas.{Clean, IsOk, followed-clean}
use Rattle.al_check_promise_laws.proofs.Dots.{Simple, last-dotted}
use Rattle.al_check_promise_laws.proofs.Found.{IsStart, keyed, right, start_of}
use Rattle.al_check_promise_laws.proofs.LeftLaws.{completions-same, whole}
use Rattle.al_check_promise_laws.proofs.RightLemmas.{Judged}
use Rattle.al_check_promise_laws.proofs.SimpleWords.{Of as IsLexeme, identifier-simple, tree-lexemes}
use Rattle.al_check_promise_laws.proofs.Walks as walks

first-there : {X : Type 0} (x : X) (xs : List X) → Contains (x ∷ xs) x
first-there x xs = (zero, omega arith, refl)

-- ---- a body that is open alone defines its code

module _ (symbol : Symbol) (g : CheckState) (o : OpenAlone symbol g) where
  by-kind : (object : Option OpenObject) (returns : ReturnContext) (body : EnclosingBody) → returns.body ≡ body → (copied end : ℕ) (s : Symbol) → body_defines s (kind_of object roles.Subprogram returns copied end) ≡ link Code s ∷ []
  by-kind object returns body e copied end s = at returns.body
    where
      at : (b : EnclosingBody) → body_defines s (subprogram_kind b returns copied end) ≡ link Code s ∷ []
      at bodies.Function = refl
      at bodies.Procedure = refl
      at bodies.Entry = refl
      at bodies.Package = refl
      at bodies.Task = refl

  by-open : (line : ℕ) (b : OpenBody) → b.role ≡ roles.Subprogram → b.symbol ≡ symbol → body_defines (symbol_in g (Some b)) (kind_in g line (Some b)) ≡ link Code symbol ∷ []
  by-open line b r s =
      ap (λ (role : BodyRole). body_defines b.symbol (kind_of g.object role b.returns (copied_words b.formals) line)) r
      ∙ by-kind g.object b.returns b.returns.body refl (copied_words b.formals) line b.symbol
      ∙ ap (λ (x : Symbol). link Code x ∷ []) s

  pub defines-own : (x : BodyExtent) (ds : List DeclarationTree) (ss : List Labelled) → body_defines (labelled g x ds ss).symbol (labelled g x ds ss).kind ≡ link Code symbol ∷ []
  defines-own x ds ss =
      ap (λ (b : Option OpenBody). body_defines (symbol_in g b) (kind_in g x.end.line b)) (ap innermost o.1 ∙ innermost-last [] o.0) ∙ by-open x.end.line o.0 o.3 o.4

-- ---- the body of the unit

-- the bodies that were walked define this first
abbrev DefinesFirst : LinkSymbol → List LabelledBody → Type 0
DefinesFirst x bs = (rest : List LinkSymbol) × (flat_map (λ (b : LabelledBody). body_defines b.symbol b.kind) bs ≡ x ∷ rest)

module _ (t : Table) where
  made-own : (symbol : Symbol) (g : CheckState) (x : BodyExtent) (f : Option Fault) (j : Judged (List DeclarationTree)) (q : CheckState × Inside) → (IsOk j → Headed symbol g) → Same (body_here t g) q.0
      → Clean (w.body_after (ada t) (g, j) x f q).1.faults → DefinesFirst (link Code symbol) (w.body_after (ada t) (g, j) x f q).1.bodies
  unfolding ada part_of body_of
  made-own symbol g x f (Ok ds) q n s c =
      let more = flat_map (λ (b : LabelledBody). body_defines b.symbol b.kind) q.1.bodies in
      (more, ap (λ (xs : List LinkSymbol). xs ++ more) (defines-own symbol q.0 (open-at-end t symbol g q.0 (n tt) s) x q.1.declarations q.1.statements))
  made-own symbol g x f (Err e) q n s c = absurd c.1

  body-own : (h : CheckState) (whole : is_whole h ≡ true) (bare : h.bodies ≡ []) → Few h.env.uncompleted → (s : SpecificationTree) (b : BodyTree) → Clean (w.body_walked (ada t) h s b).1.faults
      → DefinesFirst (link Code (own_symbol t h whole bare s h.env.uncompleted)) (w.body_walked (ada t) h s b).1.bodies
  unfolding ada
  body-own h whole bare few s (Body is l ss e) c =
      let f = head_here t h s in
      made-own (own_symbol t h whole bare s h.env.uncompleted) f.0 (w.subprogram_extent s e) _ f.1 (walks.body_inside Stays Same HasHead (ada t) (relates t) f.0 is l ss) (headed t h whole bare s few)
      (walks.within-d Stays Same HasHead (ada t) (relates t) f.0 is l ss) c

-- ---- the declaration of the unit

abbrev LeavesFirst : Symbol → CheckState → Type 0
LeavesFirst symbol g = (rest : List LinkSymbol) × (left_by (answers.Completions g.env.uncompleted) ≡ link Code symbol ∷ rest)

module _ (t : Table) (h : CheckState) (whole : is_whole h ≡ true) (none : h.env.uncompleted ≡ []) (s : SpecificationTree) where
  abbrev declared_head : Heading
  declared_head = undotted (heading_here t h s)

  abbrev view-first : (v : ViewKind) → Type 0
  view-first v = (rest : List LinkSymbol) × (left_by (answers.Completions (record { name = declared_head.name.name; view = v } ∷ [])) ≡ link Code (symbol_of h.env.progress declared_head.name.name) ∷ rest)

  flagged : view-first (flagged_view h.env.progress declared_head)
  unfolding view_uses
  flagged = (_, refl)

  settled-own : (f : Option Fault) → IsOk (own_settled h (unless f (Ok (right_subprogram h.env.progress h.env.uncompleted (w.first_line s) declared_head)))).1
      → LeavesFirst (symbol_of h.env.progress declared_head.name.name) (own_settled h (unless f (Ok (right_subprogram h.env.progress h.env.uncompleted (w.first_line s) declared_head)))).0
  settled-own None o =
      let one : Completion = record { name = declared_head.name.name; view = flagged_view h.env.progress declared_head } in
      (flagged.0, ap (λ (cs : List Completion). left_by (answers.Completions (cs ++ one ∷ []))) none ∙ flagged.1)
  settled-own (Some f) o = absurd o

  declared-own : IsOk (subprogram_here t h s).1 → LeavesFirst (symbol_of h.env.progress declared_head.name.name) (subprogram_here t h s).0
  declared-own o = by (is_nowhere h) o
    where
      by-whole : (b : Bool) → b ≡ true → IsOk (if b then whole_declared t h s else nested_declared t h s).1 → LeavesFirst (symbol_of h.env.progress declared_head.name.name) (if b then whole_declared t h s else nested_declared t h s).0
      by-whole true i k = settled-own (earlier None (heading_fault declared_head)) k
      by-whole false i k = absurd (true≢false (sym i))

      by : (b : Bool) → IsOk (if b then no_place h else (if is_whole h then whole_declared t h s else nested_declared t h s)).1 → LeavesFirst (symbol_of h.env.progress declared_head.name.name) (if b then no_place h else (if is_whole h then whole_declared t h s else nested_declared t h s)).0
      by true k = absurd k
      by false k = by-whole (is_whole h) whole k

-- ---- its name

simple-selectors : (text : List ℕ) (n : CompoundNameTree) → All (IsLexeme text) (compound_tokens n) → Simple n.first × All Simple n.selectors
simple-selectors text n a = (identifier-simple text n.first a.0, more n.selectors a.1)
  where
    more : (ls : List Label) → All (IsLexeme text) (after symbols.Dot ls) → All Simple ls
    more [] b = tt
    more (l ∷ ls) b = (identifier-simple text l b.1.0, more ls b.1.1)

specification-simple : (text : List ℕ) (s : SpecificationTree) → All (IsLexeme text) (specification_tokens s) → Simple (name_of s).first × All Simple (name_of s).selectors
specification-simple text (ProcedureSpecification l n f) a = simple-selectors text n (all-left (IsLexeme text) (compound_tokens n) _ a.1)
specification-simple text (FunctionSpecification l n f r m) a = simple-selectors text n (all-left (IsLexeme text) (compound_tokens n) _ a.1)

named : (s : SpecificationTree) → designator s ≡ name_of s
named (ProcedureSpecification l n f) = refl
named (FunctionSpecification l n f r m) = refl

-- ---- all items

-- what bodies define, and what else is defined
abbrev defined : List LabelledBody → List LinkSymbol → List LinkSymbol → List LinkSymbol → List LinkSymbol
defined bs objects flags regions = flat_map (λ (b : LabelledBody). body_defines b.symbol b.kind) bs ++ objects ++ flags ++ regions

defines-first : (x : LinkSymbol) (bs : List LabelledBody) (objects flags regions : List LinkSymbol) → DefinesFirst x bs → Contains (defined (bs ++ []) objects flags regions) x
defines-first x bs objects flags regions d =
    subst (λ (l : List LabelledBody). Contains (defined l objects flags regions) x) (sym (append-nil bs))
    (subst (λ (ys : List LinkSymbol). Contains (ys ++ objects ++ flags ++ regions) x) (sym d.1) (first-there x (d.0 ++ objects ++ flags ++ regions)))

is-ok : (j : Judged (List DeclarationTree)) → Clean (part_of j).faults → IsOk j
unfolding part_of
is-ok (Ok ds) c = tt
is-ok (Err f) c = absurd c.1

-- the first declaration of a name
abbrev first_of : UnitKey → List ℕ → Symbol
first_of unit name = record { unit = unit; name = name; number = 0 }

module _ (t : Table) (unit : UnitKey) (text : List ℕ) (tree : CompilationUnitTree) (pp : Declarations) (s : UnitStart) where
  abbrev begin : CheckState
  begin = standing_of pp tree s

  -- what is known of the start of a unit with this item
  record Known (item : LibraryItemTree) : Type 0 where
    kind : unit.kind ≡ form_kind (form_of item)
    name : unit.name ≡ full_name (parent_body_name item) (item_name item)
    is_package : s.own.is_package ≡ is_package_item item
    place : Place
    waits : s.uncompleted ≡ completions_seen_at t place (waiting t unit item (completed_at t unit item).view)
    depth : ℕ
    progress : s.progress ≡ progress_at unit item depth
    tokens : All (IsLexeme text) (library_item_tokens item)

  abbrev own : Symbol
  own = first_of unit (last_of unit.name)

  name-is : (x : SpecificationTree) → unit.name ≡ dotted (designator x) → All (IsLexeme text) (specification_tokens x) → (compound_defined (name_of x)).name ≡ last_of unit.name
  name-is x e a = let m = specification-simple text x a in sym (last-dotted (name_of x) m.0 m.1) ∙ ap last_of (sym (e ∙ ap dotted (named x)))

  declared : (p : Option Label) (x : SpecificationTree) → Known (LibrarySubprogram p x) → symbol_of s.progress (compound_defined (name_of x)).name ≡ own
  declared p x k =
      ap (λ (q : Progress). symbol_of q (compound_defined (name_of x)).name) k.progress
      ∙ ap (first_of unit) (name-is x k.name (all-left (IsLexeme text) (specification_tokens x) _ (all-right (IsLexeme text) (private_tokens p) _ k.tokens)))

  alone : (x : SpecificationTree) (y : BodyTree) → Known (LibraryBody x y) → symbol_of s.progress (compound_defined (name_of x)).name ≡ own
  alone x y k =
      ap (λ (q : Progress). symbol_of q (compound_defined (name_of x)).name) k.progress
      ∙ ap (first_of unit) (name-is x k.name (all-left (IsLexeme text) (specification_tokens x) _ k.tokens))

  module _ (i : UnitInterface) (made : UnitTree) where
    -- what is known of the end
    record Ends (walked : CheckState × Inside) : Type 0 where
      leaves : i.properties.completions ≡ answers.Completions walked.0.env.uncompleted
      objects : List LinkSymbol
      flags : List LinkSymbol
      regions : List LinkSymbol
      defines : unit_defines made ≡ defined walked.1.bodies objects flags regions
      clean : Clean walked.1.faults

    none-waits : (x : SpecificationTree) (y : BodyTree) → Known (LibraryBody x y) → declared_view t unit ≡ None → s.uncompleted ≡ []
    none-waits x y k e = k.waits ∙ ap (λ (v : Option ViewKind). completions_seen_at t k.place (completion unit v)) e

    main-by : (item : LibraryItemTree) → Known item → Ends (unit_walked (ada t) begin item) → is_parameterless_procedure item ≡ true → DeclaresItself unit t → IsAccounted i made (own_code unit)
    unfolding ada inside_of nothing
    main-by (LibrarySubprogram p x) k e m d =
        let h = whole t unit tree pp s k.is_package in
        let j = subprogram_here t begin x in
        let o = is-ok j.1 (followed-clean (part_of j.1).faults nothing.checked.faults e.clean).0 in
        let f = declared-own t begin h k.waits x o in
        let all : left_by i.properties.completions ≡ own_code unit ∷ f.0 = ap left_by e.leaves ∙ f.1 ∙ ap (λ (y : Symbol). link Code y ∷ f.0) (declared p x k) in
        inr (inl (subst (λ (ys : List LinkSymbol). Contains ys (own_code unit)) (sym all) (first-there (own_code unit) f.0)))
    main-by (LibraryBody x y) k e m (inl d) = let never : Decl ≡ BodyKind = sym d ∙ k.kind in absurd (cc)
    main-by (LibraryBody x y) k e m (inr d) =
        let h = whole t unit tree pp s k.is_package in
        let none = none-waits x y k d.1 in
        let few = subst (λ (cs : List Completion). Few cs) (sym none) tt in
        let f = body-own t begin h refl few x y (followed-clean (w.body_walked (ada t) begin x y).1.faults nothing.checked.faults e.clean).0 in
        let symbol : own_symbol t begin h refl x s.uncompleted ≡ own = ap (λ (cs : List Completion). own_symbol t begin h refl x cs) none ∙ alone x y k in
        let there = defines-first (link Code (own_symbol t begin h refl x s.uncompleted)) (w.body_walked (ada t) begin x y).1.bodies e.objects e.flags e.regions f in
        inl (subst (λ (ys : List LinkSymbol). Contains ys (own_code unit)) (sym e.defines) (subst (λ (z : Symbol). Contains (defined ((w.body_walked (ada t) begin x y).1.bodies ++ []) e.objects e.flags e.regions) (link Code z)) symbol there))
    main-by (LibraryPackage p l k') k e m d = absurd (true≢false (sym m))
    main-by (LibraryPackageBody l k') k e m d = absurd (true≢false (sym m))
    main-by (Subunit l o n x y) k e m d = absurd (true≢false (sym m))

known : (t : Table) (unit : UnitKey) (text : List ℕ) (tree : CompilationUnitTree) (pp : Declarations) (s : UnitStart) → unit_in text ≡ Some tree → IsStart t unit tree s → Known t unit text tree pp s tree.item
unfolding header_of tokens_of
known t unit text tree pp s u i = record {
  kind = ap (λ (x : UnitKey). x.kind) (keyed t unit tree i.own);
  name = ap (λ (x : UnitKey). x.name) (keyed t unit tree i.own);
  is_package = ap (λ (x : UnitStart). x.own.is_package) i.is;
  place = (start_of t unit tree i.context).scope;
  waits = ap (λ (x : UnitStart). x.uncompleted) i.is;
  depth = depth_of tree.item (completed_at t unit tree.item).view;
  progress = ap (λ (x : UnitStart). x.progress) i.is;
  tokens = all-right (IsLexeme text) (each context_tokens tree.context) (library_item_tokens tree.item) (tree-lexemes text tree u);
}

pub mains-are-accounted : MainsAreAccounted
unfolding header_of unit_defines
mains-are-accounted unit text tree t i made u h m d =
    let r = right unit text tree t i made h in
    let pp = private_part_of t tree (Ok r.start) in
    let walked = unit_walked (ada t) (standing_of pp tree r.start) tree.item in
    main-by t unit text tree pp r.start i made tree.item (known t unit text tree pp r.start u r.started) (record {
      leaves = ap (λ (j : UnitInterface). j.properties.completions) r.made_of.interface ∙ ap answers.Completions (completions-same walked.0);
      objects = _;
      flags = _;
      regions = _;
      defines = ap unit_defines r.made_of.tree;
      clean = r.made_of.clean;
    }) m d
