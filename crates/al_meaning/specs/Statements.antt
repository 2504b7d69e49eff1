-- What statements mean (ARM 5, 6.5).
use Rattle.std.specs.Prelude.{ℕ, zero, suc, ℤ, pos, negsuc, ◌+ℤ◌, ◌-ℤ◌, int_le, Bool, ◌&&◌, if◌then◌else◌, List, [], ◌∷◌, ◌++◌, Option, Some, None, slice_get}
use Rattle.std.specs.List.{list_any}
use Rattle.std.specs.Ordering.{int_eq}
use Rattle.std.specs.Fmt.{signed_decimal}
use Rattle.al_base.specs.declared.unit_key.UnitKey.{UnitKey}
use Rattle.al_view.specs.declared.types.Bounds.{Bounds}
use Rattle.al_view.specs.declared.view.ObjectPlace.{ObjectPlace}
use Rattle.al_view.specs.declared.view.ObjectPlace.TheVariants as places
use Rattle.al_view_typed.specs.ExpressionTrees.{TypedTree, ValueTree}
use Rattle.al_view_typed.specs.StatementTrees.{PieceTree, SchemeTree, StatementTree, StatementsTree, StatementFormTree, BranchTree, BranchesTree, AlternativeTree, AlternativesTree}
use Rattle.al_view_typed.specs.StatementTrees.PieceTree.{TextPiece, IntegerImage, EnumerationImage}
use Rattle.al_view_typed.specs.StatementTrees.SchemeTree.{ForeverScheme, WhileScheme, ForScheme}
use Rattle.al_view_typed.specs.StatementTrees.StatementTree.{Numbered}
use Rattle.al_view_typed.specs.StatementTrees.StatementsTree.{NoStatement, MoreStatements}
use Rattle.al_view_typed.specs.StatementTrees.StatementFormTree.{NullStatement, AssignmentStatement, CallStatement, PutStatement, ReturnStatement, ExitStatement, DelayStatement, IfStatement, CaseStatement, LoopStatement, BlockStatement}
use Rattle.al_view_typed.specs.StatementTrees.BranchTree.{Branch}
use Rattle.al_view_typed.specs.StatementTrees.BranchesTree.{NoBranch, MoreBranches}
use Rattle.al_view_typed.specs.StatementTrees.AlternativeTree.{Alternative}
use Rattle.al_view_typed.specs.StatementTrees.AlternativesTree.{NoAlternative, MoreAlternatives}
use Rattle.al_view_typed.specs.StatementViews.{statements_of}
use Rattle.al_view_typed.specs.UnitTrees.{ElaborationTree}
use Rattle.al_meaning.specs.Scalars.{ConstraintError, Meaningless, within}
use Rattle.al_meaning.specs.States.{Act, GoesOn, ◌>>=◌, ◌>>◌, give, raise, at_line, of_value, of_truth, Words, scalar, store, put}
use Rattle.al_meaning.specs.Expressions.{Calls, value, named, checked_value, called}
use Rattle.al_meaning.specs.Declarations.{declarations}

-- statements end at their end, out of a loop so many loops out, or with what a function returns
pub data Flow : Type 0 where
  On : Flow
  Exits : ℕ → Flow
  Returns : Words → Flow

abbrev pub flow_on : Flow → Act Flow → Act Flow
flow_on On act = act
flow_on (Exits loops) act = give (Exits loops)
flow_on (Returns vs) act = give (Returns vs)

-- ---- loops: at most so many turns (ARM 5.5, 5.7)

abbrev pub round_again : Flow → Act Flow → Act Flow
round_again On act = act
round_again (Exits zero) act = give On
round_again (Exits (suc loops)) act = give (Exits loops)
round_again (Returns vs) act = give (Returns vs)

abbrev pub turns : ℕ → Act Flow → Act Flow
turns zero turn = λ st. GoesOn st
turns (suc n) turn = do
  f ← turn
  round_again f (turns n turn)

-- the parameter has each value from one to the other (ARM 5.5(9))
abbrev pub values_turns : ℕ → ObjectPlace → Bool → ℤ → ℤ → Act Flow → Act Flow
values_turns zero parameter is_reverse v last turn = λ st. GoesOn st
values_turns (suc n) parameter is_reverse v last turn = do
  store parameter (v ∷ [])
  f ← turn
  round_again f (if int_eq v last then give On else values_turns n parameter is_reverse (if is_reverse then v -ℤ pos 1 else v +ℤ pos 1) last turn)

-- a bound of a loop that has a mark is checked against it
abbrev pub in_mark : Option Bounds → ℤ → Act ℤ
in_mark mark v = of_value (within mark v)

-- ---- output

-- the image of a number (ARM 3.5(30))
abbrev pub number_image : ℤ → List ℕ
number_image (pos n) = 32 ∷ signed_decimal (pos n)
number_image (negsuc n) = signed_decimal (negsuc n)

-- the image of an enumeration value is its name (ARM 3.5(32))
abbrev pub name_image : List (List ℕ) → ℤ → Option (List ℕ)
name_image names (pos n) = slice_get names n
name_image names (negsuc n) = None

abbrev pub named_image : Option (List ℕ) → Act (List ℕ)
named_image None = raise Meaningless
named_image (Some name) = give name

abbrev pub is_chosen : ℤ → List Bounds → Bool
is_chosen v bs = list_any (λ b. int_le b.low v && int_le v b.high) bs

-- ---- in the body of a unit at a depth of nesting, with a bound on the turns of each loop

module _ (calls : Calls) (unit : UnitKey) (depth : ℕ) (fuel : ℕ) where
  abbrev pub number : TypedTree → Act ℤ
  number t = do
    vs ← value calls t
    scalar vs

  abbrev pub condition : TypedTree → Act Bool
  condition t = do
    v ← number t
    of_truth v

  abbrev pub image : PieceTree → Act (List ℕ)
  image (TextPiece bytes) = give bytes
  image (IntegerImage x) = do
    v ← number x
    give (number_image v)
  image (EnumerationImage x names) = do
    v ← number x
    named_image (name_image names v)

  abbrev pub images : List PieceTree → Act (List ℕ)
  images [] = give []
  images (p ∷ ps) = do
    text ← image p
    more ← images ps
    give (text ++ more)

  -- (ARM 5.7)
  abbrev pub left : ℕ → Option TypedTree → Act Flow
  left loops None = give (Exits loops)
  left loops (Some t) = do
    b ← condition t
    give (if b then Exits loops else On)

  -- (ARM 6.5)
  abbrev pub returned : Option ValueTree → Act Flow
  returned None = give (Returns [])
  returned (Some x) = do
    vs ← checked_value calls x
    give (Returns vs)

  abbrev pub round : SchemeTree → Act Flow → Act Flow
  round ForeverScheme turn = turns fuel turn
  round (WhileScheme t) turn = turns fuel (do
    b ← condition t
    if b then turn else give (Exits 0))
  round (ForScheme is_reverse low high mark parameter last) turn = do
    l ← number low
    h ← number high
    if int_le l h then (do
      in_mark mark (if is_reverse then h else l)
      in_mark mark (if is_reverse then l else h)
      values_turns fuel (places.Frame depth parameter) is_reverse (if is_reverse then h else l) (if is_reverse then l else h) turn) else give On

  abbrev mutual
    pub done : StatementTree → Act Flow
    done (Numbered line form) = at_line unit line (form_done form)

    pub all_done : StatementsTree → Act Flow
    all_done NoStatement = give On
    all_done (MoreStatements s ss) = do
      f ← done s
      flow_on f (all_done ss)

    pub form_done : StatementFormTree → Act Flow
    form_done NullStatement = give On
    form_done (AssignmentStatement target words x) = do
      vs ← checked_value calls x
      place ← named calls target
      store place vs
      give On
    form_done (CallStatement call) = do
      called calls call
      give On
    form_done (PutStatement pieces ends_line) = do
      text ← images pieces
      put (text ++ (if ends_line then 10 ∷ [] else []))
      give On
    form_done (ReturnStatement x words) = returned x
    form_done (ExitStatement loops t) = left loops t
    form_done (DelayStatement moment) = raise Meaningless
    form_done (IfStatement branches otherwise) = branches_done branches (all_done otherwise)
    form_done (CaseStatement selector word alternatives otherwise) = do
      v ← number selector
      alternatives_done v alternatives (others_done otherwise)
    form_done (LoopStatement scheme statements) = round scheme (all_done statements)
    form_done (BlockStatement ds statements) = do
      declarations calls unit ds
      all_done statements

    pub branches_done : BranchesTree → Act Flow → Act Flow
    branches_done NoBranch otherwise = otherwise
    branches_done (MoreBranches b bs) otherwise = branch_done b (branches_done bs otherwise)

    pub branch_done : BranchTree → Act Flow → Act Flow
    branch_done (Branch line t statements) others = do
      b ← at_line unit line (condition t)
      if b then all_done statements else others

    pub alternatives_done : ℤ → AlternativesTree → Act Flow → Act Flow
    alternatives_done v NoAlternative otherwise = otherwise
    alternatives_done v (MoreAlternatives a as_) otherwise = alternative_done v a (alternatives_done v as_ otherwise)

    pub alternative_done : ℤ → AlternativeTree → Act Flow → Act Flow
    alternative_done v (Alternative choices statements) others = if is_chosen v choices then all_done statements else others

    -- a value that no choice covers (ARM 5.4(13))
    pub others_done : StatementsTree → Act Flow
    others_done NoStatement = raise ConstraintError
    others_done (MoreStatements s ss) = do
      f ← done s
      flow_on f (all_done ss)

  -- declarations, then statements
  abbrev pub elaborated : ElaborationTree → Act Flow
  elaborated e = do
    declarations calls unit e.declarations
    all_done (statements_of e.statements)
