-- Lists that are gone through from their start.
use Rattle.std.proofs.Common.{◌≡◌, ◌≤◌, ◌||◌, ℕ, Bool, true, false, List, [], ◌∷◌, map, length, take, refl, ap, ◌∙◌}
use Rattle.std.proofs.lemmas.List.{take_all}
use Rattle.std.specs.Prelude.{fold}
use Rattle.al_tree.specs.StatementViews.{alternative_model, alternatives_of, elsif_model, elsifs_of, more_statements_of, statement_model}
use Rattle.al_tree.specs.declared.statement.Alternative.{Alternative}
use Rattle.al_tree.specs.declared.statement.ElsifBranch.{ElsifBranch}
use Rattle.al_tree.specs.declared.statement.Statement.{Statement}
use Rattle.al_stmts.specs.Returning.{alternative_returns, alternatives_return, branch_returns, elsifs_return, is_returning, more_return}

abbrev pub with_statement : Bool → Statement → Bool
with_statement found s = found || is_returning (statement_model s)

abbrev pub with_elsif : Bool → ElsifBranch → Bool
with_elsif found b = found || branch_returns (elsif_model b).1

abbrev pub with_alternative : Bool → Alternative → Bool
with_alternative found a = found || alternative_returns (alternative_model a)

or_none : (a : Bool) → a ≡ (a || false)
or_none true = refl
or_none false = refl

or_assoc : (a b c : Bool) → ((a || b) || c) ≡ (a || (b || c))
or_assoc true b c = refl
or_assoc false b c = refl

statements_folded : (found : Bool) (ss : List Statement) → fold with_statement found ss ≡ (found || more_return (more_statements_of (map statement_model ss)))
statements_folded found [] = or_none found
statements_folded found (s ∷ ss) =
    statements_folded (with_statement found s) ss ∙ or_assoc found (is_returning (statement_model s)) (more_return (more_statements_of (map statement_model ss)))

elsifs_folded : (found : Bool) (bs : List ElsifBranch) → fold with_elsif found bs ≡ (found || elsifs_return (elsifs_of (map elsif_model bs)))
elsifs_folded found [] = or_none found
elsifs_folded found (b ∷ bs) =
    elsifs_folded (with_elsif found b) bs ∙ or_assoc found (branch_returns (elsif_model b).1) (elsifs_return (elsifs_of (map elsif_model bs)))

alternatives_folded : (found : Bool) (more : List Alternative) → fold with_alternative found more ≡ (found || alternatives_return (alternatives_of (map alternative_model more)))
alternatives_folded found [] = or_none found
alternatives_folded found (a ∷ more) =
    alternatives_folded (with_alternative found a) more ∙ or_assoc found (alternative_returns (alternative_model a)) (alternatives_return (alternatives_of (map alternative_model more)))

pub statements_all : (ss : List Statement) (i : ℕ) (found : Bool) → found ≡ fold with_statement false (take i ss) → length ss ≤ i → found ≡ more_return (more_statements_of (map statement_model ss))
statements_all ss i found e long = e ∙ ap (fold with_statement false) (take_all i ss long) ∙ statements_folded false ss

pub elsifs_all : (bs : List ElsifBranch) (i : ℕ) (found : Bool) → found ≡ fold with_elsif false (take i bs) → length bs ≤ i → found ≡ elsifs_return (elsifs_of (map elsif_model bs))
elsifs_all bs i found e long = e ∙ ap (fold with_elsif false) (take_all i bs long) ∙ elsifs_folded false bs

pub alternatives_all : (more : List Alternative) (i : ℕ) (found : Bool) → found ≡ fold with_alternative false (take i more) → length more ≤ i → found ≡ alternatives_return (alternatives_of (map alternative_model more))
alternatives_all more i found e long = e ∙ ap (fold with_alternative false) (take_all i more long) ∙ alternatives_folded false more
