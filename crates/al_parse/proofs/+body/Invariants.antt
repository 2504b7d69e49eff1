use Rattle.al_tree_grammar.specs.Grammar.{each}
use Rattle.al_tree_grammar.specs.Grammar.Rule.{Any, Many, Seq}
use Rattle.al_parse.proofs.Loops.{Kept}
use Rattle.al_tree_syntax.specs.Declarations.{item_rule, operation_body_rule}
use Rattle.al_tree_syntax.specs.StatementTrees.{alternative_tokens, item_tokens, operation_body_tokens, statement_tokens}
use Rattle.al_tree_syntax.specs.Statements.{alternative_rule, branch_rule, statement_rule}
use Rattle.al_tree.specs.Lexemes.{lexemes}
use Rattle.al_tree.specs.StatementViews.{alternative_model, elsif_tokens, item_model, operation_body_model, statement_model}
use Rattle.std.proofs.Common.{length}
use Rattle.std.proofs.Common.{◌+◌, ◌*◌}
use Rattle.al_parse.proofs.+body.Given as goal

abbrev pub decreases-protected::protected_item : goal.decreases-protected::protected_item
decreases-protected::protected_item l = 37 * l.depth + 36

abbrev pub decreases-protected::protected_body : goal.decreases-protected::protected_body
decreases-protected::protected_body l = 37 * l.depth + 35

abbrev pub decreases-protected::operation_bodies : goal.decreases-protected::operation_bodies
decreases-protected::operation_bodies l = 37 * l.depth + 34

abbrev pub decreases-protected::operation_body : goal.decreases-protected::operation_body
decreases-protected::operation_body l = 37 * l.depth + 33

abbrev pub decreases-protected::protected_subprogram : goal.decreases-protected::protected_subprogram
decreases-protected::protected_subprogram l = 37 * l.depth + 32

abbrev pub decreases-body::proper_body : goal.decreases-body::proper_body
decreases-body::proper_body l = 37 * l.depth + 31

abbrev pub decreases-protected::entry_body : goal.decreases-protected::entry_body
decreases-protected::entry_body l = 37 * l.depth + 30

abbrev pub decreases-body::task_body : goal.decreases-body::task_body
decreases-body::task_body l = 37 * l.depth + 29

abbrev pub decreases-body::subprogram_body : goal.decreases-body::subprogram_body
decreases-body::subprogram_body l = 37 * l.depth + 28

abbrev pub decreases-body::declared_statements : goal.decreases-body::declared_statements
decreases-body::declared_statements l = 37 * l.depth + 27

abbrev pub decreases-body::items : goal.decreases-body::items
decreases-body::items l = 37 * l.depth + 26

abbrev pub decreases-body::item : goal.decreases-body::item
decreases-body::item l = 37 * l.depth + 25

abbrev pub decreases-body::task_item : goal.decreases-body::task_item
decreases-body::task_item l = 37 * l.depth + 24

abbrev pub decreases-body::completion : goal.decreases-body::completion
decreases-body::completion l = 37 * l.depth + 23

abbrev pub decreases-body::body_or_stub : goal.decreases-body::body_or_stub
decreases-body::body_or_stub l = 37 * l.depth + 22

abbrev pub decreases-body::opened_body : goal.decreases-body::opened_body
decreases-body::opened_body l = 37 * l.depth + 21

abbrev pub decreases-body::plain_block : goal.decreases-body::plain_block
decreases-body::plain_block l = 37 * l.depth + 20

abbrev pub decreases-body::for_loop : goal.decreases-body::for_loop
decreases-body::for_loop l = 37 * l.depth + 19

abbrev pub decreases-body::while_loop : goal.decreases-body::while_loop
decreases-body::while_loop l = 37 * l.depth + 18

abbrev pub decreases-body::loop_body : goal.decreases-body::loop_body
decreases-body::loop_body l = 37 * l.depth + 17

abbrev pub decreases-body::case_statement : goal.decreases-body::case_statement
decreases-body::case_statement l = 37 * l.depth + 16

abbrev pub decreases-body::more_alternatives : goal.decreases-body::more_alternatives
decreases-body::more_alternatives l = 37 * l.depth + 15

abbrev pub decreases-body::alternative : goal.decreases-body::alternative
decreases-body::alternative l = 37 * l.depth + 14

abbrev pub decreases-body::if_statement : goal.decreases-body::if_statement
decreases-body::if_statement l = 37 * l.depth + 13

abbrev pub decreases-body::elsifs : goal.decreases-body::elsifs
decreases-body::elsifs l = 37 * l.depth + 12

abbrev pub decreases-body::elsif : goal.decreases-body::elsif
decreases-body::elsif l = 37 * l.depth + 11

abbrev pub decreases-body::branch : goal.decreases-body::branch
decreases-body::branch l = 37 * l.depth + 10

abbrev pub decreases-body::otherwise : goal.decreases-body::otherwise
decreases-body::otherwise l = 37 * l.depth + 9

abbrev pub decreases-body::statements : goal.decreases-body::statements
decreases-body::statements l = 37 * l.depth + 8

abbrev pub decreases-body::more_statements : goal.decreases-body::more_statements
decreases-body::more_statements l = 37 * l.depth + 7

abbrev pub decreases-body::statement : goal.decreases-body::statement
decreases-body::statement l = 37 * l.depth + 6

abbrev pub decreases-body::compound_statement : goal.decreases-body::compound_statement
decreases-body::compound_statement l = 37 * l.depth + 5

abbrev pub decreases-body::named_statement : goal.decreases-body::named_statement
decreases-body::named_statement l = 37 * l.depth + 4

abbrev pub decreases-body::labelled_statement : goal.decreases-body::labelled_statement
decreases-body::labelled_statement l = 37 * l.depth + 3

abbrev pub decreases-body::after_label : goal.decreases-body::after_label
decreases-body::after_label l = 37 * l.depth + 2

abbrev pub decreases-body::loop_statement : goal.decreases-body::loop_statement
decreases-body::loop_statement l = 37 * l.depth + 1

abbrev pub decreases-body::block_statement : goal.decreases-body::block_statement
decreases-body::block_statement l = 37 * l.depth + 0

abbrev pub invariant-body::more_statements-more : goal.invariant-body::more_statements-more
invariant-body::more_statements-more l = Kept (each (λ x. statement_tokens (statement_model x)) l.items.items) (lexemes l.source l.rest) (lexemes l.source l.tokens) l.depth (Many statement_rule) (Many statement_rule)

abbrev pub decreases-body::more_statements-more : goal.decreases-body::more_statements-more
decreases-body::more_statements-more l = length l.rest

abbrev pub invariant-body::elsifs-more : goal.invariant-body::elsifs-more
invariant-body::elsifs-more l = Kept (each elsif_tokens l.items.items) (lexemes l.source l.rest) (lexemes l.source l.tokens) l.depth (Many (Seq (Any 36) branch_rule)) (Many (Seq (Any 36) branch_rule))

abbrev pub decreases-body::elsifs-more : goal.decreases-body::elsifs-more
decreases-body::elsifs-more l = length l.rest

abbrev pub invariant-body::more_alternatives-more : goal.invariant-body::more_alternatives-more
invariant-body::more_alternatives-more l = Kept (each (λ x. alternative_tokens (alternative_model x)) l.items.items) (lexemes l.source l.rest) (lexemes l.source l.tokens) l.depth (Many alternative_rule) (Many alternative_rule)

abbrev pub decreases-body::more_alternatives-more : goal.decreases-body::more_alternatives-more
decreases-body::more_alternatives-more l = length l.rest

abbrev pub invariant-body::items-more : goal.invariant-body::items-more
invariant-body::items-more l = Kept (each (λ x. item_tokens (item_model x)) l.items.items) (lexemes l.source l.rest) (lexemes l.source l.tokens) l.depth (Many item_rule) (Many item_rule)

abbrev pub decreases-body::items-more : goal.decreases-body::items-more
decreases-body::items-more l = length l.rest

abbrev pub invariant-protected::operation_bodies-more : goal.invariant-protected::operation_bodies-more
invariant-protected::operation_bodies-more l = Kept (each (λ x. operation_body_tokens (operation_body_model x)) l.items.items) (lexemes l.source l.rest) (lexemes l.source l.tokens) l.depth (Many operation_body_rule) (Many operation_body_rule)

abbrev pub decreases-protected::operation_bodies-more : goal.decreases-protected::operation_bodies-more
decreases-protected::operation_bodies-more l = length l.rest
