use Rattle.std.proofs.Common.{arith, rules, ◌≡◌, ◌∙◌, Some, None, drop, map, string_bytes, sym, ap, false}
use Rattle.std.specs.List.{All}
use Rattle.std.specs.Str.{IsUtf8}
use Rattle.std.proofs.lemmas.Result.{err_from_is_err_and}
use Rattle.std.proofs.lemmas.List.Elements.{All-drop}
use Rattle.clap.specs.Words.{first_value, found_of, rule_of}
use Rattle.adalib.specs.Words.{tick_told}
use Rattle.adalib.proofs.Walks.{file_rule, tick_id, tick_rule}
use Rattle.adalib.proofs.Commands.{all_utf8, command_is, number_is, told_is, wants_memory, written_by}
use Rattle.adalib.proofs.options.Options.of.Goals as goal

pub returns-in_err-matches-clause-refused : goal.returns-in_err-matches-clause-refused
returns-in_err-matches-clause-refused c =
    let tick_is : rule_of c.action-tick.result ≡ tick_rule = search rules in
    let file_is : rule_of c.action-file.result ≡ file_rule = search rules in
    let tick_local : c.action-tick.result.global ≡ false = search rules in
    let file_local : c.action-file.result.global ≡ false = search rules in
    let made = command_is c.new-3.result c.disable_help_flag.result c.in_ok-arg.field-0 c.in_ok-command.command c.action-tick.result c.action-file.result
    c.new-3.ensures.app c.disable_help_flag.ensures c.in_ok-arg.ensures c.in_ok-command.ensures tick_is file_is tick_local file_local in
    let p = err_from_is_err_and c.from_residual-in_err-matches.result c.from_residual-in_err-matches.ensures.1 in
    rw p.1 (λ usage tick file asks. p.2 usage
    (wants_memory c.in_ok-command.command (map string_bytes c.args.words.now) c.in_err-matches.field-0.0 made c.in_err-matches.ensures.kinds asks.0 file asks.1))

pub returns-in_err-tick-clause-refused : goal.returns-in_err-tick-clause-refused
returns-in_err-tick-clause-refused c =
    let tick_is : rule_of c.action-tick.result ≡ tick_rule = search rules in
    let file_is : rule_of c.action-file.result ≡ file_rule = search rules in
    let tick_local : c.action-tick.result.global ≡ false = search rules in
    let file_local : c.action-file.result.global ≡ false = search rules in
    let made = command_is c.new-3.result c.disable_help_flag.result c.in_ok-arg.field-0 c.in_ok-command.command c.action-tick.result c.action-file.result
    c.new-3.ensures.app c.disable_help_flag.ensures c.in_ok-arg.ensures c.in_ok-command.ensures tick_is file_is tick_local file_local in
    let told : c.told_tick.result ≡ tick_told (first_value (found_of c.in_ok-matches.matches) tick_id) =
    told_is c.get_str.result c.told_tick.result c.told_tick.ensures.value ∙ ap tick_told c.get_str.ensures in
    let none : c.told_tick.result ≡ None = grind arith in
    let p = err_from_is_err_and c.from_residual-in_err-tick.result c.from_residual-in_err-tick.ensures.1 in
    rw p.1 (λ usage tick file asks.
    let number = number_is c.in_ok-command.command (map string_bytes c.args.words.now) c.in_ok-matches.matches made c.in_ok-matches.ensures.matches asks.0 file asks.1 in
    let bad : None ≡ Some tick = sym none ∙ told ∙ ap tick_told number ∙ asks.2 in
    cc)

pub returns-clause-taken : goal.returns-clause-taken
returns-clause-taken c =
    let tick_is : rule_of c.action-tick.result ≡ tick_rule = search rules in
    let file_is : rule_of c.action-file.result ≡ file_rule = search rules in
    let tick_local : c.action-tick.result.global ≡ false = search rules in
    let file_local : c.action-file.result.global ≡ false = search rules in
    let made = command_is c.new-3.result c.disable_help_flag.result c.in_ok-arg.field-0 c.in_ok-command.command c.action-tick.result c.action-file.result
    c.new-3.ensures.app c.disable_help_flag.ensures c.in_ok-arg.ensures c.in_ok-command.ensures tick_is file_is tick_local file_local in
    let words = map string_bytes c.args.words.now in
    let utf8 : All IsUtf8 (drop 1 words) = All-drop IsUtf8 1 words (all_utf8 c.args.words.now) in
    let written = written_by c.in_ok-command.command words c.in_ok-matches.matches made utf8 c.in_ok-matches.ensures.kinds c.in_ok-matches.ensures.matches in
    let told : c.told_tick.result ≡ tick_told (first_value (found_of c.in_ok-matches.matches) tick_id) =
    told_is c.get_str.result c.told_tick.result c.told_tick.ensures.value ∙ ap tick_told c.get_str.ensures in
    let some : c.told_tick.result ≡ Some c.in_ok-tick.tick = grind arith in
    (first_value (found_of c.in_ok-matches.matches) tick_id, rw c.get_str-2.ensures written, sym told ∙ some)
