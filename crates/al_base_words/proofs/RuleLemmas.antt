-- Each rule is found by its number.
use Rattle.std.proofs.Common.{◌≡◌, ◌≢◌, ℕ, Option, Some, None, refl, ap}
use Rattle.std.specs.Prelude.{IfNone}
use Rattle.al_base.specs.Rules.{number_of}
use Rattle.al_base_words.specs.Messages.{all_rules, rule_of}
use Rattle.al_base.specs.declared.rule.Rule.{Rule}
use Rattle.al_base.specs.declared.rule.Rule.TheVariants.{IllegalCharacter}

rule_of-number : (r : Rule) → rule_of (number_of r) ≡ Some r
unfolding rule_of all_rules number_of
rule_of-number IllegalCharacter = refl
rule_of-number r = refl

-- where none is found, no rule has the number
pub IfNone-rule_of : (o : Option Rule) (number : ℕ) → o ≡ rule_of number → IfNone o ((r : Rule) → number_of r ≢ number)
IfNone-rule_of None number is = λ r same. let found = rule_of-number r in let again = ap rule_of same in cc
IfNone-rule_of (Some r) number is = tt
