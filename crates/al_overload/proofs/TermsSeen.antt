-- What each term is seen as.
use Rattle.al_overload.proofs.TermsMade.{number_made, text_made, named_made, selected_made, applied_made, bound_made, length_made, conversion_made, qualified_made, attribute_made, image_made, prefixed_made, infix_made, concatenation_made, short_circuit_made, member_made, range_member_made, group_made, aggregate_made, others_made, nothing_made}

pub ruleset terms_made = (number_made, text_made, named_made, selected_made, applied_made, bound_made, length_made, conversion_made, qualified_made, attribute_made, image_made, prefixed_made, infix_made, concatenation_made, short_circuit_made, member_made, range_member_made, group_made, aggregate_made, others_made, nothing_made)
