-- The worked examples hold by computing.
use Rattle.std.proofs.Common.{refl}
use Rattle.rules.specs.Examples.{shown, answers, table, Examples, shown_at, answers_two, table_two, TwoVaultExamples, answer_to, LimitExamples}

pub examples_hold : Examples
unfolding shown answers table
examples_hold = record {
  set_up = refl;
  seats_sent = refl;
  joins = refl;
  joins_lower = refl;
  joins_lower_plain = refl;
  removal = refl;
  no_such_edge = refl;
  no_such_user = refl;
  nested = refl;
  nested_plain = refl;
  nested_unchained = refl;
  delivered = refl;
  nothing_left = refl;
  link_of_5 = refl;
  link_of_6 = refl;
  withdrawn = refl;
  store_of_2 = refl;
  store_of_3 = refl;
}

pub two_vault_examples_hold : TwoVaultExamples
unfolding shown_at answers_two table_two
two_vault_examples_hold = record {
  declared_again = refl;
  vault_before_privilege = refl;
  seats_to_0 = refl;
  seats_to_1 = refl;
  second_kept = refl;
  told_already = refl;
  held_already = refl;
  absent_already = refl;
  narrower = refl;
  narrower_elsewhere = refl;
  narrower_to_privilege = refl;
  narrower_removal = refl;
  grants = refl;
  grants_another = refl;
  delegates = refl;
  user_with_privilege = refl;
  user_before_edge = refl;
  store_of_vault_1 = refl;
  link_of_vault_1 = refl;
  lowest_store = refl;
  lowest_link = refl;
  stores_before_links = refl;
  store_room_delivered = refl;
  store_room_withdrawn = refl;
  applies = refl;
  applied = refl;
  delivers = refl;
  delivers_at_1 = refl;
  delivers_only_at_1 = refl;
  nothing_at_1 = refl;
  no_vault_2 = refl;
  naming_deliver = refl;
  naming_apply = refl;
  naming_seat = refl;
  seating_declare = refl;
  seating_keep = refl;
  seating_end = refl;
  seating_command = refl;
  service_declare = refl;
  service_seat = refl;
  service_open = refl;
}

pub limit_examples_hold : LimitExamples
unfolding answer_to
limit_examples_hold = record {
  depth_8 = refl;
  depth_9 = refl;
  names_128 = refl;
  names_129 = refl;
  names_again = refl;
  edges_512 = refl;
  edges_513 = refl;
  edges_again = refl;
}
