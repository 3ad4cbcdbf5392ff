-- The words and the lemmas that answers cite, passed on from one place.

pub use Rattle.ipnetwork_table.proofs.Words.{IsLastUpTo, IsSome, Member, None, NoneAbove, NoneUpTo, NoneUsedBetween, ShareAtMost, ap, arith, block_at, by_pair, get, get_or, get_or-replicate, is_some, rules, subst, sym, ◌+◌, ◌-◌, ◌/◌, ◌<◌, ◌∙◌, ◌≡◌, ◌≤◌}
pub use Rattle.ipnetwork_table.proofs.Keys.{none_at_first, one_less, one_more, set_one, take_one}
pub use Rattle.ipnetwork_table.proofs.Lengths.{counted_again, counted_still, counted_with, counted_without, is_counted, none_above_used, none_counted, none_used_holds, room_for_one}
pub use Rattle.ipnetwork_table.proofs.Listing.{entries_ascend, listed_is_stored, stored_is_listed, wider_first}
pub use Rattle.ipnetwork_table.proofs.Longest.{new_table, none_above_width, with_block, without}
pub use Rattle.ipnetwork_table.proofs.LongestEntry.{computed_answers}
pub use Rattle.ipnetwork_table.proofs.Nearest.{fewer_shared, last_is_longest, none_above_shared, none_near, share_less}
pub use Rattle.ipnetwork_table.proofs.Neighbours.{is_last_up_to, none_up_to}
pub use Rattle.ipnetwork_table.proofs.OneAnswer.{answer_exists, answer_is_one, answers_by_pair, blocks_meet}
pub use Rattle.ipnetwork_table.proofs.Pairs.{counted, inserted, listed, removed, value_at}
