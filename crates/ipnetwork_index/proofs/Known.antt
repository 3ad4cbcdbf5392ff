-- The words and the lemmas that answers cite, passed on from one place.

pub use Rattle.ipnetwork_index.proofs.Words.{All, All-push, AreAnsweredUpTo, AreAnswersUpTo, AreBefore, AreFirstsSoFar, AreOpen, ArePlaces, AreStarts, AreStartsSoFar, AreSwept, AreTellingUpTo, Closes, CutInto, Finds, HasComeTo, HasLastValues, InUnion, IsBetween, IsCidrBlock, IsLastOf, IsNarrowedTo, IsOneIfLess, IsPart, IsScanned, IsStart, IsTold, IsTrue, KeepsOpen, LiesAt, List, Network, None, OpenFrom, Some, [], ap, arith, before, block_of, by_pair, cases_lt, cuts_of, dedup_is, edges_of, false, flat_map, get_or, is_inside, least_blocks, length, length-chunk, length-map, length-take, low, map, map-append, map_push, one_answer, pow_mono, refl, slice_get, slice_get_within, subst, sym, take, true, ℕ, ⊎_elim, ◌%◌, ◌*◌, ◌++◌, ◌+◌, ◌-◌, ◌/◌, ◌<◌, ◌^◌, ◌↔◌, ◌∙◌, ◌∷◌, ◌≡◌, ◌≤◌}
pub use Rattle.ipnetwork_index.proofs.Answering.{answered, answers_more, made_finds}
pub use Rattle.ipnetwork_index.proofs.BlockEnding.{scanned_more, told_all}
pub use Rattle.ipnetwork_index.proofs.Chains.{few_open, room_for_next}
pub use Rattle.ipnetwork_index.proofs.Cutting.{blocks_back, closes_pushed, closes_same, set_cuts_rise, whole_high, whole_low}
pub use Rattle.ipnetwork_index.proofs.Edging.{all_cut_out, each_once, edges_put, mid_none, mid_some, next_taken}
pub use Rattle.ipnetwork_index.proofs.Eights.{few_marks, marks_are, run_of_less}
pub use Rattle.ipnetwork_index.proofs.Halving.{all_last_more, come_by_high, halved, high_within, place_by_high}
pub use Rattle.ipnetwork_index.proofs.Inside.{blocks_tell, place_tells}
pub use Rattle.ipnetwork_index.proofs.LastValues.{all_entries, no_entries, one_entry_more}
pub use Rattle.ipnetwork_index.proofs.ListedBlocks.{has_blocks, has_value, its_table, made}
pub use Rattle.ipnetwork_index.proofs.Lowering.{found_behind, found_in_eight, ordered, rising, starts_read, word_is, word_pushed}
pub use Rattle.ipnetwork_index.proofs.PartCounts.{eight_in_each, eight_of_none, few_bits, has_bits, many_bits, one_to_two, two_in_each, two_to_four}
pub use Rattle.ipnetwork_index.proofs.Searching.{at_most, begins, found, four_step, goes_past, is_before, narrowed_to, narrows, not_before, reaches_past, read_number}
pub use Rattle.ipnetwork_index.proofs.Starting.{all_started, is_within, lies, pads, start_more, starts_more, starts_none}
pub use Rattle.ipnetwork_index.proofs.Sweeping.{closes_popped, entries_length, entries_listed, entry_read, innermost_is, last_ends, open_later, open_places, opens_next, places_popped, swept_tells, top_is, top_read, top_within}
pub use Rattle.ipnetwork_index.proofs.AnswerColumns.{all_answered, next_answered, none_answered}
pub use Rattle.ipnetwork_index.proofs.Turning.{cut_into}
