-- The words and the lemmas that answers cite, passed on from one place.

pub use Rattle.reducing.proofs.Words.{Becomes, IsSpanning, IsTaken, IsTree, List, MatchBool-at_false, MatchBool-at_true, Network, SharesBits, [], all_taken, alone, ap, ap₂, arith, block_at, blocks, eqb-true, get_or, inl, inr, least, length, length-map, low, map, one_more_taken, subst, sym, take, take_all, ℕ, ◌*◌, ◌++◌, ◌+◌, ◌-◌, ◌/◌, ◌^◌, ◌∙◌, ◌∷◌, ◌≡◌}
pub use Rattle.reducing.proofs.JoinedParts.{join_at_root, join_behind_root, least_is_behind, least_is_less}
pub use Rattle.reducing.proofs.Kept.{goes_on, has_pair, row_of_set, starts}
pub use Rattle.reducing.proofs.ListParts.{join_in_back, join_in_front, joins_of, max_is, nothing_in, span_followed, span_of_one}
pub use Rattle.reducing.proofs.Rows.{adds_up, sum_fits}
pub use Rattle.reducing.proofs.Shared.{joined_at, joined_prefix, joined_spans, ones_shifted}
pub use Rattle.reducing.proofs.Trees.{blocks-append, blocks_taken, closed_again, empty_tree, opened_blocks, opened_trees, root_span, split, whole_again}
