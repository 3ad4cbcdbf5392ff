-- The words of this crate and of those below, passed on from one place.
pub use Rattle.ipnetwork_blocks.proofs.HalfBlocks.{size_half}
pub use Rattle.ipnetwork_blocks.proofs.LeastLists.{contains_cons, contains_head, contains_nil, contains_tail}
pub use Rattle.ipnetwork_blocks.proofs.SpanningBlock.{all_taken, one_more_taken, spans_both}
pub use Rattle.ipnetwork_blocks.specs.AggregateLaws.{AggregateIsApart}
pub use Rattle.ipnetwork_blocks.specs.Spanning.{IsSpanning}
pub use Rattle.ipnetwork_family.proofs.Blocks.{block_same_set, coarser_size, div_within, has_ends, high_fits, size_pos, subnet_from, subnet_prefix, within_block, within_member}
pub use Rattle.ipnetwork_family.proofs.BlocksAt.{block_at_network}
pub use Rattle.ipnetwork_family.specs.Bits.{SharesBits}
pub use Rattle.ipnetwork_family.specs.Network.{IsCidrBlock, IsNetwork, Member, Network, Subnet, block_at, block_size, high, low}
pub use Rattle.ipnetwork_sets.proofs.Lists.{set_block}
pub use Rattle.ipnetwork_sets.specs.Counts.{total}
pub use Rattle.ipnetwork_sets.specs.Sets.{IsAddressSet}
unfoldable pub use Rattle.reducing.specs.Joining.{joined, others, shared}
unfoldable pub use Rattle.reducing.specs.Private.ListParts.{no_pair}
pub use Rattle.reducing.specs.Private.ListParts.{DoMeet, IsBetween, IsSpan, IsSpanOf, JoinsFirst, least}
unfoldable pub use Rattle.reducing.specs.Private.Trees.{IsTreeTo}
pub use Rattle.reducing.specs.Private.Trees.{IsRoot, IsTaken, IsTree, alone, blocks}
pub use Rattle.reducing.specs.Reducing.{AllNeighbours, Becomes, Joins, Reduces}
pub use Rattle.reducing.specs.Reducing.Becomes.{Joined, Same}
pub use Rattle.reducing.specs.declared.span.Span.{Span}
pub use Rattle.reducing.specs.declared.tree.End.TheVariants.{First, Last}
pub use Rattle.reducing.specs.declared.tree.Node.{Node}
pub use Rattle.std.proofs.Common.{List, None, Option, Some, [], ap, append_assoc, ap₂, arith, drop, false, get_or, inl, inr, length, map, min, refl, set, subst, suc, sym, take, true, zero, ℕ, ⊎_elim, ◌*◌, ◌++◌, ◌+◌, ◌-◌, ◌/◌, ◌<◌, ◌==◌, ◌^◌, ◌∙◌, ◌∷◌, ◌≡◌, ◌≤◌, ◌⊎◌}
pub use Rattle.std.proofs.Math.Nat.{pow-le-pow_right}
pub use Rattle.std.proofs.Math.Seq.{drop-append-add, get_or-append_seam, take-append_seam, take-suc}
pub use Rattle.std.proofs.lemmas.Bool.{MatchBool-at_false, MatchBool-at_true, cases_Bool, cases_eq, cases_lt, cond-false, cond-true, eqb-false, eqb-true}
pub use Rattle.std.proofs.lemmas.List.{length-append, length-map, take-append-le, take_all}
pub use Rattle.std.proofs.lemmas.Nat.{pow-add, pow_pos, shr-shr, shr_below, shr_high}
pub use Rattle.std.specs.List.{AllPairs, Contains}
pub use Rattle.std.specs.Prelude.{slice_set}
