-- The words and the lemmas that answers cite, passed on from one place.
pub use Rattle.byte_search.proofs.Words.{IsAbsent, arith, bitmask_splat, eqb, length, length-chunk, subst, w8, ◌+◌, ◌-◌, ◌≡◌, ◌≤◌}
pub use Rattle.byte_search.proofs.Marks.{first_marked, further, left_of, onward, unmarked}
