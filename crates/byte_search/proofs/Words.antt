-- The words of this crate and of those below, passed on from one place.
pub use Rattle.byte_search.specs.Bytes.{IsAbsent, IsNext}
pub use Rattle.std.proofs.Common.{Bool, List, [], ap, arith, cond, drop, eqb, false, inl, inr, length, map, not, subst, suc, sym, take, true, w8, zero, ℕ, ◌*◌, ◌+◌, ◌-◌, ◌/◌, ◌<◌, ◌==◌, ◌^◌, ◌∙◌, ◌∷◌, ◌≡◌, ◌≢◌, ◌≤◌}
pub use Rattle.std.proofs.lemmas.Bool.{cases_lt, eqb-false, eqb-true}
pub use Rattle.std.proofs.lemmas.List.{drop-drop, drop-take}
pub use Rattle.std.proofs.lemmas.Simd.{bitmask_splat, length-chunk, none_from_empty_mask, run_in_chunk_fails, run_in_chunk_stops, trailing_mask_l}
pub use Rattle.std.specs.List.{prefix_len}
