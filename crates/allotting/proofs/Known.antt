-- The words and the lemmas that answers cite, passed on from one place.
pub use Rattle.allotting.proofs.Counting.{IsCounting, all_counted, counting_starts, more_taken, next_at, next_counted}
pub use Rattle.allotting.proofs.Pieces.{are_free, free_in_same, next_at_hand}
pub use Rattle.allotting.proofs.Placing.{all_placed, all_left, filling_lacks, filling_passes, filling_starts, filling_takes, next_length, none_by, none_left, none_yet, removed, whole_again}
pub use Rattle.allotting.proofs.Shifted.{ones_left}
pub use Rattle.allotting.proofs.Words.{All, InBoth, InFirstAlone, InUnion, IsLengthFor, InPoolAlone, IsFilling, IsPlacing, List, Network, Subnet, [], arith, at_hand, count_number, get_or, host_count, least_is_set, length, length-map, map, map-append, min, pieces_in, pow_mono, refl, ap, rules, subst, sym, total, ℕ, ◌+◌, ◌++◌, ◌-◌, ◌/◌, ◌<◌, ◌^◌, ◌∙◌, ◌∷◌, ◌≡◌, ◌≤◌}
