use Rattle.ipnetwork_family.proofs.Known.{◌≡◌, length, take, bit_and, number_of_segments}
use Rattle.ipnetwork_family.proofs.segments.kept.Given as goal

abbrev pub invariant-loop-i : goal.invariant-loop-i
invariant-loop-i l = record {
  eight : length l.kept ≡ 8;
  so_far : number_of_segments (take l.i l.kept)
      ≡ bit_and (number_of_segments (take l.i l.segments)) (number_of_segments (take l.i l.mask));
}
