use Rattle.ipnetwork_family.proofs.Known.{◌≡◌, ◌-◌, ◌^◌, ◌<◌, length, take, bit_or, number_of_segments}
use Rattle.ipnetwork_family.proofs.segments.filled.Given as goal

abbrev pub invariant-loop-i : goal.invariant-loop-i
invariant-loop-i l = record {
  eight : length l.filled ≡ 8;
  fits : number_of_segments (take l.i l.mask) < 65536 ^ l.i;
  so_far : number_of_segments (take l.i l.filled)
      ≡ bit_or (number_of_segments (take l.i l.segments)) (65536 ^ l.i - 1 - number_of_segments
      (take l.i l.mask));
}
