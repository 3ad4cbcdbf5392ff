use Rattle.ipnetwork_c.proofs.Known.{◌≡◌, true, false, Rise, Fall, IsLast}
use Rattle.ipnetwork_c.proofs.text_columns.are_offsets.Given as goal

abbrev pub invariant-loop-offset : goal.invariant-loop-offset
invariant-loop-offset l = record {
  rise : l.falls ≡ false → Rise l.offsets l.offset-index;
  fall : l.falls ≡ true → Fall l.offsets l.offset-index;
  last : IsLast l.offsets l.offset-index l.last;
}
