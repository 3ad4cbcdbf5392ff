use Rattle.ipnetwork_sets.proofs.Known.{take, HasWritten, HasWrittenStyled, IsPlainFormatter, IsFlush, text_of, lines_of}
use Rattle.ipnetwork_sets.proofs.text.AddressSetNetworkDisplay.fmt.Given as goal

abbrev pub invariant-loop-block : goal.invariant-loop-block
invariant-loop-block g l = record {
  plain : IsPlainFormatter l.initial.f → HasWritten g.W.Write.write_str_gives l.initial.f
      (lines_of (text_of g.A.Address.family) (take l.block-index l.blocks)) l.f;
  styled : IsFlush l.initial.f → HasWrittenStyled g.W.Write.write_str_gives l.initial.f
      (lines_of (text_of g.A.Address.family) (take l.block-index l.blocks)) l.f;
}
