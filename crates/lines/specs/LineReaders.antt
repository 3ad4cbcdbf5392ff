-- How contracts see a `LineReader`.
use Rattle.lines.specs.LineBuffers.{Buffered}
use Rattle.lines.specs.declared.line_reader.LineReader.{LineReader}
use Rattle.lines.specs.declared.watched.Watched.{Watched}

-- the device that the reader reads from
abbrev pub source_of : {R : Type 0} → LineReader R → Watched R
source_of reader = reader.source

-- the bytes that were read
abbrev pub buffered : {R : Type 0} → LineReader R → Buffered
buffered reader = reader.buffer
