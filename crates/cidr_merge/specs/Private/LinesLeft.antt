-- The lines of lists that are still to come, as the code holds them.
use Rattle.std.specs.Prelude.{ℕ, ◌+◌, List, ◌++◌, map}
use Rattle.std.specs.Str.Lines.{lines}
use Rattle.ipnetwork.specs.declared.ip_network.IpNetwork.{IpNetwork}
use Rattle.cidr_merge.specs.NumberedLines.{NumberedLine, lines_from, numbered_lines}
use Rattle.cidr_merge.specs.declared.numbered_lines.Line.{Line}
use Rattle.cidr_merge.specs.declared.numbered_lines.NumberedLines.{NumberedLines}
use Rattle.cidr_merge.specs.declared.query.Query.{Query}
use Rattle.cidr_merge.specs.declared.sought.Sought.{Sought}

-- a line of the code as a numbered line
abbrev pub as_numbered : Line → NumberedLine
as_numbered line = record { list = line.list; number = line.number; text = line.text.now }

-- the lines that remain: those of the current list, and of the lists after it
abbrev pub lines_left : NumberedLines → List NumberedLine
lines_left left =
    lines_from left.list (1 + left.number) (lines left.lines.text.now)
    ++ numbered_lines left.next (map (λ text. text.items) left.texts.now)

-- a text and its network
abbrev pub sought_as : Sought → List ℕ × IpNetwork
sought_as one = (one.text.items, one.network)

-- the texts and networks that are sought
abbrev pub sought_in : Query → List (List ℕ × IpNetwork)
sought_in query = map sought_as query.sought.items
