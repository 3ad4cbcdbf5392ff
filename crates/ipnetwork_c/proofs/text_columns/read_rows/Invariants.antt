use Rattle.ipnetwork_c.proofs.Known.{ReadsRows}
use Rattle.ipnetwork_c.proofs.text_columns.read_rows.Given as goal

abbrev pub invariant-loop-row : goal.invariant-loop-row
invariant-loop-row g l = ReadsRows g.R.ReadsRow.reads l.texts l.offsets l.row l.initial.rows l.rows
    l.initial.faults l.faults
