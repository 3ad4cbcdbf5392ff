use Rattle.cidr_merge.proofs.findings.tell_wrong.Goals as goal

pub returns : goal.returns
returns g c =
    rw (← c.text.ensures, ← c.as_bytes.ensures.value, ← c.line_shown-text.ensures, ← c.separator.ensures)
    c.tell_line.ensures
