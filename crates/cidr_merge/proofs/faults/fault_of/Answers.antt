use Rattle.cidr_merge.proofs.Known.{◌∙◌, map, ap, string_bytes, length-map, are_wrong_files, named_among, is_either}
use Rattle.cidr_merge.proofs.faults.fault_of.Goals as goal

pub returns : goal.returns
returns c =
    let files = c.files_fault.ensures ∙ ap are_wrong_files (ap (map string_bytes) c.files_among.ensures
    ∙ named_among c.args.task c.args.middle c.args.names.now) in
    is_either _ _ _ _ _ c.or-3.ensures
    (is_either _ _ _ _ _ c.or-2.ensures
    (is_either _ _ _ _ _ c.or.ensures c.items_fault.ensures c.together_fault.ensures)
    (rw (length-map c.args.names.now string_bytes, ← c.from_count-from.ensures) c.sides_fault.ensures)) files
