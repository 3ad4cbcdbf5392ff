use Rattle.ipnetwork_family.proofs.Known.{refl, suffix_as_mask, suffix_as_neither, v4_suffix_read}
use Rattle.ipnetwork_family.proofs.ipv4.Ipv4AddrAddress.read_suffix.Goals as goal

pub returns-in-Ok : goal.returns-in-Ok
returns-in-Ok c = v4_suffix_read c.args.text.now c.prefix_of_mask.result
    (suffix_as_mask c.args.text.now _ _ _ c.v4_text_names_one.ensures c.in_default.ensures c.in-Ok.ensures refl
    c.prefix_of_mask.ensures)

pub returns-in-Err : goal.returns-in-Err
returns-in-Err c = suffix_as_neither c.args.text.now c.in_default.ensures c.in-Err.ensures.1
