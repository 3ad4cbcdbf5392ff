use Rattle.cidr_merge.proofs.Known.{◌++◌, false, rules, v4_family, v6_family, puts_two, frame_text, family_text, is_any, blocks_left, Head, Foot, fails_longer, put_two, puts_badly}
use Rattle.cidr_merge.specs.declared.exports.Version.TheVariants.{V4, V6}
use Rattle.cidr_merge.proofs.exporting.print_export.Goals as goal

pub returns-in_err-put_frame : goal.returns-in_err-put_frame
returns-in_err-put_frame g c =
    let names = c.args.names.now in
    let export = c.args.export in
    let head = frame_text names export Head in
    let v4 = family_text names export V4 v4_family false (blocks_left c.args.v4) in
    let v6 = family_text names export V6 v6_family (is_any (blocks_left c.args.v4)) (blocks_left c.args.v6) in
    let foot = frame_text names export Foot in
    fails_longer _ c.args.output.now c.put_frame.new.output ((head ++ v4) ++ v6) foot (search rules)
    (fails_longer _ c.args.output.now c.put_frame.new.output (head ++ v4) v6 (search rules)
    (fails_longer _ c.args.output.now c.put_frame.new.output head v4 (search rules)
    (puts_badly _ c.args.output.now c.put_frame.new.output head (search rules)
    c.in_err-put_frame.ensures.failed c.in_err-put_frame.ensures.beginning)))

pub returns-in_err-follows : goal.returns-in_err-follows
returns-in_err-follows g c =
    let names = c.args.names.now in
    let export = c.args.export in
    let head = frame_text names export Head in
    let v4 = family_text names export V4 v4_family false (blocks_left c.args.v4) in
    let v6 = family_text names export V6 v6_family (is_any (blocks_left c.args.v4)) (blocks_left c.args.v6) in
    let foot = frame_text names export Foot in
    fails_longer _ c.args.output.now c.print_family.new.output ((head ++ v4) ++ v6) foot (search rules)
    (fails_longer _ c.args.output.now c.print_family.new.output (head ++ v4) v6 (search rules)
    (puts_two _ c.args.output.now c.put_frame.new.output c.print_family.new.output head v4
    c.in_ok-put_frame.ensures.ok c.in_ok-put_frame.ensures.failed
    (puts_badly _ c.put_frame.new.output c.print_family.new.output v4 (search rules)
    c.in_err-follows.ensures.puts.failed c.in_err-follows.ensures.puts.beginning)))

pub returns-in_err-print_family : goal.returns-in_err-print_family
returns-in_err-print_family g c =
    let names = c.args.names.now in
    let export = c.args.export in
    let head = frame_text names export Head in
    let v4 = family_text names export V4 v4_family false (blocks_left c.args.v4) in
    let v6 = family_text names export V6 v6_family (is_any (blocks_left c.args.v4)) (blocks_left c.args.v6) in
    let foot = frame_text names export Foot in
    let two = put_two c.args.output.now c.put_frame.new.output c.print_family.new.output head v4
    c.in_ok-put_frame.ensures.ok c.in_ok-put_frame.ensures.failed c.in_ok-follows.ensures.puts.ok
    c.in_ok-follows.ensures.puts.failed in
    fails_longer _ c.args.output.now c.print_family-2.new.output ((head ++ v4) ++ v6) foot (search rules)
    (puts_two _ c.args.output.now c.print_family.new.output c.print_family-2.new.output (head ++ v4) v6 two.0 two.1
    (puts_badly _ c.print_family.new.output c.print_family-2.new.output v6 (search rules)
    c.in_err-print_family.ensures.puts.failed
    (rw (← c.in_ok-follows.ensures.any) c.in_err-print_family.ensures.puts.beginning)))

pub returns : goal.returns
returns g c =
    let names = c.args.names.now in
    let export = c.args.export in
    let head = frame_text names export Head in
    let v4 = family_text names export V4 v4_family false (blocks_left c.args.v4) in
    let v6 = family_text names export V6 v6_family (is_any (blocks_left c.args.v4)) (blocks_left c.args.v6) in
    let foot = frame_text names export Foot in
    let two = put_two c.args.output.now c.put_frame.new.output c.print_family.new.output head v4
    c.in_ok-put_frame.ensures.ok c.in_ok-put_frame.ensures.failed c.in_ok-follows.ensures.puts.ok
    c.in_ok-follows.ensures.puts.failed in
    let three = put_two c.args.output.now c.print_family.new.output c.print_family-2.new.output (head ++ v4)
    v6 two.0 two.1
    (rw (← c.in_ok-follows.ensures.any) c.in_ok-print_family.ensures.puts.ok)
    c.in_ok-print_family.ensures.puts.failed in
    puts_two c.put_frame-2.result c.args.output.now c.print_family-2.new.output c.put_frame-2.new.output
    ((head ++ v4) ++ v6) foot three.0 three.1 c.put_frame-2.ensures
