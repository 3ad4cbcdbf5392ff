use Rattle.cidr_merge.proofs.Known.{◌++◌, rules, frame_text, listed, blocks_left, FamilyHead, FamilyFoot, puts_two, fails_longer, put_two, puts_badly, puts_well}
use Rattle.cidr_merge.proofs.exporting.print_family.Goals as goal

pub returns-in_err-put_frame-clause-puts : goal.returns-in_err-put_frame-clause-puts
returns-in_err-put_frame-clause-puts g c =
    let head = frame_text c.args.names.now c.args.export (FamilyHead c.args.version) in
    let own = listed c.args.names.now c.args.export c.args.version g.A.Address.family c.args.follows
    (blocks_left c.args.blocks) in
    let foot = frame_text c.args.names.now c.args.export (FamilyFoot c.args.version) in
    fails_longer _ c.args.output.now c.put_frame.new.output (head ++ own) foot (search rules)
    (fails_longer _ c.args.output.now c.put_frame.new.output head own (search rules)
    (puts_badly _ c.args.output.now c.put_frame.new.output head (search rules)
    c.in_err-put_frame.ensures.failed c.in_err-put_frame.ensures.beginning))

pub returns-in_err-any-clause-puts : goal.returns-in_err-any-clause-puts
returns-in_err-any-clause-puts g c =
    let head = frame_text c.args.names.now c.args.export (FamilyHead c.args.version) in
    let own = listed c.args.names.now c.args.export c.args.version g.A.Address.family c.args.follows
    (blocks_left c.args.blocks) in
    let foot = frame_text c.args.names.now c.args.export (FamilyFoot c.args.version) in
    fails_longer _ c.args.output.now c.print_listed.new.output (head ++ own) foot (search rules)
    (puts_two _ c.args.output.now c.put_frame.new.output c.print_listed.new.output head own
    c.in_ok-put_frame.ensures.ok c.in_ok-put_frame.ensures.failed
    (puts_badly _ c.put_frame.new.output c.print_listed.new.output own (search rules)
    c.in_err-any.ensures.puts.failed c.in_err-any.ensures.puts.beginning))

pub returns-in_err-put_frame-2-clause-puts : goal.returns-in_err-put_frame-2-clause-puts
returns-in_err-put_frame-2-clause-puts g c =
    let head = frame_text c.args.names.now c.args.export (FamilyHead c.args.version) in
    let own = listed c.args.names.now c.args.export c.args.version g.A.Address.family c.args.follows
    (blocks_left c.args.blocks) in
    let foot = frame_text c.args.names.now c.args.export (FamilyFoot c.args.version) in
    let two = put_two c.args.output.now c.put_frame.new.output c.print_listed.new.output head own
    c.in_ok-put_frame.ensures.ok c.in_ok-put_frame.ensures.failed c.in_ok-any.ensures.puts.ok
    c.in_ok-any.ensures.puts.failed in
    puts_two _ c.args.output.now c.print_listed.new.output c.put_frame-2.new.output (head ++ own) foot two.0 two.1
    (puts_badly _ c.print_listed.new.output c.put_frame-2.new.output foot (search rules)
    c.in_err-put_frame-2.ensures.failed c.in_err-put_frame-2.ensures.beginning)

pub returns-clause-puts : goal.returns-clause-puts
returns-clause-puts g c =
    let head = frame_text c.args.names.now c.args.export (FamilyHead c.args.version) in
    let own = listed c.args.names.now c.args.export c.args.version g.A.Address.family c.args.follows
    (blocks_left c.args.blocks) in
    let foot = frame_text c.args.names.now c.args.export (FamilyFoot c.args.version) in
    let two = put_two c.args.output.now c.put_frame.new.output c.print_listed.new.output head own
    c.in_ok-put_frame.ensures.ok c.in_ok-put_frame.ensures.failed c.in_ok-any.ensures.puts.ok
    c.in_ok-any.ensures.puts.failed in
    puts_two _ c.args.output.now c.print_listed.new.output c.put_frame-2.new.output (head ++ own) foot two.0 two.1
    (puts_well _ c.print_listed.new.output c.put_frame-2.new.output foot
    c.in_ok-put_frame-2.ensures.ok c.in_ok-put_frame-2.ensures.failed)
