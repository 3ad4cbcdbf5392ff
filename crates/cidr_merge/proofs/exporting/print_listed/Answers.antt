use Rattle.cidr_merge.proofs.Known.{ℕ, List, ◌++◌, ◌∙◌, ap, rules, sym, flat_map, puts_it, puts_none, puts_two, frame_text, element, closing, following, listed, blocks_left, Opening, there_is_one, there_is_none, fails_longer, put_two, puts_badly, puts_well}
use Rattle.cidr_merge.proofs.exporting.print_listed.Goals as goal

pub returns-in_default-clause-puts : goal.returns-in_default-clause-puts
returns-in_default-clause-puts g c =
    puts_none c.args.follows c.args.output.now _ (sym (ap
    (listed c.args.names.now c.args.export c.args.version g.A.Address.family c.args.follows)
    c.in_default.ensures.step.0))

pub returns-in_default-clause-any : goal.returns-in_default-clause-any
returns-in_default-clause-any g c = there_is_none c.args.follows _ c.in_default.ensures.step.0

pub returns-clause-any : goal.returns-clause-any
returns-clause-any g c = there_is_one c.args.follows _ _ _ c.in-Some.ensures.step

pub returns-in_err-put_frame-clause-puts : goal.returns-in_err-put_frame-clause-puts
returns-in_err-put_frame-clause-puts g c =
    let names = c.args.names.now in
    let export = c.args.export in
    let family = g.A.Address.family in
    let opening = frame_text names export (Opening c.args.version c.args.follows) in
    let first = element names export c.args.version family c.in-Some.block in
    let others = flat_map (following names export c.args.version family) (blocks_left c.next_block.new.self) in
    let end = closing export in
    let same = sym (ap (listed names export c.args.version family c.args.follows) c.in-Some.ensures.step) in
    puts_it _ c.args.output.now c.put_frame.new.output _ _ same
    (fails_longer _ c.args.output.now c.put_frame.new.output ((opening ++ first) ++ others) end (search rules)
    (fails_longer _ c.args.output.now c.put_frame.new.output (opening ++ first) others (search rules)
    (fails_longer _ c.args.output.now c.put_frame.new.output opening first (search rules)
    (puts_badly _ c.args.output.now c.put_frame.new.output opening (search rules)
    c.in_err-put_frame.ensures.failed c.in_err-put_frame.ensures.beginning))))

pub returns-in_err-print_element-clause-puts : goal.returns-in_err-print_element-clause-puts
returns-in_err-print_element-clause-puts g c =
    let names = c.args.names.now in
    let export = c.args.export in
    let family = g.A.Address.family in
    let opening = frame_text names export (Opening c.args.version c.args.follows) in
    let first = element names export c.args.version family c.in-Some.block in
    let others = flat_map (following names export c.args.version family) (blocks_left c.next_block.new.self) in
    let end = closing export in
    let same = sym (ap (listed names export c.args.version family c.args.follows) c.in-Some.ensures.step) in
    puts_it _ c.args.output.now c.print_element.new.output _ _ same
    (fails_longer _ c.args.output.now c.print_element.new.output ((opening ++ first) ++ others) end (search rules)
    (fails_longer _ c.args.output.now c.print_element.new.output (opening ++ first) others (search rules)
    (puts_two _ c.args.output.now c.put_frame.new.output c.print_element.new.output opening first
    c.in_ok-put_frame.ensures.ok c.in_ok-put_frame.ensures.failed
    (puts_badly _ c.put_frame.new.output c.print_element.new.output first (search rules)
    c.in_err-print_element.ensures.failed c.in_err-print_element.ensures.beginning))))

pub returns-in_err-print_following-clause-puts : goal.returns-in_err-print_following-clause-puts
returns-in_err-print_following-clause-puts g c =
    let names = c.args.names.now in
    let export = c.args.export in
    let family = g.A.Address.family in
    let opening = frame_text names export (Opening c.args.version c.args.follows) in
    let first = element names export c.args.version family c.in-Some.block in
    let others = flat_map (following names export c.args.version family) (blocks_left c.next_block.new.self) in
    let end = closing export in
    let same = sym (ap (listed names export c.args.version family c.args.follows) c.in-Some.ensures.step) in
    let two = put_two c.args.output.now c.put_frame.new.output c.print_element.new.output opening first
    c.in_ok-put_frame.ensures.ok c.in_ok-put_frame.ensures.failed c.in_ok-print_element.ensures.ok
    c.in_ok-print_element.ensures.failed in
    puts_it _ c.args.output.now c.print_following.new.output _ _ same
    (fails_longer _ c.args.output.now c.print_following.new.output ((opening ++ first) ++ others) end (search rules)
    (puts_two _ c.args.output.now c.print_element.new.output c.print_following.new.output (opening ++ first) others
    two.0 two.1 (puts_badly _ c.print_element.new.output c.print_following.new.output others (search rules)
    c.in_err-print_following.ensures.failed c.in_err-print_following.ensures.beginning)))

pub returns-in_err-put-clause-puts : goal.returns-in_err-put-clause-puts
returns-in_err-put-clause-puts g c =
    let names = c.args.names.now in
    let export = c.args.export in
    let family = g.A.Address.family in
    let opening = frame_text names export (Opening c.args.version c.args.follows) in
    let first = element names export c.args.version family c.in-Some.block in
    let others = flat_map (following names export c.args.version family) (blocks_left c.next_block.new.self) in
    let end = closing export in
    let same = sym (ap (listed names export c.args.version family c.args.follows) c.in-Some.ensures.step) in
    let two = put_two c.args.output.now c.put_frame.new.output c.print_element.new.output opening first
    c.in_ok-put_frame.ensures.ok c.in_ok-put_frame.ensures.failed c.in_ok-print_element.ensures.ok
    c.in_ok-print_element.ensures.failed in
    let three = put_two c.args.output.now c.print_element.new.output c.print_following.new.output
    (opening ++ first) others
    two.0 two.1 c.in_ok-print_following.ensures.ok c.in_ok-print_following.ensures.failed in
    let ended = ap (λ (t : List ℕ). ((opening ++ first) ++ others) ++ t)
    (c.as_bytes.ensures.value ∙ c.around_blocks.ensures.after) in
    puts_it _ c.args.output.now c.put.new.self _ _ (ended ∙ same)
    (puts_two _ c.args.output.now c.print_following.new.output c.put.new.self ((opening ++ first) ++ others)
    c.as_bytes.result.now three.0 three.1
    (puts_badly _ c.print_following.new.output c.put.new.self c.as_bytes.result.now (search rules)
    c.in_err-put.ensures.failed c.in_err-put.ensures.err))

pub returns-clause-puts : goal.returns-clause-puts
returns-clause-puts g c =
    let names = c.args.names.now in
    let export = c.args.export in
    let family = g.A.Address.family in
    let opening = frame_text names export (Opening c.args.version c.args.follows) in
    let first = element names export c.args.version family c.in-Some.block in
    let others = flat_map (following names export c.args.version family) (blocks_left c.next_block.new.self) in
    let end = closing export in
    let same = sym (ap (listed names export c.args.version family c.args.follows) c.in-Some.ensures.step) in
    let two = put_two c.args.output.now c.put_frame.new.output c.print_element.new.output opening first
    c.in_ok-put_frame.ensures.ok c.in_ok-put_frame.ensures.failed c.in_ok-print_element.ensures.ok
    c.in_ok-print_element.ensures.failed in
    let three = put_two c.args.output.now c.print_element.new.output c.print_following.new.output
    (opening ++ first) others
    two.0 two.1 c.in_ok-print_following.ensures.ok c.in_ok-print_following.ensures.failed in
    let ended = ap (λ (t : List ℕ). ((opening ++ first) ++ others) ++ t)
    (c.as_bytes.ensures.value ∙ c.around_blocks.ensures.after) in
    puts_it _ c.args.output.now c.put.new.self _ _ (ended ∙ same)
    (puts_two _ c.args.output.now c.print_following.new.output c.put.new.self ((opening ++ first) ++ others)
    c.as_bytes.result.now three.0 three.1
    (puts_well _ c.print_following.new.output c.put.new.self c.as_bytes.result.now
    c.in_ok-put.ensures.ok c.in_ok-put.ensures.failed))
