use Rattle.cidr_merge.proofs.Known.{rules, fails_first, network_line, puts_it, puts_two, puts_well, all_of_them, one_alone}
use Rattle.cidr_merge.proofs.free.print_found.Goals as goal

pub returns-in_err-put_network : goal.returns-in_err-put_network
returns-in_err-put_network g c =
    fails_first _ c.args.output.now c.put_network.new.output _ _ (search rules)
    c.in_err-put_network.ensures.failed c.in_err-put_network.ensures.beginning

pub returns-then-not-all : goal.returns-then-not-all
returns-then-not-all g c =
    puts_it _ c.args.output.now c.put_network.new.output _ _
    (one_alone c.args.all (network_line c.args.names.now g.A.Address.family) c.args.first c.args.others (search rules))
    (puts_well _ c.args.output.now c.put_network.new.output _ c.in_ok-put_network.ensures.ok
    c.in_ok-put_network.ensures.failed)

pub returns : goal.returns
returns g c =
    puts_it _ c.args.output.now c.print_blocks.new.output _ _
    (all_of_them c.args.all (network_line c.args.names.now g.A.Address.family) c.args.first c.args.others (search rules))
    (puts_two _ c.args.output.now c.put_network.new.output c.print_blocks.new.output _ _
    c.in_ok-put_network.ensures.ok c.in_ok-put_network.ensures.failed c.print_blocks.ensures)
