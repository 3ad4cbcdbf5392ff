use Rattle.lists.proofs.Known.{◌≡◌, ◌∙◌, ℕ, List, IpNetwork, NamesIpNetwork, Err, after_line, bytes_eq, before_first, csv_head, is_comma, no_network, reads, second_field, sym, ap}
use Rattle.lists.proofs.csv.read_csv.Goals as goal

pub returns-in-Ok : goal.returns-in-Ok
returns-in-Ok c =
    let line = c.args.line.now in
    let head : bytes_eq line csv_head ≡ c.eq.result = sym (c.eq.ensures ∙ ap (bytes_eq line) c.as_slice.ensures) in
    let field : c.before-2.result.now ≡ second_field line = c.before-2.ensures ∙ ap (before_first is_comma) c.after.ensures in
    after_line line c.read_line_of.result (head ∙ c.if-eq.false)
    (reads line c.before-2.result.now field c.ip_network_text_names_one.ensures c.in-Ok.network
    c.in-Ok.ensures c.read_line_of.result c.read_line_of.ensures)

pub returns-in-Err : goal.returns-in-Err
returns-in-Err c =
    let line = c.args.line.now in
    let head : bytes_eq line csv_head ≡ c.eq.result = sym (c.eq.ensures ∙ ap (bytes_eq line) c.as_slice.ensures) in
    let field : c.before-2.result.now ≡ second_field line = c.before-2.ensures ∙ ap (before_first is_comma) c.after.ensures in
    let none : (n : IpNetwork) → ¬ (NamesIpNetwork c.before-2.result.now n) = λ n. c.in-Err.ensures.1 n in
    after_line line (Err c.of_another_form.result) (head ∙ c.if-eq.false)
    (c.of_another_form.ensures, no_network line c.before-2.result.now field none)
