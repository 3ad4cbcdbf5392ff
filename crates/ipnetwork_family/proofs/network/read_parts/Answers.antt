use Rattle.ipnetwork_family.proofs.Known.{ℕ, sym, subst, err_from_is_err_and, address_no_slash, slashes_name_nothing, no_address, no_prefix, named_by_parts}
use Rattle.ipnetwork_family.proofs.network.read_parts.Goals as goal

pub returns-in_err-address : goal.returns-in_err-address
returns-in_err-address g c =
    let p = err_from_is_err_and c.from_residual.result c.from_residual.ensures.1 in
    let fault = c.in_err-address.ensures in
    let A = g.A.Address in
    let clear = c.law_texts.ensures in
    let clean = address_no_slash A.family.NamesAddress clear.address_bytes in
    rw (p.1, p.2, fault.0) (
      fault.1,
      slashes_name_nothing A.WIDTH A.family.NamesAddress A.family.IsSuffix clean clear.no_slash
          c.args.text.now fault.1,
    )

pub returns-in_default : goal.returns-in_default
returns-in_default g c =
    let A = g.A.Address in
    let clean = address_no_slash A.family.NamesAddress c.law_texts.ensures.address_bytes in
    no_address A.WIDTH A.family.NamesAddress A.family.IsSuffix clean c.args.text.now _ _
    c.in_ok-address.ensures
    (λ x h. c.in_default.ensures.1 (A.of_number x)
    (subst (λ (n : ℕ). A.family.NamesAddress c.in_ok-address.address.now n) (sym (A.forth x)) h))

pub returns-in_default-prefix_length : goal.returns-in_default-prefix_length
returns-in_default-prefix_length g c =
    let A = g.A.Address in
    let clean = address_no_slash A.family.NamesAddress c.law_texts.ensures.address_bytes in
    no_prefix A.WIDTH A.family.NamesAddress A.family.IsSuffix clean c.args.text.now _ _
    c.in_ok-address.ensures _ c.in-Ok.ensures c.in_default-prefix_length.ensures

pub returns : goal.returns
returns g c =
    let A = g.A.Address in
    named_by_parts A.WIDTH A.family.NamesAddress A.family.IsSuffix c.args.text.now _ _
    c.in_ok-address.ensures _ c.in-Ok.ensures c.in-Some.ensures.1
