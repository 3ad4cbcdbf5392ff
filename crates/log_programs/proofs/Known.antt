-- The words and the lemmas that answers cite, passed on from one place.
pub use Rattle.log_programs.proofs.Words.{Bool, Err, IpAddr, IpNetwork, IpNetworkError, IsIpNetwork, Makes, Ok, Result, address_of, ap, arith, false, if◌then◌else◌, made_of, nat_le, prefix_of, refl, result_unwrap_or, sym, true, unmapped, unmapped_by, ℕ, ◌-◌, ◌<◌, ◌∙◌, ◌≡◌, ◌≤◌}
