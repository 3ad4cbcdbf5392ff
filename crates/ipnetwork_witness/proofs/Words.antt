-- The words of this crate and of those below, passed on from one place.
pub use Rattle.ipnetwork_addr.proofs.ByteDigits.{digits_in-bytes}
pub use Rattle.ipnetwork_addr.proofs.ComputedReading.{v4_computed, v6_computed}
pub use Rattle.ipnetwork_addr.proofs.Hexes.{hex_four, hex_three}
pub use Rattle.ipnetwork_addr.proofs.Ipv6Printed.{fit_drop, fit_take, segments_fit}
pub use Rattle.ipnetwork_addr.specs.Computed.Ipv6Canonical.{canonical_v6}
unfoldable pub use Rattle.ipnetwork_addr.specs.Computed.Ipv6Text.{gap_below, v6_of}
pub use Rattle.ipnetwork_addr.specs.Digits.{digits_in, octets_of, segments_of}
pub use Rattle.ipnetwork_addr.specs.Either.{FitsIp, NamesIp, canonical_ip}
pub use Rattle.ipnetwork_addr.specs.Ipv4Text.{IsOctet, NamesV4, canonical_v4}
pub use Rattle.ipnetwork_addr.specs.Ipv6Canonical.{Gap, IsCanonicalV6, IsGap, IsMapped, IsZeroRun, Mapped, Whole, hex, hex_groups}
pub use Rattle.ipnetwork_addr.specs.Ipv6Text.{IsEnded, IsPlain, NamesV6, two_groups}
pub use Rattle.ipnetwork_addr.specs.Reading.{Reads}
pub use Rattle.ipnetwork_addr.specs.Texts.{colon, dot}
pub use Rattle.ipnetwork_addr.specs.declared.ip.IpAddr.{IpAddr}
pub use Rattle.ipnetwork_addr.specs.declared.ip.IpAddr.TheVariants.{V4, V6}
pub use Rattle.ipnetwork_witness.specs.Agreement.{Agree, SameIp, SameV4, SameV6}
pub use Rattle.std.proofs.Common.{Bool, List, None, Option, Some, [], ap, append-nil, append_assoc, ap₂, arith, bytes_eq, decimal, drop, false, flat_map, get_or, get_or-drop, inl, inr, le-leb, length, length-append, length-drop, length-take-le, lit≤, map, refl, replicate, subst, suc, sym, take, true, true≢false, zero, ℕ, ◌%◌, ◌*◌, ◌++◌, ◌+◌, ◌-◌, ◌/◌, ◌<◌, ◌^◌, ◌↔◌, ◌∙◌, ◌∷◌, ◌≡◌, ◌≤◌}
pub use Rattle.std.proofs.Math.Nat.{div-lt_iff_lt-mul, pow-le-pow_right, pow-suc, pow-zero}
pub use Rattle.std.proofs.NetLemmas.Texts.{IsZeroRun-longest_zero_run, longest_zero_run_first}
pub use Rattle.std.proofs.lemmas.Bool.{cases_lt, cond_both, lt-leb, ltb-false, ltb-true}
pub use Rattle.std.proofs.lemmas.Fmt.{hex_one_digit, hex_two_digits}
pub use Rattle.std.proofs.lemmas.Grind.{same_number_lists}
pub use Rattle.std.proofs.lemmas.Int.Digits.{digits_value-lt, number_lt, number_push}
pub use Rattle.std.proofs.lemmas.List.{get_or-replicate, get_or-take, length-replicate}
pub use Rattle.std.proofs.lemmas.List.Folds.{flat_map-map}
pub use Rattle.std.proofs.lemmas.Nat.{div-add-mod', div-mul-add, mod-mul-add}
pub use Rattle.std.proofs.lemmas.Option.{none-some}
pub use Rattle.std.proofs.lemmas.Slice.Eq.{bytes_eq-Decides}
pub use Rattle.std.specs.Char.{digit_char}
unfoldable pub use Rattle.std.specs.Fmt.{digits}
pub use Rattle.std.specs.Int.{bytes_high_first}
pub use Rattle.std.specs.Int.Digits.{AllBelowBase, number_from_digits, number_from_digits_after}
pub use Rattle.std.specs.List.{AllZip, join_with_byte}
unfoldable pub use Rattle.std.specs.Net.Addr.{IsIpv4OfBits, IsIpv6OfBits}
pub use Rattle.std.specs.Net.Addr.{ipv4_octets, ipv6_segments}
pub use Rattle.std.specs.Net.Grammar.{IsColonHex, IsDotted, IsGroup, IsGroups, IsGroupsAfter, IsIpText, IsIpv4Text, IsIpv6Text, Parses}
unfoldable pub use Rattle.std.specs.Net.Text.{hex_groups_text, ipv6_text}
pub use Rattle.std.specs.Net.Text.{ip_text, ipv4_text, longest_zero_run}
pub use Rattle.std.specs.Prelude.{Err, IsTrue, Ok, Result, codes}
pub use Rattle.std.specs.declared.net.ipv4_addr.Ipv4Addr.{Ipv4Addr}
pub use Rattle.std.specs.declared.net.ipv6_addr.Ipv6Addr.{Ipv6Addr}
