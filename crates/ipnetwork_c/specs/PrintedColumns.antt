-- Columns of printed networks and addresses: the bytes of all texts, one after the other, and the offsets at which each
-- text begins and the last one ends.
use Rattle.std.specs.Prelude.{◌≡◌, ℕ, ◌^◌, ◌<◌, ◌≤◌, List, [], ◌++◌, drop, take, length, get_or, slice_get, flat_map}
use Rattle.std.specs.Prelude.{Some, option_map, unwrap_or}
use Rattle.std.specs.List.{All}
use Rattle.ipnetwork_addr.specs.Ipv4Text.{canonical_v4}
use Rattle.ipnetwork_addr.specs.Computed.Ipv6Canonical.{canonical_v6}
use Rattle.ipnetwork_addr.specs.Either.{canonical_ip}
use Rattle.ipnetwork_addr.specs.declared.ip.IpAddr.{IpAddr}
use Rattle.ipnetwork_family.specs.NetworkText.{network_text}
use Rattle.ipnetwork.specs.declared.ip_network.IpNetwork.{IpNetwork}
use Rattle.ipnetwork.specs.IpNetworkText.{ip_network_text}
use Rattle.ipnetwork_c.specs.declared.structs.Ipv4InC.{Ipv4InC}
use Rattle.ipnetwork_c.specs.declared.structs.Ipv6InC.{Ipv6InC}
use Rattle.ipnetwork_c.specs.declared.structs.IpInC.{IpInC}
use Rattle.ipnetwork_c.specs.declared.address.AddressInC.{AddressInC}
use Rattle.ipnetwork_c.specs.Numbers.{prefix}
use Rattle.ipnetwork_c.specs.Held.{PrefixFits, v4_in, v6_in}
use Rattle.ipnetwork_c.specs.Outcomes.{Unless, IsFault, Puts}
use Rattle.ipnetwork_c.specs.Either.{ip_in, StandsForIp, held_address}

-- the texts of the rows are in the front of the buffer, one after the other. Each offset, the one after the last row
-- too, is the number of bytes before it. The rest of the buffer and of the offsets is unchanged
pub record PrintsRows {R : Type 0} (text : R → List ℕ) (rows : List R)
    (before after offsets_before offsets : List ℕ) : Type 0 where
  pub texts : after ≡ flat_map text rows ++ drop (length (flat_map text rows)) before
  pub slots : length offsets ≡ length offsets_before
  pub offset : (i : ℕ) → i ≤ length rows → get_or offsets i 0 ≡ length (flat_map text (take i rows))
  pub rest : (i : ℕ) → length rows < i → slice_get offsets i ≡ slice_get offsets_before i

-- there is room for the texts and for one offset more than rows, and the texts have fewer than 2^31 bytes, as signed
-- 32-bit offsets require
pub record HasColumnRoom {R : Type 0} (text : R → List ℕ) (rows : List R)
    (before offsets_before : List ℕ) : Type 0 where
  pub texts : length (flat_map text rows) ≤ length before
  pub short : length (flat_map text rows) < 2 ^ 31
  pub offsets : length rows < length offsets_before

-- the fault is that of the first row that does not fit
abbrev pub FirstRefused : {R : Type 0} → (R → Type 0) → (R → ℕ → Type 0) → List R → ℕ → Type 0
FirstRefused {R} Fits Refused rows code = (i : ℕ) × (r : R) × (slice_get rows i ≡ Some r) × All Fits (take i rows)
    × Refused r code

-- the column is printed row by row, and the number of its bytes is written
abbrev pub PrintsColumn : {R : Type 0} → (R → Type 0) → (R → ℕ → Type 0) → (R → List ℕ) → List R → (List ℕ × List ℕ) × ℕ
    → (List ℕ × List ℕ) × ℕ → ℕ → Type 0
PrintsColumn Fits Refused text rows =
    Unless (FirstRefused Fits Refused rows)
    (λ before after code. All Fits rows × Puts (HasColumnRoom text rows before.0.0 before.0.1)
    (length (flat_map text rows)) (λ put. PrintsRows text rows before.0.0 put.0 before.0.1 put.1) before after code)

-- the struct's prefix length fits its family; the canonical text of its network, as the call for one network prints it
abbrev pub v4_fits : Ipv4InC → Type 0
v4_fits held = PrefixFits 32 (v4_in held)

abbrev pub v6_fits : Ipv6InC → Type 0
v6_fits held = PrefixFits 128 (v6_in held)

abbrev pub v4_text : Ipv4InC → List ℕ
v4_text held = network_text canonical_v4 (v4_in held)

abbrev pub v6_text : Ipv6InC → List ℕ
v6_text held = network_text canonical_v6 (v6_in held)

-- the fault is `prefix`, because the prefix length does not fit
abbrev pub v4_refused : Ipv4InC → ℕ → Type 0
v4_refused held = IsFault prefix (¬ (v4_fits held))

abbrev pub v6_refused : Ipv6InC → ℕ → Type 0
v6_refused held = IsFault prefix (¬ (v6_fits held))

-- the struct represents a network of either family; the canonical text of that network
abbrev pub ip_fits : IpInC → Type 0
ip_fits held = (n : IpNetwork) × StandsForIp held n

abbrev pub ip_text : IpInC → List ℕ
ip_text held = unwrap_or (option_map ip_network_text (ip_in held)) []

-- the struct represents an address of either family; the canonical text of that address
abbrev pub address_fits : AddressInC → Type 0
address_fits held = (a : IpAddr) × (held_address held ≡ Some a)

abbrev pub address_text : AddressInC → List ℕ
address_text held = unwrap_or (option_map canonical_ip (held_address held)) []
