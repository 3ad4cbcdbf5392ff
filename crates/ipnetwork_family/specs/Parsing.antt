-- The result of parsing: that of reading, except that the error may carry a text.
use Rattle.std.specs.Prelude.{◌↔◌, List, ℕ, Result, Ok, Err, MatchResult}
use Rattle.ipnetwork_addr.specs.declared.error.AddrParseError.{AddrParseError}
use Rattle.ipnetwork_addr.specs.declared.error.AddrParseError.TheVariants as kinds
use Rattle.ipnetwork_addr.specs.Ipv4Text.{NamesV4}
use Rattle.ipnetwork_addr.specs.Ipv6Text.{NamesV6}
use Rattle.ipnetwork_family.specs.Network.{Network}
use Rattle.ipnetwork_family.specs.NetworkText.{IsCause}
use Rattle.ipnetwork_family.specs.Ipv4NetworkText.{IsV4Suffix, NamesV4Network}
use Rattle.ipnetwork_family.specs.Ipv6NetworkText.{IsV6Suffix, NamesV6Network}
use Rattle.ipnetwork_family.specs.ErrorTexts.{fault_of, IsRefusal}
use Rattle.ipnetwork_family.specs.declared.error.CidrFault.{CidrFault}
use Rattle.ipnetwork_family.specs.declared.error.IpNetworkError.{IpNetworkError}

-- the network that the text names; if it names none, the refusal of the text for its cause, which may be `OutOfMemory`
-- instead if the refusal carries a text
abbrev pub Parses : {N : Type 0} → (List ℕ → N → Type 0) → (List ℕ → CidrFault → Type 0) → AddrParseError → List ℕ
    → Result N IpNetworkError → Type 0
Parses {N} Names IsCauseOf kind text result =
    MatchResult result (Names text)
    (λ error. ((n : N) → ¬ (Names text n)) × ((fault : CidrFault) × IsCauseOf text fault
    × IsRefusal (fault_of fault kind text) error))

-- the result of parsing an IPv4 network, and that of parsing an IPv6 network
abbrev pub ParsesV4Network : List ℕ → Result Network IpNetworkError → Type 0
ParsesV4Network text result = Parses NamesV4Network (IsCause NamesV4 IsV4Suffix) kinds.Ipv4 text result

abbrev pub ParsesV6Network : List ℕ → Result Network IpNetworkError → Type 0
ParsesV6Network text result = Parses NamesV6Network (IsCause NamesV6 IsV6Suffix) kinds.Ipv6 text result

-- parsing returns what reading does: the same network, or the error for the same cause when an address of this kind was
-- expected, which may be `OutOfMemory` instead if that error carries a text
abbrev pub ParsesAsItReads : {N : Type 0} → (List ℕ → Result N CidrFault → Type 0) → AddrParseError
    → (List ℕ → Result N IpNetworkError → Type 0) → Type 0
ParsesAsItReads {N} Reads kind ParsesNetwork = (text : List ℕ) (result : Result N IpNetworkError)
    → ParsesNetwork text result
    ↔ MatchResult result (λ n. Reads text (Ok n))
    (λ error. (fault : CidrFault) × Reads text (Err fault) × IsRefusal (fault_of fault kind text) error)
