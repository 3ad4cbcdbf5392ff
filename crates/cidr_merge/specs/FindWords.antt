-- The words of a `find`: addresses and networks, and lists that are searched for them.
use Rattle.std.specs.Prelude.{◌≡◌, ℕ, List, [], ◌∷◌, ◌++◌, map, Ok, Err, String}
use Rattle.std.specs.List.{zip}
use Rattle.std.specs.String.{string_bytes}
use Rattle.ipnetwork.specs.declared.ip_network.IpNetwork.{IpNetwork}
use Rattle.lists.specs.declared.entry.EntryFault.{EntryFault}
use Rattle.cidr_merge.specs.SoughtLines.{network_in}
use Rattle.cidr_merge.specs.declared.query.QueryFault.{QueryFault}
use Rattle.cidr_merge.specs.declared.query.QueryFault.TheVariants.{Wrong, OutOfMemory}

-- the words are the texts of these networks
abbrev pub AreNetworks : {Z : Type 0} → List (String Z) → List IpNetwork → Type 0
AreNetworks [] [] = Unit {0}
AreNetworks [] (network ∷ networks) = ⊥
AreNetworks (word ∷ words) [] = ⊥
AreNetworks (word ∷ words) (network ∷ networks) =
    (network_in (string_bytes word) ≡ Ok network) × AreNetworks words networks

-- the texts of words, each with its network
abbrev pub with_networks : {Z : Type 0} → List (String Z) → List IpNetwork → List (List ℕ × IpNetwork)
with_networks words networks = zip (map string_bytes words) networks

-- for one of the words no network is sought, with this cause
pub record HasWrongWord {Z : Type 0} (words : List (String Z)) (fault : EntryFault) : Type 0 where
  pub before : List (String Z)
  pub word : String Z
  pub behind : List (String Z)
  pub cut : words ≡ before ++ word ∷ behind
  pub wrong : network_in (string_bytes word) ≡ Err fault

-- the words are not accepted: for one no network is sought, or memory ran out
abbrev pub StopsAtWord : {Z : Type 0} → List (String Z) → QueryFault → Type 0
StopsAtWord words (Wrong place fault) = HasWrongWord words fault
StopsAtWord words OutOfMemory = Unit {0}
