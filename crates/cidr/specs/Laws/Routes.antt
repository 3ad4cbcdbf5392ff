-- The laws of routes: what `add`, `drop` and `find` do, in terms of networks and sets.
use Rattle.std.specs.Prelude.{◌≡◌, ℕ, ◌≤◌, ◌⊎◌, List, [], ◌∷◌, ◌++◌, Option, None, Some, IsSome, codes, decimal}
use Rattle.std.specs.Str.Lines.{lines}
use Rattle.ipnetwork_addr.specs.Either.{NamesIp}
use Rattle.ipnetwork_addr.specs.declared.ip.IpAddr.{IpAddr}
use Rattle.ipnetwork_family.specs.PrefixNumber.{IsPrefixNumber}
use Rattle.ipnetwork.specs.IpNetworks.{IsIpNetwork, IpMember, IpSubnet, address_of, prefix_of, ip_low}
use Rattle.ipnetwork.specs.IpNetworkText.{NamesIpNetwork, ip_network_text}
use Rattle.ipnetwork.specs.declared.ip_network.IpNetwork.{IpNetwork}
use Rattle.cidr.specs.Laws.Commands.{HasWords}
use Rattle.lines.specs.Beginnings.{IsBeginning}
use Rattle.cidr.specs.Output.{MayGet, MayAnswer, reply, IsOutput}
use Rattle.cidr.specs.Requests.{Add, Drop, Find}
use Rattle.cidr.specs.Routes.{Routes, no_routes, number_at}
use Rattle.cidr.specs.Words.{blank}

-- from before to after, the networks with the same set as n get this number, or lose theirs, and no others change
pub record Renumbers (before : Routes) (n : IpNetwork) (number : Option ℕ) (after : Routes) : Type 0 where
  pub same : (m : IpNetwork) → IsIpNetwork m → IpSubnet m n × IpSubnet n m → number_at after m ≡ number
  pub others : (m : IpNetwork) → IsIpNetwork m → ¬ (IpSubnet m n × IpSubnet n m)
      → number_at after m ≡ number_at before m

-- the answer to an `add`: `new` if the block had no number, and `changed` if it had one, even the same one. It can run
-- out of memory only if the block had none
pub data GetsAdd (before : Routes) (n : IpNetwork) (number : ℕ) (answer : List ℕ) (after : Routes) : Type 0 where
  New : number_at before n ≡ None → answer ≡ codes "new" → Renumbers before n (Some number) after
      → GetsAdd before n number answer after
  Changed : (old : ℕ) → number_at before n ≡ Some old → answer ≡ codes "changed"
      → Renumbers before n (Some number) after → GetsAdd before n number answer after
  OutOfMemory : number_at before n ≡ None → answer ≡ codes "out of memory" → after ≡ before
      → GetsAdd before n number answer after

abbrev pub AddsGet : Type 0
AddsGet = (before after : Routes) (n : IpNetwork) (number : ℕ) (answer : List ℕ) → IsIpNetwork n
    → MayGet before (Add n number) answer after → GetsAdd before n number answer after

-- the answer to a `drop`, which never runs out of memory
pub data GetsDrop (before : Routes) (n : IpNetwork) (answer : List ℕ) (after : Routes) : Type 0 where
  Dropped : (old : ℕ) → number_at before n ≡ Some old → answer ≡ codes "dropped" → Renumbers before n None after
      → GetsDrop before n answer after
  Absent : number_at before n ≡ None → answer ≡ codes "absent" → Renumbers before n None after
      → GetsDrop before n answer after

abbrev pub DropsGet : Type 0
DropsGet = (before after : Routes) (n : IpNetwork) (answer : List ℕ) → IsIpNetwork n
    → MayGet before (Drop n) answer after → GetsDrop before n answer after

-- the routes that some lines leave, starting with no routes
abbrev pub AreLeft : Routes → Type 0
AreLeft routes = (before answers : List (List ℕ)) × MayAnswer no_routes before answers routes

-- the answer to a `find`: of the blocks with a number that contain the address, the one with the greatest prefix
-- length, then a blank and its number. It never runs out of memory
pub data GetsFind (routes : Routes) (a : IpAddr) (answer : List ℕ) : Type 0 where
  Longest : (n : IpNetwork) (number : ℕ) → number_at routes n ≡ Some number → address_of n ≡ ip_low n → IpMember n a
      → ((m : IpNetwork) → IsSome (number_at routes m) → IpMember m a → prefix_of m ≤ prefix_of n)
      → answer ≡ ip_network_text n ++ blank ∷ decimal number → GetsFind routes a answer
  Nothing : ((m : IpNetwork) → IsSome (number_at routes m) → ¬ (IpMember m a)) → answer ≡ codes "none"
      → GetsFind routes a answer

abbrev pub FindsGet : Type 0
FindsGet = (before after : Routes) (a : IpAddr) (answer : List ℕ) → AreLeft before → MayGet before (Find a) answer after
    → GetsFind before a answer × (after ≡ before)

-- a run starts with no routes: a `find` in the first line finds nothing
abbrev pub FirstFindsNothing : Type 0
FirstFindsNothing = (input output line word : List ℕ) (others : List (List ℕ)) (a : IpAddr) → IsOutput input output
    → lines input ≡ line ∷ others
    → HasWords line (codes "find" ∷ word ∷ []) → NamesIp word a → IsBeginning (reply (codes "none")) output

-- a run starts with no routes: a `drop` in the first line drops nothing
abbrev pub FirstDropsNothing : Type 0
FirstDropsNothing = (input output line text : List ℕ) (others : List (List ℕ)) (n : IpNetwork) → IsOutput input output
    → lines input ≡ line ∷ others
    → HasWords line (codes "drop" ∷ text ∷ []) → NamesIpNetwork text n → IsBeginning (reply (codes "absent")) output

-- a run starts with no routes: an `add` in the first line changes no number
abbrev pub FirstAddsNew : Type 0
FirstAddsNew = (input output line text word : List ℕ) (others : List (List ℕ)) (n : IpNetwork) (number : ℕ)
    → IsOutput input output → lines input ≡ line ∷ others
    → HasWords line (codes "add" ∷ text ∷ word ∷ []) → NamesIpNetwork text n → IsPrefixNumber word number
    → number ≤ 4294967295
    → IsBeginning (reply (codes "new")) output ⊎ IsBeginning (reply (codes "out of memory")) output
