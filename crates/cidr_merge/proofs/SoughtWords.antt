-- The networks that words name.
use Rattle.cidr_merge.proofs.Words.{◌≡◌, ◌+◌, ◌<◌, ℕ, List, [], ◌∷◌, ◌++◌, refl, sym, subst, arith, length, take, drop, get_or, String, string_bytes, Ok, Err, Bool, if◌then◌else◌, ap, ◌∙◌, CidrFault, EntryFault, ip_network_of, network_in, IpNetwork, AreNetworks, HasWrongWord}
use Rattle.cidr_merge.specs.SoughtLines.{without_host_bits}
use Rattle.lists.specs.Rules.{has_host_bits}
use Rattle.lists.specs.declared.entry.Entry.TheVariants.{Network}
use Rattle.lists.specs.declared.entry.EntryFault.TheVariants as causes
use Rattle.cidr_merge.proofs.Places.{up_to_next, cut_at}

-- ---- what is sought for a text

pub without_its_host_bits : (text : List ℕ) (n : IpNetwork) (b : Bool) → Ok n ≡ ip_network_of text
    → b ≡ has_host_bits (Network n) → (if b then Err causes.HostBits else Ok n) ≡ network_in text
without_its_host_bits text n b e h =
    ap (λ (c : Bool). if c then Err causes.HostBits else Ok n) h ∙ ap without_host_bits e

pub no_network : (text : List ℕ) (fault : CidrFault) → Err fault ≡ ip_network_of text
    → Err causes.Address ≡ network_in text
no_network text fault e = ap without_host_bits e

-- there are as many networks as words
pub as_many_networks : {Z : Type 0} (words : List (String Z)) (networks : List IpNetwork)
    → AreNetworks words networks → length networks ≡ length words
as_many_networks [] [] h = refl
as_many_networks [] (network ∷ networks) h = absurd h
as_many_networks (word ∷ words) [] h = absurd h
as_many_networks (word ∷ words) (network ∷ networks) h =
    let e = as_many_networks words networks h.1 in omega (arith, e)

-- one more word names a network
networks_more : {Z : Type 0} (words : List (String Z)) (networks : List IpNetwork) (word : String Z)
    (network : IpNetwork) → AreNetworks words networks → network_in (string_bytes word) ≡ Ok network
    → AreNetworks (words ++ word ∷ []) (networks ++ network ∷ [])
networks_more [] [] word network h k = (k, tt)
networks_more [] (one ∷ networks) word network h k = absurd h
networks_more (first ∷ words) [] word network h k = absurd h
networks_more (first ∷ words) (one ∷ networks) word network h k =
    (h.0, networks_more words networks word network h.1 k)

-- the word at a place was read
pub networks_on : {Z : Type 0} (words : List (String Z)) (networks : List IpNetwork) (place : ℕ)
    (word : String Z) (bytes : List ℕ) (network : IpNetwork) → place < length words
    → word ≡ get_or words place word
    → bytes ≡ string_bytes word → AreNetworks (take place words) networks → network_in bytes ≡ Ok network
    → AreNetworks (take (place + 1) words) (networks ++ network ∷ [])
networks_on words networks place word bytes network l is b h k =
    subst (λ ws. AreNetworks ws (networks ++ network ∷ []))
    (sym (up_to_next words place word l is))
    (networks_more (take place words) networks word network h
    (subst (λ (t : List ℕ). network_in t ≡ Ok network) b k))

-- for the word at a place no network is sought
pub wrong_word : {Z : Type 0} (words : List (String Z)) (place : ℕ) (word : String Z) (bytes : List ℕ)
    (fault : EntryFault) → place < length words → word ≡ get_or words place word → bytes ≡ string_bytes word
    → network_in bytes ≡ Err fault → HasWrongWord words fault
wrong_word words place word bytes fault l is b k = record {
  before = take place words;
  word = word;
  behind = drop (place + 1) words;
  cut = cut_at words place word l is;
  wrong = subst (λ (t : List ℕ). network_in t ≡ Err fault) b k;
}
