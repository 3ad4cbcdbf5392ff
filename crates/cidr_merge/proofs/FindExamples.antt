-- Values at which a wrong definition of what a search prints, or of the families it looks at, would show. Each of these
-- computes.
use Rattle.cidr_merge.proofs.Words.{◌≡◌, ◌∷◌, ℕ, [], map, refl, digits, codes, None, Some, Ok, Err, v6_of, gap_below, V4, V6, Range, has_words, lines_by, looked_at, network_in}
use Rattle.cidr_merge.specs.Families.{only_of}
use Rattle.cidr_merge.specs.Finds.{relation_of}
use Rattle.cidr_merge.specs.declared.entry_match.Relation.TheVariants.{HasAll, LiesIn, Meets, Apart}
use Rattle.cidr_merge.specs.declared.exports.Version.TheVariants as versions
use Rattle.ipnetwork.specs.declared.ip_network.IpNetwork.{IpNetwork}
use Rattle.ipnetwork.specs.declared.ip_network.IpNetwork.TheVariants as networks
use Rattle.lists.specs.declared.entry.Entry.TheVariants.{Network}
use Rattle.lists.specs.declared.entry.EntryFault.TheVariants as causes
use Rattle.options.specs.declared.items.Item.TheVariants as says

-- 0.0.0.16/28, with the addresses from 16 to 31
abbrev block : IpNetwork
block = networks.V4 (record { address = 16; prefix = 28 })

-- an entry has all of a network if it has both its ends, be they its own, and lies in it if the network has both of the
-- entry's; others meet if they share an address, the first or the last, and are apart if they only touch
pub relations :
    map (λ entry. relation_of entry block) (Range (V4 16) (V4 31) ∷ Network block ∷ Range (V4 0) (V4 31)
    ∷ Range (V4 16) (V4 30) ∷ Range (V4 31) (V4 31) ∷ Range (V4 0) (V4 16) ∷ Range (V4 31) (V4 32)
    ∷ Range (V4 0) (V4 15) ∷ Range (V4 32) (V4 40) ∷ Range (V6 0) (V6 40) ∷ [])
    ≡ HasAll ∷ HasAll ∷ HasAll ∷ LiesIn ∷ LiesIn ∷ Meets ∷ Meets ∷ Apart ∷ Apart ∷ Apart ∷ []
relations = refl

pub relations_of_networks :
    map (λ n. relation_of (Network (networks.V4 n)) block) (record { address = 0; prefix = 27 }
    ∷ record { address = 24; prefix = 29 } ∷ record { address = 31; prefix = 32 } ∷ record { address = 32; prefix = 28 }
    ∷ record { address = 0; prefix = 0 } ∷ [])
    ≡ HasAll ∷ LiesIn ∷ LiesIn ∷ Apart ∷ HasAll ∷ []
relations_of_networks = refl

-- an address is had, of a network all is
pub words_of_texts : map has_words (codes "10.0.0.0/8" ∷ codes "10.0.0.0/32" ∷ codes "::1" ∷ [])
    ≡ codes ": has all of " ∷ codes ": has all of " ∷ codes ": has " ∷ []
words_of_texts = refl

pub lines_of_relations :
    map (lines_by (codes "f") 7 (codes "10.0.0.0/9") (codes "10.0.0.0/8")) (HasAll ∷ LiesIn ∷ Meets ∷ Apart ∷ [])
    ≡ (codes "f:7: has all of 10.0.0.0/8: 10.0.0.0/9\n" ∷ []) ∷ (codes "f:7: lies in 10.0.0.0/8: 10.0.0.0/9\n" ∷ [])
    ∷ (codes "f:7: meets 10.0.0.0/8: 10.0.0.0/9\n" ∷ []) ∷ [] ∷ []
unfolding digits
lines_of_relations = refl

-- a network without host bits, and an address, are sought
pub networks_sought :
    map network_in (codes "10.0.0.0/8" ∷ codes "10.0.0.1" ∷ codes "10.0.0.1/8" ∷ codes "10.0.0.0/33" ∷ codes "::1/128"
    ∷ codes "10.0.0.1-10.0.0.2" ∷ [])
    ≡ Ok (networks.V4 (record { address = 0x0a000000; prefix = 8 }))
    ∷ Ok (networks.V4 (record { address = 0x0a000001; prefix = 32 })) ∷ Err causes.HostBits ∷ Err causes.Address
    ∷ Ok (networks.V6 (record { address = 1; prefix = 128 })) ∷ Err causes.Address ∷ []
unfolding digits v6_of gap_below
networks_sought = refl

-- ---- families

pub families_said : map only_of ([] ∷ (says.Flag 25 ∷ []) ∷ (says.Flag 26 ∷ []) ∷ (says.Flag 24 ∷ []) ∷ [])
    ≡ None ∷ Some versions.V4 ∷ Some versions.V6 ∷ None ∷ []
families_said = refl

-- the networks of the other family are left out
pub families_looked_at :
    (map (λ only. looked_at {X = ℕ} only versions.V4 (4 ∷ [])) (None ∷ Some versions.V4 ∷ Some versions.V6 ∷ [])
    ≡ (4 ∷ []) ∷ (4 ∷ []) ∷ [] ∷ [])
    × (map (λ only. looked_at {X = ℕ} only versions.V6 (6 ∷ [])) (None ∷ Some versions.V4 ∷ Some versions.V6 ∷ [])
    ≡ (6 ∷ []) ∷ [] ∷ (6 ∷ []) ∷ [])
families_looked_at = (refl, refl)
