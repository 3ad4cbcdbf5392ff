-- Entries at which a wrong definition of `listed_cmp`, `reaches`, `relation` or `search_status` would show.
use Rattle.cidr_merge.proofs.Words.{◌≡◌, [], ◌∷◌, true, false, refl, codes, Less, search_status, Listed, listed_cmp, reaches, relation}
use Rattle.ipnetwork_addr.specs.declared.ip.IpAddr.TheVariants as addresses
use Rattle.cidr_merge.proofs.CheckExamples.{entry}

-- 10.0.0.0/8, and the same in another list; the first /16 in it; a range that ends after it; the entry right after
-- it
abbrev wide : Listed
wide = entry 0x0a000000 0x0affffff 7

abbrev again : Listed
again = record {
  first = addresses.V4 0x0a000000;
  last = addresses.V4 0x0affffff;
  list =
      1;
  number = 1;
}

abbrev narrow : Listed
narrow = entry 0x0a000000 0x0a00ffff 2

abbrev across : Listed
across = entry 0x0affffff 0x0b000000 3

abbrev behind : Listed
behind = entry 0x0b000000 0x0b000000 4

-- the same addresses; within, from the first address; partly within
pub relations : (relation again wide ≡ codes "same as") × (relation narrow wide ≡ codes "in")
    × (relation across wide ≡ codes "overlaps")
relations = (refl, refl, refl)

-- the last address is shared, and the next is not
pub up_to_the_last_address : (reaches across wide ≡ true) × (reaches behind wide ≡ false)
up_to_the_last_address = (refl, refl)

-- of entries with the same first address, the widest comes first; of equal ones, that of the earlier list
pub which_comes_first : (listed_cmp wide narrow ≡ Less) × (listed_cmp wide again ≡ Less)
which_comes_first = (refl, refl)

-- no line is found; a line is found; a refused line takes precedence over one that is found
pub exit_statuses : (search_status [] false ≡ 1) × (search_status ([] ∷ []) false ≡ 0)
    × (search_status ([] ∷ []) true ≡ 2) × (search_status [] true ≡ 2)
exit_statuses = (refl, refl, refl, refl)
