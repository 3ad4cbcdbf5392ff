-- What the number of bits that two addresses share says of their networks.
use Rattle.ipnetwork_sets.proofs.Words.{◌≡◌, ℕ, ◌-◌, ◌<◌, ◌≤◌, inl, inr, sym, arith, ⊎_elim, cases_lt, div-mul-le_self, SharesBits, Network, IsNetwork, Member, Overlap, low, high, block_size, size_pos, coarser_size, within_member, member_within, overlap_by_address, block_same_set, own_address, AreHalves}

module _ (w shared : ℕ) (a b : Network) (ha : IsNetwork w a) (hb : IsNetwork w b)
    (s : SharesBits w a.address b.address shared) where
  pub shares_prefix : a.prefix ≤ shared → Member w a b.address
  shares_prefix le = (hb.address_fits, sym (coarser_size w a.prefix shared a.address b.address le s.within s.agree))

  pub shares_less : shared < a.prefix → Member w a b.address → ⊥
  shares_less l m = let most = s.greatest a.prefix ha.prefix_fits (sym m.1) in omega (arith, most)

  -- a network ends before an address that comes after its own, and is none of its addresses
  pub ends_by_bits : shared < a.prefix → a.address < b.address → high w a < b.address
  ends_by_bits l before = ⊎_elim (λ (k : high w a < b.address). k)
      (λ (le : b.address ≤ high w a).
      let under : low w a ≤ a.address = div-mul-le_self a.address (block_size w a.prefix) in
      let pos = size_pos w a.prefix in
      let m : Member w a b.address = member_within w a ha b.address (omega arith) (omega arith) in
      let r : high w a < b.address = absurd (shares_less l m) in r)
      (cases_lt (high w a) b.address)

  pub begins_before : high w a < b.address → a.address < b.address
  begins_before l = let own = within_member w a a.address (own_address w a ha) in omega (arith, own.1)

  pub ends_too_late : a.prefix ≤ shared → high w a < b.address → ⊥
  ends_too_late le l = let i = within_member w a b.address (shares_prefix le) in omega (arith, i.0, i.1)

  -- networks share an address if they share the bits of one of the prefixes, and only then
  pub overlaps_first : a.prefix ≤ shared → Overlap w a b
  overlaps_first le = (overlap_by_address w a b ha hb).1 (inl (shares_prefix le))

  -- of two networks of one prefix length, the bits before the last one of it say whether they are halves
  pub halves_by_bits : 0 < a.prefix → a.prefix ≡ b.prefix → a.prefix - 1 ≤ shared → AreHalves w a b
  halves_by_bits pos same le = (
    same,
    pos,
    (block_same_set w (record { address = a.address; prefix = a.prefix - 1 }) b.address).1 (
      hb.address_fits,
      sym (coarser_size w (a.prefix - 1) shared a.address b.address le s.within s.agree),
    ),
  )

  pub halves_share : AreHalves w a b → a.prefix - 1 ≤ shared
  halves_share h =
      let m = (block_same_set w (record { address = a.address; prefix = a.prefix - 1 }) b.address).0 h.2 in
      let fits = ha.prefix_fits in
      s.greatest (a.prefix - 1) (omega arith) (sym m.1)

module _ (w shared : ℕ) (a b : Network) (ha : IsNetwork w a) (hb : IsNetwork w b)
    (s : SharesBits w a.address b.address shared) where
  swapped : SharesBits w b.address a.address shared
  swapped = record {
    within = s.within;
    agree = sym s.agree;
    greatest = λ q fits e. s.greatest q fits (sym e);
  }

  pub overlap_if_second : b.prefix ≤ shared → Overlap w a b
  overlap_if_second le = (overlap_by_address w a b ha hb).1 (inr (shares_prefix w shared b a hb ha swapped le))

  pub second_if_overlap : shared < a.prefix → Overlap w a b → b.prefix ≤ shared
  second_if_overlap l o = ⊎_elim
      (λ (m : Member w a b.address).
      let r : b.prefix ≤ shared = absurd (shares_less w shared a b ha hb s l m) in r)
      (λ (m : Member w b a.address). ⊎_elim
      (λ (k : shared < b.prefix).
      let r : b.prefix ≤ shared = absurd (shares_less w shared b a hb ha swapped k m) in r)
      (λ (k : b.prefix ≤ shared). k)
      (cases_lt shared b.prefix))
      ((overlap_by_address w a b ha hb).0 o)
