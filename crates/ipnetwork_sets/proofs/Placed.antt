-- The blocks of a set that share an address with a network are consecutive.
use Rattle.ipnetwork_sets.proofs.Words.{◌≡◌, ℕ, ◌-◌, ◌<◌, ◌≤◌, sym, subst, ◌∙◌, arith, ⊎_elim, List, length, get_or, cases_lt, get_or_default, Contains-get_or, Network, IsNetwork, IsCidrBlock, Member, Overlap, low, high, size_pos, has_ends, within_member, member_within, AggregateIsApart, own_address, IsAddressSet, IsBefore, IsPlace, IsSplitAt}
use Rattle.ipnetwork_sets.proofs.Lists.{set_block}

-- the network at each index is a block
pub block_of_set : (w : ℕ) (bs : List Network) (k : ℕ) (d : Network) → IsAddressSet w bs → k < length bs
    → IsCidrBlock w (get_or bs k d)
block_of_set w bs k d h l = set_block w bs (get_or bs k d) h (Contains-get_or bs k d l)

-- a block begins no later than it ends
pub begins_before_end : (w : ℕ) (b : Network) → IsCidrBlock w b → b.address ≤ high w b
begins_before_end w b h = let pos = size_pos w b.prefix in let block = h.block in omega (arith, pos, block)

pub low_before_high : (w : ℕ) (n : Network) → low w n ≤ high w n
low_before_high w n = let pos = size_pos w n.prefix in omega (arith, pos)

-- a network has the addresses between its ends
pub between_ends : (w : ℕ) (n : Network) (x : ℕ) → IsNetwork w n → low w n ≤ x → x ≤ high w n → Member w n x
between_ends w n x nn from to = let pos = size_pos w n.prefix in member_within w n nn x from (omega (arith, pos, to))

-- a network has no addresses outside its ends
pub member_ends : (w : ℕ) (n : Network) (x : ℕ) → Member w n x → (low w n ≤ x) × (x ≤ high w n)
member_ends w n x m = let i = within_member w n x m in let pos = size_pos w n.prefix in (i.0, omega (arith, i.1, pos))

-- a block that begins no later than a network ends, and ends no earlier than it begins, shares an address with it
pub shares : (w : ℕ) (b n : Network) → IsCidrBlock w b → IsNetwork w n → b.address ≤ high w n → low w n ≤ high w b
    → Overlap w b n
shares w b n hb nn begins ends =
    let block = hb.block in
    ⊎_elim
    (λ (l : low w n < b.address).
    (b.address, own_address w b hb.network, between_ends w n b.address nn (omega arith) begins))
    (λ (le : b.address ≤ low w n). (
      low w n,
      between_ends w b (low w n) hb.network (omega (arith, block, le)) ends,
      (has_ends w n nn).low_is_member,
    ))
    (cases_lt (low w n) b.address)

pub shared_ends : (w : ℕ) (b n : Network) → Overlap w b n → low w n ≤ high w b
shared_ends w b n o =
    let i = member_ends w b o.0 o.1 in
    let j = member_ends w n o.0 o.2 in
    omega (arith, i.1, j.0)

module _ (w : ℕ) (bs : List Network) (n : Network) (law : AggregateIsApart) (h : IsAddressSet w bs)
    (nn : IsNetwork w n) where
  -- a block that begins after the network begins also ends after it begins
  ends_after : (begun : ℕ) → IsSplitAt bs (low w n) begun begun → (k : ℕ) (d : Network) → begun ≤ k → k < length bs
      → low w n ≤ high w (get_or bs k d)
  ends_after begun split k d le l =
      let f = split.above k d le l in
      let e = begins_before_end w (get_or bs k d) (block_of_set w bs k d h l) in
      omega (arith, f, e)

  -- of the blocks that begin no later than the network, each but the last ends before the network begins
  ends_first : (begun : ℕ) → IsSplitAt bs (low w n) begun begun → (k : ℕ) (d : Network) → k < begun - 1
      → high w (get_or bs k d) < low w n
  ends_first begun split k d l =
      let within = split.within in
      let f = law w bs bs h k (begun - 1) d l (omega arith) in
      let e = split.below (begun - 1) d (omega arith) in
      omega (arith, f, e)

  -- no block begins at or before the network's first address
  pub before_none : (begun : ℕ) → IsSplitAt bs (low w n) begun begun → begun ≡ 0 → IsBefore w bs n 0
  before_none begun split e = record {
    within = omega arith;
    before = λ k d l. absurd (omega arith);
    others = λ k d le l. ends_after begun split k d (omega arith) l;
  }

  -- the last block that begins no later shares an address with the network
  pub before_last : (begun : ℕ) (b : Network) → IsSplitAt bs (low w n) begun begun → 0 < begun
      → b ≡ get_or bs (begun - 1) b → Overlap w b n → IsBefore w bs n (begun - 1)
  before_last begun b split some is o =
      let within = split.within in
      record {
        within = omega arith;
        before = ends_first begun split;
        others = λ k d le l. ⊎_elim
            (λ (less : k < begun).
            let e : begun - 1 ≡ k = omega arith in
            let last : b ≡ get_or bs (begun - 1) d = is ∙ get_or_default bs (begun - 1) b d (omega arith) in
            subst (λ (j : ℕ). low w n ≤ high w (get_or bs j d)) e
            (subst (λ (t : Network). low w n ≤ high w t) last (shared_ends w b n o)))
            (λ (more : begun ≤ k). ends_after begun split k d more l)
            (cases_lt k begun);
      }

  -- the last block that begins no later ends before the network begins too
  pub before_all : (begun : ℕ) (b : Network) → IsSplitAt bs (low w n) begun begun → 0 < begun
      → b ≡ get_or bs (begun - 1) b → ¬ (Overlap w b n) → IsBefore w bs n begun
  before_all begun b split some is apart =
      let within = split.within in
      record {
        within = within;
        before = λ k d l. ⊎_elim
            (λ (less : k < begun - 1). ends_first begun split k d less)
            (λ (le : begun - 1 ≤ k).
            let e : begun - 1 ≡ k = omega arith in
            let last : b ≡ get_or bs (begun - 1) d = is ∙ get_or_default bs (begun - 1) b d (omega arith) in
            let hb : IsCidrBlock w b = subst (λ (t : Network). IsCidrBlock w t) (sym last)
            (block_of_set w bs (begun - 1) d h (omega arith)) in
            let begins : b.address ≤ low w n =
            subst (λ (t : Network). t.address ≤ low w n) (sym last) (split.below (begun - 1) d (omega arith)) in
            let order = low_before_high w n in
            let ends : high w b < low w n = ⊎_elim
            (λ (l : high w b < low w n). l)
            (λ (ge : low w n ≤ high w b).
            let r : high w b < low w n = absurd (apart (shares w b n hb nn (omega (arith, begins, order)) ge)) in r)
            (cases_lt (high w b) (low w n)) in
            subst (λ (j : ℕ). high w (get_or bs j d) < low w n) e
            (subst (λ (t : Network). high w t < low w n) last ends))
            (cases_lt k (begun - 1));
        others = ends_after begun split;
      }

  pub placed_between : (from to : ℕ) → IsBefore w bs n from → IsSplitAt bs (high w n) to to → IsPlace w bs n from to
  placed_between from to first last =
      let fits = first.within in
      let within = last.within in
      record {
        ordered = ⊎_elim
            (λ (less : to < from).
            let l : to < length bs = omega arith in
            let early = first.before to n less in
            let late = last.above to n (omega arith) l in
            let e = begins_before_end w (get_or bs to n) (block_of_set w bs to n h l) in
            let order = low_before_high w n in
            let r : from ≤ to = absurd (omega (arith, early, late, e, order)) in
            r)
            (λ (le : from ≤ to). le)
            (cases_lt to from);
        within = within;
        before = first.before;
        shared = λ k d le l.
            let m : k < length bs = omega arith in
            shares w (get_or bs k d) n (block_of_set w bs k d h m) nn (last.below k d l) (first.others k d le m);
        behind = last.above;
      }
