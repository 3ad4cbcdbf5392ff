-- The longest block of a table that has an address.
use Rattle.ipnetwork_c.proofs.Words.{◌≡◌, ℕ, ◌+◌, ◌-◌, ◌^◌, ◌<◌, ◌≤◌, List, length, take, get_or, ⊎_elim, sym, ap, subst, ◌∙◌, arith, AllPairs, cases_lt, get_or_default, get_or-take, length-take-le, SharesBits, Network, IsCidrBlock, IsNetworkAtMost, Member, Subnet, block_at, within_member, member_within, subnet_prefix, block_at_network, block_at_subnet, InUnion, own_address, IsTable, FindsLongest, TableQuery, On, Nothing, IsSplitAt}
use Rattle.ipnetwork_family.proofs.Blocks.{nested}

pub by_address : (w : ℕ) (ns : List Network) → IsTable w ns → AllPairs (λ a b. a.address ≤ b.address) ns
by_address w ns t i j d l m =
    ⊎_elim
    (λ (less : (get_or ns i d).address < (get_or ns j d).address).
    let r : (get_or ns i d).address ≤ (get_or ns j d).address = omega arith in r)
    (λ (e : ((get_or ns i d).address ≡ (get_or ns j d).address) × ((get_or ns i d).prefix ≤ (get_or ns j d).prefix)).
    let is = e.0 in let r : (get_or ns i d).address ≤ (get_or ns j d).address = omega arith in r)
    (t.ascending i j d l m)

pub taken_ascends : (ns : List Network) (n : ℕ) → n ≤ length ns → AllPairs (λ a b. a.address ≤ b.address) ns
    → AllPairs (λ a b. a.address ≤ b.address) (take n ns)
taken_ascends ns n le up i j d l m =
    let size : length (take n ns) ≡ n = length-take-le n ns le in
    let first = ap (λ (k : Network). k.address) (get_or-take n ns i d (omega (arith, l, m, size))) in
    let second = ap (λ (k : Network). k.address) (get_or-take n ns j d (omega (arith, m, size))) in
    let order : (get_or ns i d).address ≤ (get_or ns j d).address = up i j d l (omega (arith, m, size, le)) in
    omega (arith, first, second, order)

-- the networks of a table before `end` begin at or before the address, and none of the others has it
pub record IsSearched (w : ℕ) (ns : List Network) (x end : ℕ) : Type 0 where
  pub before : (k : ℕ) (d : Network) → k < end → (get_or ns k d).address ≤ x
  pub behind : (k : ℕ) (d : Network) → end ≤ k → k < length ns → ¬ (Member w (get_or ns k d) x)

-- a block that begins after the address does not have it
later_has_not : (w : ℕ) (b : Network) (x : ℕ) → IsCidrBlock w b → x < b.address → ¬ (Member w b x)
later_has_not w b x h later m = let i = within_member w b x m in let block = h.block in let from = i.0 in omega arith

pub search_begins : (w : ℕ) (ns : List Network) (x end : ℕ) → IsTable w ns → IsSplitAt ns x end end
    → IsSearched w ns x end
search_begins w ns x end t h = record {
  before = λ k d l. h.below k d l;
  behind = λ k d l m. later_has_not w (get_or ns k d) x (t.blocks k d m) (h.above k d l m);
}

-- a block that has an address and begins at or before an earlier one begins no later than the bits that both share
pub around_both : (w : ℕ) (b : Network) (a x shared : ℕ) → IsCidrBlock w b → x < 2 ^ w → Member w b x → b.address ≤ a
    → a ≤ x → SharesBits w a x shared → b.address ≤ (block_at w x shared).address
around_both w b a x shared h fits m from to s =
    let i = within_member w b x m in
    let block = h.block in
    let top = i.1 in
    let own : Member w b a = member_within w b h.network a (omega arith) (omega arith) in
    let wide : b.prefix ≤ shared = s.greatest b.prefix h.network.prefix_fits (own.1 ∙ sym m.1) in
    let inside : Subnet w (block_at w x shared) b = block_at_subnet w x shared b wide s.within m in
    let there = block_at_network w x shared fits s.within in
    let first : Member w b (block_at w x shared).address =
    inside (block_at w x shared).address (own_address w (block_at w x shared) there.network) in
    let j = within_member w b (block_at w x shared).address first in
    let begins = j.0 in
    omega arith

-- the last of them does not have it
pub search_goes_on : (w : ℕ) (ns : List Network) (x end next shared : ℕ) (b : Network) → IsTable w ns
    → IsSearched w ns x end → x < 2 ^ w → 0 < end → end ≤ length ns → b ≡ get_or ns (end - 1) b → ¬ (Member w b x)
    → SharesBits w b.address x shared → next ≤ end - 1
    → IsSplitAt (take (end - 1) ns) (block_at w x shared).address next next → IsSearched w ns x next
search_goes_on w ns x end next shared b t h fits some within is not s less split = record {
  before = λ k d l. h.before k d (omega arith);
  behind = λ k d l m.
      let whole : length (take (end - 1) ns) ≡ end - 1 = length-take-le (end - 1) ns (omega arith) in
      ⊎_elim
      (λ (past : end < k + 1). h.behind k d (omega arith) m)
      (λ (up_to : k + 1 ≤ end). ⊎_elim
      (λ (here : end < k + 2).
      let e : end - 1 ≡ k = omega arith in
      let same : b ≡ get_or ns k d = is ∙ get_or_default ns (end - 1) b d (omega arith) ∙ ap (λ j. get_or ns j d) e in
      λ c. not (subst (λ (n : Network). Member w n x) (sym same) c))
      (λ (before : k + 2 ≤ end). λ c.
      let k_below : k < end - 1 = omega arith in
      let there : (block_at w x shared).address < (get_or (take (end - 1) ns) k d).address =
      split.above k d l (omega (arith, whole, k_below)) in
      let at : (get_or (take (end - 1) ns) k d).address ≡ (get_or ns k d).address =
      ap (λ n. n.address) (get_or-take (end - 1) ns k d k_below) in
      let order : (get_or ns k d).address ≤ (get_or ns (end - 1) d).address =
      by_address w ns t k (end - 1) d k_below (omega arith) in
      let same : get_or ns (end - 1) d ≡ b = get_or_default ns (end - 1) d b (omega arith) ∙ sym is in
      let same_address = ap (λ n. n.address) same in
      let low_enough = h.before (end - 1) d (omega arith) in
      let begins = around_both w (get_or ns k d) b.address x shared (t.blocks k d m) fits c (omega arith)
      (omega arith) s in
      omega arith)
      (cases_lt end (k + 2)))
      (cases_lt end (k + 1));
}

-- the last of them has it
pub search_finds : (w : ℕ) (ns : List Network) (x end : ℕ) (b : Network) → (IsTable w ns → IsSearched w ns x end)
    → 0 < end → end ≤ length ns → b ≡ get_or ns (end - 1) b → Member w b x → FindsLongest w ns x (end - 1)
search_finds w ns x end b h some within is has =
    let at : (d : Network) → b ≡ get_or ns (end - 1) d = λ d. is ∙ get_or_default ns (end - 1) b d (omega arith) in
    record {
      within = omega arith;
      one = λ d. subst (λ (n : Network). Member w n x) (at d) has;
      longest = λ t k d m c. ⊎_elim
          (λ (past : end < k + 1). absurd ((h t).behind k d (omega arith) m c))
          (λ (up_to : k + 1 ≤ end). ⊎_elim
          (λ (here : end < k + 2).
          let e : k ≡ end - 1 = omega arith in
          let r : (get_or ns k d).prefix ≤ (get_or ns (end - 1) d).prefix =
          subst (λ (j : ℕ). (get_or ns k d).prefix ≤ (get_or ns j d).prefix) e (omega arith) in r)
          (λ (before : k + 2 ≤ end). no_longer (get_or ns k d) (get_or ns (end - 1) d) (t.blocks k d m)
          (t.blocks (end - 1) d (omega arith)) (t.ascending k (end - 1) d (omega arith) (omega arith)) c
          (subst (λ (n : Network). Member w n x) (at d) has))
          (cases_lt end (k + 2)))
          (cases_lt end (k + 1));
      last = λ t k d after m. (h t).behind k d (omega arith) m;
    }
  where
    no_longer : (a b : Network) → IsCidrBlock w a → IsCidrBlock w b → IsNetworkAtMost a b → Member w a x → Member w b x
        → a.prefix ≤ b.prefix
    no_longer a b ha hb order ma mb =
        ⊎_elim
        (λ (s : Subnet w a b).
        let j = within_member w b a.address (s a.address (own_address w a ha.network)) in
        let begins = j.0 in
        let block = hb.block in
        ⊎_elim
        (λ (less : a.address < b.address). let r : a.prefix ≤ b.prefix = absurd (omega arith) in r)
        (λ (e : (a.address ≡ b.address) × (a.prefix ≤ b.prefix)). e.1)
        order)
        (λ (s : Subnet w b a). subnet_prefix w b a hb.network ha.network s)
        (nested w a b ha.network hb.network (x, ma, mb))

pub search_fails : (w : ℕ) (ns : List Network) (x end : ℕ) → (IsTable w ns → IsSearched w ns x end) → end ≡ 0
    → IsTable w ns → ¬ (InUnion w ns x)
search_fails w ns x end h none t u =
    let k : ℕ = u.1.0 in
    (h t).behind k u.0 (omega arith) u.1.1 (subst (λ (n : Network). Member w n x) (sym u.1.2) u.2)

-- the fault that a search returns fits a byte
pub fault_is_byte : {C : Type 0} {before after code : ℕ} (w : ℕ) (held : C → Network) (list : List C) (x : ℕ)
    → TableQuery w held list x before after code → code < 256
fault_is_byte _ _ _ _ (_, _, Nothing (_, is) _) = omega (arith, is)
fault_is_byte _ _ _ _ (_, _, On (_, Nothing (_, is) _)) = omega (arith, is)
fault_is_byte _ _ _ _ (_, _, On (_, On (is, _))) = omega (arith, is)
