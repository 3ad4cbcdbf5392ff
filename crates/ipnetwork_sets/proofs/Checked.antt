-- The loop of `is_address_set`.
use Rattle.ipnetwork_sets.proofs.Words.{◌≡◌, ℕ, ◌+◌, ◌-◌, ◌<◌, ◌≤◌, sym, ap, subst, ◌∙◌, arith, List, [], ◌∷◌, ◌++◌, length, get_or, take, All, get_or_default, get_or-take, length-take-le, take_all, take_more, Network, IsNetwork, IsCidrBlock, HostBitsAreZero, high, AggregateIsApart, Follows, AreJoined, joined_push, after_all, IsAddressSet}
use Rattle.ipnetwork_sets.proofs.Lists.{set_is_joined, joined_is_set}

-- one more network, which follows the one before it if there is one
pub check_goes_on : (w : ℕ) (ns : List Network) (i : ℕ) (b : Network) → AreJoined w (take i ns) → i < length ns
    → b ≡ get_or ns i b → IsNetwork w b → HostBitsAreZero w b
    → ((a : Network) → 0 < i → a ≡ get_or ns (i - 1) a → Follows w a b) → AreJoined w (take (i + 1) ns)
check_goes_on w ns i b h l is net block last =
    let r : List Network = take i ns in
    let size : length r ≡ i = length-take-le i ns (omega arith) in
    let more : take (i + 1) ns ≡ r ++ b ∷ [] = take_more ns i b l ∙ ap (λ n. r ++ n ∷ []) (sym is) in
    let bb : IsCidrBlock w b = record { network = net; block = block } in
    let before : (d : Network) → 0 < length r → get_or r (length r - 1) d ≡ get_or ns (i - 1) d =
    λ d some.
    let e : length r - 1 ≡ i - 1 = omega arith in
    ap (λ k. get_or r k d) e ∙ get_or-take i ns (i - 1) d (omega arith) in
    let follows : (d : Network) → 0 < length r → Follows w (get_or r (length r - 1) d) b =
    λ d some.
    let a : Network = get_or ns (i - 1) d in
    subst (λ (n : Network). Follows w n b) (sym (before d some))
    (last a (omega arith) (get_or_default ns (i - 1) d a (omega arith))) in
    let after : All (λ a. high w a < b.address) r =
    λ k d m.
    let some : 0 < length r = omega arith in
    let t : Network = get_or r (length r - 1) d in
    after_all w r t b h some (get_or_default r (length r - 1) t d (omega arith)) (follows d some).0 k d m in
    subst (λ (t : List Network). AreJoined w t) (sym more)
    (joined_push w r b h bb after (λ d some. (follows d some).1))

pub checked : (w : ℕ) (ns : List Network) (i : ℕ) → AreJoined w (take i ns) → length ns ≤ i → IsAddressSet w ns
checked w ns i h l = joined_is_set w ns (subst (λ (t : List Network). AreJoined w t) (take_all i ns l) h)

-- the networks of a set have no host bits, and each follows the one before it
pub set_has_block : (w : ℕ) (ns : List Network) (i : ℕ) (b : Network) → AggregateIsApart → IsAddressSet w ns
    → i < length ns → b ≡ get_or ns i b → HostBitsAreZero w b
set_has_block w ns i b law h l is =
    let j = set_is_joined w ns law h in
    let k : IsCidrBlock w b = subst (λ (n : Network). IsCidrBlock w n) (sym is) (j.blocks i b l) in
    k.block

pub set_follows : (w : ℕ) (ns : List Network) (i : ℕ) (a b : Network) → AggregateIsApart → IsAddressSet w ns → 0 < i
    → i < length ns
    → a ≡ get_or ns (i - 1) a → b ≡ get_or ns i b → Follows w a b
set_follows w ns i a b law h some l at is =
    let j = set_is_joined w ns law h in
    let f : Follows w (get_or ns (i - 1) a) (get_or ns i a) = j.pairs (i - 1) i a (omega arith) l in
    let e : get_or ns i a ≡ b = get_or_default ns i a b l ∙ sym is in
    subst (λ (n : Network). Follows w n b) (sym at) (subst (λ (n : Network). Follows w (get_or ns (i - 1) a) n) e f)
