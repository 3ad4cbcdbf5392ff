-- The search for the longest network that has all addresses of another.
use Rattle.cidr_join.proofs.Words.{◌≡◌, ℕ, ◌<◌, ◌≤◌, false, true, sym, ap, subst, ◌∙◌, arith, ⊎_elim, IsSome, FinMap, get, cases_lt, Network, IsNetwork, Member, HostBitsAreZero, network_cmp, block_of, block_at, block_begins, subnet_from, subnet_prefix, block_at_holds, block_at_is, HasOnlyBlocks, IsLongest, HasAll, IsLongestOver, NoneHasAll}
use Rattle.std.proofs.Common.{Option, Some, None}

-- no stored network of a prefix length above p, up to that of m, has the address of m
abbrev pub NoneBetween : {V : Type 0} → ℕ → FinMap network_cmp V → Network → ℕ → Type 0
NoneBetween w t m p = (n : Network) → IsSome (get t n) → p < n.prefix → n.prefix ≤ m.prefix → ¬ (Member w n m.address)

nothing : false ≡ true → ⊥
nothing e = cc

module _ {V : Type 0} (w : ℕ) (t : FinMap network_cmp V) (m : Network) where
  -- ---- by the longest that has the address

  pub is_over : (n : Network) → IsNetwork w m → n.prefix ≤ m.prefix → Member w n m.address → HasAll w m n
  is_over n is shorter holds = (holds, subnet_from w m n is shorter holds)

  pub longest_is_over : (n : Network) (v : V) (x : ℕ) → x ≡ m.address → IsNetwork w m → n.prefix ≤ m.prefix
      → IsLongest w t x n v → IsLongestOver w t m n v
  longest_is_over n v x at is shorter l =
      let r = subst (λ (a : ℕ). IsLongest w t a n v) at l in
      record {
        stored = r.stored;
        holds = is_over n is shorter r.holds;
        longest =
            λ other some has. r.longest other some has.0;
      }

  -- ---- by one prefix length after the other

  -- what the table has for a block of this prefix length that has the address
  pub asked_at : (p x : ℕ) (n : Network) (o : Option V) → o ≡ get t (block_of w n) → n ≡ block_at w x p → x ≡ m.address
      → (n ≡ block_at w m.address p) × (o ≡ get t n)
  asked_at p x n o is at same =
      let here = at ∙ ap (λ a. block_at w a p) same in
      let clear : HostBitsAreZero w n =
      subst (HostBitsAreZero w) (sym here) (block_begins w (record { address = m.address; prefix = p })) in
      (here, is ∙ ap (λ (a : ℕ). get t (record { address = a; prefix = n.prefix })) (sym clear))

  at_length : (p : ℕ) → HasOnlyBlocks w t → get t (block_at w m.address p) ≡ None → (n : Network) → IsSome (get t n)
      → n.prefix ≡ p → ¬ (Member w n m.address)
  at_length p blocks none n some same holds =
      nothing (subst IsSome (ap (get t) (block_at_is w n m.address p (blocks n some).block holds same) ∙ none) some)

  -- from p on
  none_from : (p : ℕ) → HasOnlyBlocks w t → NoneBetween w t m p → get t (block_at w m.address p) ≡ None
      → (n : Network) → IsSome (get t n) → p ≤ n.prefix → n.prefix ≤ m.prefix → ¬ (Member w n m.address)
  none_from p blocks between none n some from within holds = ⊎_elim
      (λ (more : p < n.prefix). between n some more within holds)
      (λ (most : n.prefix ≤ p). at_length p blocks none n some (omega (arith, most, from)) holds)
      (cases_lt p n.prefix)

  pub none_over : (p : ℕ) → IsNetwork w m → HasOnlyBlocks w t → NoneBetween w t m p
      → get t (block_at w m.address p) ≡ None → p ≡ 0 → NoneHasAll w t m
  none_over p is blocks between none last n some has =
      none_from p blocks between none n some (omega (arith, last))
      (subnet_prefix w m n is (blocks n some).network has.1) has.0

  pub longest_here : (p : ℕ) (n : Network) (v : V) → IsNetwork w m → HasOnlyBlocks w t → NoneBetween w t m p
      → p ≤ m.prefix → n ≡ block_at w m.address p → get t n ≡ Some v
      → IsLongestOver w t m n v
  longest_here p n v is blocks between within at found =
      let same : n.prefix ≡ p = ap (λ (k : Network). k.prefix) at in
      record {
        stored = found;
        holds = is_over n is (omega (arith, same, within))
            (subst (λ (k : Network). Member w k m.address) (sym at) (block_at_holds w m.address p is.address_fits));
        longest = λ other some has. ⊎_elim
            (λ (more : p < other.prefix).
            absurd (between other some more (subnet_prefix w m other is (blocks other some).network has.1) has.0))
            (λ (most : other.prefix ≤ p). omega (arith, same, most))
            (cases_lt p other.prefix);
      }
