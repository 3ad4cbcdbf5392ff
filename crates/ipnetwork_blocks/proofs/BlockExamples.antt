-- Hosts, subnets, siblings, and following and preceding blocks that would reveal a misreading of the definitions.
use Rattle.ipnetwork_blocks.proofs.Words.{◌≡◌, ◌↔◌, ℕ, ◌^◌, ◌<◌, ◌≤◌, sym, refl, ◌∙◌, ap, subst, arith, inl, inr, List, [], ◌∷◌, append_cancel_right, Network, IsNetwork, IsCidrBlock, count_up, members, subnet_from, IsAround, IsSibling, following_block, preceding_block, AreIpv4Hosts, AreIpv6Hosts, subnets_of, subnet_number}
use Rattle.ipnetwork_blocks.proofs.WiderBlocks.{sibling_from}
use Rattle.ipnetwork_blocks.proofs.LeastLists.{own_address}

abbrev net : ℕ → ℕ → Network
net address prefix = record { address = address; prefix = prefix }

-- ---- hosts: this list and no other, such as one that includes an end too many or too few

one_list : (Are : List ℕ → Type 0) (hosts : List ℕ) → Are hosts → ((xs : List ℕ) → Are xs → xs ≡ hosts) → (xs : List ℕ)
    → Are xs ↔ (xs ≡ hosts)
one_list Are hosts are alone xs = (alone xs, λ e. subst Are (sym e) are)

rest : List ℕ → List ℕ
rest [] = []
rest (x ∷ xs) = xs

-- 0.0.0.5/30
pub two_of_four : (hosts : List ℕ) → AreIpv4Hosts (net 5 30) hosts ↔ (hosts ≡ 5 ∷ 6 ∷ [])
unfolding count_up rest
two_of_four =
    one_list (AreIpv4Hosts (net 5 30)) (5 ∷ 6 ∷ [])
    (record { inner = λ short. refl; whole = λ long. absurd (omega arith) })
    (λ xs h. append_cancel_right xs (5 ∷ 6 ∷ []) (7 ∷ []) (sym (ap rest (h.inner (omega arith)))))

-- ::5/126
pub three_of_four : (hosts : List ℕ) → AreIpv6Hosts (net 5 126) hosts ↔ (hosts ≡ 5 ∷ 6 ∷ 7 ∷ [])
unfolding count_up rest
three_of_four =
    one_list (AreIpv6Hosts (net 5 126)) (5 ∷ 6 ∷ 7 ∷ [])
    (record { inner = λ short. refl; whole = λ long. absurd (omega arith) })
    (λ xs h. sym (ap rest (h.inner (omega arith))))

all_of_v4 : (p : ℕ) (hosts : List ℕ) → 30 < p → members 32 (net 5 p) ≡ hosts → (xs : List ℕ)
    → AreIpv4Hosts (net 5 p) xs ↔ (xs ≡ hosts)
all_of_v4 p hosts long is =
    one_list (AreIpv4Hosts (net 5 p)) hosts (record { inner = λ short. absurd (omega arith); whole = λ _. is })
    (λ xs h. sym (h.whole (omega arith)) ∙ is)

all_of_v6 : (p : ℕ) (hosts : List ℕ) → 126 < p → members 128 (net 5 p) ≡ hosts → (xs : List ℕ)
    → AreIpv6Hosts (net 5 p) xs ↔ (xs ≡ hosts)
all_of_v6 p hosts long is =
    one_list (AreIpv6Hosts (net 5 p)) hosts (record { inner = λ short. absurd (omega arith); whole = λ _. is })
    (λ xs h. sym (h.whole (omega arith)) ∙ is)

-- 0.0.0.5/31 and ::5/127
pub both_of_two : (hosts : List ℕ) → (AreIpv4Hosts (net 5 31) hosts ↔ (hosts ≡ 4 ∷ 5 ∷ []))
    × (AreIpv6Hosts (net 5 127) hosts ↔ (hosts ≡ 4 ∷ 5 ∷ []))
unfolding count_up
both_of_two hosts =
    (all_of_v4 31 (4 ∷ 5 ∷ []) (omega arith) refl hosts, all_of_v6 127 (4 ∷ 5 ∷ []) (omega arith) refl hosts)

-- 0.0.0.5/32 and ::5/128
pub the_one : (hosts : List ℕ) → (AreIpv4Hosts (net 5 32) hosts ↔ (hosts ≡ 5 ∷ []))
    × (AreIpv6Hosts (net 5 128) hosts ↔ (hosts ≡ 5 ∷ []))
unfolding count_up
the_one hosts = (all_of_v4 32 (5 ∷ []) (omega arith) refl hosts, all_of_v6 128 (5 ∷ []) (omega arith) refl hosts)

-- ---- subnets: 192.0.2.0 is 3221225984, and host bits make no difference

-- the four blocks of prefix length 26 in 192.0.2.77/24
pub four_subnets : subnets_of 32 (net 3221226061 24) 26 ≡ net 3221225984 26 ∷ net 3221226048 26 ∷ net 3221226112 26
    ∷ net 3221226176 26 ∷ []
unfolding count_up
four_subnets = refl

pub own_length : subnets_of 32 (net 3221226061 24) 24 ≡ net 3221225984 24 ∷ []
unfolding count_up
own_length = refl

-- block number 2 of these, and the only block of the network's own prefix length
pub third_quarter : subnet_number 32 (net 3221226061 24) 26 2 ≡ net 3221226112 26
third_quarter = refl

pub number_zero : subnet_number 32 (net 3221226061 24) 24 0 ≡ net 3221225984 24
number_zero = refl

-- ---- the block that follows

-- the block after 192.0.2.77/26
pub next_quarter : following_block 32 (net 3221226061 26) ≡ net 3221226112 26
next_quarter = refl

-- there is no address after 255.255.255.255
pub past_the_last : ¬ (IsNetwork 32 (following_block 32 (net 4294967295 32)))
past_the_last h = omega (arith, h.address_fits)

-- ---- the block that precedes

-- the block before 192.0.2.77/26
pub quarter_before : preceding_block 32 (net 3221226061 26) ≡ net 3221225984 26
quarter_before = refl

-- the block before ::1
pub before_one : preceding_block 128 (net 1 128) ≡ net 0 128
before_one = refl

-- ---- siblings

fits : (address prefix : ℕ) → address < 2 ^ 32 → prefix ≤ 32 → IsNetwork 32 (net address prefix)
fits address prefix below short = record { address_fits = below; prefix_fits = short }

-- siblings that differ in the first bit
pub upper_half : IsSibling 32 (net 5 1) (net 2147483648 1)
upper_half =
    sibling_from 32 (net 5 1) (net 2147483648 1) (fits 5 1 (omega arith) (omega arith))
    (fits 2147483648 1 (omega arith) (omega arith)) (omega arith) refl refl (inl (refl, refl))

pub lower_half : IsSibling 32 (net 4294967295 1) (net 0 1)
lower_half =
    sibling_from 32 (net 4294967295 1) (net 0 1) (fits 4294967295 1 (omega arith) (omega arith))
    (fits 0 1 (omega arith) (omega arith)) (omega arith) refl refl (inr (refl, refl))

-- siblings that differ in the last bit
pub even_and_odd : IsSibling 32 (net 4 32) (net 5 32)
even_and_odd =
    sibling_from 32 (net 4 32) (net 5 32) (fits 4 32 (omega arith) (omega arith))
    (fits 5 32 (omega arith) (omega arith)) (omega arith) refl refl (inl (refl, refl))

-- the following block is not always the sibling
pub odd_and_even : ¬ (IsSibling 32 (net 5 32) (net 6 32))
odd_and_even h = omega (arith, ((h.whole 6).1 (inr (own_address 32 (net 6 32) h.block.network))).1)

-- the whole address space has no sibling
pub none_at_prefix_0 : (b : Network) → ¬ (IsSibling 32 (net 0 0) b)
none_at_prefix_0 b h = h.apart (
  b.address,
  (h.block.network.address_fits, omega (arith, h.block.network.address_fits)),
  own_address 32 b h.block.network,
)

-- ---- the block around a network

pub around_five : IsAround 32 (net 5 32) 31 (net 4 31)
around_five =
    let block : IsCidrBlock 32 (net 4 31) = record { network = fits 4 31 (omega arith) (omega arith); block = refl } in
    record {
      block = block;
      as_long = refl;
      around =
          subnet_from 32 (net 5 32) (net 4 31) (fits 5 32 (omega arith) (omega arith)) (omega arith)
          (omega arith, refl);
    }

-- a network lies in itself
pub around_itself : IsAround 32 (net 5 31) 31 (net 4 31)
around_itself =
    let block : IsCidrBlock 32 (net 4 31) = record { network = fits 4 31 (omega arith) (omega arith); block = refl } in
    record {
      block = block;
      as_long = refl;
      around =
          subnet_from 32 (net 5 31) (net 4 31) (fits 5 31 (omega arith) (omega arith)) (omega arith)
          (omega arith, refl);
    }

pub not_beside : ¬ (IsAround 32 (net 5 32) 31 (net 6 31))
not_beside h = let halves : 2 ≡ 3 = (h.around 5 (omega arith, refl)).1 in omega (arith, halves)

pub not_wider : ¬ (IsAround 32 (net 5 32) 31 (net 4 30))
not_wider h = let lengths : 30 ≡ 31 = h.as_long in omega (arith, lengths)

pub not_with_host_bits : ¬ (IsAround 32 (net 5 32) 31 (net 5 31))
not_with_host_bits h = let bits : 5 ≡ 4 = h.block.block in omega (arith, bits)
