-- The block of a prefix length that contains an address. Proofs of the crates that depend on this one cite these
-- lemmas, so their names and statements must not change.
use Rattle.ipnetwork_family.proofs.Words.{◌≡◌, ℕ, ◌*◌, ◌^◌, ◌<◌, ◌≤◌, refl, sym, ap, ◌∙◌, Network, Member, HostBitsAreZero, IsCidrBlock, block_size, block_at, Subnet}
use Rattle.ipnetwork_family.proofs.Blocks.{block_fits_too, block_begins, block_same_set, coarser_size}

pub block_at_network : (w x p : ℕ) → x < 2 ^ w → p ≤ w → IsCidrBlock w (block_at w x p)
block_at_network w x p fits within =
    let n : Network = record { address = x; prefix = p } in
    record {
      network = block_fits_too w n (record { address_fits = fits; prefix_fits = within });
      block =
          block_begins w n;
    }

pub block_at_holds : (w x p : ℕ) → x < 2 ^ w → Member w (block_at w x p) x
block_at_holds w x p fits = (block_same_set w (record { address = x; prefix = p }) x).1 (fits, refl)

-- the block lies in each wider network that holds x
pub block_at_subnet : (w x p : ℕ) (n : Network) → n.prefix ≤ p → p ≤ w → Member w n x → Subnet w (block_at w x p) n
block_at_subnet w x p n wider within holds y inside =
    let same = (block_same_set w (record { address = x; prefix = p }) y).0 inside in
    (same.0, coarser_size w n.prefix p y x wider within same.1 ∙ holds.1)

-- any block of this prefix length that holds x is equal to this one
pub block_at_is : (w : ℕ) (n : Network) (x p : ℕ) → HostBitsAreZero w n → Member w n x → n.prefix ≡ p
    → n ≡ block_at w x p
block_at_is w n x p block holds is =
    ap (λ a. record { address = a; prefix = n.prefix }) (block ∙ ap (λ q. q * block_size w n.prefix) (sym holds.1))
    ∙ ap (λ q. block_at w x q) is

-- two blocks with the same prefix length that share an address are equal
pub same_block : (w : ℕ) (a b : Network) → HostBitsAreZero w a → HostBitsAreZero w b → a.prefix ≡ b.prefix → (x : ℕ)
    → Member w a x → Member w b x → a ≡ b
same_block w a b block_a block_b same x in_a in_b = block_at_is w a x b.prefix block_a in_a same
    ∙ sym (block_at_is w b x b.prefix block_b in_b refl)
