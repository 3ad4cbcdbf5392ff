-- Networks made with a mask of either family.
use Rattle.ipnetwork.proofs.Words.{◌≡◌, ℕ, ◌<◌, ◌≤◌, Ok, Err, refl, sym, ap, subst, ◌∙◌, IpAddr, MasksDiffer, InvalidPrefix, prefix_of, made_of, width_of, IsIpMask, MaskedIsMade, NoMaskIsRefused}
use Rattle.ipnetwork_addr.specs.declared.ip.IpAddr.TheVariants as addresses

prefix_of_made : (ip : IpAddr) (p : ℕ) → prefix_of (made_of ip p) ≡ p
prefix_of_made (addresses.V4 a) p = refl
prefix_of_made (addresses.V6 a) p = refl

-- no address is the mask of two different prefix lengths
one_mask : MasksDiffer → (mask : IpAddr) (p q : ℕ) → IsIpMask mask p → IsIpMask mask q → p ≡ q
one_mask law (addresses.V4 m) p q h k = law 32 p q h.0 k.0 (sym h.1 ∙ k.1)
one_mask law (addresses.V6 m) p q h k = law 128 p q h.0 k.0 (sym h.1 ∙ k.1)

pub masked_is_made : MasksDiffer → MaskedIsMade
masked_is_made law ip mask p (Ok n) is = (
  (λ h. subst (λ (q : ℕ). (n ≡ made_of ip q) × (q ≤ width_of ip)) (one_mask law mask (prefix_of n) p h.2 is)
      (h.0, h.1)),
  (λ h.
      let back : p ≡ prefix_of n = sym (ap prefix_of h.0 ∙ prefix_of_made ip p) in
      subst (λ (q : ℕ). (n ≡ made_of ip q) × (q ≤ width_of ip) × IsIpMask mask q) back (h.0, h.1, is)),
)
masked_is_made law ip mask p (Err fault) is = (
  (λ h. (h.0, h.1 p is)),
  (λ h. (h.0, λ q k. subst (λ (r : ℕ). width_of ip < r) (one_mask law mask p q is k) h.1)),
)

pub no_mask_is_refused : NoMaskIsRefused
no_mask_is_refused ip mask (Ok n) none = ((λ h. absurd (none (prefix_of n) h.2)), (λ e. cc))
no_mask_is_refused ip mask (Err fault) none = (
  (λ h. ap Err h.0),
  (λ e. let is : fault ≡ InvalidPrefix = cc in (is, λ q k. absurd (none q k))),
)
