-- What a C call returns, a number of `Numbers`, and what it leaves in the memory that it writes to: the result, or
-- what was there before.
use Rattle.std.specs.Prelude.{◌≡◌, ◌↔◌, ℕ, ◌+◌, ◌<◌, ◌≤◌, List, ◌∷◌, ◌++◌, drop, length, slice_get, Some, Result, Ok}
use Rattle.std.specs.Prelude.{Err}
use Rattle.ipnetwork_family.specs.Network.{Network, IsNoMask, mask_of, members}
use Rattle.ipnetwork_family.specs.declared.error.CidrFault.{CidrFault}
use Rattle.ipnetwork_c.specs.Numbers.{prefix, short_buffer, no_mask, no_member, fault_number}
use Rattle.ipnetwork_c.specs.Held.{PrefixFits}
use Rattle.ipnetwork_c.specs.Outcomes.{Writes, Unless, IsFault, Needs, Finds}

-- the text is read: either the struct holds the network, or the fault is the number of the cause
abbrev pub ReadsInto : {N C : Type 0} → (List ℕ → Result N CidrFault → Type 0) → (C → N → Type 0) → List ℕ → C → C → ℕ
    → Type 0
ReadsInto Reads Holds text =
    Finds (λ n. Reads text (Ok n)) (λ code. (cause : CidrFault)
    × IsFault (fault_number cause) (Reads text (Err cause)) code) (λ n. Writes (λ held. Holds held n))

-- the call continues if all prefix lengths fit; otherwise the fault is `prefix`
abbrev pub IfFit : {M : Type 0} → Type 0 → (M → M → ℕ → Type 0) → M → M → ℕ → Type 0
IfFit AllFit GoesOn = Needs AllFit prefix GoesOn

-- the byte is 1 if the proposition holds, and 0 otherwise
abbrev pub IsFlag : Type 0 → ℕ → Type 0
IsFlag Holds byte = (byte ≤ 1) × ((byte ≡ 1) ↔ Holds)

-- the text and a zero byte after it are at the front of the buffer, and the rest of the buffer is unchanged
abbrev pub StandsIn : List ℕ → List ℕ → List ℕ → Type 0
StandsIn text before after = after ≡ text ++ 0 ∷ drop (length text + 1) before

-- the text is put into the buffer if the buffer has room for it and the zero byte; its length is written in either
-- case
abbrev pub PutsText : List ℕ → List ℕ × ℕ → List ℕ × ℕ → ℕ → Type 0
PutsText text before after code =
    (after.1 ≡ length text) × Needs (length text < length before.0) short_buffer
    (Writes (StandsIn text before.0)) before.0 after.0 code

-- the prefix length of a mask is written; `no_mask` if the address is not a mask
abbrev pub WritesPrefix : ℕ → ℕ → ℕ → ℕ → ℕ → Type 0
WritesPrefix w mask = Unless (IsFault no_mask (IsNoMask w mask)) (Writes (λ p. (p ≤ w) × (mask ≡ mask_of w p)))

-- `size` is the number of the network's members
abbrev pub HasSize : ℕ → Network → ℕ → Type 0
HasSize w n size = size ≡ length (members w n)

-- x is member number i of the network, counted from 0 in ascending order
abbrev pub IsNth : ℕ → Network → ℕ → ℕ → Type 0
IsNth w n i x = slice_get (members w n) i ≡ Some x

-- the octets of member number i are written; `no_member` if the network has at most i members
abbrev pub WritesMember : ℕ → (ℕ → List ℕ) → Network → ℕ → List ℕ → List ℕ → ℕ → Type 0
WritesMember w octets_of n i =
    IfFit (PrefixFits w n) (Finds (IsNth w n i) (IsFault no_member (length (members w n) ≤ i))
    (λ x. Writes (λ octets. octets ≡ octets_of x)))
