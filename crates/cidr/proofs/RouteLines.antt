-- What `add`, `drop` and `find` do, in terms of networks and sets.
use Rattle.cidr.proofs.Words.{◌≡◌, ◌≢◌, ℕ, inl, inr, List, [], ◌∷◌, Option, None, Some, codes, is_some, refl, sym, ap, ◌∙◌, subst, arith, IsSome, FinMap, get, get-empty, lines, none-some, IpAddr, SameSet, BlockHasSameSet, Network, IsNetwork, HostBitsAreZero, Subnet, Member, block_of, network_cmp, IsIpNetwork, IpMember, IpSubnet, AreApart, address_of, prefix_of, ip_low, IpNetwork, V4, V6, InsertSetsOne, RemoveTakesOne, Answers, HasNoHostBits, AddLaw, DropLaw, FindLaw, of_family, found_text, IsBeginning, added, dropped, MayGet, MayAnswer, reply, replies, RunsOut, IsOutput, Request, Add, Drop, Find, Plain, request_of, Renumbers, GetsAdd, New, Changed, OutOfMemory, AddsGet, GetsDrop, Dropped, Absent, DropsGet, GetsFind, Longest, Nothing, FindsGet, FirstFindsNothing, FirstDropsNothing, FirstAddsNew, Routes, no_routes, number_at, with_number, without}
use Rattle.std.proofs.Common.{◌⊎◌}
use Rattle.ipnetwork_addr.specs.declared.ip.IpAddr.TheVariants as addresses
use Rattle.cidr.proofs.Computed.{leaves, next_keys}
use Rattle.cidr.proofs.Keys.{KeyLaws, HasClearKeys, no_keys}

-- ---- one block gets a number or loses it

-- from before to after, the block of n gets this number, or loses its number, and all else stays the same
abbrev IsPut : ℕ → FinMap network_cmp ℕ → Network → Option ℕ → FinMap network_cmp ℕ → Type 0
IsPut w before n number after = (get after (block_of w n) ≡ number)
    × ((q : Network) → q ≢ block_of w n → get after q ≡ get before q)

module _ (one_set : SameSet) (w : ℕ) (before after : FinMap network_cmp ℕ) (n : Network) (number : Option ℕ)
    (put : IsPut w before n number after) (m : Network)
    (fits : IsNetwork w n) (fits_too : IsNetwork w m) where
  put_same : Subnet w m n × Subnet w n m → get after (block_of w m) ≡ number
  put_same same =
      let parts = (one_set w m n fits_too fits).0 same in
      let block : block_of w m ≡ block_of w n = λ i. record { address = parts.1 i; prefix = parts.0 i } in
      ap (get after) block ∙ put.0

  put_other : ¬ (Subnet w m n × Subnet w n m) → get after (block_of w m) ≡ get before (block_of w m)
  put_other apart =
      put.1 (block_of w m) (λ block.
      apart ((one_set w m n fits_too fits).1 (ap (λ k. k.prefix) block, ap (λ k. k.address) block)))

-- networks of different families are apart
abbrev pub FamiliesApart : Type 0
FamiliesApart = (a b : Network) → IsNetwork 32 a → IsNetwork 128 b → AreApart (V4 a) (V6 b)

within_v4 : (a b : Network) → Subnet 32 a b → IpSubnet (V4 a) (V4 b)
within_v4 a b inside (addresses.V4 x) member = inside x member
within_v4 a b inside (addresses.V6 x) member = member

within_v6 : (a b : Network) → Subnet 128 a b → IpSubnet (V6 a) (V6 b)
within_v6 a b inside (addresses.V4 x) member = member
within_v6 a b inside (addresses.V6 x) member = inside x member

module _ (one_set : SameSet) (apart : FamiliesApart) (before after : Routes) (n : Network) (number : Option ℕ) where
  module _ (fits : IsNetwork 32 n) (put : IsPut 32 before.v4 n number after.v4) (rest : after.v6 ≡ before.v6) where
    same_v4 : (m : IpNetwork) → IsIpNetwork m → IpSubnet m (V4 n) × IpSubnet (V4 n) m → number_at after m ≡ number
    same_v4 (V4 m) fits_too same =
        put_same one_set 32 before.v4 after.v4 n number put m fits fits_too
        (λ x member. same.0 (addresses.V4 x) member, λ x member. same.1 (addresses.V4 x) member)
    same_v4 (V6 m) fits_too same = absurd ((apart n m fits fits_too).not_around same.0)

    other_v4 : (m : IpNetwork) → IsIpNetwork m → ¬ (IpSubnet m (V4 n) × IpSubnet (V4 n) m)
        → number_at after m ≡ number_at before m
    other_v4 (V4 m) fits_too other =
        put_other one_set 32 before.v4 after.v4 n number put m fits fits_too
        (λ same. other (within_v4 m n same.0, within_v4 n m same.1))
    other_v4 (V6 m) fits_too other = ap (λ t. get t (block_of 128 m)) rest

    renumbers_v4 : Renumbers before (V4 n) number after
    renumbers_v4 = record { same = same_v4; others = other_v4 }

  module _ (fits : IsNetwork 128 n) (put : IsPut 128 before.v6 n number after.v6) (rest : after.v4 ≡ before.v4) where
    same_v6 : (m : IpNetwork) → IsIpNetwork m → IpSubnet m (V6 n) × IpSubnet (V6 n) m → number_at after m ≡ number
    same_v6 (V4 m) fits_too same = absurd ((apart m n fits_too fits).not_inside same.0)
    same_v6 (V6 m) fits_too same =
        put_same one_set 128 before.v6 after.v6 n number put m fits fits_too
        (λ x member. same.0 (addresses.V6 x) member, λ x member. same.1 (addresses.V6 x) member)

    other_v6 : (m : IpNetwork) → IsIpNetwork m → ¬ (IpSubnet m (V6 n) × IpSubnet (V6 n) m)
        → number_at after m ≡ number_at before m
    other_v6 (V4 m) fits_too other = ap (λ t. get t (block_of 32 m)) rest
    other_v6 (V6 m) fits_too other =
        put_other one_set 128 before.v6 after.v6 n number put m fits fits_too
        (λ same. other (within_v6 m n same.0, within_v6 n m same.1))

    renumbers_v6 : Renumbers before (V6 n) number after
    renumbers_v6 = record { same = same_v6; others = other_v6 }

module _ (one_set : SameSet) (apart : FamiliesApart) (sets : InsertSetsOne ℕ) (takes : RemoveTakesOne ℕ) where
  numbered : (before : Routes) (n : IpNetwork) (number : ℕ) → IsIpNetwork n
      → Renumbers before n (Some number) (with_number before n number)
  numbered before (V4 n) number fits =
      renumbers_v4 one_set apart before (with_number before (V4 n) number) n (Some number) fits
      (sets before.v4 (block_of 32 n) number) refl
  numbered before (V6 n) number fits =
      renumbers_v6 one_set apart before (with_number before (V6 n) number) n (Some number) fits
      (sets before.v6 (block_of 128 n) number) refl

  unnumbered : (before : Routes) (n : IpNetwork) → IsIpNetwork n → Renumbers before n None (without before n)
  unnumbered before (V4 n) fits = renumbers_v4 one_set apart before (without before (V4 n)) n None fits
      (takes before.v4 (block_of 32 n)) refl
  unnumbered before (V6 n) fits = renumbers_v6 one_set apart before (without before (V6 n)) n None fits
      (takes before.v6 (block_of 128 n)) refl

  -- ---- `add` and `drop`

  pub adds_get : AddsGet
  adds_get before after n number answer fits (inl gets) =
      let put : Renumbers before n (Some number) after =
      subst (λ (s : Routes). Renumbers before n (Some number) s) (sym gets.1) (numbered before n number fits) in
      elim (number_at before n) as (λ o. number_at before n ≡ o → answer ≡ added o
      → GetsAdd before n number answer after) [
        | None ↦ λ had is. New had is put
        | Some old ↦ λ had is. Changed old had is put
      ] refl gets.0
  adds_get before after n number answer fits (inr out) = OutOfMemory out.0 out.1 out.2

  pub drops_get : DropsGet
  drops_get before after n answer fits (inl gets) =
      let put : Renumbers before n None after = subst (λ (s : Routes). Renumbers before n None s) (sym gets.1)
      (unnumbered before n fits) in
      elim (number_at before n) as (λ o. number_at before n ≡ o → answer ≡ dropped o → GetsDrop before n answer after) [
        | None ↦ λ had is. Absent had is put
        | Some old ↦ λ had is. Dropped old had is put
      ] refl gets.0
  drops_get before after n answer fits (inr out) = absurd out

-- ---- `find`

stays : (r s : Routes) (q : Request) (x : List ℕ) → RunsOut r q x s → s ≡ r
stays r s (Add n v) x out = out.2
stays r s (Drop n) x out = absurd out
stays r s (Find a) x out = absurd out
stays r s (Plain y) x out = absurd out

module _ (laws : KeyLaws) where
  one_step : (r s : Routes) (q : Request) (x : List ℕ) → HasClearKeys r → MayGet r q x s → HasClearKeys s
  one_step r s q x keys (inl gets) = subst HasClearKeys (sym (leaves r s q x gets)) (next_keys laws r q keys)
  one_step r s q x keys (inr out) = subst HasClearKeys (sym (stays r s q x out)) keys

  -- no key of the routes that lines leave has host bits
  left_keys : (r s : Routes) (ls xs : List (List ℕ)) → HasClearKeys r → MayAnswer r ls xs s → HasClearKeys s
  left_keys r s [] [] keys turns = subst HasClearKeys (sym turns) keys
  left_keys r s [] (x ∷ xs) keys turns = absurd turns
  left_keys r s (l ∷ ls) [] keys turns = absurd turns
  left_keys r s (l ∷ ls) (x ∷ xs) keys turns =
      left_keys turns.0 s ls xs (one_step r turns.0 (request_of l) x keys turns.1) turns.2

-- a network without host bits is its block
own_block : (w : ℕ) (n : Network) → HostBitsAreZero w n → block_of w n ≡ n
own_block w n block = λ i. record { address = sym block i; prefix = n.prefix }

module _ (one_set : BlockHasSameSet) (routes : Routes) (a : ℕ) where
  -- a network that has a number and contains the address, given by its block in its family's table
  abbrev IsHeld : ℕ → FinMap network_cmp ℕ → IpNetwork → Type 0
  IsHeld w table m = (n : Network) × IsSome (get table n) × Member w n a × (prefix_of m ≡ n.prefix)

  held_v4 : (m : IpNetwork) → IsSome (number_at routes m) → IpMember m (addresses.V4 a) → IsHeld 32 routes.v4 m
  held_v4 (V4 m) some member = (block_of 32 m, some, (one_set 32 m a).1 member, refl)
  held_v4 (V6 m) some member = absurd member

  held_v6 : (m : IpNetwork) → IsSome (number_at routes m) → IpMember m (addresses.V6 a) → IsHeld 128 routes.v6 m
  held_v6 (V4 m) some member = absurd member
  held_v6 (V6 m) some member = (block_of 128 m, some, (one_set 128 m a).1 member, refl)

  found_in : (w : ℕ) (table : FinMap network_cmp ℕ) (family : Network → IpNetwork) (address : IpAddr)
      → ((m : IpNetwork) → IsSome (number_at routes m) → IpMember m address → IsHeld w table m)
      → ((n : Network) → (number_at routes (family n) ≡ get table (block_of w n))
      × (HostBitsAreZero w n → address_of (family n) ≡ ip_low (family n))
      × (Member w n a → IpMember (family n) address) × (prefix_of (family n) ≡ n.prefix))
      → (answer : List ℕ) → HasNoHostBits w table → (block : Option (Network × ℕ)) → Answers w table a block
      → answer ≡ found_text (of_family family block)
      → GetsFind routes address answer
  found_in w table family address held kin answer keys None none is =
      Nothing (λ m some member. let h = held m some member in none h.0 h.1 h.2) is
  found_in w table family address held kin answer keys (Some found) best is =
      let block : HostBitsAreZero w found.0 = keys found.0 (ap is_some best.stored) in
      let k = kin found.0 in
      Longest (family found.0) found.1 (k.0 ∙ ap (get table) (own_block w found.0 block) ∙ best.stored) (k.1 block)
      (k.2 best.holds)
      (λ m some member. let h = held m some member in omega (arith, h.3, k.3, best.longest h.0 h.1 h.2)) is

pub finds_get : BlockHasSameSet → KeyLaws → FindsGet
finds_get one_set laws before after (addresses.V4 a) answer left (inl gets) =
    let found = gets.0.1 in (
      found_in one_set before a 32 before.v4 V4 (addresses.V4 a) (held_v4 one_set before a)
          (λ n. (refl, λ block. ap addresses.V4 block, λ member. member, refl))
          answer (left_keys laws no_routes before left.0 left.1 (no_keys laws) left.2).0 found.0 found.1
          (gets.0.2 ∙ ap found_text found.2),
      gets.1,
    )
finds_get one_set laws before after (addresses.V6 a) answer left (inl gets) =
    let found = gets.0.1 in (
      found_in one_set before a 128 before.v6 V6 (addresses.V6 a) (held_v6 one_set before a)
          (λ n. (refl, λ block. ap addresses.V6 block, λ member. member, refl))
          answer (left_keys laws no_routes before left.0 left.1 (no_keys laws) left.2).1 found.0 found.1
          (gets.0.2 ∙ ap found_text found.2),
      gets.1,
    )
finds_get one_set laws before after a answer left (inr out) = absurd out

-- ---- the first line

-- the first line gets its answer with no routes, and the output begins with it
abbrev First : List ℕ → List ℕ → Type 0
First line output = (x : List ℕ) × (after : Routes) × MayGet no_routes (request_of line) x after
    × IsBeginning (reply x) output

first_turn : (line : List ℕ) (others xs : List (List ℕ)) (output : List ℕ) (after : Routes)
    → MayAnswer no_routes (line ∷ others) xs after → output ≡ replies xs → First line output
first_turn line others [] output after turns is = absurd turns
first_turn line others (x ∷ xs) output after turns is = (x, turns.0, turns.1, (replies xs, is))

first_line : (input output line : List ℕ) (others : List (List ℕ)) → IsOutput input output → lines input ≡ line ∷ others
    → First line output
first_line input output line others h cut =
    first_turn line others h.1.0 output h.0 (subst (λ (ls : List (List ℕ)). MayAnswer no_routes ls h.1.0 h.0) cut h.1.1)
    h.1.2

-- if the first line makes this request, and the request has only one answer, the output begins with that answer
begins : (line output text : List ℕ) (q : Request) → First line output → request_of line ≡ q
    → ((x : List ℕ) (after : Routes) → MayGet no_routes q x after → x ≡ text) → IsBeginning (reply text) output
begins line output text q first asks one =
    subst (λ (x : List ℕ). IsBeginning (reply x) output)
    (one first.0 first.1 (subst (λ (p : Request). MayGet no_routes p first.0 first.1) asks first.2)) first.3

no_number : (n : IpNetwork) → number_at no_routes n ≡ None
no_number (V4 n) = get-empty network_cmp (block_of 32 n)
no_number (V6 n) = get-empty network_cmp (block_of 128 n)

finds_nothing : FindsGet → (a : IpAddr) (x : List ℕ) (after : Routes) → MayGet no_routes (Find a) x after
    → x ≡ codes "none"
finds_nothing finds a x after gets = told (finds no_routes after a x ([], [], refl) gets).0
  where
    told : GetsFind no_routes a x → x ≡ codes "none"
    told (Longest n number had block holds longest is) = absurd (none-some number (sym (no_number n) ∙ had))
    told (Nothing none is) = is

pub first_find : FindLaw → FindsGet → FirstFindsNothing
first_find law finds input output line word others a h cut words names =
    begins line output (codes "none") (Find a) (first_line input output line others h cut)
    ((law line word words).asks a names) (finds_nothing finds a)

drops_nothing : (n : IpNetwork) (x : List ℕ) (after : Routes) → MayGet no_routes (Drop n) x after → x ≡ codes "absent"
drops_nothing n x after (inl gets) = gets.0 ∙ ap dropped (no_number n)
drops_nothing n x after (inr out) = absurd out

pub first_drop : DropLaw → FirstDropsNothing
first_drop law input output line text others n h cut words names =
    begins line output (codes "absent") (Drop n) (first_line input output line others h cut)
    ((law line text words).asks n names) (drops_nothing n)

adds_new : (n : IpNetwork) (number : ℕ) (x : List ℕ) (after : Routes) → MayGet no_routes (Add n number) x after
    → (x ≡ codes "new") ⊎ (x ≡ codes "out of memory")
adds_new n number x after (inl gets) = inl (gets.0 ∙ ap added (no_number n))
adds_new n number x after (inr out) = inr out.1

pub first_add : AddLaw → FirstAddsNew
first_add law input output line text word others n number h cut words names is fits =
    let first = first_line input output line others h cut in
    let gets = subst (λ (p : Request). MayGet no_routes p first.0 first.1)
    ((law line text word words).asks n number names is fits) first.2 in
    elim (adds_new n number first.0 first.1 gets) [
      | inl new ↦ inl (subst (λ (x : List ℕ). IsBeginning (reply x) output) new first.3)
      | inr out ↦ inr (subst (λ (x : List ℕ). IsBeginning (reply x) output) out first.3)
    ]
