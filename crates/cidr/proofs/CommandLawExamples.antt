-- What can be concluded from the laws of commands, but not from weaker laws. Each law is cited by its name.
use Rattle.cidr.proofs.Words.{◌≡◌, ◌≢◌, ℕ, ◌+◌, ◌≤◌, List, [], ◌∷◌, ◌++◌, replicate, length, codes, refl, subst, arith, lit≤, lit<, decimal, NamesIp, canonical_ip, IsAddrAtMost, NamesV4, canonical_v4, canonical_v6, NamesV6, IpAddr, NamesV4Network, NamesV6Network, Network, Member, network_text, IsPrefixNumber, IsNoPrefixNumber, IsIpNetwork, IpMember, IpSubnet, IsIpMask, address_of, prefix_of, width_of, ip_members, NamesIpNetwork, ip_network_text, IpNetwork, V4, V6, HasWords, IsAnswered, Read4Law, Read6Law, ReadLaw, EndsLaw, Has4Law, HasLaw, RelLaw, AddLaw, DropLaw, FindLaw, UnknownLaw, LongLaw, MayGet, Add, Drop, Find, request_of, Routes, blank}
use Rattle.ipnetwork_addr.specs.declared.ip.IpAddr.TheVariants as addresses

-- count bytes `x`
abbrev xs : ℕ → List ℕ
xs count = replicate count 120

-- ---- `read4` and `read6`: prefix length 0, the last address, and each cause of a refusal; a line of 1,024 bytes

abbrev no_v4 : List ℕ → Type 0
no_v4 text = (a : ℕ) → ¬ (NamesV4 text a)

abbrev no_v6 : List ℕ → Type 0
no_v6 text = (a : ℕ) → ¬ (NamesV6 text a)

pub read4_networks : Read4Law → (n : Network)
    → (NamesV4Network (codes "0.0.0.0/0") n → IsAnswered (codes "read4 0.0.0.0/0") (network_text canonical_v4 n))
    × (NamesV4Network (codes "255.255.255.255") n
    → IsAnswered (codes "read4 255.255.255.255") (network_text canonical_v4 n))
read4_networks law n = (
  (law (codes "read4 0.0.0.0/0") (codes "0.0.0.0/0") (refl, lit≤ tt)).network n,
  (law (codes "read4 255.255.255.255") (codes "255.255.255.255") (refl, lit≤ tt)).network n,
)

pub read4_causes : Read4Law → (a : ℕ) → NamesV4 (codes "1.2.3.4") a
    → ((n : Network) → ¬ (NamesV4Network (codes "1.2.3.4/33") n)) → no_v4 (codes "::") → no_v4 (xs 1018)
    → IsAnswered (codes "read4 1.2.3.4/5/6") (codes "refused format")
    × IsAnswered (codes "read4 1.2.3.4/33") (codes "refused prefix")
    × IsAnswered (codes "read4 ::/33") (codes "refused address")
    × IsAnswered (codes "read4 " ++ xs 1018) (codes "refused address")
read4_causes law a named prefix six none = (
  (law (codes "read4 1.2.3.4/5/6") (codes "1.2.3.4/5/6") (refl, lit≤ tt)).format (lit≤ tt),
  (law (codes "read4 1.2.3.4/33") (codes "1.2.3.4/33") (refl, lit≤ tt)).prefix (lit≤ tt) a named prefix,
  (law (codes "read4 ::/33") (codes "::/33") (refl, lit≤ tt)).address (lit≤ tt) six,
  (law (codes "read4 " ++ xs 1018) (xs 1018) (refl, lit≤ tt)).address (lit≤ tt) none,
)

pub read6_networks : Read6Law → (n : Network)
    → (NamesV6Network (codes "::/0") n → IsAnswered (codes "read6 ::/0") (network_text canonical_v6 n))
    × (NamesV6Network (codes "ffff:ffff:ffff:ffff:ffff:ffff:255.255.255.255") n
    → IsAnswered (codes "read6 ffff:ffff:ffff:ffff:ffff:ffff:255.255.255.255") (network_text canonical_v6 n))
read6_networks law n = (
  (law (codes "read6 ::/0") (codes "::/0") (refl, lit≤ tt)).network n,
  (law (codes "read6 ffff:ffff:ffff:ffff:ffff:ffff:255.255.255.255")
      (codes "ffff:ffff:ffff:ffff:ffff:ffff:255.255.255.255") (refl, lit≤ tt)).network n,
)

pub read6_causes : Read6Law → (a : ℕ) → NamesV6 (codes "::") a → ((n : Network) → ¬ (NamesV6Network (codes "::/129") n))
    → no_v6 (codes "1.2.3.4") → no_v6 (xs 1018)
    → IsAnswered (codes "read6 ::/1/2") (codes "refused format")
    × IsAnswered (codes "read6 ::/129") (codes "refused prefix")
    × IsAnswered (codes "read6 1.2.3.4/129") (codes "refused address")
    × IsAnswered (codes "read6 " ++ xs 1018) (codes "refused address")
read6_causes law a named prefix four none = (
  (law (codes "read6 ::/1/2") (codes "::/1/2") (refl, lit≤ tt)).format (lit≤ tt),
  (law (codes "read6 ::/129") (codes "::/129") (refl, lit≤ tt)).prefix (lit≤ tt) a named prefix,
  (law (codes "read6 1.2.3.4/129") (codes "1.2.3.4/129") (refl, lit≤ tt)).address (lit≤ tt) four,
  (law (codes "read6 " ++ xs 1018) (xs 1018) (refl, lit≤ tt)).address (lit≤ tt) none,
)

-- ---- `read` and `ends`: networks of either family, prefix length 0, and a refused text in a line of 1,024 bytes

abbrev no_network : List ℕ → Type 0
no_network text = (n : IpNetwork) → ¬ (NamesIpNetwork text n)

pub read_of_either_family : ReadLaw → (four six : Network) → IsIpNetwork (V4 four) → IsIpNetwork (V6 six)
    → NamesIpNetwork (codes "0.0.0.0/0") (V4 four) → NamesIpNetwork (codes "::/0") (V6 six) → no_network (xs 1019)
    → IsAnswered (codes "read 0.0.0.0/0") (ip_network_text (V4 four)) × IsAnswered (codes "read ::/0")
    (ip_network_text (V6 six)) × IsAnswered (codes "read " ++ xs 1019) (codes "refused")
read_of_either_family law four six a b named also none =
    let one = (law (codes "read 0.0.0.0/0") (codes "0.0.0.0/0") (refl, lit≤ tt)).network (V4 four) a named in
    let two = (law (codes "read ::/0") (codes "::/0") (refl, lit≤ tt)).network (V6 six) b also in (
      subst (IsAnswered (codes "read 0.0.0.0/0")) one.1 one.2,
      subst (IsAnswered (codes "read ::/0")) two.1 two.2,
      (law (codes "read " ++ xs 1019) (xs 1019) (refl, lit≤ tt)).none none,
    )

-- the line gets the lowest and highest address, the mask and the number of members, or one less for all addresses of a
-- family
abbrev ends_are_told : List ℕ → IpNetwork → Type 0
ends_are_told line n = (least : IpAddr) × (greatest : IpAddr) × (mask : IpAddr) × (number : ℕ)
    × IsAnswered line (canonical_ip least ++ blank ∷ canonical_ip greatest ++ blank ∷ canonical_ip mask ++ blank
    ∷ decimal number)
    × IpMember n least × ((x : IpAddr) → IpMember n x → IsAddrAtMost least x) × IpMember n greatest
    × ((x : IpAddr) → IpMember n x → IsAddrAtMost x greatest)
    × IsIpMask mask (prefix_of n) × (width_of mask ≡ width_of (address_of n))
    × (prefix_of n ≢ 0 → length (ip_members n) ≡ number) × (prefix_of n ≡ 0 → length (ip_members n) ≡ number + 1)

told_of : EndsLaw → (line text : List ℕ) (n : IpNetwork) → HasWords line (codes "ends" ∷ text ∷ []) → IsIpNetwork n
    → NamesIpNetwork text n → ends_are_told line n
told_of law line text n cut good names =
    let told = (law line text cut).network n good names in
    let e = told.1 in (
      e.least,
      e.greatest,
      e.mask,
      e.number,
      subst (IsAnswered line) e.text told.2,
      e.is_least.0,
      e.is_least.1,
      e.is_greatest.0,
      e.is_greatest.1,
      e.is_mask.0,
      e.is_mask.1,
      e.is_number,
      e.is_one_less,
    )

pub ends_of_either_family : EndsLaw → (four six : Network) → IsIpNetwork (V4 four) → IsIpNetwork (V6 six)
    → NamesIpNetwork (codes "255.255.255.255") (V4 four) → NamesIpNetwork (codes "::/0") (V6 six) → no_network (xs 1019)
    → ends_are_told (codes "ends 255.255.255.255") (V4 four) × ends_are_told (codes "ends ::/0") (V6 six)
    × IsAnswered (codes "ends " ++ xs 1019) (codes "refused")
ends_of_either_family law four six a b named also none = (
  told_of law (codes "ends 255.255.255.255") (codes "255.255.255.255") (V4 four) (refl, lit≤ tt) a named,
  told_of law (codes "ends ::/0") (codes "::/0") (V6 six) (refl, lit≤ tt) b also,
  (law (codes "ends " ++ xs 1019) (xs 1019) (refl, lit≤ tt)).none none,
)

-- ---- `has4`, `has` and `rel`

pub has4_answers : Has4Law → (n m : Network) (a : ℕ) → NamesV4Network (codes "0.0.0.0/0") n
    → NamesV4Network (codes "10.0.0.5/8") m → NamesV4 (codes "255.255.255.255") a
    → Member 32 n a → ¬ (Member 32 m a) → ((k : Network) → ¬ (NamesV4Network (codes "::/0") k)) → no_v4 (codes "::")
    → no_v4 (xs 1009)
    → IsAnswered (codes "has4 0.0.0.0/0 255.255.255.255") (codes "yes")
    × IsAnswered (codes "has4 10.0.0.5/8 255.255.255.255") (codes "no")
    × IsAnswered (codes "has4 ::/0 ::") (codes "refused network")
    × IsAnswered (codes "has4 0.0.0.0/0 ::") (codes "refused address")
    × IsAnswered (codes "has4 0.0.0.0/0 " ++ xs 1009) (codes "refused address")
has4_answers law n m a all ten last is is_not other six none = (
  (law (codes "has4 0.0.0.0/0 255.255.255.255") (codes "0.0.0.0/0") (codes "255.255.255.255") (refl, lit≤ tt)).yes n a
      all last is,
  (law (codes "has4 10.0.0.5/8 255.255.255.255") (codes "10.0.0.5/8") (codes "255.255.255.255") (refl, lit≤ tt)).no m a
      ten last is_not,
  (law (codes "has4 ::/0 ::") (codes "::/0") (codes "::") (refl, lit≤ tt)).no_network other,
  (law (codes "has4 0.0.0.0/0 ::") (codes "0.0.0.0/0") (codes "::") (refl, lit≤ tt)).no_address n all six,
  (law (codes "has4 0.0.0.0/0 " ++ xs 1009) (codes "0.0.0.0/0") (xs 1009) (refl, lit≤ tt)).no_address n all none,
)

pub has_answers : HasLaw → (four six : Network) (a b : ℕ) → NamesIpNetwork (codes "0.0.0.0/0") (V4 four)
    → NamesIpNetwork (codes "::/0") (V6 six)
    → NamesIp (codes "255.255.255.255") (addresses.V4 a) → NamesIp (codes "::") (addresses.V6 b)
    → IpMember (V4 four) (addresses.V4 a) → IpMember (V6 six) (addresses.V6 b)
    → no_network (codes "::/129") → ((c : IpAddr) → ¬ (NamesIp (xs 1015) c))
    → IsAnswered (codes "has 0.0.0.0/0 255.255.255.255") (codes "yes") × IsAnswered (codes "has ::/0 ::") (codes "yes")
    × IsAnswered (codes "has 0.0.0.0/0 ::") (codes "no") × IsAnswered (codes "has ::/0 255.255.255.255") (codes "no")
    × IsAnswered (codes "has ::/129 ::") (codes "refused network")
    × IsAnswered (codes "has ::/0 " ++ xs 1015) (codes "refused address")
has_answers law four six a b all every last first is also other none = (
  (law (codes "has 0.0.0.0/0 255.255.255.255") (codes "0.0.0.0/0") (codes "255.255.255.255") (refl, lit≤ tt)).yes
      (V4 four) (addresses.V4 a) all last is,
  (law (codes "has ::/0 ::") (codes "::/0") (codes "::") (refl, lit≤ tt)).yes (V6 six) (addresses.V6 b)
      every first also,
  (law (codes "has 0.0.0.0/0 ::") (codes "0.0.0.0/0") (codes "::") (refl, lit≤ tt)).no (V4 four) (addresses.V6 b) all
      first (λ h. h),
  (law (codes "has ::/0 255.255.255.255") (codes "::/0") (codes "255.255.255.255") (refl, lit≤ tt)).no (V6 six)
      (addresses.V4 a) every last (λ h. h),
  (law (codes "has ::/129 ::") (codes "::/129") (codes "::") (refl, lit≤ tt)).no_network other,
  (law (codes "has ::/0 " ++ xs 1015) (codes "::/0") (xs 1015) (refl, lit≤ tt)).no_address (V6 six) every none,
)

-- `rel` by the sets, for each of the four answers
relates : RelLaw → (line text other : List ℕ) (a b : IpNetwork) → HasWords line (codes "rel" ∷ text ∷ other ∷ [])
    → IsIpNetwork a → IsIpNetwork b → NamesIpNetwork text a → NamesIpNetwork other b
    → (IpSubnet a b → IpSubnet b a → IsAnswered line (codes "same"))
    × (IpSubnet a b → ¬ (IpSubnet b a) → IsAnswered line (codes "inside"))
    × (¬ (IpSubnet a b) → IpSubnet b a → IsAnswered line (codes "around"))
    × (¬ (IpSubnet a b) → ¬ (IpSubnet b a) → IsAnswered line (codes "apart"))
relates law line text other a b cut good fine named also =
    let told = (law line text other cut).sets a b good fine named also in (
      λ in_other around. subst (IsAnswered line) (told.1.same.1 (in_other, around)) told.2,
      λ in_other around. subst (IsAnswered line) (told.1.inside.1 (in_other, around)) told.2,
      λ in_other around. subst (IsAnswered line) (told.1.around.1 (in_other, around)) told.2,
      λ in_other around. subst (IsAnswered line) (told.1.apart.1 (in_other, around)) told.2,
    )

pub rel_answers : RelLaw → (four six : IpNetwork) → IsIpNetwork four → IsIpNetwork six
    → NamesIpNetwork (codes "0.0.0.0/0") four → NamesIpNetwork (codes "::/0") six
    → ¬ (IpSubnet four six) → ¬ (IpSubnet six four) → IpSubnet six six → no_network (xs 1018) → no_network (xs 1015)
    → IsAnswered (codes "rel 0.0.0.0/0 ::/0") (codes "apart") × IsAnswered (codes "rel ::/0 ::/0") (codes "same")
    × IsAnswered (codes "rel " ++ xs 1018 ++ codes " x") (codes "refused")
    × IsAnswered (codes "rel ::/0 " ++ xs 1015) (codes "refused")
rel_answers law four six a b all every less more same none nothing = (
  (relates law (codes "rel 0.0.0.0/0 ::/0") (codes "0.0.0.0/0") (codes "::/0") four six (refl, lit≤ tt) a b all every).3
      less more,
  (relates law (codes "rel ::/0 ::/0") (codes "::/0") (codes "::/0") six six (refl, lit≤ tt) b b every every).0 same
      same,
  (law (codes "rel " ++ xs 1018 ++ codes " x") (xs 1018) (codes "x") (refl, lit≤ tt)).no_first none,
  (law (codes "rel ::/0 " ++ xs 1015) (codes "::/0") (xs 1015) (refl, lit≤ tt)).no_second nothing,
)

-- ---- `add`, `drop` and `find`: either family, the lowest and the greatest number

pub add_asks : AddLaw → (four six : Network) → NamesIpNetwork (codes "0.0.0.0/0") (V4 four) → NamesIpNetwork
    (codes "::/0") (V6 six) → IsPrefixNumber (codes "+0") 0 → IsPrefixNumber (codes "4294967295") 4294967295
    → IsNoPrefixNumber (codes "4294967296") 4294967295 → no_network (xs 1018)
    → (request_of (codes "add 0.0.0.0/0 +0") ≡ Add (V4 four) 0)
    × (request_of (codes "add ::/0 4294967295") ≡ Add (V6 six) 4294967295)
    × IsAnswered (codes "add ::/0 4294967296") (codes "refused")
    × IsAnswered (codes "add " ++ xs 1018 ++ codes " 1") (codes "refused")
add_asks law four six all every least greatest no_number none = (
  (law (codes "add 0.0.0.0/0 +0") (codes "0.0.0.0/0") (codes "+0") (refl, lit≤ tt)).asks (V4 four) 0 all
      least (lit≤ tt),
  (law (codes "add ::/0 4294967295") (codes "::/0") (codes "4294967295") (refl, lit≤ tt)).asks (V6 six) 4294967295 every
      greatest (lit≤ tt),
  (law (codes "add ::/0 4294967296") (codes "::/0") (codes "4294967296") (refl, lit≤ tt)).no_number no_number,
  (law (codes "add " ++ xs 1018 ++ codes " 1") (xs 1018) (codes "1") (refl, lit≤ tt)).no_network none,
)

pub drop_asks : DropLaw → (four six : Network) → NamesIpNetwork (codes "255.255.255.255") (V4 four)
    → NamesIpNetwork (codes "::/0") (V6 six) → no_network (xs 1019)
    → (request_of (codes "drop 255.255.255.255") ≡ Drop (V4 four)) × (request_of (codes "drop ::/0") ≡ Drop (V6 six))
    × IsAnswered (codes "drop " ++ xs 1019) (codes "refused")
drop_asks law four six last every none = (
  (law (codes "drop 255.255.255.255") (codes "255.255.255.255") (refl, lit≤ tt)).asks (V4 four) last,
  (law (codes "drop ::/0") (codes "::/0") (refl, lit≤ tt)).asks (V6 six) every,
  (law (codes "drop " ++ xs 1019) (xs 1019) (refl, lit≤ tt)).no_network none,
)

pub find_asks : FindLaw → (a b : ℕ) → NamesIp (codes "255.255.255.255") (addresses.V4 a)
    → NamesIp (codes "::") (addresses.V6 b) → ((c : IpAddr) → ¬ (NamesIp (xs 1019) c))
    → (request_of (codes "find 255.255.255.255") ≡ Find (addresses.V4 a)) × (request_of (codes "find ::") ≡ Find
    (addresses.V6 b)) × IsAnswered (codes "find " ++ xs 1019) (codes "refused")
find_asks law a b last first none = (
  (law (codes "find 255.255.255.255") (codes "255.255.255.255") (refl, lit≤ tt)).asks (addresses.V4 a) last,
  (law (codes "find ::") (codes "::") (refl, lit≤ tt)).asks (addresses.V6 b) first,
  (law (codes "find " ++ xs 1019) (xs 1019) (refl, lit≤ tt)).no_address none,
)

-- ---- other lines: no words, a name without a word, too many words; one byte more than 1,024

pub unknown_commands : UnknownLaw → IsAnswered [] (codes "unknown command")
    × IsAnswered (codes "read") (codes "unknown command")
    × IsAnswered (codes "add ::/0 1 ") (codes "unknown command") × IsAnswered (xs 1024) (codes "unknown command")
unknown_commands law = (
  law [] (lit≤ tt) (λ h. h),
  law (codes "read") (lit≤ tt) (λ h. h),
  law (codes "add ::/0 1 ") (lit≤ tt) (λ h. h),
  law (xs 1024) (lit≤ tt) (λ h. h),
)

-- whatever the routes are, the line gets exactly that answer and does not change them
pub too_long_a_line : LongLaw → (before after : Routes) (answer : List ℕ) → let line = codes "read " ++ xs 1020 in
    MayGet before (request_of line) (codes "line too long") before
    × (MayGet before (request_of line) answer after → (answer ≡ codes "line too long") × (after ≡ before))
too_long_a_line law before after answer =
    let line = codes "read " ++ xs 1020 in (
      (law line (lit< tt) before before (codes "line too long")).1 (refl, refl),
      (law line (lit< tt) before after answer).0,
    )

pub no_words_of_a_longer_line : (these : List (List ℕ)) → ¬ (HasWords (xs 1025) these)
no_words_of_a_longer_line these h = let short : 1025 ≤ 1024 = h.1 in omega arith
