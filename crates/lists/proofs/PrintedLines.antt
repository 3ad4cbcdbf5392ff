-- The lines that are printed for networks, in each form, and how they are read.
use Rattle.lists.proofs.Words.{◌≡◌, ◌≢◌, ◌∙◌, ◌-◌, ◌+◌, ◌<◌, ◌≤◌, ◌==◌, inl, inr, ℕ, Bool, false, cond, not, List, [], ◌∷◌, ◌++◌, refl, sym, ap, subst, arith, if◌then◌else◌, length, take, drop, codes, length-append, append_assoc, take_all, AllByRecursion, position_or_len, prefix_len, suffix_len, suffix_len_is, before_first, ne_eqb, Some, Ok, Digit, UpperHex, LowerHex, Dot, Colon, IsNetworkByte, ip_network_text, slash, decimal, canonical_v4, canonical_v6, slice_index, get_or, get_or-append_right, get_or-append_seam, take_at, drop-append_seam, IpNetwork, NamesIpNetwork, IsIpNetwork, HasDash, NamesEntry, is_dash, is_blank, is_word_byte, is_comma, trimmed, without_end, after_word, second_field, csv_line, without_comma, ReadsCsv, PrintedLinesAreRead}
use Rattle.ipnetwork_family.specs.Family.{Family, v4_family, v6_family}
use Rattle.ipnetwork_family.specs.Network.{high, low}
use Rattle.ipnetwork.specs.declared.ip_network.IpNetwork.TheVariants.{V4, V6}
use Rattle.lists.proofs.PlainTexts.{absent, all_as, all_at, neither}
use Rattle.lists.specs.declared.entry.Entry.TheVariants as entries

-- ---- bytes

-- greater than a blank, a comma and a `-`
abbrev IsHigh : ℕ → Type 0
IsHigh x = 46 ≤ x

of_network : (x : ℕ) → IsNetworkByte x → IsHigh x
of_network x (inl (Digit from to)) = omega arith
of_network x (inl (UpperHex from to)) = omega arith
of_network x (inl (LowerHex from to)) = omega arith
of_network x (inl (Dot is)) = omega arith
of_network x (inl (Colon is)) = omega arith
of_network x (inr is) = omega arith

not_blank : (x : ℕ) → IsHigh x → is_blank x ≡ false
not_blank x high = neither _ _ (ne_eqb x 32 (λ e. omega arith)) (ne_eqb x 9 (λ e. omega arith))

no_dash : (text : List ℕ) → AllByRecursion IsHigh text → ¬ (HasDash text)
no_dash text h dash =
    absurd (omega (arith, dash, absent is_dash IsHigh (λ x high. ne_eqb x 45 (λ e. omega arith)) text h))

-- ---- comma-separated values

at_comma : (text others : List ℕ) → AllByRecursion IsHigh text
    → position_or_len is_comma (text ++ 44 ∷ others) ≡ length text
at_comma [] others h = refl
at_comma (x ∷ text) others h =
    ap (λ v. cond (not v) (1 + position_or_len is_comma (text ++ 44 ∷ others)) 0) (ne_eqb x 44 (λ e. omega (arith, e, h.0)))
    ∙ (omega (arith, at_comma text others h.1))

up_to_comma : (text others : List ℕ) → AllByRecursion IsHigh text
    → before_first is_comma (text ++ 44 ∷ others) ≡ text
up_to_comma text others h =
    ap (λ n. take n (text ++ 44 ∷ others)) (at_comma text others h) ∙ take_at text (44 ∷ others) (length text) refl

field : (text low high : List ℕ) → AllByRecursion IsHigh text
    → before_first is_comma (text ++ codes "," ++ low ++ codes "," ++ high) ≡ text
field text low high h =
    ap (before_first is_comma) (append_assoc (text ++ codes "," ++ low) (codes ",") high
    ∙ append_assoc (text ++ codes ",") low (codes "," ++ high)
    ∙ append_assoc text (codes ",") (low ++ (codes "," ++ high)))
    ∙ up_to_comma text (low ++ (codes "," ++ high)) h

network_field : (n : IpNetwork) → AllByRecursion IsHigh (ip_network_text n) → second_field (csv_line n) ≡ ip_network_text n
network_field (V4 n) h = field (ip_network_text (V4 n)) (v4_family.canonical (low 32 n)) (v4_family.canonical (high 32 n)) h
network_field (V6 n) h = field (ip_network_text (V6 n)) (v6_family.canonical (low 128 n)) (v6_family.canonical (high 128 n)) h

-- ---- nftables

no_comma : (text : List ℕ) → AllByRecursion IsHigh text → slice_index text (length text - 1) ≢ 44
no_comma [] h e = absurd (omega (arith, e))
no_comma (x ∷ text) h e =
    absurd (omega (arith, e, all_at IsHigh (x ∷ text) (length (x ∷ text) - 1) 0 h (omega arith)))

last_kept : (text : List ℕ) → AllByRecursion IsHigh text → without_comma text ≡ text
last_kept text h =
    ap (λ (v : Bool). if v then take (length text - 1) text else text)
    (ne_eqb (slice_index text (length text - 1)) 44 (no_comma text h))

comma_dropped : (text : List ℕ) → without_comma (text ++ 44 ∷ []) ≡ text
comma_dropped text =
    let all = text ++ 44 ∷ [] in
    let count : length all - 1 ≡ length text = omega (arith, length-append text (44 ∷ [])) in
    ap (λ v. if v == 44 then take (length all - 1) all else all)
    (ap (λ n. get_or all n 0) count ∙ get_or-append_seam text 44 [] 0)
    ∙ ap (λ n. take n all) count ∙ take_at text (44 ∷ []) (length text) refl

-- ---- ipset

-- a text after a blank, that neither begins nor ends with one
trim_is : (text : List ℕ) → prefix_len is_blank text ≡ 0 → suffix_len is_blank text ≡ 0 → trimmed (32 ∷ text) ≡ text
trim_is text front end =
    ap (λ n. without_end is_blank (drop (1 + n) (32 ∷ text))) front
    ∙ ap (λ n. take (length text - n) text) end
    ∙ take_all (length text - 0) text (omega arith)

no_front : (text : List ℕ) → AllByRecursion IsHigh text → prefix_len is_blank text ≡ 0
no_front [] h = refl
no_front (x ∷ text) h = ap (λ v. cond v (1 + prefix_len is_blank text) 0) (not_blank x h.0)

no_end : (before text : List ℕ) → 0 < length text → AllByRecursion IsHigh text → suffix_len is_blank (before ++ text) ≡ 0
no_end before text some h =
    let all = before ++ text in
    let count = length-append before text in
    let last = get_or-append_right before text (length before) (length all - 1) 0 refl (omega (arith, count, some)) in
    let byte = all_at IsHigh text (length all - 1 - length before) 0 h (omega (arith, count, some)) in
    let is = suffix_len_is is_blank all (length all) 0 (omega arith)
    (λ k above below. absurd (omega (arith, above, below)))
    (λ _. ap is_blank last ∙ not_blank _ byte) in
    omega (arith, is)

name_end : (name text : List ℕ) → AllByRecursion (λ x. is_blank x ≡ false) name
    → prefix_len is_word_byte (name ++ 32 ∷ text) ≡ length name
name_end [] text h = refl
name_end (x ∷ name) text h =
    ap (λ v. cond (not v) (1 + prefix_len is_word_byte (name ++ 32 ∷ text)) 0) h.0
    ∙ (omega (arith, name_end name text h.1))

module _ (byte : ℕ) (name text : List ℕ) (named : AllByRecursion (λ x. is_blank x ≡ false) (byte ∷ name))
    (some : 0 < length text) (h : AllByRecursion IsHigh text) where
  behind_name : after_word (byte ∷ name ++ codes " " ++ text) ≡ text
  behind_name =
      ap after_word (append_assoc (byte ∷ name) (codes " ") text)
      ∙ ap (λ n. trimmed (drop n ((byte ∷ name) ++ 32 ∷ text))) (name_end (byte ∷ name) text named)
      ∙ ap trimmed (drop-append_seam (byte ∷ name) (32 ∷ text))
      ∙ trim_is text (no_front text h) (no_end [] text some h)

  behind_command : trimmed (32 ∷ ((byte ∷ name) ++ codes " " ++ text)) ≡ (byte ∷ name) ++ codes " " ++ text
  behind_command =
      trim_is ((byte ∷ name) ++ codes " " ++ text)
      (ap (λ v. cond v (1 + prefix_len is_blank (name ++ codes " " ++ text)) 0) named.0)
      (no_end ((byte ∷ name) ++ codes " ") text some h)

  pub element_text : after_word (after_word (codes "add " ++ (byte ∷ name) ++ codes " " ++ text)) ≡ text
  element_text = ap after_word behind_command ∙ behind_name

-- ---- the law

not_empty : (n : IpNetwork) → 0 < length (ip_network_text n)
not_empty (V4 n) = omega (arith, length-append (canonical_v4 n.address) (slash ∷ decimal n.prefix))
not_empty (V6 n) = omega (arith, length-append (canonical_v6 n.address) (slash ∷ decimal n.prefix))

csv_read : (n : IpNetwork) → AllByRecursion IsHigh (ip_network_text n) → NamesIpNetwork (ip_network_text n) n
    → ReadsCsv (csv_line n) (Ok (Some (entries.Network n)))
csv_read (V4 n) h named = (subst (λ t. NamesIpNetwork t (V4 n)) (sym (network_field (V4 n) h)) named, refl)
csv_read (V6 n) h named = (subst (λ t. NamesIpNetwork t (V6 n)) (sym (network_field (V6 n) h)) named, refl)

pub printed_lines : ((n : IpNetwork) → IsIpNetwork n → AllByRecursion IsNetworkByte (ip_network_text n))
    → ((n : IpNetwork) → IsIpNetwork n → NamesIpNetwork (ip_network_text n) n) → PrintedLinesAreRead
printed_lines bytes names n is =
    let text = ip_network_text n in
    let h = all_as IsNetworkByte IsHigh of_network text (bytes n is) in
    let entry : NamesEntry text (entries.Network n) = (no_dash text h, names n is) in (
      csv_read n h (names n is),
      subst (λ t. NamesEntry t (entries.Network n)) (sym (last_kept text h)) entry,
      subst (λ t. NamesEntry t (entries.Network n)) (sym (comma_dropped text)) entry,
      λ byte name named. subst (λ t. NamesEntry t (entries.Network n))
          (sym (element_text byte name text named (not_empty n) h)) entry,
    )
