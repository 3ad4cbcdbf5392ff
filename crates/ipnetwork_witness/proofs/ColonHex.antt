-- IPv6: this library's grammar and std's spell the same groups.
use Rattle.ipnetwork_witness.proofs.Words.{◌≡◌, ℕ, zero, suc, ◌-◌, ◌^◌, ◌<◌, ◌≤◌, Bool, true, false, List, [], ◌∷◌, ◌++◌, length, replicate, refl, sym, ap, subst, arith, lit≤, inl, inr, ◌∙◌, length-append, length-replicate, pow-le-pow_right, digits_value-lt, number_from_digits, AllBelowBase, IsGroup, IsGroupsAfter, IsColonHex, colon, NamesV6}
use Rattle.std.specs.Net.Addr.{segments_of}
use Rattle.ipnetwork_witness.proofs.Bridge.{Bridge}
use Rattle.ipnetwork_witness.proofs.Colons.{plain_groups, ended_groups, groups_plain, groups_ended}

-- ---- eight groups of 16 bits

group_fits : (text : List ℕ) (group : ℕ) → IsGroup text group → group < 2 ^ 16
group_fits text group h =
    let most : 16 ^ length text ≤ 16 ^ 4 = pow-le-pow_right {n = 16} (lit≤ tt) h.1 in
    omega (arith, most, digits_value-lt 16 text h.0.0.1, h.0.1)

groups_fit : (ipv4 : Bool) (lead text groups : List ℕ) → IsGroupsAfter ipv4 lead text groups
    → AllBelowBase (2 ^ 16) groups
groups_fit ipv4 lead text [] h = tt
groups_fit ipv4 lead text (g ∷ groups) (inl h) = (group_fits h.0 g h.3, groups_fit ipv4 (colon ∷ []) h.1 groups h.4)
groups_fit ipv4 lead text (g ∷ groups) (inr h) =
    let d = h.4 in
    subst (AllBelowBase (2 ^ 16)) (sym (h.5 ∙ ap segments_of d.value))
    (omega (arith, d.fit.0, d.fit.1), (omega (arith, d.fit.2, d.fit.3), tt))

fit_append : (xs ys : List ℕ) → AllBelowBase (2 ^ 16) xs → AllBelowBase (2 ^ 16) ys → AllBelowBase (2 ^ 16) (xs ++ ys)
fit_append [] ys h k = k
fit_append (x ∷ xs) ys h k = (h.0, fit_append xs ys h.1 k)

fit_zeros : (n : ℕ) → AllBelowBase (2 ^ 16) (replicate n 0)
fit_zeros zero = tt
fit_zeros (suc n) = (lit≤ tt, fit_zeros n)

fits : (text groups : List ℕ) → IsColonHex text groups → (length groups ≡ 8) × AllBelowBase (2 ^ 16) groups
fits text groups (inl h) = (h.1, groups_fit true [] text groups h.0)
fits text groups (inr h) =
    let gap : ℕ = 8 - length h.head - length h.tail in
    let front : List ℕ = h.head ++ replicate gap 0 in
    let front_fit = fit_append h.head (replicate gap 0) (groups_fit false [] h.head_text h.head h.head_groups)
    (fit_zeros gap) in
    rw h.value (
      omega (
        arith,
        h.room,
        length-append front h.tail,
        length-append h.head (replicate gap 0),
        length-replicate {A = ℕ} gap 0,
      ),
      fit_append front h.tail front_fit (groups_fit true [] h.tail_text h.tail h.tail_groups),
    )

-- ---- the two grammars

to_spelled : (text : List ℕ) (address : ℕ) → NamesV6 text address → (groups : List ℕ) × IsColonHex text groups
    × (address ≡ number_from_digits (2 ^ 16) groups)
to_spelled text address (inl h) = (h.groups, inl (ended_groups text h.groups h.ended, h.eight), h.value)
to_spelled text address (inr h) =
    let gap : h.missing ≡ 8 - length h.high - length h.low = omega (arith, h.eight) in (
      h.high ++ replicate h.missing 0 ++ h.low,
      inr (record {
        head_text = h.before;
        tail_text = h.behind;
        head = h.high;
        tail = h.low;
        spelled = h.split;
        head_groups = plain_groups h.before h.high h.high_groups;
        tail_groups = ended_groups h.behind h.low h.low_groups;
        room = omega (arith, h.some_missing, h.eight);
        value = ap (λ n. h.high ++ replicate n 0 ++ h.low) gap;
      }),
      h.value,
    )

to_named : (text groups : List ℕ) → IsColonHex text groups → NamesV6 text (number_from_digits (2 ^ 16) groups)
to_named text groups (inl h) =
    inl (record { groups = groups; ended = groups_ended text groups h.0; eight = h.1; value = refl })
to_named text groups (inr h) = inr (record {
  before = h.head_text;
  behind = h.tail_text;
  high = h.head;
  low = h.tail;
  missing = 8 - length h.head - length h.tail;
  split = h.spelled;
  high_groups = groups_plain h.head_text h.head h.head_groups;
  low_groups = groups_ended h.tail_text h.tail h.tail_groups;
  some_missing = omega (arith, h.room);
  eight = omega (arith, h.room);
  value = ap (number_from_digits (2 ^ 16)) h.value;
})

pub v6_bridge : Bridge (2 ^ 16) 8 NamesV6 IsColonHex
v6_bridge = record { some = lit≤ tt; to_spelled = to_spelled; to_named = to_named; fits = fits }
