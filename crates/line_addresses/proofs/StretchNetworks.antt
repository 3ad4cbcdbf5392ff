-- The network of a stretch.
use Rattle.line_addresses.proofs.Words.{◌≡◌, ℕ, ◌-◌, ◌<◌, Bool, true, false, cond, not, List, ◌∷◌, length, take, None, Some, refl, sym, ap, ◌∙◌, arith, true≢false, ◌||◌, nat_lt, position_or_len, take-length, eq-eqb, ne_eqb, position_or_len_is, IsAbsent, IsNext, IpAddr, ends_with_mark, or_else, with_text, is_run_byte, is_slash, is_stretch_byte, has_slash, named_network, spelled_network, network_before_mark, network_begun_by, network_in, behind_word, IsPicked, Shows, Found}
use Rattle.std.specs.Prelude.{◌&&◌}

-- ---- the index of the first `/`

abbrev by_place : List ℕ → ℕ → Bool
by_place text place = nat_lt 0 place && nat_lt place (length text)

pub slash_at : (text : List ℕ) (at : ℕ) → IsNext 47 text 0 at → nat_lt 0 at ≡ has_slash text
slash_at text at next =
    let place : position_or_len is_slash text ≡ at =
    position_or_len_is is_slash text at 0 (omega (arith, next.within))
    (λ k below. ne_eqb _ _ (next.between k (omega arith) below)) (λ below. eq-eqb _ _ next.there) in
    within (nat_lt 0 at) (nat_lt at (length text)) (below_told at (length text) next.within)
    ∙ sym (ap (by_place text) place)
  where
    within : (a b : Bool) → b ≡ true → a ≡ (a && b)
    within true b e = sym e
    within false b e = refl

    below_told : (m n : ℕ) → m < n → nat_lt m n ≡ true
    below_told m n h = grind (arith, h)

pub no_slash : (text : List ℕ) → IsAbsent 47 text 0 (length text) → false ≡ has_slash text
no_slash text absent =
    let place : position_or_len is_slash text ≡ length text =
    position_or_len_is is_slash text (length text) 0 (omega arith)
    (λ k below. ne_eqb _ _ (absent k (omega arith) below)) (λ below. absurd (omega arith)) in
    sym (ap (by_place text) place ∙ at_end (length text))
  where
    at_end : (n : ℕ) → (nat_lt 0 n && nat_lt n n) ≡ false
    at_end n = grind arith

-- a text that begins with a `/` does not pass `has_slash`
pub slash_first : (byte : ℕ) (rest : List ℕ) → is_slash byte ≡ true → has_slash (byte ∷ rest) ≡ false
slash_first byte rest is =
    let place : position_or_len is_slash (byte ∷ rest) ≡ 0 = position_or_len_is is_slash (byte ∷ rest) 0 0 (omega arith)
    (λ k below. absurd (omega (arith, below))) (λ below. is) in
    ap (by_place (byte ∷ rest)) place

-- ---- the network of a stretch

pub none_without : (stretch : List ℕ) → has_slash stretch ≡ false → network_in stretch ≡ None
unfolding network_in
none_without stretch none =
    ap (λ b. cond b (or_else (network_begun_by stretch) (network_begun_by (behind_word stretch))) None) none

module _ (stretch : List ℕ) (has : has_slash stretch ≡ true) where
  with_slash : network_in stretch ≡ or_else (network_begun_by stretch) (network_begun_by (behind_word stretch))
  unfolding network_in
  with_slash = ap (λ b. cond b (or_else (network_begun_by stretch) (network_begun_by (behind_word stretch))) None) has

  -- the network of a stretch is the one that begins it, else the one after a word
  pub network_begins : (found : Found) → IsPicked (network_begun_by stretch) stretch found
      → IsPicked (network_in stretch) stretch found
  network_begins found picked = record {
    ordered = picked.ordered;
    within = picked.within;
    is = with_slash ∙ ap (λ o. or_else o (network_begun_by (behind_word stretch))) picked.is;
  }

  pub network_begins_behind : (found : Found) → network_begun_by stretch ≡ None
      → IsPicked (network_begun_by (behind_word stretch)) stretch found → IsPicked (network_in stretch) stretch found
  network_begins_behind found none picked = record {
    ordered = picked.ordered;
    within = picked.within;
    is = with_slash ∙ ap (λ o. or_else o (network_begun_by (behind_word stretch))) none ∙ picked.is;
  }

  pub no_network_begins : network_begun_by stretch ≡ None
      → network_in stretch ≡ network_begun_by (behind_word stretch)
  no_network_begins none = with_slash ∙ ap (λ o. or_else o (network_begun_by (behind_word stretch))) none

module _ (stretch : List ℕ) where
  pub whole : (address : IpAddr) → named_network stretch ≡ Some address
      → Shows (network_begun_by stretch) stretch address (length stretch)
  unfolding network_begun_by
  whole address named = record {
    within = omega arith;
    is = ap (λ found. or_else (with_text stretch found) (network_before_mark stretch)) named
        ∙ ap (λ text. Some (record { text = text; address = address })) (sym (take-length stretch));
  }

  unnamed : named_network stretch ≡ None → network_begun_by stretch ≡ network_before_mark stretch
  unfolding network_begun_by
  unnamed none = ap (λ found. or_else (with_text stretch found) (network_before_mark stretch)) none

  pub marked : (address : IpAddr) → named_network stretch ≡ None → ends_with_mark stretch ≡ true
      → named_network (take (length stretch - 1) stretch) ≡ Some address
      → Shows (network_begun_by stretch) stretch address (length stretch - 1)
  marked address none ends named = record {
    within = omega arith;
    is = unnamed none ∙ ap (λ b. cond b (spelled_network (take (length stretch - 1) stretch)) None) ends
        ∙ ap (with_text (take (length stretch - 1) stretch)) named;
  }

  pub no_mark : named_network stretch ≡ None → ends_with_mark stretch ≡ false → network_begun_by stretch ≡ None
  no_mark none ends = unnamed none ∙ ap (λ b. cond b (spelled_network (take (length stretch - 1) stretch)) None) ends

  pub no_rest : named_network stretch ≡ None → named_network (take (length stretch - 1) stretch) ≡ None
      → network_begun_by stretch ≡ None
  no_rest none rest = unnamed none ∙ none_if (ends_with_mark stretch)
    where
      none_if : (b : Bool) → cond b (spelled_network (take (length stretch - 1) stretch)) None ≡ None
      none_if true = ap (with_text (take (length stretch - 1) stretch)) rest
      none_if false = refl

-- a stretch byte that is not a run byte is a `/`
pub slash_left : (byte : ℕ) → not (is_stretch_byte byte) ≡ false → not (is_run_byte byte) ≡ true → is_slash byte ≡ true
slash_left byte within other = left (is_run_byte byte) (is_slash byte) within other
  where
    left : (a b : Bool) → not (a || b) ≡ false → not a ≡ true → b ≡ true
    left true b p q = absurd (true≢false (sym q))
    left false true p q = refl
    left false false p q = absurd (true≢false p)
