-- The first dot or colon of a network text, and the family that the text can belong to.
use Rattle.ipnetwork.proofs.Words.{◌≡◌, ℕ, Bool, true, false, true≢false, List, [], ◌∷◌, ◌++◌, sym, ap, ◌∙◌, append-nil, colon_first, Network, slash, NamesNetwork, Alone, Suffixed, NamesV4, NamesV6, NamesV4Network, IsV4Suffix, NamesV6Network, IsV6Suffix, IpNetwork, V4, V6, NamesIpNetwork}

-- the first dot or colon of a network text is that of its address
first_mark : (w : ℕ) (Names IsSuffix : List ℕ → ℕ → Type 0) (mark : Bool)
    → ((text rest : List ℕ) (address : ℕ) → Names text address → colon_first (text ++ rest) ≡ mark)
    → (text : List ℕ) (n : Network) → NamesNetwork w Names IsSuffix text n → colon_first text ≡ mark
first_mark w Names IsSuffix mark law text n (Alone named full) = ap colon_first (sym (append-nil text))
    ∙ law text [] n.address named
first_mark w Names IsSuffix mark law text n (Suffixed address suffix cut named given) = ap colon_first cut
    ∙ law address (slash ∷ suffix) n.address named

-- a text with a colon first names no network if it names no IPv6 network
pub none_with_colon : ((text rest : List ℕ) (address : ℕ) → NamesV4 text address → colon_first (text ++ rest) ≡ false)
    → (text : List ℕ) → colon_first text ≡ true → ((n : Network) → ¬ (NamesV6Network text n)) → (n : IpNetwork)
    → ¬ (NamesIpNetwork text n)
none_with_colon law text colon none (V4 n) named =
    true≢false (sym colon ∙ first_mark 32 NamesV4 IsV4Suffix false law text n named)
none_with_colon law text colon none (V6 n) named = none n named

-- a text with no colon first names no network if it names no IPv4 network
pub none_without_colon : ((text rest : List ℕ) (address : ℕ) → NamesV6 text address → colon_first (text ++ rest) ≡ true)
    → (text : List ℕ) → colon_first text ≡ false → ((n : Network) → ¬ (NamesV4Network text n)) → (n : IpNetwork)
    → ¬ (NamesIpNetwork text n)
none_without_colon law text no_colon none (V4 n) named = none n named
none_without_colon law text no_colon none (V6 n) named =
    true≢false (sym (first_mark 128 NamesV6 IsV6Suffix true law text n named) ∙ no_colon)
