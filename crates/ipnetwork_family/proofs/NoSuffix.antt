-- Why a text with an address before its slash names no network: the part after the slash is not a suffix.
use Rattle.ipnetwork_family.proofs.Words.{◌≡◌, ℕ, ◌⊎◌, inl, inr, List, ◌∷◌, ◌++◌, refl, sym, ap, ◌∙◌, subst, Network, slash, slashes, before_slash, HasNoSuffix, NamesNetwork, Alone, Suffixed}
use Rattle.ipnetwork_family.proofs.Slashes.{before_slash_cut, before_slash_whole, cut_or_none}

pub no_suffix : (w : ℕ) (N S : List ℕ → ℕ → Type 0) (text : List ℕ) (a : ℕ) → N (before_slash text) a
    → ((n : Network) → ¬ (NamesNetwork w N S text n))
    → HasNoSuffix S text
no_suffix w N S text a named none = go (cut_or_none text)
  where
    go : ((slashes text ≡ 0) ⊎ ((f s : List ℕ) × (text ≡ f ++ slash ∷ s) × (slashes f ≡ 0))) → HasNoSuffix S text
    go (inl clean) = absurd (none (record { address = a; prefix = w })
        (Alone (subst (λ (t : List ℕ). N t a) (before_slash_whole text clean) named) refl))
    go (inr (f, s, cut, clean)) =
        let front : before_slash text ≡ f = ap before_slash cut ∙ before_slash_cut f s clean in
        let address : N f a = subst (λ (t : List ℕ). N t a) front named in (
          s,
          cut ∙ ap (λ t. t ++ slash ∷ s) (sym front),
          λ p given. none (record { address = a; prefix = p }) (Suffixed f s cut address given),
        )
