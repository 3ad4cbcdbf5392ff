-- What is printed of networks, one after the other.
use Rattle.cidr_info.proofs.Words.{◌≡◌, ◌<◌, ◌+◌, ◌&&◌, ◌∙◌, ℕ, Bool, true, false, List, ◌++◌, refl, sym, ap, append-nil, length, drop, get_or, at_drop_more, Option, None, Some, is_none, IpNetwork, Form, separator, info_text, infos_from, if_some, networks_in}

-- those of a text, and those of the texts after it
pub infos_more : (is_first : Bool) (form : Form) (network : Option IpNetwork) (networks : List IpNetwork)
    → infos_from is_first form (if_some network ++ networks)
    ≡ infos_from is_first form (if_some network) ++ infos_from (is_first && is_none network) form networks
infos_more true form None networks = refl
infos_more false form None networks = refl
infos_more true form (Some network) networks =
    ap (λ (t : List ℕ). t ++ infos_from false form networks)
    (sym (append-nil (separator true form ++ info_text form network)))
infos_more false form (Some network) networks =
    ap (λ (t : List ℕ). t ++ infos_from false form networks)
    (sym (append-nil (separator false form ++ info_text form network)))

-- a text, and those after it
pub networks_at : (all : List (Option IpNetwork)) (i : ℕ) (network : Option IpNetwork) → i < length all → network
    ≡ get_or all i network
    → networks_in (drop i all) ≡ if_some network ++ networks_in (drop (i + 1) all)
networks_at all i network within is =
    at_drop_more networks_in all i network within
    ∙ ap (λ (n : Option IpNetwork). if_some n ++ networks_in (drop (i + 1) all)) (sym is)
