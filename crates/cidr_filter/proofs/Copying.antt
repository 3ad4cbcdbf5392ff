-- Lines that are copied into the output before it is known whether they are selected.
use Rattle.cidr_filter.proofs.Words.{◌≡◌, ◌↔◌, ℕ, ◌≤◌, ◌∙◌, Bool, true, false, cond, not, List, [], ◌∷◌, length, refl, sym, ap, subst, arith, inl, true≢false, Option, None, Some, IfSome, IsTrue, option_map, beq, option_to_list, IpAddr, Spelled, spelled, part_of, picked_in, each_in, spelled_in, Area, Pick, found_in, judged, IsVerdict, IsVerdictOfAddresses, FirstListed, TellsBlock, addresses_in, is_of, of_family, HasAddress, IsIn, OfForms, address_named, asked, reads_networks, ip_network_of, if◌then◌else◌, ◌&&◌, HasOnly, IsSelectedByAddress, Filter, Matcher, Addresses, Sets}
use Rattle.line_addresses.specs.declared.area.Pick.TheVariants as picks
use Rattle.cidr_filter.specs.declared.filter.Verdict.TheVariants as verdicts

-- ---- the address that is looked for

abbrev IsOnly : List Spelled → IpAddr → Type 0
IsOnly found address = (text : List ℕ) × (found ≡ record { text = text; address = address } ∷ [])

one_found : (one : Option Spelled) (found : Option IpAddr) → found ≡ option_map (λ (s : Spelled). s.address) one
    → IfSome found (IsOnly (option_to_list one))
one_found None found e = subst (λ (o : Option IpAddr). IfSome o (IsOnly [])) (sym e) tt
one_found (Some one) found e = subst (λ (o : Option IpAddr). IfSome o (IsOnly (one ∷ []))) (sym e) (one.text, refl)

whole_found : (part : Option (List ℕ)) (found : Option IpAddr) → found ≡ option_map (λ (s : Spelled). s.address)
    (picked_in false picks.Whole part) → IfSome found (IsOnly (each_in false picks.Whole part))
whole_found None found e = one_found None found e
whole_found (Some text) found e = one_found (spelled text) found e

pub only_found : (area : Area) (line : List ℕ) → area.pick ≡ picks.Whole → (found : Option IpAddr)
    → found ≡ found_in area line → IfSome found (HasOnly area line)
only_found area line is found e =
    let part = part_of area.part line in
    subst (λ (p : Pick). IfSome found (IsOnly (each_in false p part))) (sym is)
    (whole_found part found (e ∙ ap (λ (p : Pick). option_map (λ (s : Spelled). s.address) (picked_in false p part))
    is))

-- the only address, if it counts
pub only_counted : (area : Area) (line : List ℕ) → area.pick ≡ picks.Whole → (found : Option IpAddr)
    → found ≡ found_in area line → (Counts : IpAddr → Type 0) (result : Option IpAddr)
    → IfSome result (λ one. (found ≡ Some one) × Counts one) → IfSome result (λ one. HasOnly area line one × Counts one)
only_counted area line is found e Counts None h = tt
only_counted area line is found e Counts (Some one) h =
    (subst (λ (o : Option IpAddr). IfSome o (HasOnly area line)) h.0 (only_found area line is found e), h.1)

-- ---- whether a line is selected

unlike_true : (inverts : Bool) → not (beq true inverts) ≡ not inverts
unlike_true true = refl
unlike_true false = refl

unlike_false : (inverts : Bool) → not (beq false inverts) ≡ inverts
unlike_false true = refl
unlike_false false = refl

module _ (filter : Filter) (before : ℕ) (line : List ℕ) (sets : Sets) (address : IpAddr)
    (short : length line ≤ 1048576) (is : filter.listed ≡ Addresses sets)
    (only : HasOnly filter.area (judged before line) address)
    (counts : is_of filter.family (asked filter.mapped address) address ≡ true) where
  abbrev one : Spelled
  one = record { text = only.0; address = address }

  alone : addresses_in filter (judged before line) ≡ one ∷ []
  alone =
      ap (of_family filter) (ap (λ (l : Matcher). spelled_in (reads_networks l) filter.area (judged before line)) is
      ∙ only.1)
      ∙ ap (λ b. cond b (one ∷ []) []) (ap (λ (l : Matcher). is_of filter.family
      (if reads_networks l && filter.mapped then address_named address (ip_network_of only.0)
      else asked filter.mapped address) address) is ∙ counts)

  inside : OfForms filter.mapped (HasAddress sets) address → IsVerdict filter before line (verdicts.Inside None)
  inside has = (
    short,
    subst (λ (l : List Spelled). FirstListed filter l None) (sym alone)
        (inl (
          subst (λ (l : Matcher). IsIn l filter.mapped one) (sym is) has,
          subst (λ (l : Matcher). TellsBlock l filter.mapped address None) (sym is) refl,
        )),
  )

  outside : ¬ (OfForms filter.mapped (HasAddress sets) address) → IsVerdict filter before line verdicts.Outside
  outside none = (
    short,
    subst (λ (l : List Spelled). IsVerdictOfAddresses filter l verdicts.Outside) (sym alone)
        (omega arith, ((λ h. none (subst (λ (l : Matcher). IsIn l filter.mapped one) is h)), tt)),
  )

  pub by_address : (is_in : Bool) → IsTrue is_in ↔ OfForms filter.mapped (HasAddress sets) address
      → IsSelectedByAddress filter before line (not (beq is_in filter.inverts))
  by_address true h = (verdicts.Inside None, inside (h.0 refl), refl, (λ seen. refl), unlike_true filter.inverts)
  by_address false h =
      (verdicts.Outside, outside (λ a. true≢false (sym (h.1 a))), refl, (λ seen. refl), unlike_false filter.inverts)
