-- Blocks collected in a list.
use Rattle.ipnetwork_sets.proofs.Words.{◌≡◌, ◌⊎◌, ◌+◌, ◌<◌, ◌≤◌, ℕ, arith, length, ap, sym, subst, ◌∙◌, List, [], ◌∷◌, ◌++◌, map, inl, inr, ⊎_elim, append_assoc, Result, Ok, Err, OnErr, append-nil, length-map, map-append, Network, IsLeastList, least_unique, IsAddressSet}
use Rattle.std.proofs.Common.{length-append}

-- the blocks collected and the blocks left are all blocks; once a block has been collected, all are known to be a set's
pub record IsCollected (w : ℕ) (items left all : List Network) : Type 0 where
  pub together : items ++ left ≡ all
  pub known : (items ≡ []) ⊎ IsAddressSet w all

pub collecting_starts : (w : ℕ) (items left : List Network) → items ≡ [] → IsCollected w items left left
collecting_starts w items left e = record { together = ap (λ l. l ++ left) e; known = inl e }

-- if the blocks left are those of a set, so are all blocks
pub all_are_set : (w : ℕ) (items left all : List Network) → IsCollected w items left all → IsAddressSet w left
    → IsAddressSet w all
all_are_set w items left all h set =
    ⊎_elim
    (λ (none : items ≡ []). subst (IsAddressSet w) (ap (λ l. l ++ left) (sym none) ∙ h.together) set)
    (λ (known : IsAddressSet w all). known)
    h.known

pub collecting_goes_on : {X : Type 0} (pair : X → Network) (w : ℕ) (items more : List X) (block : X)
    (left after all : List Network)
    → IsCollected w (map pair items) left all → IsAddressSet w left → left ≡ pair block ∷ after
    → more ≡ items ++ block ∷ [] → IsCollected w (map pair more) after all
collecting_goes_on pair w items more block left after all h set step e = record {
  together =
      ap (λ t. map pair t ++ after) e
      ∙ ap (λ t. t ++ after) (map-append pair items (block ∷ []))
      ∙ append_assoc (map pair items) (pair block ∷ []) after
      ∙ ap (λ t. map pair items ++ t) (sym step)
      ∙ h.together;
  known = inr (all_are_set w (map pair items) left all h set);
}

pub collecting_ends : (w : ℕ) (items left all : List Network) → IsCollected w items left all → left ≡ [] → items ≡ all
collecting_ends w items left all h none = sym (append-nil items) ∙ ap (λ t. items ++ t) (sym none) ∙ h.together

-- what is known if the list cannot grow
pub failed : {T E P : Type 0} (result : Result T E) → P → OnErr result P
failed (Ok value) p = tt
failed (Err error) p = p

-- a list without room for one more block has no room for all blocks
pub collecting_had_no_room : {X : Type 0} (pair : X → Network) (w : ℕ) (items : List X) (block : X)
    (left after all : List Network) (room capacity count : ℕ)
    → IsCollected w (map pair items) left all → left ≡ pair block ∷ after → count ≡ length items → room ≤ capacity
    → capacity ≤ count → room < length all
collecting_had_no_room pair w items block left after all room capacity count h step is le full =
    let parts : length (map pair items ++ left) ≡ length all = ap length h.together in
    omega (arith, parts, length-append (map pair items) left, length-map items pair, ap length step)

-- the same for blocks that follow others
pub pushing_had_no_room : {X : Type 0} (pair : X → Network) (w : ℕ) (S : ℕ → Type 0) (items before : List X) (block : X)
    (left after blocks others : List Network) (room capacity count old : ℕ)
    → map pair items ++ left ≡ map pair before ++ blocks → IsLeastList w S blocks → IsLeastList w S others
    → left ≡ pair block ∷ after
    → count ≡ length items → old ≡ length before → room ≤ capacity → capacity ≤ count → room < old + length others
pushing_had_no_room pair w S items before block left after blocks others room capacity count old e h k step is
    was le full =
    let parts : length (map pair items ++ left) ≡ length (map pair before ++ blocks) = ap length e in
    let same : length blocks ≡ length others = ap length (least_unique w S blocks others h k) in
    omega (
      arith,
      parts,
      same,
      length-append (map pair items) left,
      length-append (map pair before) blocks,
      length-map items pair,
      length-map before pair,
      ap length step,
    )
