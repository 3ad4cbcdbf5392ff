-- The list of a set after a change, and when it is longer than before.
use Rattle.ipnetwork_sets.proofs.Words.{◌≡◌, ℕ, ◌+◌, ◌<◌, ◌≤◌, ◌∙◌, inl, sym, ap, subst, arith, ⊎_elim, List, [], ◌∷◌, ◌++◌, length, map, take, drop, length-append, length-map, length-take-le, length-drop, Network, InUnion, LiesInUnion, IsLeastList, least_of_same, least_unique, IsAddressSet, MeetsUnion, InEither, InFirstAlone, HasRoom}
use Rattle.ipnetwork_sets.proofs.JoinedAround.{union_of_one_network}
use Rattle.ipnetwork_sets.proofs.RoomMade.{many_written, written_back}
use Rattle.ipnetwork_sets.proofs.SetLaws.{union_is_shortest, difference_is_shortest, least_is_set}

-- adding a network that lies in the set leaves the set unchanged
pub nothing_added : (w : ℕ) (bs : List Network) (n : Network) → IsAddressSet w bs → LiesInUnion w n bs
    → IsLeastList w (InEither w bs (n ∷ [])) bs
nothing_added w bs n h lies =
    least_of_same w (InUnion w bs) (InEither w bs (n ∷ [])) bs
    (λ x. (
      (λ c. inl c),
      (λ o. ⊎_elim (λ (c : InUnion w bs x). c) (λ (c : InUnion w (n ∷ []) x). lies x ((union_of_one_network w n x).0 c))
          o),
    ))
    h

-- removing a network that has no address in the set leaves the set unchanged
pub nothing_taken : (w : ℕ) (bs : List Network) (n : Network) → IsAddressSet w bs → ¬ (MeetsUnion w n bs)
    → IsLeastList w (InFirstAlone w bs (n ∷ [])) bs
nothing_taken w bs n h apart =
    least_of_same w (InUnion w bs) (InFirstAlone w bs (n ∷ [])) bs
    (λ x. ((λ c. (c, λ d. apart (x, (union_of_one_network w n x).0 d, c))), (λ p. p.0)))
    h

-- the list after a change is that of a set
pub added_is_set : (w : ℕ) (bs : List Network) (n : Network) (r : List Network)
    → IsLeastList w (InEither w bs (n ∷ [])) r → IsAddressSet w r
added_is_set w bs n r h = least_is_set w (InEither w bs (n ∷ [])) r h (union_is_shortest w bs (n ∷ []) r h)

pub left_is_set : (w : ℕ) (bs : List Network) (n : Network) (r : List Network)
    → IsLeastList w (InFirstAlone w bs (n ∷ [])) r → IsAddressSet w r
left_is_set w bs n r h = least_is_set w (InFirstAlone w bs (n ∷ [])) r h (difference_is_shortest w bs (n ∷ []) r h)

-- the list is longer if the block replaces no other
pub grew_by_one : (w : ℕ) (S : ℕ → Type 0) (bs r : List Network) (first behind : ℕ) (b : Network) → first ≤ behind
    → behind ≤ length bs
    → IsLeastList w S (take first bs ++ b ∷ drop behind bs) → IsLeastList w S r → behind < first + 1
    → length bs < length r
grew_by_one w S bs r first behind b le fits h k full =
    let same : length (take first bs ++ b ∷ drop behind bs) ≡ length r =
    ap length (least_unique w S (take first bs ++ b ∷ drop behind bs) r h k) in
    omega (
      arith,
      same,
      length-append (take first bs) (b ∷ drop behind bs),
      length-take-le first bs (omega arith),
      length-drop behind bs,
    )

-- ---- a network that shares an address with the set, and the `count` blocks left of those at `from..to`

pub record IsLeft (w : ℕ) (bs : List Network) (n : Network) (from to count : ℕ) (left : List Network) : Type 0 where
  pub ordered : from ≤ to
  pub within : to ≤ length bs
  pub long : length left ≡ count
  pub meets : MeetsUnion w n bs
  pub least : IsLeastList w (InFirstAlone w bs (n ∷ [])) (take from bs ++ left ++ drop to bs)

-- the list is longer if fewer than `count` blocks are replaced
pub grew_by_more : (w : ℕ) (bs r left : List Network) (n : Network) (from to count : ℕ)
    → IsLeft w bs n from to count left → IsLeastList w (InFirstAlone w bs (n ∷ [])) r
    → to < from + count → length bs < length r
grew_by_more w bs r left n from to count h k full =
    let same : length (take from bs ++ left ++ drop to bs) ≡ length r =
    ap length (least_unique w (InFirstAlone w bs (n ∷ [])) (take from bs ++ left ++ drop to bs) r h.least k) in
    let le = h.ordered in
    let fits = h.within in
    omega (
      arith,
      same,
      h.long,
      length-append (take from bs ++ left) (drop to bs),
      length-append (take from bs) left,
      length-take-le from bs (omega arith),
      length-drop to bs,
    )

-- once the blocks left are written to the room made for them, the list is that of the set without the network
pub left_written : {X : Type 0} (pair : X → Network) (w : ℕ) (n : Network) (items made written : List X)
    (from to count len : ℕ) (left : List Network) → IsLeft w (map pair items) n from to count left
    → HasRoom items from to count made → len ≡ length made → map pair written ≡ take from (map pair made) ++ left
    ++ drop (from + length left) (map pair made)
    → IsLeastList w (InFirstAlone w (map pair items) (n ∷ []))
    (map pair (take len (written ++ drop (length written) made)))
left_written pair w n items made written from to count len left h room all is =
    let fits = h.within in
    let back = written_back pair made written from len left all
    (omega (arith, h.long, room.size, length-map items pair)) is in
    subst (IsLeastList w (InFirstAlone w (map pair items) (n ∷ [])))
    (sym (ap (map pair) back ∙ many_written pair items made written from to count left room h.long is)) h.least
