-- The open blocks determine what a look-up finds.
use Rattle.ipnetwork_index.proofs.Words.{◌≡◌, ◌≢◌, ◌↔◌, Bool, false, IsTrue, ℕ, ◌+◌, ◌-◌, ◌<◌, ◌≤◌, List, [], ◌∷◌, ◌++◌, length, get_or, arith, sym, refl, ap, subst, ◌∙◌, ⊎_elim, Option, None, Some, is_some, slice_get, length-append, Contains, option_map, option_to_list, FinMap, get, entries, cases_lt, cases_eq, append-nil, length-map, get_or_append_left, get_or_default, get_or_push, Contains-append_cases, Contains-append_left, Contains-push, slice_get_within, slice_get-get_or, slice_get-map, slice_get_read, get_or_from_slice_get, Network, Member, low, high, network_cmp, size_pos, within_member, member_within, subnet_from, shares_address, contains_cons, contains_nil, ListedIsStored, StoredIsListed, EntriesAscend, WiderBlocksFirst, HasOnlyBlocks, IsLongest, NoneHolds, by_pair, Tells, AreListed, AreOpen, ArePlaces, KeepsOpen, NextIsAfter, LastEndsFrom, IsInnermost}
use Rattle.ipnetwork_index.proofs.Chains.{nested_more, same_item}
use Rattle.ipnetwork_index.proofs.Edging.{some_value}
use Rattle.ipnetwork_index.proofs.Searching.{at_most}
use Rattle.ipnetwork_index.proofs.Answering.{told, none_told}

-- what is read from a list of entries
pub entry_read : {N V : Type 0} (pair : N → Network) (xs : List (N × V)) (i : ℕ) (e : N × V)
    → i < length xs → e ≡ get_or xs i e → slice_get (by_pair pair xs) i ≡ Some (pair e.0, e.1)
entry_read pair xs i e l is =
    slice_get-map (λ d. (pair d.0, d.1)) xs i
    ∙ ap (option_map (λ d. (pair d.0, d.1))) (slice_get_read xs (length xs) i e refl l is)

pub entries_length : {N V : Type 0} (pair : N → Network) (xs : List (N × V))
    → length (by_pair pair xs) ≡ length xs
entries_length {N} {V} pair xs = length-map {B = Network × V} xs (λ d. (pair d.0, d.1))

-- the last of some places, as a call returns it
pub top_read : (opened seen : List ℕ) (copied last : Option ℕ) (j : ℕ) → seen ≡ opened
    → last ≡ slice_get seen (length seen - 1) → copied ≡ last → copied ≡ Some j
    → slice_get opened (length opened - 1) ≡ Some j
top_read opened seen copied last j same read is some =
    subst (λ (xs : List ℕ). slice_get xs (length xs - 1) ≡ Some j) same
    (sym read ∙ sym is ∙ some)

module _ {V : Type 0} (w : ℕ) (es : List (Network × V)) where
  -- ---- the steps of the sweep

  pub open_later : (count x y : ℕ) (opened : List ℕ) → AreOpen w es count x opened → x ≤ y
      → AreOpen w es count y opened
  open_later count x y opened h l = record {
    within = h.within;
    begun = λ j e k g. let b = h.begun j e k g in omega arith;
    each = h.each;
    ascending = h.ascending;
    kept = λ j e k g f. h.kept j e k g (omega arith);
    nested = h.nested;
  }

  opens : (count x : ℕ) (opened : List ℕ) (e : Network × V) → AreListed w es
      → AreOpen w es count x opened → LastEndsFrom w es (low w e.0) opened
      → slice_get es count ≡ Some e → low w e.0 ≤ x
      → AreOpen w es (count + 1) x (opened ++ count ∷ [])
  opens count x opened e listed h ends g from =
      let size : length (opened ++ count ∷ []) ≡ length opened + 1
      = length-append opened (count ∷ []) in
      let left : (k : ℕ) → k < length opened → get_or (opened ++ count ∷ []) k 0 ≡ get_or opened k 0
      = λ k l. get_or_append_left opened (count ∷ []) 0 k l in
      let last : (k : ℕ) → length opened ≡ k → get_or (opened ++ count ∷ []) k 0 ≡ count
      = λ k q. get_or_push opened count 0 k q in
      record {
        within = let own : count < length es = slice_get_within es count e g in omega arith;
        begun = λ j d l f. ⊎_elim
            (λ (early : j < count). h.begun j d early f)
            (λ (here : count ≤ j).
            let same : e ≡ d = same_item es count j e d (omega arith) g f in
            subst (λ (b : Network × V). low w b.0 ≤ x) same from)
            (cases_lt j count);
        each = λ k l. ⊎_elim
            (λ (early : k < length opened).
            let a = left k early in
            let b = h.each k early in
            omega arith)
            (λ (here : length opened ≤ k).
            let a = last k (omega arith) in
            omega arith)
            (cases_lt k (length opened));
        ascending = λ k m l n. ⊎_elim
            (λ (early : m < length opened).
            let a = left k (omega arith) in
            let b = left m early in
            let c = h.ascending k m l early in
            omega arith)
            (λ (here : length opened ≤ m).
            let a = left k (omega arith) in
            let b = last m (omega arith) in
            let c = h.each k (omega arith) in
            omega arith)
            (cases_lt m (length opened));
        kept = λ j d l f to. ⊎_elim
            (λ (early : j < count).
            Contains-append_left opened (count ∷ []) j (h.kept j d early f to))
            (λ (here : count ≤ j).
            let same : count ≡ j = omega arith in
            subst (λ (i : ℕ). Contains (opened ++ count ∷ []) i) same (Contains-push opened count))
            (cases_lt j count);
        nested = nested_more w es listed count x opened e h g ends;
      }

  pub closes : (count x j : ℕ) (opened rest : List ℕ) (e : Network × V)
      → AreOpen w es count x opened → opened ≡ rest ++ j ∷ [] → slice_get es j ≡ Some e
      → high w e.0 < x
      → AreOpen w es count x rest
  closes count x j opened rest e h is g before =
      let size : length opened ≡ length rest + 1 = ap length is ∙ length-append rest (j ∷ []) in
      let left : (k : ℕ) → k < length rest → get_or opened k 0 ≡ get_or rest k 0
      = λ k l. ap (λ xs. get_or xs k 0) is ∙ get_or_append_left rest (j ∷ []) 0 k l in
      record {
        within = h.within;
        begun = h.begun;
        each = λ k l.
            let a = left k l in
            let b = h.each k (omega arith) in
            omega arith;
        ascending = λ k m l n.
            let a = left k (omega arith) in
            let b = left m n in
            let c = h.ascending k m l (omega arith) in
            omega arith;
        kept = λ i d l f to. ⊎_elim
            (λ (in_rest : Contains rest i). in_rest)
            (λ (in_last : Contains (j ∷ []) i). ⊎_elim
            (λ (same : j ≡ i).
            let one : e ≡ d = same_item es j i e d same g f in
            let ends : high w d.0 < x = subst (λ (b : Network × V). high w b.0 < x) one before in
            absurd (omega arith))
            (λ (no : Contains [] i). absurd (contains_nil i no))
            (contains_cons j [] i in_last))
            (Contains-append_cases rest (j ∷ []) i (subst (λ (xs : List ℕ). Contains xs i) is
            (h.kept i d l f to)));
        nested = λ k m d f l n q r. h.nested k m d f l (omega arith)
            (ap (slice_get es) (left k (omega arith)) ∙ q)
            (ap (slice_get es) (left m n) ∙ r);
      }

-- the next block begins at `first`, and the blocks that end before that have been closed
pub opens_next : {N V : Type 0} (pair : N → Network) (w : ℕ) (xs : List (N × V))
    (count x first u v : ℕ) (b : Bool) (before opened : List ℕ) (e : N × V)
    → AreListed w (by_pair pair xs) → AreOpen w (by_pair pair xs) count x before
    → KeepsOpen w (by_pair pair xs) first before opened
    → LastEndsFrom w (by_pair pair xs) first opened
    → count < length xs → e ≡ get_or xs count e → first ≡ low w (pair (get_or xs count e).0)
    → (IsTrue b ↔ (u < v)) → b ≡ false → u ≡ x → v ≡ first
    → AreOpen w (by_pair pair xs) (count + 1) x (opened ++ count ∷ [])
opens_next pair w xs count x first u v b before opened e listed h keeps ends own is at t f p q =
    let le : v ≤ u = at_most b u v t f in
    let from : first ≤ x = omega arith in
    let begun : first ≡ low w (pair e.0)
    = subst (λ d. first ≡ low w (pair d.0)) (sym is) at in
    opens w (by_pair pair xs) count x opened (pair e.0, e.1) listed (keeps count x from h)
    (subst (λ (n : ℕ). LastEndsFrom w (by_pair pair xs) n opened) begun ends)
    (entry_read pair xs count e own is) (subst (λ (n : ℕ). n ≤ x) begun from)

-- ---- the last of the places

pub last_within : {V : Type 0} (es : List (Network × V)) (opened : List ℕ) (j : ℕ)
    → ArePlaces es opened → slice_get opened (length opened - 1) ≡ Some j → j < length es
last_within es opened j h g =
    let own : length opened - 1 < length opened
    = slice_get_within opened (length opened - 1) j g in
    let is : get_or opened (length opened - 1) 0 ≡ j
    = get_or_from_slice_get opened (length opened - 1) j 0 g in
    subst (λ (i : ℕ). i < length es) is (h (length opened - 1) own)

pub top_within : {N V : Type 0} (pair : N → Network) (xs : List (N × V)) (opened : List ℕ) (j : ℕ)
    → ArePlaces (by_pair pair xs) opened → slice_get opened (length opened - 1) ≡ Some j
    → j < length xs
top_within pair xs opened j h top =
    omega (arith, last_within (by_pair pair xs) opened j h top, entries_length pair xs)

-- the block that was opened last is at this place, and `end` is its last number
pub record IsTop {V : Type 0} (es : List (Network × V)) (w : ℕ) (opened : List ℕ) (j end : ℕ)
    : Type 0 where
  pub entry : Network × V
  pub last : slice_get opened (length opened - 1) ≡ Some j
  pub read : slice_get es j ≡ Some entry
  pub ends : end ≡ high w entry.0

pub top_is : {N V : Type 0} (pair : N → Network) (w : ℕ) (xs : List (N × V)) (opened : List ℕ)
    (j end : ℕ) (e : N × V)
    → ArePlaces (by_pair pair xs) opened → slice_get opened (length opened - 1) ≡ Some j
    → e ≡ get_or xs j e → end ≡ high w (pair (get_or xs j e).0)
    → IsTop (by_pair pair xs) w opened j end
top_is {N} {V} pair w xs opened j end e places last at ends = record {
  entry = (pair e.0, e.1);
  last = last;
  read = entry_read pair xs j e (top_within pair xs opened j places last) at;
  ends = subst (λ (d : N × V). end ≡ high w (pair d.0)) (sym at) ends;
}

pub places_popped : {V : Type 0} (es : List (Network × V)) (opened rest : List ℕ) (r : Option ℕ)
    → opened ≡ rest ++ option_to_list r → ArePlaces es opened → ArePlaces es rest
places_popped es opened rest r is h k l =
    let size : length opened ≡ length rest + length (option_to_list r)
    = ap length is ∙ length-append rest (option_to_list r) in
    let same : get_or opened k 0 ≡ get_or rest k 0
    = ap (λ xs. get_or xs k 0) is ∙ get_or_append_left rest (option_to_list r) 0 k l in
    subst (λ (i : ℕ). i < length es) same (h k (omega arith))

pub closes_popped : {V : Type 0} (w : ℕ) (es : List (Network × V)) (count x : ℕ)
    (opened rest : List ℕ) (r : Option ℕ) (j end : ℕ)
    → AreOpen w es count x opened → opened ≡ rest ++ option_to_list r
    → IsTop es w opened j end → end < x
    → AreOpen w es count x rest
closes_popped w es count x opened rest None j end h is top before =
    subst (λ (xs : List ℕ). AreOpen w es count x xs) (is ∙ append-nil rest) h
closes_popped w es count x opened rest (Some y) j end h is top before =
    let size : length opened ≡ length rest + 1 = ap length is ∙ length-append rest (y ∷ []) in
    let here : length rest ≡ length opened - 1 = omega arith in
    let last : get_or opened (length opened - 1) 0 ≡ y
    = ap (λ xs. get_or xs (length opened - 1) 0) is
    ∙ get_or_push rest y 0 (length opened - 1) here in
    let same : j ≡ y
    = sym (get_or_from_slice_get opened (length opened - 1) j 0 top.last) ∙ last in
    closes w es count x y opened rest top.entry h is (ap (slice_get es) (sym same) ∙ top.read)
    (omega (arith, top.ends))

pub last_ends : {V : Type 0} (w : ℕ) (es : List (Network × V)) (x : ℕ) (opened : List ℕ)
    (j end : ℕ)
    → IsTop es w opened j end → x ≤ end → LastEndsFrom w es x opened
last_ends {V} w es x opened j end top to = λ k e last f.
    let here : length opened - 1 ≡ k = omega arith in
    let is : j ≡ get_or opened k 0
    = sym (get_or_from_slice_get opened (length opened - 1) j 0 top.last)
    ∙ ap (λ i. get_or opened i 0) here in
    let one : top.entry ≡ e = same_item es j (get_or opened k 0) top.entry e is top.read f in
    subst (λ (b : Network × V). x ≤ high w b.0) one (omega (arith, top.ends))

pub open_places : {V : Type 0} (w : ℕ) (es : List (Network × V)) (count x : ℕ) (opened : List ℕ)
    → AreOpen w es count x opened → ArePlaces es opened
open_places w es count x opened h k l =
    let a = h.each k l in
    let b = h.within in
    omega arith

pub innermost_is : {V : Type 0} (es : List (Network × V)) (opened : List ℕ) (j prefix : ℕ)
    (n : Network) (value : V)
    → slice_get opened (length opened - 1) ≡ Some j → slice_get es j ≡ Some (n, value)
    → prefix ≡ n.prefix → IsInnermost es opened prefix value
innermost_is {V} es opened j prefix n value top g is =
    let own : length opened - 1 < length opened
    = slice_get_within opened (length opened - 1) j top in
    record {
      none = λ e. absurd (omega arith);
      some = λ k last.
          let here : length opened - 1 ≡ k = omega arith in
          let place : j ≡ get_or opened k 0
          = sym (get_or_from_slice_get opened (length opened - 1) j 0 top)
          ∙ ap (λ i. get_or opened i 0) here in
          (n, ap (slice_get es) (sym place) ∙ g, sym is);
    }

-- the entries of a table satisfy `AreListed`
pub entries_listed : {V : Type 0} (w : ℕ) (t : FinMap network_cmp V) (es : List (Network × V))
    → HasOnlyBlocks w t → ListedIsStored V → EntriesAscend V → es ≡ entries t → AreListed w es
entries_listed {V} w t es blocks stored ascend is =
    subst (λ (fs : List (Network × V)). AreListed w fs) (sym is) (record {
      blocks = λ i e g. blocks e.0 (ap is_some (stored t i e.0 e.1 g));
      ascending = λ i j d e g f l. ascend t i j d e g f l;
    })

-- ---- what is found

module _ {V : Type 0} (w : ℕ) (t : FinMap network_cmp V) (blocks : HasOnlyBlocks w t) (stored
    : ListedIsStored V) (listed : StoredIsListed V) (ascend : EntriesAscend V) (wider
    : WiderBlocksFirst V) (count x : ℕ) (opened : List ℕ) (h : AreOpen w (entries t) count x opened)
    (next : NextIsAfter w (entries t) count x) where
  -- each stored block that holds x has begun
  has_begun : (i : ℕ) (n : Network) (v : V) → slice_get (entries t) i ≡ Some (n, v) → Member w n x
      → i < count
  has_begun i n v g holds =
      let from : low w n ≤ x = (within_member w n x holds).0 in
      ⊎_elim
      (λ (l : i < count). l)
      (λ (beyond : count ≤ i).
      let own : i < length (entries t) = slice_get_within (entries t) i (n, v) g in
      let d : Network × V = get_or (entries t) count (n, v) in
      let at : slice_get (entries t) count ≡ Some d
      = slice_get-get_or (entries t) count (n, v) (omega arith) in
      let after : x < low w d.0 = next d at in
      ⊎_elim
      (λ (more : count < i).
      let b : d.0.address ≡ low w d.0
      = (blocks d.0 (ap is_some (stored t count d.0 d.1 at))).block in
      let c : n.address ≡ low w n = (blocks n (ap is_some (stored t i n v g))).block in
      ⊎_elim
      (λ (less : d.0.address < n.address). absurd (omega arith))
      (λ (tie : (d.0.address ≡ n.address) × (d.0.prefix < n.prefix)).
      let q = tie.0 in
      absurd (omega arith))
      (ascend t count i d (n, v) at g more))
      (λ (same : i ≤ count).
      let one : d ≡ (n, v) = same_item (entries t) count i d (n, v) (omega arith) at g in
      let past : x < low w n = subst (λ (b : Network × V). x < low w b.0) one after in
      absurd (omega arith))
      (cases_lt count i))
      (cases_lt i count)

  -- each stored block that holds x is open
  is_open : (i : ℕ) (n : Network) (v : V) → slice_get (entries t) i ≡ Some (n, v) → Member w n x
      → Contains opened i
  is_open i n v g holds =
      let to : x < low w n + _ = (within_member w n x holds).1 in
      h.kept i (n, v) (has_begun i n v g holds) g (omega arith)

  none_found : length opened ≡ 0 → NoneHolds w t x
  none_found empty n s holds =
      let v = some_value (get t n) s in
      let at = listed t n v.0 v.1 in
      let c = is_open at.0 n v.0 at.1 holds in
      let l = c.1 in
      absurd (omega arith)

  -- the last open block is the longest
  last_found : (k : ℕ) (n : Network) (value : V) → k + 1 ≡ length opened
      → slice_get (entries t) (get_or opened k 0) ≡ Some (n, value) → x ≤ high w n
      → IsLongest w t x n value
  last_found k n value last g to =
      let j : ℕ = get_or opened k 0 in
      let own : get t n ≡ Some value = stored t j n value g in
      let is = blocks n (ap is_some own) in
      let from : low w n ≤ x = h.begun j (n, value) (h.each k (omega arith)) g in
      let holds : Member w n x
      = member_within w n is.network x from (omega (arith, size_pos w n.prefix)) in
      record {
        stored = own;
        holds = holds;
        longest = λ m s inside.
            let v = some_value (get t m) s in
            let at = listed t m v.0 v.1 in
            let c = is_open at.0 m v.0 at.1 inside in
            let cl = c.1 in
            let is_m = blocks m s in
            let there : get_or opened c.0 0 ≡ at.0 = get_or_default opened c.0 0 at.0 c.1 ∙ c.2 in
            ⊎_elim
            (λ (less : c.0 < k).
            let before : get_or opened c.0 0 < j = h.ascending c.0 k less (omega arith) in
            ⊎_elim
            (λ (longer : n.prefix < m.prefix).
            absurd (wider w t at.0 j (m, v.0) (n, value) blocks at.1 g (omega arith)
            (subnet_from w m n is_m.network (omega arith)
            (shares_address w m n x (omega arith) is_m.network is.network inside holds))))
            (λ (le : m.prefix ≤ n.prefix). le)
            (cases_lt n.prefix m.prefix))
            (λ (here : k ≤ c.0).
            let same_place : c.0 ≡ k = omega arith in
            let one : (m, v.0) ≡ (n, value)
            = same_item (entries t) at.0 j (m, v.0) (n, value)
            (sym there ∙ ap (λ i. get_or opened i 0) same_place) at.1 g in
            let p : m.prefix ≡ n.prefix = ap (λ e. e.0.prefix) one in
            omega arith)
            (cases_lt c.0 k);
      }

  -- the last open block is what a look-up finds
  pub open_tells : (prefix : ℕ) (value : V) → w ≤ 128 → LastEndsFrom w (entries t) x opened
      → IsInnermost (entries t) opened prefix value → Tells w t x prefix value
  open_tells prefix value few ends inner =
      ⊎_elim
      (λ (empty : length opened ≡ 0).
      subst (λ (p : ℕ). Tells w t x p value) (sym (inner.none empty))
      (none_told w t x value (none_found empty)))
      (λ (some : length opened ≢ 0).
      let k : ℕ = length opened - 1 in
      let last : k + 1 ≡ length opened = omega arith in
      let own = inner.some k last in
      told w t x prefix own.0 value few blocks
      (last_found k own.0 value last own.1 (ends k (own.0, value) last own.1)) (sym own.2))
      (cases_eq (length opened) 0)

-- the same for a list that equals the entries
pub swept_tells : {V : Type 0} (w : ℕ) (t : FinMap network_cmp V) (es : List (Network × V))
    → HasOnlyBlocks w t → ListedIsStored V → StoredIsListed V → EntriesAscend V
    → WiderBlocksFirst V → es ≡ entries t → w ≤ 128
    → (count x : ℕ) (opened : List ℕ) (prefix : ℕ) (value : V)
    → AreOpen w es count x opened → NextIsAfter w es count x → LastEndsFrom w es x opened
    → IsInnermost es opened prefix value → Tells w t x prefix value
swept_tells {V} w t es blocks stored listed ascend wider is few count x opened prefix value =
    subst (λ (fs : List (Network × V)). AreOpen w fs count x opened → NextIsAfter w fs count x
    → LastEndsFrom w fs x opened → IsInnermost fs opened prefix value → Tells w t x prefix value)
    (sym is)
    (λ h next ends inner. open_tells w t blocks stored listed ascend wider count x opened h next
    prefix value few ends inner)
