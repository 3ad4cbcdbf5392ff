-- How the networks of a list are numbered, and what the number that is found stands for.
use Rattle.cidr_join.proofs.Words.{◌≡◌, ℕ, zero, suc, ◌==◌, Bool, true, false, cond, List, [], ◌∷◌, ◌++◌, length, ◌⊎◌, inl, inr, refl, sym, ap, subst, ◌∙◌, slice_get, IsSome, Result, Ok, Err, IfOk, vec_len, if◌then◌else◌, flat_map, FinMap, get, insert, empty, get-empty, get-insert, eq_by_cmp, eq_by_cmp_equiv, flat_map-append, none-some, IpNetwork, Network, HostBitsAreZero, block_of, network_cmp, HasOnlyBlocks, same_value, listed_is_stored, stored_is_listed, total, one_network, tie_of, Finds, FindsBy, IsLongestOver, NoneHasAll, Values, answers_by, named, named_by, AreNumbered, AddsNumbers, AnswersOver, founds_of, NumbersRoutes, IsNumbering, StandsFor, StandsForEither, asked_network, found_by, number_or_none, Found, Join, ValueIds, Routes, Value}
use Rattle.std.proofs.Common.{Option, None, Some, is_some}
use Rattle.std.specs.Prelude.{map}
use Rattle.std.specs.FinMap.{entries}
use Rattle.ipnetwork.specs.declared.ip_network.IpNetwork.TheVariants as families
use Rattle.cidr_join.specs.declared.answers.Answers.TheVariants as answers
use Rattle.cidr_join.specs.declared.answers.Answers.{Answers as Answering}
use Rattle.cidr_join.specs.declared.found.Found.TheVariants as prints

-- ---- lists

pub get_front : {X : Type 0} (xs ys : List X) (i : ℕ) (x : X) → slice_get xs i ≡ Some x
    → slice_get (xs ++ ys) i ≡ Some x
get_front [] ys i x at = absurd (none-some x at)
get_front (y ∷ xs) ys zero x at = at
get_front (y ∷ xs) ys (suc i) x at = get_front xs ys i x at

get_pushed : {X : Type 0} (xs : List X) (x : X) → slice_get (xs ++ x ∷ []) (length xs) ≡ Some x
get_pushed [] x = refl
get_pushed (y ∷ xs) x = get_pushed xs x

with_value : {X : Type 0} (o : Option X) → IsSome o → (x : X) × (o ≡ Some x)
with_value None some = absurd (let f : false ≡ true = some in cc)
with_value (Some x) some = (x, refl)

own_block : (w : ℕ) (n : Network) → HostBitsAreZero w n → block_of w n ≡ n
own_block w n clear = ap (λ (a : ℕ). record { address = a; prefix = n.prefix }) (sym clear)

-- ---- the networks of a table, one after another

tied : (n : Network) → eq_by_cmp network_cmp n n ≡ true
tied n = (eq_by_cmp_equiv total).refl n

module _ {V : Type 0} (m : FinMap network_cmp V) (k : Network) (v : V) where
  put_here : get (insert m k v) k ≡ Some v
  put_here = get-insert total m k v k ∙ ap (λ b. cond b (Some v) (get m k)) (tied k)

  still_some : (n : Network) → IsSome (get m n) → IsSome (get (insert m k v) n)
  still_some n some = elim (eq_by_cmp network_cmp n k) as (λ b. get (insert m k v) n ≡ cond b (Some v) (get m n)
      → IsSome (get (insert m k v) n)) [
        | true ↦ λ is. subst IsSome (sym is) refl
        | false ↦ λ is. subst IsSome (sym is) some
      ] (get-insert total m k v n)

  put_or_was : (n : Network) (u : V) → get (insert m k v) n ≡ Some u → ((n ≡ k) × (u ≡ v)) ⊎ (get m n ≡ Some u)
  put_or_was n u has = elim (eq_by_cmp network_cmp n k) as (λ b. eq_by_cmp network_cmp n k ≡ b
      → get (insert m k v) n ≡ cond b (Some v) (get m n) → ((n ≡ k) × (u ≡ v)) ⊎ (get m n ≡ Some u)) [
        | true ↦ λ at is. inl (one_network n k (tie_of _ at), same_value u v (sym has ∙ is))
        | false ↦ λ apart is. inr (sym is ∙ has)
      ] refl (get-insert total m k v n)

-- the networks are numbered, except those that are left
pub record NumbersSoFar (by : Network → Value → Found) (table : Values) (left : List (Network × Value))
    (numbers : FinMap network_cmp ℕ) (founds : List Found) : Type 0 where
  pub stored : (n : Network) (number : ℕ) → get numbers n ≡ Some number → (value : Value) × (get table n ≡ Some value)
      × (slice_get founds number ≡ Some (by n value))
  pub all : (n : Network) (value : Value) → get table n ≡ Some value → ((i : ℕ) × (slice_get left i ≡ Some (n, value)))
      ⊎ IsSome (get numbers n)
  pub listed : (n : Network) (value : Value) (i : ℕ) → slice_get left i ≡ Some (n, value) → get table n ≡ Some value

module _ (by : Network → Value → Found) (table : Values) where
  pub none_numbered : (left : List (Network × Value)) (founds : List Found) → left ≡ entries table
      → NumbersSoFar by table left empty founds
  none_numbered left founds is = subst (λ (l : List (Network × Value)). NumbersSoFar by table l empty founds)
      (sym is) (record {
        stored = λ n number has. absurd (none-some number (sym (get-empty network_cmp n) ∙ has));
        all = λ n value has. inl (stored_is_listed table n value has);
        listed = λ n value i at. listed_is_stored table i n value at;
      })

  pub one_numbered : (w : ℕ) (n : Network) (value : Value) (left : List (Network × Value))
      (numbers : FinMap network_cmp ℕ) (founds : List Found) → HasOnlyBlocks w table
      → NumbersSoFar by table ((n, value) ∷ left) numbers founds
      → NumbersSoFar by table left (insert numbers (block_of w n) (length founds)) (founds ++ by n value ∷ [])
  one_numbered w n value left numbers founds blocks h =
      let here : get table n ≡ Some value = h.listed n value 0 refl in
      let key = own_block w n (blocks n (ap is_some here)).block in
      subst (λ (k : Network). NumbersSoFar by table left (insert numbers k (length founds)) (founds ++ by n value ∷ []))
      (sym key) (record {
        stored = λ m number has. elim (put_or_was numbers n (length founds) m number has) [
          | inl put ↦ (
            value,
            ap (get table) put.0 ∙ here,
            ap (slice_get (founds ++ by n value ∷ [])) put.1 ∙ get_pushed founds (by n value)
                ∙ ap (λ (k : Network). Some (by k value)) (sym put.0),
          )
          | inr was ↦ let s = h.stored m number was in
              (s.0, s.1, get_front founds (by n value ∷ []) number (by m s.0) s.2)
        ];
        all = λ m u has. elim (h.all m u has) [
          | inl listed ↦ later m u listed.0 listed.1
          | inr some ↦ inr (still_some numbers n (length founds) m some)
        ];
        listed = λ m u i at. h.listed m u (suc i) at;
      }) where
        later : (m : Network) (u : Value) (i : ℕ) → slice_get ((n, value) ∷ left) i ≡ Some (m, u)
            → ((j : ℕ) × (slice_get left j ≡ Some (m, u))) ⊎ IsSome (get (insert numbers n (length founds)) m)
        later m u zero at =
            let same : n ≡ m = ap (λ (e : Network × Value). e.0) (same_value (n, value) (m, u) at) in
            inr (subst (λ (k : Network). IsSome (get (insert numbers n (length founds)) k)) same
            (ap is_some (put_here numbers n (length founds))))
        later m u (suc i) at = inl (i, at)

  pub all_numbered : (numbers : FinMap network_cmp ℕ) (founds : List Found) → NumbersSoFar by table [] numbers founds
      → AreNumbered by table numbers founds
  all_numbered numbers founds h = record {
    stored = h.stored;
    all = λ n some. let v = with_value (get table n) some in elim (h.all n v.0 v.1) [
      | inl listed ↦ absurd (none-some (n, v.0) listed.1)
      | inr has ↦ has
    ];
  }

  -- the networks are still numbered if more findings follow
  pub still_numbered : (numbers : FinMap network_cmp ℕ) (founds added : List Found)
      → AreNumbered by table numbers founds → AreNumbered by table numbers (founds ++ added)
  still_numbered numbers founds added h = record {
    stored = λ n number has. let s = h.stored n number has in (s.0, s.1, get_front founds added number (by n s.0) s.2);
    all = h.all;
  }

  pub numbers_added : {E : Type 0} (numbers : FinMap network_cmp ℕ) (before founds : List Found)
      (result : Result (FinMap network_cmp ℕ) E) → IfOk result (λ index. index ≡ numbers)
      → founds ≡ before ++ founds_of by table → AreNumbered by table numbers founds
      → IfOk result (λ index. AddsNumbers by table index before founds)
  numbers_added numbers before founds (Ok index) is behind h = record
      { behind = behind; numbered = subst (λ (m : FinMap network_cmp ℕ). AreNumbered by table m founds) (sym is) h }
  numbers_added numbers before founds (Err fault) is behind h = tt

  -- ---- what is found by number

  found_at : (w : ℕ) (numbers : FinMap network_cmp ℕ) (founds : List Found) (a n : Network) (number : ℕ)
      → AreNumbered by table numbers founds → IsLongestOver w numbers a n number
      → (value : Value) × IsLongestOver w table a n value × (slice_get founds number ≡ Some (by n value))
  found_at w numbers founds a n number h longest =
      let s = h.stored n number longest.stored in
      (s.0, record { stored = s.1; holds = longest.holds; longest = λ m some. longest.longest m (h.all m some) }, s.2)

  none_at : (w : ℕ) (numbers : FinMap network_cmp ℕ) (founds : List Found) (a : Network)
      → AreNumbered by table numbers founds → NoneHasAll w numbers a → NoneHasAll w table a
  none_at w numbers founds a h none m some = none m (h.all m some)

pub routes_numbered : (network : Bool) (routes : Routes) (numbered : ValueIds) (t4 t6 : Values)
    (first second : List Found) → t4 ≡ routes.v4 → t6 ≡ routes.v6 → first ≡ prints.Nothing ∷ []
    → AddsNumbers (found_by network (λ n. families.V4 n)) t4 numbered.v4 first second
    → AddsNumbers (found_by network (λ n. families.V6 n)) t6 numbered.v6 second numbered.founds.items
    → NumbersRoutes network routes numbered
routes_numbered network routes numbered t4 t6 first second is4 is6 one h4 h6 =
    let items = numbered.founds.items in
    let by = found_by network (λ n. families.V4 n) in
    record {
      v4 = subst (λ (t : Values). AreNumbered by t numbered.v4 items) is4
          (subst (λ (f : List Found). AreNumbered by t4 numbered.v4 f) (sym h6.behind) (still_numbered by t4 numbered.v4
          second (founds_of (found_by network (λ n. families.V6 n)) t6) h4.numbered));
      v6 = subst (λ (t : Values). AreNumbered (found_by network (λ n. families.V6 n)) t numbered.v6 items) is6
          h6.numbered;
      founds = h6.behind ∙ ap (λ (f : List Found). f ++ founds_of (found_by network (λ n. families.V6 n)) t6)
          (h4.behind ∙ ap (λ (f : List Found). f ++ founds_of by t4) one)
          ∙ ap (λ (t : Values). prints.Nothing
          ∷ (founds_of by t ++ founds_of (found_by network (λ n. families.V6 n)) t6)) is4
          ∙ ap (λ (t : Values). prints.Nothing
          ∷ (founds_of by routes.v4 ++ founds_of (found_by network (λ n. families.V6 n)) t)) is6;
    }

clear_at : {V : Type 0} (w : ℕ) (t : FinMap network_cmp V) (n : Network) (v : V) → HasOnlyBlocks w t → get t n ≡ Some v
    → HostBitsAreZero w n
clear_at w t n v blocks has = (blocks n (ap is_some has)).block

-- what the number that is found for a network stands for
stands : (w : ℕ) (by : Network → Value → Found) (table : Values) (numbers : FinMap network_cmp ℕ) (founds : List Found)
    (IsSo : Found → Type 0) (a : Network) (found : Option (Network × ℕ))
    → AreNumbered by table numbers founds → slice_get founds 0 ≡ Some prints.Nothing → AnswersOver w numbers a found
    → HasOnlyBlocks w numbers
    → (NoneHasAll w table a → IsSo prints.Nothing)
    → ((n : Network) (v : Value) → IsLongestOver w table a n v → HostBitsAreZero w n → IsSo (by n v))
    → (f : Found) × (slice_get founds (number_or_none found) ≡ Some f) × IsSo f
stands w by table numbers founds IsSo a None h nothing none blocks nowhere longest =
    (prints.Nothing, nothing, nowhere (none_at by table w numbers founds a h none))
stands w by table numbers founds IsSo a (Some found) h nothing is blocks nowhere longest =
    let s = found_at by table w numbers founds a found.0 found.1 h is in
    (by found.0 s.0, s.2, longest found.0 s.0 s.1 (clear_at w numbers found.0 found.1 blocks is.stored))

-- 0 stands for no network
at_zero : (founds rest : List Found) → founds ≡ prints.Nothing ∷ rest → slice_get founds 0 ≡ Some prints.Nothing
at_zero founds rest is = ap (λ (f : List Found). slice_get f 0) is

module _ (routes : Routes) (numbered : ValueIds) where
  pub stands_v4 : (network : Bool) (a : Network) (found : Option (Network × ℕ)) → NumbersRoutes network routes numbered
      → AnswersOver 32 numbered.v4 a found → HasOnlyBlocks 32 numbered.v4
      → (f : Found) × (slice_get numbered.founds.items (number_or_none found) ≡ Some f)
      × FindsBy (answers_by network routes) (families.V4 a) f
  stands_v4 true a found h is blocks = stands 32 _ _ _ _ (FindsBy (answers_by true routes) (families.V4 a)) a found h.v4
      (at_zero _ _ h.founds) is blocks (λ none. none) (λ n v longest clear. (v, (longest, clear)))
  stands_v4 false a found h is blocks = stands 32 _ _ _ _ (FindsBy (answers_by false routes) (families.V4 a)) a found
      h.v4 (at_zero _ _ h.founds) is blocks (λ none. none) (λ n v longest clear. (families.V4 n, (longest, clear)))

  pub stands_v6 : (network : Bool) (a : Network) (found : Option (Network × ℕ)) → NumbersRoutes network routes numbered
      → AnswersOver 128 numbered.v6 a found → HasOnlyBlocks 128 numbered.v6
      → (f : Found) × (slice_get numbered.founds.items (number_or_none found) ≡ Some f)
      × FindsBy (answers_by network routes) (families.V6 a) f
  stands_v6 true a found h is blocks = stands 128 _ _ _ _ (FindsBy (answers_by true routes) (families.V6 a)) a found
      h.v6 (at_zero _ _ h.founds) is blocks (λ none. none) (λ n v longest clear. (v, (longest, clear)))
  stands_v6 false a found h is blocks = stands 128 _ _ _ _ (FindsBy (answers_by false routes) (families.V6 a)) a found
      h.v6 (at_zero _ _ h.founds) is blocks (λ none. none) (λ n v longest clear. (families.V6 n, (longest, clear)))

pub not_empty : (numbered : ValueIds) (empty : Bool) → empty ≡ (vec_len numbered.founds == 0) → empty ≡ false
    → ¬ (numbered.founds.items ≡ [])
not_empty numbered empty is not none =
    let f : true ≡ false = sym (ap (λ (xs : List Found). length xs == 0) none)
    ∙ sym (ap (λ n. n == 0) numbered.founds.ok.0) ∙ sym is ∙ not in
    absurd (cc)

pub stands_for_none : (by : Answering) (mapped : Bool) (numbered : ValueIds) → ¬ (numbered.founds.items ≡ [])
    → IsNumbering by numbered → StandsFor by mapped None numbered.founds.items 0
stands_for_none (answers.Values routes) mapped numbered some h = at_zero _ _ h.founds
stands_for_none (answers.Networks routes) mapped numbered some h = at_zero _ _ h.founds
stands_for_none (answers.Blocks lengths) mapped numbered some h = absurd (some h)

pub stands_for_some : (by : Answering) (mapped : Bool) (numbered : ValueIds) (asked : IpNetwork) (number : ℕ)
    → ¬ (numbered.founds.items ≡ []) → StandsForEither numbered (asked_network mapped asked) asked number
    → IsNumbering by numbered → StandsFor by mapped (Some asked) numbered.founds.items number
stands_for_some (answers.Values routes) mapped numbered asked number some stands h = stands false routes h
stands_for_some (answers.Networks routes) mapped numbered asked number some stands h = stands true routes h
stands_for_some (answers.Blocks lengths) mapped numbered asked number some stands h = absurd (some h)

-- what the number for a line stands for
pub line_found : (join : Join) (asked : Option IpNetwork) (items : List Found) (number : ℕ)
    → StandsFor join.answers join.mapped asked items number
    → (found : Found) × (slice_get items number ≡ Some found) × Finds join asked found
line_found join None items number stands = (prints.Nothing, stands, refl)
line_found join (Some asked) items number stands = stands

-- ---- what is named

not_named : (found : Found) → named_by false found ≡ []
not_named (prints.Network network) = refl
not_named (prints.Value value) = refl
not_named prints.Nothing = refl

none_named : (founds : List Found) → flat_map (named_by false) founds ≡ []
none_named [] = refl
none_named (found ∷ founds) = ap (λ (l : List (List ℕ)). l ++ flat_map (named_by false) founds) (not_named found)
    ∙ none_named founds

each_named : (f : Network × Value → Found) (g : Network × Value → List ℕ)
    → ((e : Network × Value) → named_by true (f e) ≡ g e ∷ []) → (es : List (Network × Value))
    → flat_map (named_by true) (map f es) ≡ map g es
each_named f g is [] = refl
each_named f g is (e ∷ es) = ap (λ (l : List (List ℕ)). l ++ flat_map (named_by true) (map f es)) (is e)
    ∙ ap (λ (l : List (List ℕ)). g e ∷ l) (each_named f g is es)

both_named : (founds : List Found) (f h : Network × Value → Found) (g k : Network × Value → List ℕ)
    (first second : List (Network × Value)) → founds ≡ prints.Nothing ∷ (map f first ++ map h second)
    → ((e : Network × Value) → named_by true (f e) ≡ g e ∷ [])
    → ((e : Network × Value) → named_by true (h e) ≡ k e ∷ [])
    → flat_map (named_by true) founds ≡ map g first ++ map k second
both_named founds f h g k first second is fg hk =
    ap (flat_map (named_by true)) is ∙ flat_map-append (named_by true) (map f first) (map h second)
    ∙ ap (λ (l : List (List ℕ)). l ++ flat_map (named_by true) (map h second)) (each_named f g fg first)
    ∙ ap (λ (l : List (List ℕ)). map g first ++ l) (each_named h k hk second)

-- the texts that the list can give addresses, if they are asked for
pub named_listed : (by : Answering) (numbered : ValueIds) (zeros : Bool) → IsNumbering by numbered
    → flat_map (named_by zeros) numbered.founds.items ≡ (if zeros then named by else [])
named_listed by numbered false h = none_named numbered.founds.items
named_listed (answers.Values routes) numbered true h = both_named _ _ _ _ _ _ _ h.founds (λ e. refl) (λ e. refl)
named_listed (answers.Networks routes) numbered true h = both_named _ _ _ _ _ _ _ h.founds (λ e. refl) (λ e. refl)
named_listed (answers.Blocks lengths) numbered true h = ap (flat_map (named_by true)) h
