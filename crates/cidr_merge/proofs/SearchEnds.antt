-- How a run ends that searches lists.
use Rattle.cidr_merge.proofs.Words.{◌≡◌, ◌==◌, ◌||◌, ◌∙◌, ◌++◌, ℕ, Bool, true, false, not, List, ap, refl, ◌+◌, ◌≤◌, arith, subst, inr, length, length-take, map, take, drop, drop-map, length-drop, take-map, if◌then◌else◌, Result, OnOk, OnErr, IsTrue, IsFalse, AppendsBeginning, is_err, String, Appends, Written, RunFault, IpNetwork, Whole, status_of, Rules, has_refused, lists_matches, EndsSearching, EndsReadingAll, with_networks, TellsFound, has_other, lists_sought, AreTexts}
use Rattle.cidr_merge.proofs.Inspected.{all_written}
use Rattle.cidr_merge.proofs.WholeLists.{as_many_held}

status_by : (told none printed : Bool) → printed ≡ not none
    → ◌≡◌ {A = ℕ} (if told then 2 else (if printed then 0 else 1)) (if told then 2 else (if none then 1 else 0))
status_by told true printed e = rw e refl
status_by told false printed e = rw e refl

pub search_ended : {Z W T : Type 0} (rules : Rules) (sought : List (List ℕ × IpNetwork)) (others : Bool) (names : List (String Z))
    (texts : List (List ℕ)) (old mid new : Written W) (written : Result T RunFault) (is_printed is_told : Bool)
    (status result : ℕ) → TellsFound (lists_matches rules sought names texts) old mid is_printed
    → is_told ≡ (others || has_refused rules texts) → status ≡ (if is_told then 2 else (if is_printed then 0 else 1))
    → OnOk written (Appends mid.holds new.holds mid.waits)
    → OnErr written (AppendsBeginning mid.holds new.holds mid.waits) → OnOk written (IsFalse new.failed)
    → new.failed ≡ (mid.failed || is_err written) → (IsTrue mid.failed → new ≡ mid) → result ≡ status_of written status
    → EndsSearching rules sought others names texts old new result
search_ended rules sought others names texts old mid new written is_printed is_told status result h k s wrote
    begins works failed stays is =
    let none = length (lists_matches rules sought names texts) == 0 in
    all_written (lists_matches rules sought names texts) old mid new written status _ result h.0
    (s ∙ status_by is_told none is_printed h.1 ∙ ap (λ (b : Bool). if b then 2 else (if none then 1 else 0)) k)
    wrote begins works failed stays is

-- ---- what the words say

module _ {Z X : Type 0} (lists : Whole) (words names : List (String Z)) (middle from : ℕ) (items : X → List ℕ)
    (texts held : List X) (e : held ≡ texts) (n : names ≡ drop middle words) (within : middle + from ≤ length words)
    (are : AreTexts lists names (map items texts)) where
  many : length held ≡ length names
  many = as_many_held lists names texts items held e are

  pub names_within : from ≤ length names
  names_within = let d = length-drop middle words in let l = ap length n in omega (arith, d, l, within)

  pub froms_within : from ≤ length held
  froms_within = let l = names_within in omega (arith, many, l)

  pub as_many_froms : length (take from held) ≡ length (take from names)
  as_many_froms = let t = length-take from held in let m = length-take from names in omega (arith, t, m, many)

  pub as_many_lists : length (drop from held) ≡ length (drop from names)
  as_many_lists = let t = length-drop from held in let m = length-drop from names in omega (arith, t, m, many)

  -- all lists were read
  pub searched : {W : Type 0} (rules : Rules) (networks : List IpNetwork) (old new : Written W) (status : ℕ)
      → EndsSearching rules (with_networks (take middle words) networks ++ lists_sought (map items (take from held)))
      (has_other (map items (take from held))) (drop from names) (map items (drop from held)) old new status
      → EndsReadingAll lists rules words middle from networks old new status
  searched rules networks old new status h =
      inr (inr (
        map items texts,
        subst (λ ns. AreTexts lists ns (map items texts)) n are,
        rw (← e, take-map items from held, drop-map items from held, ← n) h,
      ))
