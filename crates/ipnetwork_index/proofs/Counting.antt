-- Counts of numbers: the last numbers of ranges except the greatest, and the cuts of ranges.
use Rattle.ipnetwork_index.proofs.Words.{◌≡◌, ℕ, ◌+◌, ◌-◌, ◌<◌, List, length, get_or, take, arith, sym, subst, ◌∙◌, length-take, get_or-take, get_or_default, HasCount, IsPartition}

-- the set has exactly the last numbers of ranges except the greatest
pub has_all_but_last : (set : ℕ → Type 0) (w : ℕ) (lasts : List ℕ) → IsPartition w lasts
    → ((k : ℕ) → k + 1 < length lasts → set (get_or lasts k 0))
    → ((x : ℕ) → set x → (k : ℕ) × (k + 1 < length lasts) × (get_or lasts k 0 ≡ x))
    → HasCount set (length lasts - 1)
has_all_but_last set w lasts p each place =
    let some = p.some in
    let n : ℕ = length lasts - 1 in
    let size : length (take n lasts) ≡ n = omega (arith, length-take {A = ℕ}) in
    record {
      addresses = take n lasts;
      ascending = λ i j d l m.
          let a : get_or lasts i 0 < get_or lasts j 0 = p.ascending i j l (omega arith) in
          rw (
            get_or-take n lasts i d (omega arith),
            get_or-take n lasts j d (omega arith),
            get_or_default lasts i d 0 (omega arith),
            get_or_default lasts j d 0 (omega arith),
          ) a;
      exactly = λ x. (
        (λ c.
            let l = c.1 in
            let is : get_or lasts c.0 0 ≡ x = get_or_default lasts c.0 0 x (omega arith)
            ∙ sym (get_or-take n lasts c.0 x (omega arith)) ∙ c.2 in
            subst (λ (y : ℕ). set y) is (each c.0 (omega arith))),
        (λ t.
            let k = place x t in
            let l = k.1 in (
              k.0,
              omega arith,
              get_or-take n lasts k.0 x (omega arith)
                  ∙ get_or_default lasts k.0 x 0 (omega arith) ∙ k.2,
            )),
      );
      count = size;
    }
