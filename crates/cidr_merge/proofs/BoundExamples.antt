-- Bounds on the number of other addresses, at values at which a wrong definition would show. Each of these computes.
use Rattle.cidr_merge.proofs.Words.{◌≡◌, ◌^◌, ◌-◌, ◌∷◌, [], true, false, refl, map, codes, Some, None, allows, bound_in, lacks_number, Any, Number, Percent, Sets, ReduceRequest}
use Rattle.cidr_merge.proofs.Examples.{none, one, one6, plain_merge, ten}
use Rattle.cidr_merge.specs.declared.command_line.Form.TheVariants.{Blocks}
use Rattle.cidr_merge.specs.declared.command_line.Operation.TheVariants.{Union}

pub bounds_named : map bound_in (codes "any" ∷ codes "0" ∷ codes "0512" ∷ codes "0%" ∷ codes "250%" ∷ [])
    ≡ Some Any ∷ Some (Number 0) ∷ Some (Number 512) ∷ Some (Percent 0) ∷ Some (Percent 250) ∷ []
bounds_named = refl

pub no_bounds : map bound_in ([] ∷ codes "%" ∷ codes "1%%" ∷ codes "%1" ∷ codes "+1" ∷ codes "Any" ∷ codes "any%"
    ∷ codes "1.5%" ∷ []) ≡ None ∷ None ∷ None ∷ None ∷ None ∷ None ∷ None ∷ None ∷ []
no_bounds = refl

-- 2^128 and more count as 2^128 - 1, than which no list has more others
pub large_bounds : map bound_in (codes "340282366920938463463374607431768211455"
    ∷ codes "340282366920938463463374607431768211456" ∷ [])
    ≡ Some (Number (2 ^ 128 - 1)) ∷ Some (Number (2 ^ 128 - 1)) ∷ []
large_bounds = refl

-- as many others as the bound, and one more; of 48 addresses, 33% are 15.84
pub bounds_met : map (λ others. allows (Number 512) 9 others) (0 ∷ 512 ∷ 513 ∷ []) ≡ true ∷ true ∷ false ∷ []
bounds_met = refl

pub percents_met : (map (λ others. allows (Percent 100) 512 others) (511 ∷ 512 ∷ 513 ∷ []) ≡ true ∷ true ∷ false ∷ [])
    × (map (λ others. allows (Percent 33) 48 others) (15 ∷ 16 ∷ []) ≡ true ∷ false ∷ [])
    × (map (λ others. allows (Percent 0) 48 others) (0 ∷ 1 ∷ []) ≡ true ∷ false ∷ [])
percents_met = (refl, refl, refl)

-- of no address, and of all of IPv6, also in the place of half of it
pub changes_met : (map (allows (Percent 900) 0) (0 ∷ 1 ∷ []) ≡ true ∷ false ∷ [])
    × (map (λ percent. allows (Percent percent) (2 ^ 128) (2 ^ 128)) (99 ∷ 100 ∷ []) ≡ false ∷ true ∷ [])
    × (map (λ percent. allows (Percent percent) (2 ^ 127) (2 ^ 128)) (199 ∷ 200 ∷ []) ≡ false ∷ true ∷ [])
changes_met = (refl, refl, refl)

-- at the ends: no addresses, all of IPv6, and the first and the last of it
pub ends_met : (allows (Percent 100) 0 0 ≡ true) × (allows (Percent 0) (2 ^ 128) 0 ≡ true)
    × (allows Any 2 (2 ^ 128 - 2) ≡ true) × (allows (Percent 100) 2 (2 ^ 128 - 2) ≡ false)
    × (allows (Percent (2 ^ 128 - 1)) 100 (2 ^ 128 - 100) ≡ true)
ends_met = (refl, refl, refl, refl, refl)

-- ---- numbers

abbrev both : Sets
both = record { v4 = ten ∷ []; v6 = ten ∷ [] }

-- one number is for lists of one family, and numbers of families are for these
abbrev of_one : ReduceRequest
of_one = record {
  v4 = 5;
  v6 = 5;
  is_of_one = true;
  bound = Any;
  merge = plain_merge Union Blocks;
}

abbrev of_ipv4 : ReduceRequest
of_ipv4 = record { v4 = 5; v6 = 0; is_of_one = false; bound = Any; merge = of_one.merge }

abbrev of_each : ReduceRequest
of_each = record { v4 = 5; v6 = 1; is_of_one = false; bound = Any; merge = of_one.merge }

pub numbers_lacking : (map (lacks_number of_one) (none ∷ one ∷ one6 ∷ both ∷ []) ≡ false ∷ false ∷ false ∷ true ∷ [])
    × (map (lacks_number of_ipv4) (none ∷ one ∷ one6 ∷ both ∷ []) ≡ false ∷ false ∷ true ∷ true ∷ [])
    × (map (lacks_number of_each) (none ∷ one ∷ one6 ∷ both ∷ []) ≡ false ∷ false ∷ false ∷ false ∷ [])
numbers_lacking = (refl, refl, refl)
