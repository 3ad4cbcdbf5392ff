-- Joins, computed.
use Rattle.reducing.proofs.Words.{◌≡◌, ℕ, ◌-◌, ◌^◌, ◌∷◌, [], List, inl, inr, refl, arith, Network, shared, joined, others, Joins, Reduces, Joined, Same}

net : ℕ → ℕ → Network
net address prefix = record { address = address; prefix = prefix }

-- the first and the last address of IPv4, and of IPv6
whole_ipv4 : joined 32 (net 0 32) (net 0xffffffff 32) ≡ net 0 0
unfolding joined shared net
whole_ipv4 = refl

others_in_ipv4 : others 32 (net 0 32) (net 0xffffffff 32) ≡ 0xfffffffe
unfolding others joined shared net
others_in_ipv4 = refl

others_in_ipv6 : others 128 (net 0 128) (net (2 ^ 128 - 1) 128) ≡ 2 ^ 128 - 2
unfolding others joined shared net
others_in_ipv6 = refl

-- the halves of all addresses have no others
two_halves : others 32 (net 0 1) (net 0x80000000 1) ≡ 0
unfolding others joined shared net
two_halves = refl

-- of two pairs with two others the first is joined
four : List Network
four = net 0 32 ∷ net 3 32 ∷ net 8 32 ∷ net 11 32 ∷ []

the_first_of_equals : Joins 32 four (net 0 30 ∷ net 8 32 ∷ net 11 32 ∷ []) 2
unfolding four others joined shared net
the_first_of_equals = record {
  before = [];
  a = net 0 32;
  b = net 3 32;
  behind = net 8 32 ∷ net 11 32 ∷ [];
  list_is = refl;
  next_is = refl;
  others_are = refl;
  least = (omega arith, (omega arith, (omega arith, tt)));
  first = tt;
}

-- a join that makes a half: the next one has no others
three : List Network
three = net 0 32 ∷ net 3 32 ∷ net 4 30 ∷ []

makes_a_half : Joins 32 three (net 0 30 ∷ net 4 30 ∷ []) 2
unfolding three others joined shared net
makes_a_half = record {
  before = [];
  a = net 0 32;
  b = net 3 32;
  behind = net 4 30 ∷ [];
  list_is = refl;
  next_is = refl;
  others_are = refl;
  least = (omega arith, (omega arith, tt));
  first = tt;
}

joins_the_halves : Joins 32 (net 0 30 ∷ net 4 30 ∷ []) (net 0 29 ∷ []) 0
unfolding others joined shared net
joins_the_halves = record {
  before = [];
  a = net 0 30;
  b = net 4 30;
  behind = [];
  list_is = refl;
  next_is = refl;
  others_are = refl;
  least = (omega arith, tt);
  first = tt;
}

-- blocks are joined until two are left, or one, and no further
two_are_left : Reduces 32 2 three (net 0 30 ∷ net 4 30 ∷ []) 2
unfolding three
two_are_left = record { becomes = Joined Same (omega arith) makes_a_half; done = inl (omega arith) }

one_is_left : Reduces 32 1 three (net 0 29 ∷ []) 2
unfolding three
one_is_left =
    record {
      becomes = Joined (Joined Same (omega arith) makes_a_half) (omega arith) joins_the_halves;
      done = inl (omega arith);
    }

one_is_left_of_none : Reduces 32 0 (net 0 30 ∷ []) (net 0 30 ∷ []) 0
one_is_left_of_none = record { becomes = Same; done = inr (omega arith) }

as_many_as_may_be_left : Reduces 32 3 three three 0
unfolding three
as_many_as_may_be_left = record { becomes = Same; done = inl (omega arith) }
