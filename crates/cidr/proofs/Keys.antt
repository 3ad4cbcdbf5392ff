-- Routes whose keys have no host bits, and never get any.
use Rattle.cidr.proofs.Words.{ℕ, IpNetwork, V4, V6, block_of, EmptyHasNoHostBits, InsertAddsNoHostBits, RemoveAddsNoHostBits, HasNoHostBits, Routes, no_routes, with_number, without}

-- what the table promises about keys without host bits
pub record KeyLaws : Type 0 where
  pub empty : EmptyHasNoHostBits ℕ
  pub insert : InsertAddsNoHostBits ℕ
  pub remove : RemoveAddsNoHostBits ℕ

abbrev pub HasClearKeys : Routes → Type 0
HasClearKeys r = HasNoHostBits 32 r.v4 × HasNoHostBits 128 r.v6

module _ (keys : KeyLaws) where
  pub no_keys : HasClearKeys no_routes
  no_keys = (keys.empty 32, keys.empty 128)

  pub added_key : (r : Routes) (network : IpNetwork) (number : ℕ) → HasClearKeys r
      → HasClearKeys (with_number r network number)
  added_key r (V4 network) number clear = (keys.insert 32 r.v4 network number clear.0, clear.1)
  added_key r (V6 network) number clear = (clear.0, keys.insert 128 r.v6 network number clear.1)

  pub dropped_key : (r : Routes) (network : IpNetwork) → HasClearKeys r → HasClearKeys (without r network)
  dropped_key r (V4 network) clear = (keys.remove 32 r.v4 (block_of 32 network) clear.0, clear.1)
  dropped_key r (V6 network) clear = (clear.0, keys.remove 128 r.v6 (block_of 128 network) clear.1)
