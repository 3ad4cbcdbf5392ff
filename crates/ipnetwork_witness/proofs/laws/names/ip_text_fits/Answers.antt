use Rattle.ipnetwork_witness.proofs.Known.{ℕ, List, arith, IpAddr, V4, V6, NamesIp, FitsIp, v4_ours, v6_ours}
use Rattle.ipnetwork_witness.proofs.laws.names.ip_text_fits.Goals as goal

pub returns : goal.returns
returns c = go
  where
    go : (text : List ℕ) (address : IpAddr) → NamesIp text address → FitsIp address
    go text (V4 a) h = (v4_ours text a h).1.0
    go text (V6 a) h = (v6_ours text a h).1.0

-- examples at the least numbers that do not fit
pub no_text_of_33_bits : goal.returns → goal.Start → (text : List ℕ) → ¬ (NamesIp text (V4 4294967296))
no_text_of_33_bits law c text named = omega (arith, law c text (V4 4294967296) named)

pub no_text_of_129_bits : goal.returns → goal.Start → (text : List ℕ)
    → ¬ (NamesIp text (V6 340282366920938463463374607431768211456))
no_text_of_129_bits law c text named = omega (arith, law c text (V6 340282366920938463463374607431768211456) named)
