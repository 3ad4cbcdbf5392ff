-- The cause for both families, from the cause for each.
use Rattle.ipnetwork_family.specs.declared.error.CidrFault.{CidrFault}
use Rattle.ipnetwork_family.specs.declared.error.CidrFault.TheVariants.{Format, Addr, Prefix}

-- the cause for both families: `Format` if it is the first cause, since both families count the same `/`; else `Addr`
-- only if both causes are `Addr`, since an address of one family suffices; else `Prefix`
abbrev pub first_cause : CidrFault → CidrFault → CidrFault
first_cause Format v6 = Format
first_cause Addr Addr = Addr
first_cause Addr Format = Prefix
first_cause Addr Prefix = Prefix
first_cause Prefix v6 = Prefix
