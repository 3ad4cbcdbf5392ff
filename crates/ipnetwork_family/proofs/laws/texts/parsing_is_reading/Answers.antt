use Rattle.ipnetwork_family.proofs.Known.{NamesV4, NamesV6, IsCause, IsV4Suffix, NamesV4Network, IsV6Suffix, NamesV6Network, parses_as_it_reads}
use Rattle.ipnetwork_addr.specs.declared.error.AddrParseError.TheVariants as kinds
use Rattle.ipnetwork_family.proofs.laws.texts.parsing_is_reading.Goals as goal

pub returns : goal.returns
returns c = record {
  v4 = parses_as_it_reads NamesV4Network (IsCause NamesV4 IsV4Suffix) kinds.Ipv4;
  v6 = parses_as_it_reads NamesV6Network (IsCause NamesV6 IsV6Suffix) kinds.Ipv6;
}
