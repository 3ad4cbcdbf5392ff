-- What lists may say, and which entries are refused though they name addresses.
use Rattle.std.specs.Prelude.{◌==◌, ◌&&◌, Bool, false, not}
use Rattle.ipnetwork.specs.declared.ip_network.IpNetwork.TheVariants as networks
use Rattle.ipnetwork_family.specs.Network.{low}
use Rattle.lists.specs.declared.entry.Entry.{Entry}
use Rattle.lists.specs.declared.entry.Entry.TheVariants as entries
use Rattle.lists.specs.declared.forms.LineForm.TheVariants.{Plain}
use Rattle.lists.specs.declared.rules.Rules.{Rules}

-- the rules that refuse nothing, and by which lines are plain and an entry has one word
abbrev pub lenient : Rules
lenient = record { refuses_host_bits = false; is_whole = false; takes_masks = false; form = Plain }

-- the entry is a network whose address is not the least of its addresses
abbrev pub has_host_bits : Entry → Bool
has_host_bits (entries.Network (networks.V4 n)) = not (n.address == low 32 n)
has_host_bits (entries.Network (networks.V6 n)) = not (n.address == low 128 n)
has_host_bits (entries.Range first last) = false

-- the entry is refused for its host bits
abbrev pub refuses : Rules → Entry → Bool
refuses rules entry = rules.refuses_host_bits && has_host_bits entry
