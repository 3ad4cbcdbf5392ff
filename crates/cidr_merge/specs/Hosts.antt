-- Numbers of hosts in a text.
use Rattle.std.specs.Prelude.{ℕ, ◌-◌, ◌^◌, ◌==◌, ◌&&◌, Bool, List, map, nat_lt}
use Rattle.std.specs.List.{list_all, slice_split}
use Rattle.line_addresses.specs.Numbers.{is_number}
use Rattle.cidr_merge.specs.Bounds.{large_number}

-- the parts of a text between commas (byte 44)
abbrev pub parts : List ℕ → List (List ℕ)
parts text = slice_split (λ byte. byte == 44) text

-- a number from 1 that a block may have as hosts: fewer than there are addresses of IPv6 but one
abbrev pub is_host_number : List ℕ → Bool
is_host_number text = (is_number text && nat_lt 0 (large_number text)) && nat_lt (large_number text) (2 ^ 128 - 1)

-- whether a text is such numbers, with commas between them
abbrev pub are_hosts : List ℕ → Bool
are_hosts text = list_all is_host_number (parts text)

-- the numbers
abbrev pub hosts_in : List ℕ → List ℕ
hosts_in text = map large_number (parts text)
