-- The addresses of a line.
use Rattle.std.specs.Prelude.{ℕ, ◌-◌, ◌==◌, ◌||◌, ◌&&◌, Bool, List, [], Option, None, Some, length, take, filter_map}
use Rattle.std.specs.Prelude.{not, nat_lt, nat_le, reverse, slice_index, if◌then◌else◌}
use Rattle.std.specs.Char.{is_ascii_digit}
use Rattle.std.specs.Int.{is_in_range}
use Rattle.std.specs.List.{list_all, list_any, before_first, after_first, position_or_len}
use Rattle.ipnetwork_addr.specs.Computed.Either.{ip_of}
use Rattle.ipnetwork_addr.specs.declared.ip.IpAddr.{IpAddr}
use Rattle.line_addresses.specs.LineRuns.{is_run_byte, runs_of}

-- an address, and the text that names it
pub record Spelled : Type 0 where
  pub text : List ℕ
  pub address : IpAddr

-- the address that a text names, if it names one
unfoldable pub address_of : List ℕ → Option IpAddr
address_of text = ip_of text

-- the address, if there is one, together with its text
abbrev pub with_text : List ℕ → Option IpAddr → Option Spelled
with_text text None = None
with_text text (Some address) = Some (record { text = text; address = address })

abbrev pub spelled : List ℕ → Option Spelled
spelled text = with_text text (address_of text)

-- the byte is a mark, `.` or `:`; the text ends with a mark
abbrev pub is_mark : ℕ → Bool
is_mark byte = byte == 46 || byte == 58

abbrev pub ends_with_mark : List ℕ → Bool
ends_with_mark text = is_mark (slice_index text (length text - 1))

-- the address before the mark that ends a run
abbrev pub before_mark : List ℕ → Option Spelled
before_mark run = if ends_with_mark run then spelled (take (length run - 1) run) else None

-- the run without the mark that ends it, or the run if no mark does
abbrev pub without_mark : List ℕ → List ℕ
without_mark run = if ends_with_mark run then take (length run - 1) run else run

-- how many digits end a text
abbrev pub digits_at_end : List ℕ → ℕ
digits_at_end text = position_or_len (λ byte. not (is_ascii_digit byte)) (reverse text)

-- this many bytes at the end of a text are as many as the digits of a port, one to five, and a `:` is before them
abbrev pub is_port : ℕ → List ℕ → Bool
is_port size text = nat_lt 0 size && nat_le size 5 && slice_index (reverse text) size == 58

-- the text has a `.`
abbrev pub has_dot : List ℕ → Bool
has_dot text = list_any (λ byte. byte == 46) text

-- the address before a port that ends a run, if it has a `.`: it is IPv4, or IPv6 that ends as IPv4 does. After other
-- IPv6 addresses nothing tells a port from a part of the address
abbrev pub before_digits : ℕ → List ℕ → Option Spelled
before_digits size run =
    let end = length run - size - 1 in
    if is_port size run && has_dot (take end run) then spelled (take end run) else None

unfoldable pub before_port : List ℕ → Option Spelled
before_port run = before_digits (digits_at_end run) run

-- the first of two options that is `Some`, or `None`
abbrev pub or_else : Option Spelled → Option Spelled → Option Spelled
or_else (Some first) second = Some first
or_else None second = second

-- the address that begins a run: the one that the whole run names, else the one before a mark at its end, else the one
-- before a port, which a mark may follow
unfoldable pub begun_by : List ℕ → Option Spelled
begun_by run = or_else (spelled run) (or_else (before_mark run) (before_port (without_mark run)))

-- the byte occurs in address texts: a hex digit, `.` or `:`
abbrev pub is_address_byte : ℕ → Bool
is_address_byte byte =
    is_in_range 48 57 byte || is_in_range 65 70 byte || is_in_range 97 102 byte || byte == 46 || byte == 58

-- the text is a word: its bytes are run bytes, and one of them occurs in no address text
abbrev pub is_word : List ℕ → Bool
is_word text = list_all is_run_byte text && not (list_all is_address_byte text)

abbrev pub is_colon : ℕ → Bool
is_colon byte = byte == 58

-- what follows a word and the first `:` of a text, or nothing if no word is before that `:`
unfoldable pub behind_word : List ℕ → List ℕ
behind_word text = if is_word (before_first is_colon text) then after_first is_colon text else []

-- the address of a run: the one that begins it, else the one that begins what follows a word and a `:`
unfoldable pub address_in : List ℕ → Option Spelled
address_in run = or_else (begun_by run) (begun_by (behind_word run))

-- the addresses of a line: those of its runs, in order
abbrev pub addresses_of : List ℕ → List Spelled
addresses_of line = filter_map address_in (runs_of line)
