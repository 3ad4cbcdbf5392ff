-- How the lines of a list are taken, one after another.
use Rattle.cidr_join.proofs.Words.{◌≡◌, ℕ, Bool, true, false, List, [], ◌∷◌, ◌++◌, refl, inr, sym, ap, subst, ◌∙◌, append_assoc, append-nil, Option, None, Some, Result, Ok, Err, OnOk, IfErr, insert, Network, block_of, ReadsEntry, Entry, Pair, trimmed, addresses_of, entry_part, Names, Says, Values, SetsAll, IsGoodEntry, SetsEntry, EntryHasOne, IsRefusal, Keeps, TakesLine, LineFails, RefusesLine, refuses, ListRules, Networks, RouteFault, Value}
use Rattle.lists.specs.declared.entry.Entry.TheVariants as entries
use Rattle.cidr_join.specs.declared.line.Cause.TheVariants as causes
use Rattle.cidr_join.specs.declared.routes.RouteFault.TheVariants as routes

-- one more network got the value
pub sets_more : (w : ℕ) (before between after : Values) (done : List Network) (n : Network) (value : Value)
    → SetsAll w before done value between
    → after ≡ insert between (block_of w n) value → SetsAll w before (done ++ n ∷ []) value after
sets_more w before between after [] n value p q = q ∙ ap (λ (t : Values). insert t (block_of w n) value) p
sets_more w before between after (first ∷ done) n value p q =
    sets_more w (insert before (block_of w first) value) between after done n value p q

-- some of the blocks of a range got the value, and `left` are left
abbrev pub Set : ℕ → Values → Value → List Network → List Network → Values → Type 0
Set w before value all left now = (done : List Network) × (all ≡ done ++ left) × SetsAll w before done value now

pub none_set : (w : ℕ) (before : Values) (value : Value) (all : List Network) → Set w before value all all before
none_set w before value all = ([], refl, refl)

pub one_more_set : (w : ℕ) (before between after : Values) (value : Value) (all was left : List Network) (n : Network)
    → Set w before value all was between
    → was ≡ n ∷ left → after ≡ insert between (block_of w n) value → Set w before value all left after
one_more_set w before between after value all was left n s e sets = (
  s.0 ++ n ∷ [],
  s.1 ∙ ap (λ l. s.0 ++ l) e ∙ sym (append_assoc s.0 (n ∷ []) left),
  sets_more w before between after s.0 n value s.2 sets,
)

pub all_set : (w : ℕ) (before after : Values) (value : Value) (all was : List Network)
    → Set w before value all was after → was ≡ [] → SetsAll w before all value after
all_set w before after value all was s e =
    subst (λ (l : List Network). SetsAll w before l value after) (sym (s.1 ∙ ap (λ l. s.0 ++ l) e ∙ append-nil s.0)) s.2

-- if one family of networks is unchanged, so are both
both : Values → Values → Networks
both v4 v6 = record { v4 = v4; v6 = v6 }

pub kept_v4 : {T : Type 0} (result : Result T RouteFault) (old : Networks) (v4 : Values)
    → IfErr result (Keeps old.v4 v4) → IfErr result (Keeps old (record { v4 = v4; v6 = old.v6 }))
unfolding both
kept_v4 (Ok done) old v4 h = tt
kept_v4 (Err routes.OutOfMemory) old v4 h = tt
kept_v4 (Err (routes.Refused cause)) old v4 h = ap (λ (t : Values). both t old.v6) h

pub kept_v6 : {T : Type 0} (result : Result T RouteFault) (old : Networks) (v6 : Values)
    → IfErr result (Keeps old.v6 v6) → IfErr result (Keeps old (record { v4 = old.v4; v6 = v6 }))
unfolding both
kept_v6 (Ok done) old v6 h = tt
kept_v6 (Err routes.OutOfMemory) old v6 h = tt
kept_v6 (Err (routes.Refused cause)) old v6 h = ap (λ (t : Values). both old.v4 t) h

-- a fault that cannot be a repetition is that memory ran out
pub only_memory : (P : Type 0) (fault : RouteFault) → ¬ P → IsRefusal P fault → fault ≡ routes.OutOfMemory
only_memory P routes.OutOfMemory none h = refl
only_memory P (routes.Refused (causes.Entry fault)) none h = absurd h
only_memory P (routes.Refused causes.Value) none h = absurd h
only_memory P (routes.Refused causes.Second) none h = absurd h
only_memory P (routes.Refused causes.Twice) none h = absurd (none h)
only_memory P (routes.Refused causes.Length) none h = absurd h
only_memory P (routes.Refused causes.HostBits) none h = absurd h

-- ---- one line

good_entry : (text : List ℕ) (entry : Entry) → ReadsEntry text (Ok (Some entry)) → IsGoodEntry entry
good_entry text (entries.Network n) h = tt
good_entry text (entries.Range first last) h = h.1.2

good_named : (ranges : Bool) (text : List ℕ) (pair : Option Pair) (entry : Entry) (value : List ℕ)
    → Names ranges text pair entry value → IsGoodEntry entry
good_named true text (Some pair) entry value h = subst (λ (e : Entry). IsGoodEntry e) (sym h.0) h.1
good_named true text None entry value h = good_entry (entry_part text) entry h.0
good_named false text pair entry value h = good_entry (entry_part text) entry h.1.0

pub good_said : (bare ranges : Bool) (line : List ℕ) (entry : Entry) (value : Value)
    → Says bare ranges line entry value → IsGoodEntry entry
good_said bare ranges line entry value says =
    good_named ranges (trimmed line) (addresses_of (trimmed line)) entry value.bytes.now says.1

pub line_set : {T E : Type 0} (result : Result T E) (rules : ListRules) (before after : Networks) (line : List ℕ)
    (entry : Entry) (value : Value) → Says rules.bare rules.ranges line entry value → refuses rules entry ≡ false
    → OnOk result (SetsEntry rules.last_wins before entry value after) → OnOk result (TakesLine rules before line after)
line_set (Ok done) rules before after line entry value says allowed h = inr (entry, value, says, (allowed, h))
line_set (Err fault) rules before after line entry value says allowed h = tt

fault_has : (fault : RouteFault) (rules : ListRules) (before : Networks) (line : List ℕ) (entry : Entry) (value : Value)
    → Says rules.bare rules.ranges line entry value → refuses rules entry ≡ false
    → IsRefusal (EntryHasOne rules.last_wins before entry) fault → LineFails rules before line fault
fault_has routes.OutOfMemory rules before line entry value says allowed h = tt
fault_has (routes.Refused (causes.Entry fault)) rules before line entry value says allowed h = absurd h
fault_has (routes.Refused causes.Value) rules before line entry value says allowed h = absurd h
fault_has (routes.Refused causes.Second) rules before line entry value says allowed h = absurd h
fault_has (routes.Refused causes.Twice) rules before line entry value says allowed h = (entry, value, says, (allowed, h))
fault_has (routes.Refused causes.Length) rules before line entry value says allowed h = absurd h
fault_has (routes.Refused causes.HostBits) rules before line entry value says allowed h = absurd h

pub line_has : {T : Type 0} (result : Result T RouteFault) (rules : ListRules) (before : Networks) (line : List ℕ)
    (entry : Entry) (value : Value) → Says rules.bare rules.ranges line entry value → refuses rules entry ≡ false
    → IfErr result (IsRefusal (EntryHasOne rules.last_wins before entry)) → IfErr result (LineFails rules before line)
line_has (Ok done) rules before line entry value says allowed h = tt
line_has (Err fault) rules before line entry value says allowed h =
    fault_has fault rules before line entry value says allowed h

pub host_bits_said : (rules : ListRules) (before : Networks) (line : List ℕ) (entry : Entry) (value : Value)
    → Says rules.bare rules.ranges line entry value → refuses rules entry ≡ true
    → RefusesLine rules before line causes.HostBits
host_bits_said rules before line entry value says loose = (entry, value, says, loose)

-- what follows from what a line says
pub ruleset line_said = (good_said, line_set, line_has, host_bits_said)
