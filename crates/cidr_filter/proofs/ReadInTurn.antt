-- Lists that are read in turn.
use Rattle.cidr_filter.proofs.Words.{◌≡◌, ◌∙◌, List, false, sym, ap, subst, Result, Ok, Err, OnOk, IfOk, IfErr, IsAggregate, Network, ReadLists, nothing_read, Refused, no_refusals, KnownLists, ReadFault, Item, HasBlocksOf, ReadsItems, StopsAtItems, HoldsRead, rules_of, ReadsAll, HasSets, HasBlocks, Matcher, Addresses, Networks, Blocks, Question}
use Rattle.cidr_filter.specs.declared.reading.Question.TheVariants as questions

-- ---- what was read

pub sets_held : {E : Type 0} (result : Result Matcher E) (question : Question) (read : ReadLists) (v4 v6 : List Network)
    → question ≡ questions.Address
    → IsAggregate 32 read.v4 v4 → IsAggregate 128 read.v6 v6 → IfOk result (HasSets v4 v6)
    → IfOk result (HoldsRead question read)
sets_held (Ok (Addresses sets)) question read v4 v6 e f g h = (
  e,
  subst (λ (n : List Network). IsAggregate 32 read.v4 n) (sym h.0) f,
  subst (λ (n : List Network). IsAggregate 128 read.v6 n) (sym h.1) g,
)
sets_held (Ok (Networks set)) question read v4 v6 e f g h = absurd h
sets_held (Ok (Blocks tables)) question read v4 v6 e f g h = absurd h
sets_held (Err fault) question read v4 v6 e f g h = tt

pub blocks_held : {E : Type 0} (result : Result Matcher E) (question : Question) (read : ReadLists)
    (v4 v6 : List Network) → question ≡ questions.Block → v4 ≡ read.v4 → v6 ≡ read.v6
    → IfOk result (HasBlocks v4 v6) → IfOk result (HoldsRead question read)
blocks_held (Ok (Addresses sets)) question read v4 v6 e f g h = absurd h
blocks_held (Ok (Networks set)) question read v4 v6 e f g h = absurd h
blocks_held (Ok (Blocks tables)) question read v4 v6 e f g h = (
  e,
  subst (λ (n : List Network). HasBlocksOf 32 n tables.v4) f h.0,
  subst (λ (n : List Network). HasBlocksOf 128 n tables.v6) g h.1,
)
blocks_held (Err fault) question read v4 v6 e f g h = tt

pub all_read : {T E F : Type 0} (result : Result T E) (known : KnownLists) (items : List Item) (question : Question)
    (listed : Result Matcher F) (start read : ReadLists)
    (before refused : Refused) → before ≡ no_refusals → start ≡ nothing_read (rules_of items) before
    → OnOk result (ReadsItems known 0 items start read) → OnOk result (read.is_out_of_memory ≡ false)
    → IfOk listed (HoldsRead question read) → refused ≡ read.refused
    → OnOk result (ReadsAll known items question listed refused)
all_read (Ok done) known items question listed start read before refused none e h m holds same = record {
  read = read;
  is_read = record {
    lists = subst (λ (s : ReadLists). ReadsItems known 0 items s read) (e ∙ ap (nothing_read (rules_of items)) none) h;
    memory = m;
  };
  holds = holds;
  refused_lines = sym same;
}
all_read (Err fault) known items question listed start read before refused none e h m holds same = tt

-- ---- where the reading stops

pub all_stopped : {T : Type 0} (result : Result T ReadFault) (known : KnownLists) (items : List Item) (before : Refused)
    (start read : ReadLists) (refused : Refused)
    → before ≡ no_refusals → start ≡ nothing_read (rules_of items) before
    → IfErr result (λ fault. StopsAtItems known 0 items start fault read.refused) → refused ≡ read.refused
    → IfErr result (λ fault. StopsAtItems known 0 items (nothing_read (rules_of items) no_refusals) fault refused)
all_stopped (Ok done) known items before start read refused none e h same = tt
all_stopped (Err fault) known items before start read refused none e h same =
    subst (λ (r : Refused). StopsAtItems known 0 items (nothing_read (rules_of items) no_refusals) fault r) (sym same)
    (subst (λ (s : ReadLists). StopsAtItems known 0 items s fault read.refused) (e ∙ ap (nothing_read (rules_of items)) none) h)
