use Rattle.lists.proofs.Known.{◌≡◌, ℕ, List, Option, Result, Entry, EntryFault, ReadsNft, subst, sym}
use Rattle.lists.specs.LineForms.{ReadsEntryBy, ReadsIn}
use Rattle.lists.specs.declared.forms.LineForm.TheVariants.{Nft}
use Rattle.lists.specs.declared.rules.Rules.{Rules}
use Rattle.lists.proofs.forms.read_in_form.Goals as goal

by_rules : (rules : Rules) (line : List ℕ) (result : Result (Option Entry) EntryFault) → rules.form ≡ Nft
    → ReadsNft line result → ReadsEntryBy rules line result
by_rules rules line result is reads = subst (λ f. ReadsIn f rules.takes_masks line result) (sym is) reads

pub returns-in-Nft : goal.returns-in-Nft
returns-in-Nft c = by_rules c.args.rules c.args.line.now c.read_nft.result c.in-Nft.is c.read_nft.ensures
