use Rattle.lists.proofs.Known.{◌≡◌, ◌∙◌, ℕ, Bool, List, true, false, Option, None, Result, Ok, Err, Entry, EntryFault, MatchBool, ReadsNft, ReadsPart, is_nft_frame, nft_part, refl, subst, sym, option_map}
use Rattle.lists.proofs.set_lines.read_nft.Goals as goal

frame : (line : List ℕ) (result : Result (Option Entry) EntryFault) → is_nft_frame line ≡ true
    → result ≡ Ok None → ReadsNft line result
frame line result is none =
    subst (λ t. MatchBool t (result ≡ Ok None) (ReadsPart line (nft_part line) result)) (sym is) none

element : (line : List ℕ) (part : Option (List ℕ)) (result : Result (Option Entry) EntryFault)
    → is_nft_frame line ≡ false → part ≡ nft_part line → ReadsPart line part result → ReadsNft line result
element line part result is same reads =
    subst (λ t. MatchBool t (result ≡ Ok None) (ReadsPart line (nft_part line) result)) (sym is)
    (subst (λ p. ReadsPart line p result) same reads)

pub returns-then-is_nft_frame : goal.returns-then-is_nft_frame
returns-then-is_nft_frame c =
    frame c.args.line.now (Ok None) (sym c.is_nft_frame.ensures ∙ c.if-is_nft_frame.true) refl

pub returns : goal.returns
returns c =
    element c.args.line.now (option_map (λ text. text.now) c.nft_part.result) c.read_part.result
    (sym c.is_nft_frame.ensures ∙ c.if-is_nft_frame.false) c.nft_part.ensures c.read_part.ensures
