-- How a run ends, by what its words ask for.
use Rattle.options.proofs.Words.{◌++◌, ℕ, List, ◌⊎◌, inl, inr, subst, Option, None, Some, MatchOption, String, Ending, EndsPrinting, Refuses, text_asked, not_asked, items_of, AsksFor, EndsAsked, EndsAs, EndsAtOnce, Item, Table}
use Rattle.std.proofs.Common.{codes}
use Rattle.options.specs.declared.items.Mode.TheVariants as modes

module _ {Z W E : Type 0} (table : Table) (program help version : List ℕ) (words : List (String Z))
    (end : Ending W E) where
  -- what they asked for was done
  pub done : (IsDone : List Item → Type 0) (items : List Item) → AsksFor table help version words items → IsDone items
      → EndsAs table program help version words IsDone end
  done IsDone items asks h =
      not_asked help version words _ end asks.no_text
      (inr (subst (λ (i : List Item). EndsAsked table i IsDone end) asks.are (inr (asks.right, h))))

  abbrev Reads : (List Item → Type 0) → Type 0
  Reads IsDone = Refuses (program ++ codes ": out of memory\n") end ⊎ EndsAsked table (items_of table.rows.now
      modes.Free words) IsDone end

  by_text : (IsDone : List Item → Type 0) (text : Option (List ℕ))
      → MatchOption text (Reads (λ items. ⊥)) (λ text. EndsPrinting text end)
      → MatchOption text (Reads IsDone) (λ text. EndsPrinting text end)
  by_text IsDone (Some text) printed = printed
  by_text IsDone None (inl refused) = inl refused
  by_text IsDone None (inr (inl wrong)) = inr (inl wrong)
  by_text IsDone None (inr (inr done)) = absurd done.1

  -- they asked for nothing
  pub not_done : (IsDone : List Item → Type 0) → EndsAtOnce table program help version words end
      → EndsAs table program help version words IsDone end
  not_done IsDone h = by_text IsDone (text_asked help version words) h
