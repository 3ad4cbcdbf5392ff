-- How a run ends.
use Rattle.cidr_join.proofs.Words.{◌≡◌, ◌∙◌, ◌⊎◌, ℕ, Bool, true, false, true≢false, List, sym, ap, subst, inl, inr, Option, Some, Ending, KnownLists, Item, lines_of, Values, no_networks, Takes, EndsAsked, EndsBy, EndsFiles, EndsGrouping, EndsJoining, EndsTally, JoinsLogs, RunsOut, answers_of, lengths_of, rules_of, Answers, Join, Lengths, Networks, Routes}

pub same_routes : (routes : Routes) (networks : Networks) → routes.v4 ≡ networks.v4 → routes.v6 ≡ networks.v6
    → routes ≡ record { v4 = networks.v4; v6 = networks.v6 }
same_routes routes networks a b =
    ap (λ (t : Values). with_both t routes.v6) a ∙ ap (λ (t : Values). with_both networks.v4 t) b where
      with_both : Values → Values → Routes
      with_both v4 v6 = record { v4 = v4; v6 = v6 }

module _ {W E : Type 0} (known : KnownLists) (items : List Item) (end : Ending W E) where
  -- the networks that decide what is printed were read, and the logs were joined to them
  pub joined_by : (texts : List (List ℕ)) (networks : Networks)
      → Takes (rules_of items) no_networks (lines_of texts) (Some networks)
      → (by : Answers) → by ≡ answers_of items networks → RunsOut end ⊎ EndsAsked known items by end
      → RunsOut end ⊎ EndsJoining known items texts end
  joined_by texts networks taken by same (inl memory) = inl memory
  joined_by texts networks taken by same (inr h) = inr
      (inr (networks, taken, subst (λ (a : Answers). EndsAsked known items a end) same h))

  -- whether lines are grouped
  pub by_group : (group : Option Lengths) → lengths_of items ≡ group → RunsOut end ⊎ EndsGrouping group known items end
      → RunsOut end ⊎ EndsFiles known items end
  by_group group is h = subst (λ (o : Option Lengths). RunsOut end ⊎ EndsGrouping o known items end) (sym is) h

-- what is done with the logs
module _ {W E : Type 0} (join : Join) (known : KnownLists) (names : List (List ℕ)) (end : Ending W E) where
  pub by_tally : (tally : Bool) → tally ≡ true → RunsOut end ⊎ EndsTally join known names end
      → RunsOut end ⊎ EndsBy tally join known names end
  by_tally true is h = h
  by_tally false is h = absurd (true≢false (sym is))

  pub by_lines : (tally : Bool) → tally ≡ false → JoinsLogs join known names end → EndsBy tally join known names end
  by_lines true is h = absurd (true≢false is)
  by_lines false is h = h
