use Rattle.cidr_info.proofs.Known.{◌≡◌, ◌∙◌, ◌++◌, [], ℕ, List, append-nil, append_assoc, puts_it}
use Rattle.cidr_info.proofs.printing.put_value.Goals as goal

-- three texts, by other names
three_texts : (a b c x y z : List ℕ) → a ≡ x → b ≡ y → c ≡ z → a ++ (b ++ (c ++ [])) ≡ x ++ y ++ z
three_texts a b c x y z first second third = cc (append-nil c, append_assoc x y z)

pub returns : goal.returns
returns g c =
    puts_it c.put_all.result c.args.output.now c.put_all.new.output _ _
    (three_texts _ _ _ _ _ _ c.before_value-before.ensures (c.as_str.ensures.value ∙ c.value_of-value.ensures)
    c.behind_value-behind.ensures)
    c.put_all.ensures
