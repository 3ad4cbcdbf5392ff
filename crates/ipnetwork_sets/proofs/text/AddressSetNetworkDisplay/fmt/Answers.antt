use Rattle.ipnetwork_sets.proofs.Known.{◌≡◌, ◌+◌, ℕ, List, [], ◌∷◌, ◌++◌, take, Result, Ok, Err, ap, refl, sym, ◌∙◌, has_written_append, has_written_of_eq, has_written_styled_append, has_written_styled_of_eq, take_all, map-id, IsOk, IsErr, Network, text_of, lines_of, next_line}
use Rattle.ipnetwork_sets.proofs.text.AddressSetNetworkDisplay.fmt.Goals as goal

pub loop-block-preserved : goal.loop-block-preserved
loop-block-preserved g c =
    let bs : List Network = c.blocks-blocks.result.now in
    let i : ℕ = c.loop-block.block-index in
    let text : Network → List ℕ = text_of g.A.Address.family in
    let b : Network = c.block-item.result in
    let shown : c.as_str.result.now ≡ text b = c.as_str.ensures.value ∙ c.canonical.ensures.bytes in
    let whole : lines_of text (take i bs) ++ (c.as_str.result.now ++ 10 ∷ []) ≡ lines_of text (take (i + 1) bs) =
    ap (λ (t : List ℕ). lines_of text (take i bs) ++ (t ++ 10 ∷ [])) shown
    ∙ next_line text bs i b c.loop-block-test.true c.block-item.is in
    record {
      plain = λ p.
          let before = c.loop-block.invariant.plain p in
          let first = c.in_ok-write_str.ensures.writes before.plain refl in
          let second = c.in_ok-write_str-2.ensures.writes first.plain refl in
          has_written_of_eq _ _ _ _ _ whole
          (has_written_append _ _ _ _ _ _ before (has_written_append _ _ _ _ _ _ first second));
      styled = λ p.
          let before = c.loop-block.invariant.styled p in
          let first = c.in_ok-write_str.ensures.styled before.flush refl in
          let second = c.in_ok-write_str-2.ensures.styled first.flush refl in
          has_written_styled_of_eq _ _ _ _ _ whole
          (has_written_styled_append _ _ _ _ _ _ before (has_written_styled_append _ _ _ _ _ _ first second));
    }

pub returns : goal.returns
returns g c =
    let bs : List Network = c.blocks-blocks.result.now in
    let text : Network → List ℕ = text_of g.A.Address.family in
    let whole : lines_of text (take c.loop-block.block-index bs) ≡ lines_of text c.args.self.now =
    ap (lines_of text) (take_all c.loop-block.block-index bs c.loop-block-test.false ∙ sym (map-id bs)
    ∙ c.blocks-blocks.ensures.blocks) in
    record {
      writes = λ p ok. has_written_of_eq _ _ _ _ _ whole (c.loop-block.invariant.plain p);
      styled = λ p ok. has_written_styled_of_eq _ _ _ _ _ whole (c.loop-block.invariant.styled p);
    }

not_both : {T E : Type 0} (r : Result T E) → IsErr r → IsOk r → ⊥
not_both (Ok value) e o = cc
not_both (Err error) e o = cc

pub returns-in_err-write_str : goal.returns-in_err-write_str
returns-in_err-write_str g c = record {
  writes = λ p ok. absurd (not_both _ c.from_residual.ensures.0 ok);
  styled = λ p ok. absurd (not_both _ c.from_residual.ensures.0 ok);
}

pub returns-in_err-write_str-2 : goal.returns-in_err-write_str-2
returns-in_err-write_str-2 g c = record {
  writes = λ p ok. absurd (not_both _ c.from_residual-in_err-write_str-2.ensures.0 ok);
  styled = λ p ok. absurd (not_both _ c.from_residual-in_err-write_str-2.ensures.0 ok);
}
