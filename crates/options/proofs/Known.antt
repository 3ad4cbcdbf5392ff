-- The words and the lemmas that answers cite, passed on from one place.
pub use Rattle.options.proofs.Words.{Bool, List, Row, [], ap, arith, begins, behind_sign, codes, drop, eqb_tells, false, files_of, if◌then◌else◌, inl, inr, is_right_item, is_taken, items_of, last_value, length, letters, letters_mode, list_all, map, refl, string_bytes, strip_prefix_char, sym, true, true≢false, value_of, ℕ, ◌++◌, ◌-◌, ◌<◌, ◌==◌, ◌∙◌, ◌∷◌, ◌≡◌, ◌≢◌, ◌≤◌}
