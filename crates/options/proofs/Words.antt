-- The words of this crate and of those below, passed on from one place.
pub use Rattle.line_addresses.specs.Numbers.{ordinal_in}
pub use Rattle.options.specs.Faults.{are_right_by, is_right_item, is_right_option}
pub use Rattle.options.specs.Given.{files_of, inputs_of, is_given, last_value, times, value_of}
pub use Rattle.options.specs.Items.{begins, behind_sign, free_items, free_mode, items_of, letters, letters_mode}
pub use Rattle.options.specs.Runs.{AsksFor, EndsAs, EndsAsked, EndsAtOnce}
pub use Rattle.options.specs.Table.{Entry, flag, long, long_flag, valued}
pub use Rattle.options.specs.Values.{is_right, lengths_in, number_in}
pub use Rattle.options.specs.declared.items.Item.{Item}
pub use Rattle.options.specs.declared.table.Pair.{Pair}
pub use Rattle.options.specs.declared.table.Row.{Row}
pub use Rattle.options.specs.declared.table.Table.{Table}
pub use Rattle.program.proofs.Runs.{not_asked}
pub use Rattle.program.specs.Endings.{Ending, EndsPrinting, Refuses}
pub use Rattle.program.specs.Runs.{text_asked}
pub use Rattle.std.proofs.Common.{Bool, List, [], ap, arith, drop, false, inl, inr, length, map, not, refl, subst, sym, true, true≢false, ℕ, ◌&&◌, ◌++◌, ◌-◌, ◌<◌, ◌==◌, ◌∙◌, ◌∷◌, ◌≡◌, ◌≢◌, ◌≤◌, ◌⊎◌}
pub use Rattle.std.proofs.lemmas.Bool.Decides.{eqb_tells}
pub use Rattle.std.proofs.lemmas.Str.Pattern.{strip_prefix_char}
pub use Rattle.std.specs.List.{list_all}
pub use Rattle.std.specs.Option.{is_some}
pub use Rattle.std.specs.Prelude.{MatchOption, None, Option, Some, String, bytes_eq, codes, if◌then◌else◌, nat_lt}
pub use Rattle.std.specs.String.{string_bytes}
pub use Rattle.options.specs.Operands.{is_taken}
