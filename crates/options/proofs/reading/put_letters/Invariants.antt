use Rattle.options.proofs.Known.{◌≡◌, ◌++◌, true, length, letters, letters_mode}
use Rattle.options.proofs.reading.put_letters.Given as goal
use denote.Text.{Utf8}
use denote.Shadow.{shadow}

abbrev pub invariant-letters : goal.invariant-letters
invariant-letters l = record {
  text : shadow (Utf8 l.text);
  items : l.all.items ++ letters l.rows l.first l.word l.text ≡ l.initial.all.items
      ++ letters l.rows true l.word l.initial.text;
  mode : letters_mode l.rows l.text ≡ letters_mode l.rows l.initial.text;
}

abbrev pub decreases-letters : goal.decreases-letters
decreases-letters l = length l.text
