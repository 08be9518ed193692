-- The text that a log's lines make, wherever they stand.
use Rattle.std.specs.Prelude.{ℕ, List}
use Rattle.play_log.specs.declared.form.Form.{Form}
use Rattle.play_log.specs.declared.form.Form.TheVariants.{Listed, Merged}

abbrev pub text_in : Form → List ℕ
text_in (Listed text) = text
text_in (Merged text) = text
