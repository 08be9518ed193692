-- What a pass knows after its call.
use Rattle.std.proofs.Common.{◌≡◌, ◌∙◌, sym, ap, subst, append_assoc, Option, None, MatchOption, List, [], ◌∷◌, ◌++◌}
use Rattle.il_machine.specs.World.{World}
use Rattle.il_machine.specs.Whole.{Stands}
use Rattle.il_graph.specs.Shown.{kept}
use Rattle.turnstile.specs.declared.entry.Entry.{Entry}
use Rattle.state_words.specs.Shown.{Within, States, states_of}
use Rattle.state_words.specs.Tokens.{IsReaderOf, known}
use Rattle.state_words.specs.declared.words.Reader.{Reader}
use Rattle.graph_acts.specs.Plain.{Sight}
use Rattle.board.specs.declared.asked.Asked.{Asked}
use Rattle.board.specs.declared.asked.Told.{Told}
use Rattle.board.specs.declared.watched.Watched.{Watched}
use Rattle.board.specs.Asking.{last_told}
use Rattle.board.specs.Histories.{graph_of, words_of, Reaches, Legal}
use Rattle.board.proofs.Bare.{told_last}

pub within_trans : (xs ys zs : List States) → Within xs ys → Within ys zs → Within xs zs
within_trans xs ys zs f g i = let a = f i in let b = g i in (a.0 ++ b.0, sym (append_assoc (states_of xs i) a.0 b.0) ∙ (ap (λ l. l ++ b.0) a.1 ∙ b.1))

module _ {S K C : Type 0} (see : Sight S K C) (first : Watched S K C) (seen before : List (Entry (Asked S K C) (Told S K C))) (e : Entry (Asked S K C) (Told S K C)) where
  at_last : (P : Reader → Type 0) → seen ≡ before ++ e ∷ [] → MatchOption (last_told None seen) (Unit {0}) P → P e.reply.reader
  at_last P is m = subst (λ (o : Option Reader). MatchOption o (Unit {0}) P) (ap (last_told None) is ∙ told_last None before e) m

  pub last_reader : seen ≡ before ++ e ∷ [] → Legal see first seen → IsReaderOf (words_of first) e.reply.reader
  last_reader is L = at_last (IsReaderOf (words_of first)) is L.reader

  pub knows_all : (after : List States) → seen ≡ before ++ e ∷ [] → Legal see first seen → Within (known e.reply.reader) after
      → (w : World) → Stands (kept see.progress (graph_of first)) w → (R : Reaches see first w seen) × Within R.all after
  knows_all after is L into w s =
      let R = L.worlds w s in
      let r = at_last (λ (r : Reader). Within R.all (known r)) is R.reader in
      (R, within_trans R.all (known e.reply.reader) after r into)
