use Rattle.std.proofs.Common.{inl, inr}
use Rattle.play_history_laws.proofs.Rounds.{conducted_accepted}
use Rattle.play_history_laws.proofs.Lost.{none_lost}
use Rattle.play_history_laws.proofs.conducting.law_of_halts.Goals as goal

pub returns : goal.returns
returns c = λ plan files handles w R S own entries after N r H. elim H [
  | inl F ↦ conducted_accepted plan files handles w R S own entries after N r F
  | inr L ↦ none_lost plan files handles w R S own entries after N r L
]
