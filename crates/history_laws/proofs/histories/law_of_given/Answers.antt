use Rattle.history_laws.proofs.GivenNotes.{closing_given, steps_stay, steps_add, steps_free, comes_without, runs_numbered, runs_stay, progress_told, progress_stays}
use Rattle.history_laws.proofs.histories.law_of_given.Goals as goal

pub returns : goal.returns
returns c = record {
  stays = steps_stay;
  adds = steps_add;
  frees = steps_free;
  new = comes_without;
  numbered = runs_numbered;
  closing = closing_given;
  told = progress_told;
  runs = runs_stay;
  progress = progress_stays;
}
