use Rattle.history_laws.proofs.Memories.{steps_memory, steps_hand_in, closing_memory, runs_memory, unfilled_memory, back_memory}
use Rattle.history_laws.proofs.histories.law_of_memory.Goals as goal

pub returns : goal.returns
returns c = record { stays = steps_memory; handed = steps_hand_in; closing = closing_memory; runs = runs_memory; kept = unfilled_memory; back = back_memory }
