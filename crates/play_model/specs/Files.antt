-- The bytes of a play: only a step changes what an input has taken and what is on its way to it.
use Rattle.std.specs.Prelude.{ℕ, List, [], ◌∷◌}
use Rattle.play_model.specs.Moves.{Move}
use Rattle.play_model.specs.Content.{Contents, AreContents, Streams, streamed, AreEmpty, ArePlain}
use Rattle.play_model.specs.Play.{Layout, Play}
use Rattle.play_model.specs.Acts.{Act, CanActs, acted}
use Rattle.play_model.specs.Reached.{IsBegun}

abbrev pub act_streamed : Layout → Contents → Play → Act → Streams → Streams
act_streamed w k p (Act.Step c n last) st = streamed w.network k p.flow (Move.Step c n last) st
act_streamed w k p _ st = st

abbrev pub all_act_streamed : Layout → Contents → Play → List Act → Streams → Streams
all_act_streamed w k p [] st = st
all_act_streamed w k p (a ∷ acts) st = all_act_streamed w k (acted w a p) acts (act_streamed w k p a st)

-- a list of acts from an opening
pub record IsPlayed (w : Layout) (k : Contents) (p : Play) (st : Streams) (acts : List Act) (stream : ℕ → List ℕ) : Type 0 where
  pub contents : AreContents w.network k
  pub begun : IsBegun w p
  pub empty : AreEmpty st
  pub enabled : CanActs w p acts
  -- the streams that the plain function gives of the files
  pub plain : ArePlain w.network k stream
