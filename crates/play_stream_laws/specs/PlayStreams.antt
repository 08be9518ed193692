-- The streams of a world of a play: what each input has taken, what is on its way to it, and what the files of the sinks
-- have taken.
use Rattle.std.specs.Prelude.{◌≡◌, ℕ, ◌<◌, ◌≤◌, List, [], Some}
use Rattle.il_machine.specs.World.{World}
use Rattle.play_model.specs.Content.{AreStreams}
use Rattle.play_model.specs.Numbers.{to_executing, back_to_idle}
use Rattle.play_model.specs.Play.{Play}
use Rattle.play_world_laws.specs.Cast.{components_of, taker_of}
use Rattle.play_world_laws.specs.PlayWorlds.{PlayCast}
use Rattle.play_stream_laws.specs.Flowing.{flowing_in}
use Rattle.play_stream_laws.specs.Contents.{PlayContents, network_of}
use Rattle.play_stream_laws.specs.Streams.{EachSink, HasAll, HasSunk}
use Rattle.play_stream_laws.specs.PlayContents.{HasPlayContents}

pub record HasPlayStreams (x : PlayCast) (k : PlayContents) (p : Play) (w : World) : Type 0 where
  pub contents : HasPlayContents x k w
  -- what the input of each link has taken
  pub taken : ℕ → List ℕ
  -- until the second Idle is begun the streams are the model's; from then on each input has taken its whole stream
  pub flowing : p.phase ≤ to_executing → AreStreams (network_of x.cast) k.model p.flow (record { taken = taken; flowing = flowing_in x.cast w })
  pub whole : back_to_idle ≤ p.phase → HasAll x.cast k taken
  pub done : back_to_idle ≤ p.phase → (c : ℕ) → c < components_of x.cast → (p.flow).done c ≡ (((x.cast).layout).network).frames c
  -- each sink's file was empty when it came
  pub new : EachSink x.cast w (λ l a s. s.known ≡ Some [])
  pub sinks : EachSink x.cast w (λ l a s. HasSunk (k.terms (taker_of x.cast l)) s ((p.flow).ended (taker_of x.cast l)) (taken l))
