-- What a call leaves of the streams of a play, as the laws on streams have it.
use Rattle.std.specs.Prelude.{◌≡◌, ℕ, ◌<◌, ◌≤◌, List, None, Option, Some, Result, slice_get}
use Rattle.omx_types.specs.declared.error.CallError.{CallError}
use Rattle.omx_types.specs.declared.error.OmxError.{OmxError}
use Rattle.omx_types.specs.declared.fault.PartFault.{PartFault}
use Rattle.omx_types.specs.declared.handle.Handle.{Handle}
use Rattle.il_machine.specs.declared.answer.Acted.{Acted}
use Rattle.il_machine.specs.Claims.{Claim, Claimed}
use Rattle.il_machine.specs.Commands.{RunCommand}
use Rattle.il_machine.specs.Finishing.{Finish}
use Rattle.il_machine.specs.Flow.{HandBack, HandOver, Release, Supply}
use Rattle.il_machine.specs.Notes.{EndNote, TakeNote, Took}
use Rattle.il_machine.specs.Stepping.{IsDoneOf, WorkDone}
use Rattle.il_machine.specs.World.{Component, Work, World}
use Rattle.play_model.specs.Content.{ArePlain}
use Rattle.play_model.specs.Play.{Play, other_component, supplier}
use Rattle.play_world_laws.specs.Cast.{away_at, components_of, home_at, links_of, script_place}
use Rattle.play_world_laws.specs.Worlds.{Names}
use Rattle.play_stream_laws.specs.Contents.{PlayContents, network_of}
use Rattle.play_stream_laws.specs.Fronts.{AreFronts}
use Rattle.play_world_laws.specs.PlayWorlds.{IsPlayWorld, PlayCast}
use Rattle.play_stream_laws.specs.PlayStreams.{HasPlayStreams}
use Rattle.play_run.specs.Playing.{HasStreamsFrom}

-- The call leaves the streams of the world, however that which it leads to is read as a play in the same phase.
abbrev pub StreamsOn : PlayCast → Play → World → World → Type 0
StreamsOn x p w v = (k : PlayContents) (later : ℕ) (q : Play) → HasPlayStreams x k p w → IsPlayWorld x later q v → q.phase ≡ p.phase → HasPlayStreams x k q v

-- however the world is read as a play in the same phase, it has the streams from the opening
abbrev pub StreamsGo : PlayCast → Play → World → World → Type 0
StreamsGo x p opening v = (later : ℕ) (q : Play) → IsPlayWorld x later q v → q.phase ≡ p.phase → HasStreamsFrom x opening q v

pub streams_go : (x : PlayCast) (p : Play) (opening w v : World) → HasStreamsFrom x opening p w → StreamsOn x p w v → StreamsGo x p opening v
streams_go x p opening w v F S = λ later q W e k C E. S k later q (F k C E) W e

-- ---- a component's calls

module _ (x : PlayCast) (c : ℕ) (h : Handle) where
  -- of the component that the handle names in a world of the play
  abbrev pub OfNamed : (World → World → Type 0) → Type 0
  OfNamed Call = (recent : ℕ) (p : Play) (w v : World) → IsPlayWorld x recent p w → c < components_of x.cast → Names x.cast w c h → Call w v → StreamsOn x p w v

  abbrev pub RunsOn : Result Acted OmxError → Type 0
  RunsOn r = OfNamed (λ w v. RunCommand w h r v)

  abbrev pub TakesOn : Result Took OmxError → Type 0
  TakesOn r = OfNamed (λ w v. TakeNote w h r v)

  abbrev pub EndsOn : Type 0
  EndsOn = OfNamed (λ w v. EndNote w h v)

  abbrev pub ClaimsOn : Type 0
  ClaimsOn = (r : Result Claimed OmxError) → OfNamed (λ w v. Claim w h r v)

module _ (x : PlayCast) (c : ℕ) where
  -- the work of the component is out, and comes back from its step with that fault
  pub record IsBackFrom (w v : World) (fault : Option PartFault) : Type 0 where
    pub component : Component
    pub there : slice_get w.components (script_place x.cast c) ≡ Some component
    pub work : Work
    pub out : component.work ≡ Some work
    pub done : WorkDone
    pub its : done.component ≡ script_place x.cast c
    pub does : IsDoneOf w component work done
    pub faults : done.fault ≡ fault
    pub comes : Finish w done v

  abbrev pub FinishesOn : Type 0
  FinishesOn = (recent : ℕ) (p : Play) (w v : World) → IsPlayWorld x recent p w → c < components_of x.cast → IsBackFrom w v None → StreamsOn x p w v

  -- after a step that failed the sinks' files have taken fronts
  abbrev pub FailsWith : PartFault → Type 0
  FailsWith fault = (recent : ℕ) (p : Play) (w v : World) → IsPlayWorld x recent p w → c < components_of x.cast → IsBackFrom w v (Some fault)
      → (k : PlayContents) → HasPlayStreams x k p w → (stream : ℕ → List ℕ) → ArePlain (network_of x.cast) k.model stream → AreFronts x.cast k v stream

-- ---- a link's calls

module _ (x : PlayCast) (l : ℕ) (h : Handle) where
  -- of the end that supplies the link, or of the other one
  abbrev pub OfEnd : ℕ → (World → World → Type 0) → Type 0
  OfEnd c Call = (recent : ℕ) (p : Play) (w v : World) → IsPlayWorld x recent p w → l < links_of x.cast → Names x.cast w c h → Call w v → StreamsOn x p w v

  abbrev pub SuppliesOn : Result Acted CallError → Type 0
  SuppliesOn r = OfEnd (supplier (x.cast).layout l) (λ w v. Supply w h (home_at x.cast l).port r v)

  abbrev pub ReleasesOn : Result Acted OmxError → Type 0
  ReleasesOn r = OfEnd (supplier (x.cast).layout l) (λ w v. Release w h (home_at x.cast l).port r v)

  abbrev pub OversOn : Result Acted OmxError → Type 0
  OversOn r = OfEnd (supplier (x.cast).layout l) (λ w v. HandOver w h (home_at x.cast l).port r v)

  abbrev pub BacksOn : Result Acted OmxError → Type 0
  BacksOn r = OfEnd (other_component (x.cast).layout l) (λ w v. HandBack w h (away_at x.cast l).port r v)

-- ---- the opening

-- where nothing has flowed and each sink's file is new there are streams
abbrev pub OpensOn : PlayCast → Type 0
OpensOn x = (recent : ℕ) (p : Play) (w : World) → IsPlayWorld x recent p w → p.phase ≤ 1 → HasStreamsFrom x w p w
