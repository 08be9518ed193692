-- What the files of a plan's sinks have taken.
use Rattle.std.proofs.Common.{[], ◌≡◌, ℕ, ◌<◌, ◌≤◌, false, List, Some, MatchOption, sym, ◌∙◌, ap, subst}
use Rattle.il_machine.specs.Finishing.{Finish}
use Rattle.il_machine.specs.Stepping.{WorkDone, IsFrontOf}
use Rattle.il_machine.specs.World.{Stream, World, stream_of}
use Rattle.machine_laws.proofs.Keys.{is_there}
use Rattle.play_model.specs.Content.{ArePlain}
use Rattle.play_forms.specs.Plain.{sink_text}
use Rattle.play_forms.specs.Plans.{PlanValue}
use Rattle.play_model.specs.Play.{Play}
use Rattle.play_world_laws.specs.Cast.{Cast, components_of, taker_of}
use Rattle.play_world_laws.specs.PlayWorlds.{IsPlayWorld, PlayCast}
use Rattle.play_plan_laws.specs.Assemblies.{IsReady, PlayFiles, play_cast_of}
use Rattle.play_result_laws.specs.Files.{AreSamples, IsWriter}
use Rattle.play_result_laws.specs.Worlds.{HasWritten}
use Rattle.play_stream_laws.specs.Contents.{PlayContents, network_of}
use Rattle.play_stream_laws.specs.Fronts.{AreFronts, whole_text}
use Rattle.play_stream_laws.specs.Streams.{EachSink}
use Rattle.play_stream_laws.proofs.Still.{IsStillThere}
use Rattle.play_stream_laws.specs.PlayStreams.{HasPlayStreams}
use Rattle.play_stream_laws.proofs.PlayEnds.{written_fronts, written_whole}
use Rattle.play_stream_laws.proofs.StepStill.{finish_there, still_there}
use Rattle.play_result_laws.specs.Contents.{contents_of, streams_of}
use Rattle.play_result_laws.specs.Texts.{CameEmpty, HasWrittenFront}
use Rattle.play_result_laws.proofs.Ends.{sink_link}
use Rattle.play_result_laws.proofs.Plainly.{plan_plain}

module _ (plan : PlanValue) (files : PlayFiles) (samples : List (List ℕ)) (R : IsReady plan files) (F : AreSamples plan files samples) where
  abbrev y : PlayCast
  y = play_cast_of plan

  abbrev x : Cast
  x = (play_cast_of plan).cast

  abbrev k : PlayContents
  k = contents_of plan files samples

  abbrev stream : ℕ → List ℕ
  stream = streams_of plan samples

  plain_there : ArePlain (network_of (play_cast_of plan).cast) (contents_of plan files samples).model (streams_of plan samples)
  plain_there = plan_plain plan files samples R F (λ l. false)

  -- of each link into a sink, and so of each sink
  pub each_text : (v : World) (P : List ℕ → Stream → Type 0) → EachSink x v (λ l a s. P (whole_text x k l (stream l)) s) → ((c : ℕ) → c < components_of x → IsStillThere x v c)
      → (place : ℕ) (name : List ℕ) → IsWriter plan.parts place name → MatchOption (stream_of place v) ⊥ (P (sink_text plan samples place))
  each_text v P E still place name I =
      let L = sink_link plan files samples R F (λ l. false) place I.0 name I.1 I.2 in
      let T = still (taker_of x L.link) L.inside in
      is_there (stream_of place v) (P (sink_text plan samples place)) T.stream (ap (λ (n : ℕ). stream_of n v) (sym (T.number ∙ L.at)) ∙ T.found)
      (subst (λ (text : List ℕ). P text T.stream) L.text (E L.link T.component T.stream L.below L.sink T.there T.found))

  module _ (recent : ℕ) (p : Play) (w : World) (W : IsPlayWorld (play_cast_of plan) recent p w) (H : HasPlayStreams (play_cast_of plan) (contents_of plan files samples) p w) where
    pub texts_whole : 3 ≤ p.phase → (place : ℕ) (name : List ℕ) → IsWriter plan.parts place name → HasWritten w place (sink_text plan samples place)
    texts_whole late = each_text w (λ text s. s.written ≡ text) (written_whole y k recent p w W H stream plain_there late) (λ c l. still_there y recent p w c W l)

    pub texts_fronts : (place : ℕ) (name : List ℕ) → IsWriter plan.parts place name → HasWrittenFront w place (sink_text plan samples place)
    texts_fronts = each_text w (λ text s. IsFrontOf text s.written) (written_fronts y k recent p w W H stream plain_there) (λ c l. still_there y recent p w c W l)

    pub texts_new : (place : ℕ) (name : List ℕ) → IsWriter plan.parts place name → CameEmpty w place
    texts_new = each_text w (λ text s. s.known ≡ Some []) H.new (λ c l. still_there y recent p w c W l)

  -- a work came back with a fault
  pub texts_failed : (recent : ℕ) (p : Play) (w v : World) (done : WorkDone) → IsPlayWorld (play_cast_of plan) recent p w → Finish w done v → AreFronts (play_cast_of plan).cast (contents_of plan files samples) v (streams_of plan samples)
      → (place : ℕ) (name : List ℕ) → IsWriter plan.parts place name → HasWrittenFront v place (sink_text plan samples place)
  texts_failed recent p w v done W G E = each_text v (λ text s. IsFrontOf text s.written) E (finish_there y recent p w v done W G)

  pub texts_failed_new : (recent : ℕ) (p : Play) (w v : World) (done : WorkDone) → IsPlayWorld (play_cast_of plan) recent p w → Finish w done v → EachSink (play_cast_of plan).cast v (λ l a s. s.known ≡ Some [])
      → (place : ℕ) (name : List ℕ) → IsWriter plan.parts place name → CameEmpty v place
  texts_failed_new recent p w v done W G E = each_text v (λ text s. s.known ≡ Some []) E (finish_there y recent p w v done W G)
