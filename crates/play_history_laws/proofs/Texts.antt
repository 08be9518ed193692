-- What the files of a plan's sinks have taken in a world to which a history leads.
use Rattle.std.proofs.Common.{◌≡◌, ℕ, zero, suc, ◌<◌, ◌≤◌, false, true, List, [], ◌∷◌, map, find, slice_get, Some, refl, ◌∙◌, ap, eq-eqb, arith}
use Rattle.std.proofs.lemmas.List.{length-map}
use Rattle.il_machine.specs.Stepping.{IsFrontOf}
use Rattle.il_machine.specs.World.{Component, Stream, World, is_stream_of, number_of}
use Rattle.machine_laws.proofs.Finding.{either}
use Rattle.play_forms.specs.Plain.{sink_text}
use Rattle.play_forms.specs.Plans.{PlanValue}
use Rattle.play_model.specs.Play.{Play}
use Rattle.play_world_laws.specs.Cast.{components_of, script_place}
use Rattle.play_world_laws.specs.PlayWorlds.{PlayCast}
use Rattle.play_world_laws.proofs.Lists.{get_there}
use Rattle.play_plan_laws.specs.Assemblies.{IsReady, PlayFiles, play_cast_of}
use Rattle.play_result_laws.specs.Files.{AreSamples, IsWriter}
use Rattle.play_result_laws.specs.Worlds.{HasWritten}
use Rattle.play_stream_laws.proofs.Still.{IsStillThere}
use Rattle.play_stream_laws.specs.PlayStreams.{HasPlayStreams}
use Rattle.play_result_laws.specs.Contents.{contents_of, streams_of}
use Rattle.play_result_laws.specs.Texts.{HasWrittenFront}
use Rattle.play_result_laws.proofs.Texts.{each_text, texts_fronts, texts_whole}
use Rattle.play_result_laws.proofs.Plainly.{plan_plain}
use Rattle.read_world_laws.specs.Inside.{inside, taken_in}
use Rattle.read_world_laws.specs.Mended.{mended}
use Rattle.play_history_laws.specs.Following.{IsTaken}
use Rattle.play_history_laws.specs.Order.{Cursor}
use Rattle.play_history_laws.specs.Faults.{HasFaultStreams, IsFaulty, NoneFailed}
use Rattle.play_history_laws.proofs.FaultFronts.{all_fronts, all_written}
use Rattle.play_history_laws.proofs.StreamsKept.{in_place}

-- each component has a stream
its_stream : (cs : List Component) (ss : List Stream) (i : ℕ) (c : Component) → map (λ s. s.component) ss ≡ map number_of cs → slice_get cs i ≡ Some c → (s : Stream) × (find (is_stream_of (number_of c)) ss ≡ Some s)
its_stream [] ss i c e t = absurd cc
its_stream (x ∷ cs) [] i c e t = absurd cc
its_stream (x ∷ cs) (s ∷ ss) zero c e t =
    let q : x ≡ c = cc in
    let a : s.component ≡ number_of x = cc in
    let b : is_stream_of (number_of c) s ≡ true = eq-eqb s.component (number_of c) (a ∙ ap number_of q) in
    (s, rw b refl)
its_stream (x ∷ cs) (s ∷ ss) (suc i) c e t =
    let a : map (λ (y : Stream). y.component) ss ≡ map number_of cs = cc in
    let r = its_stream cs ss i c a t in
    either (is_stream_of (number_of c) s) (λ h. (s, rw h refl)) (λ h. (r.0, rw h r.1))

module _ (plan : PlanValue) (files : PlayFiles) (samples : List (List ℕ)) (R : IsReady plan files) (F : AreSamples plan files samples) (k : Cursor) (recent : ℕ) (p : Play) where
  abbrev x : PlayCast
  x = play_cast_of plan

  module _ (w : World) (T : IsTaken (play_cast_of plan) k recent p w) (H : HasPlayStreams (play_cast_of plan) (contents_of plan files samples) p (inside w)) where
    pub plan_whole : 3 ≤ k.phase → (place : ℕ) (name : List ℕ) → IsWriter plan.parts place name → HasWritten w place (sink_text plan samples place)
    plan_whole late place name I = let e = ((T.played).follows).phase in texts_whole plan files samples R F recent p (inside w) (T.played).play H (omega (arith, e, late)) place name I

    pub plan_fronts : (place : ℕ) (name : List ℕ) → IsWriter plan.parts place name → HasWrittenFront w place (sink_text plan samples place)
    plan_fronts place name I = texts_fronts plan files samples R F recent p (inside w) (T.played).play H place name I

  -- ---- where steps may have failed

  module _ (ss : List Stream) (w : World) (D : IsFaulty (play_cast_of plan) k recent p ss w) (H : HasFaultStreams (play_cast_of plan) (contents_of plan files samples) (streams_of plan samples) p ss w) where
    still : (c : ℕ) → c < components_of x.cast → IsStillThere x.cast w c
    still c b =
        let P = (D.taken).played in
        let within = (((P.play).cast_is).placed c b) in
        let many = (P.play).many in
        let once = length-map w.components mended in
        let twice = length-map (map mended w.components) taken_in in
        let a = get_there w.components (script_place x.cast c) (omega (arith, within, many, once, twice)) in
        let s = its_stream w.components w.streams (script_place x.cast c) a.0 (D.sound).streams a.1 in
        record { component = a.0; there = a.1; number = in_place x k recent p ss w P (script_place x.cast c) a.0 a.1; stream = s.0; found = s.1 }

    pub fault_fronts : (place : ℕ) (name : List ℕ) → IsWriter plan.parts place name → HasWrittenFront w place (sink_text plan samples place)
    fault_fronts place name I = each_text plan files samples R F w (λ text s. IsFrontOf text s.written)
        (all_fronts x (contents_of plan files samples) k recent p ss w (streams_of plan samples) D H (plan_plain plan files samples R F (λ l. false))) still place name I

    pub fault_whole : 3 ≤ k.phase → NoneFailed w → (place : ℕ) (name : List ℕ) → IsWriter plan.parts place name → HasWritten w place (sink_text plan samples place)
    fault_whole late N place name I = each_text plan files samples R F w (λ text s. s.written ≡ text)
        (all_written x (contents_of plan files samples) k recent p ss w (streams_of plan samples) D H (plan_plain plan files samples R F (λ l. false)) late N) still place name I
