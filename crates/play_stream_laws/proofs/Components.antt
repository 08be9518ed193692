-- What a component of a play is sent, runs, tells and claims keeps the streams of its world.
use Rattle.std.proofs.Common.{◌≡◌, inl, inr, ℕ, ◌<◌, Bool, true, false, List, [], ◌∷◌, ◌++◌, set, slice_get, Option, Some, None, Result, refl, sym, ap, subst}
use Rattle.omx_types.specs.declared.command.Command.{Command}
use Rattle.omx_types.specs.declared.command.Command.TheVariants.{StateSet}
use Rattle.omx_types.specs.declared.command.Note.{Note}
use Rattle.omx_types.specs.declared.command.Note.TheVariants as notes
use Rattle.omx_types.specs.declared.error.OmxError.{OmxError}
use Rattle.omx_types.specs.declared.handle.Handle.{Handle}
use Rattle.il_machine.specs.declared.answer.Acted.{Acted}
use Rattle.il_machine.specs.Answers.{plain, Acts, Answers}
use Rattle.il_machine.specs.Claims.{Claim, Claimed, Claims, claim_idle, must_announce, with_work, work_of}
use Rattle.il_machine.specs.Commands.{RunCommand, SendCommand, run_front, run_idle, send_refusal, sent}
use Rattle.il_machine.specs.Due.{ClosesTo}
use Rattle.il_machine.specs.Headers.{seen}
use Rattle.il_machine.specs.Look.{look}
use Rattle.il_machine.specs.Notes.{EndNote, TakeFrom, TakeNote, Took, back_in, first_taken, with_given}
use Rattle.il_machine.specs.World.{Component, World, with_component}
use Rattle.machine_laws.proofs.Claiming.{claim_passes}
use Rattle.machine_laws.proofs.Finding.{either}
use Rattle.machine_laws.proofs.Keys.{none_or_some}
use Rattle.play_model.specs.Play.{Play}
use Rattle.play_world_laws.specs.Cast.{components_of, script_place}
use Rattle.play_world_laws.specs.Standing.{target}
use Rattle.play_world_laws.specs.Worlds.{Names}
use Rattle.play_world_laws.proofs.Claims.{claims_none, claims_some}
use Rattle.play_world_laws.proofs.Lists.{resolved}
use Rattle.play_world_laws.proofs.Notes.{ended_at}
use Rattle.play_world_laws.proofs.Stages.{sent_is}
use Rattle.play_stream_laws.specs.Contents.{PlayContents}
use Rattle.play_stream_laws.proofs.Closing.{one_keeps}
use Rattle.play_stream_laws.proofs.Keeping.{KeepsFlow}
use Rattle.play_world_laws.specs.PlayWorlds.{IsActorAt, IsPlayWorld, PlayCast, port_commands}
use Rattle.play_world_laws.proofs.ChangeEnds.{actor_there}
use Rattle.play_world_laws.proofs.Standing.{commands_are}
use Rattle.play_world_laws.proofs.StageNotes.{an_event}
use Rattle.play_step_laws.proofs.Poising.{poised, ports_rest}
use Rattle.play_stream_laws.specs.PlayStreams.{HasPlayStreams}
use Rattle.play_stream_laws.proofs.Acts.{act_closes, answered, done_or_not, one_closes, world_stays}
use Rattle.play_stream_laws.proofs.Claiming.{announced_flow, claim_flow}
use Rattle.play_stream_laws.proofs.PlayClosing.{calm_same, calm_world, one_calm}
use Rattle.play_stream_laws.proofs.Running.{IsBegun, calm_begun, commands_front, front_is}

module _ (x : PlayCast) (k : PlayContents) (recent later : ℕ) (p q : Play) (w v : World) (W : IsPlayWorld x recent p w) (H : HasPlayStreams x k p w) (V : IsPlayWorld x later q v) (same : q.phase ≡ p.phase) (c : ℕ) (h : Handle) (b : c < components_of x.cast) (N : Names x.cast w c h) where
  abbrev i : ℕ
  i = script_place x.cast c

  its : (a : Component) × (slice_get w.components i ≡ Some a) × IsActorAt x recent p w c a
  its = actor_there x recent p w c W b

  -- a command that isn't carried out at once
  pub command_streams : (C : Command) → ((a : Component) → sent C a ≡ record a { commands = a.commands ++ C ∷ [] }) → (result : Result (Unit {0}) OmxError) → SendCommand w h C result v → HasPlayStreams x k q v
  command_streams C is result s =
      let a : Component = its.0 in
      let r = resolved plain w h result v (λ j d. Answers (send_refusal (look w) d C) result w v (λ _. ClosesTo (with_component j (sent C d) w) v)) i a N its.1 s in
      elim (answered (send_refusal (look w) a C) result w v (λ _. ClosesTo (with_component i (sent C a) w) v) r) [
        | inl e ↦ world_stays x k recent later p q w v W H V same e
        | inr z ↦
            let d : Component = record a { commands = a.commands ++ C ∷ [] } in
            one_closes x k recent later p q w v W H V same i a d (with_component i (sent C a) w) its.1 (ap (λ (y : Component). set w.components i y) (is a)) refl refl refl refl refl (λ two Q. calm_same a d refl refl Q) z.1
      ]

  pub send_streams : (result : Result (Unit {0}) OmxError) → SendCommand w h (StateSet (target p.phase)) result v → HasPlayStreams x k q v
  send_streams = command_streams (StateSet (target p.phase)) (sent_is p.phase)

  pub run_streams : (result : Result Acted OmxError) → RunCommand w h result v → HasPlayStreams x k q v
  run_streams result s =
      let a : Component = its.0 in
      let d : Component = run_front (look w) a.commands a in
      let r = resolved plain w h result v (λ j y. Acts (run_idle y y.commands) result w (with_component j (run_front (look w) y.commands y) w) v) i a N its.1 s in
      let B : IsBegun a d (target p.phase) = subst (λ (cs : List Command). IsBegun a (run_front (look w) cs a) (target p.phase)) (sym (commands_are x recent p w c a its.2))
      (front_is (look w) p.phase (p.stage c) (port_commands x.cast p c) a (commands_front x p c)) in
      elim (done_or_not (run_idle a a.commands) result w (with_component i d w) v r) [
        | inl e ↦ world_stays x k recent later p q w v W H V same e
        | inr z ↦ one_closes x k recent later p q w v W H V same i a d (with_component i d w) its.1 refl refl refl B.seat_is B.work B.part (λ two Q. calm_begun a d (target p.phase) B (ap target two) Q) z.1
      ]

  pub end_streams : EndNote w h v → HasPlayStreams x k q v
  end_streams s =
      let a : Component = its.0 in
      one_closes x k recent later p q w v W H V same i a (back_in a) (with_component i (back_in a) w) its.1 refl refl refl refl refl refl (λ two Q. calm_same a (back_in a) refl refl Q) (ended_at w h v i a N its.1 s)

  pub take_streams : (result : Result Took OmxError) → TakeNote w h result v → HasPlayStreams x k q v
  take_streams result s = by_note its.0 its.1 its.2 (its.0).client_out (slice_get (its.0).notes 0) refl refl (resolved plain w h result v (λ j d. TakeFrom w j d d.client_out (slice_get d.notes 0) result v) i its.0 N its.1 s)
    where
      by_note : (a : Component) → slice_get w.components i ≡ Some a → IsActorAt x recent p w c a → (busy : Bool) (oldest : Option Note) → a.client_out ≡ busy → slice_get a.notes 0 ≡ oldest → TakeFrom w i a busy oldest result v → HasPlayStreams x k q v
      by_note a e A true oldest o f r = world_stays x k recent later p q w v W H V same r.1
      by_note a e A false None o f r = world_stays x k recent later p q w v W H V same r.1
      by_note a e A false (Some (notes.Told event)) o f r =
          one_closes x k recent later p q w v W H V same i a (first_taken a) (with_given i a (notes.Told event) w) e refl refl refl refl refl refl (λ two Q. calm_same a (first_taken a) refl refl Q) r.1
      by_note a e A false (Some (notes.EmptyDone n)) o f r = let z : false ≡ true = an_event x recent p w W c b a e A (notes.EmptyDone n) o f in absurd cc
      by_note a e A false (Some (notes.FillDone n)) o f r = let z : false ≡ true = an_event x recent p w W c b a e A (notes.FillDone n) o f in absurd cc

  pub claim_streams : (result : Result Claimed OmxError) → Claim w h result v → HasPlayStreams x k q v
  claim_streams result s =
      let a : Component = its.0 in
      let r : Claims (claim_idle (look w) a) i a w result v = resolved plain w h result v (λ j y. Claims (claim_idle (look w) y) j y w result v) i a N its.1 s in
      elim (none_or_some (claim_idle (look w) a)) [
        | inr z ↦ world_stays x k recent later p q w v W H V same (claims_some (claim_idle (look w) a) z.0 i a w result v z.1 r).1
        | inl n ↦
            let d : Component = record a { work = Some (work_of (seen w.headers) a) } in
            let u : World = with_work i a (work_of (seen w.headers) a) w in
            let C = claim_passes (look w) a n in
            let z = claims_none (claim_idle (look w) a) i a w result v n r in
            let flow : KeepsFlow x.cast w u = either (must_announce a)
            (λ t. announced_flow x.cast w i a its.1 C.free t)
            (λ f.
            let P = ports_rest x recent p w W c a its.1 C.opens f C.held in
            claim_flow x.cast p w c a (poised x recent p w W c b a its.1 its.2 P) C.free n) in
            act_closes x k recent later p q w v W H V same u (one_keeps w u i a d its.1 refl refl refl)
            (λ two. let all = calm_world x recent p w W two in (flow, one_calm w u i d refl (calm_same a d refl refl (all i a its.1)) all))
            z.1
      ]
