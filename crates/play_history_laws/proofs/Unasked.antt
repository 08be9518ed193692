-- An act that nobody asks for leads from a world of a play to one, whoever makes it, and whatever it is answered.
use Rattle.std.proofs.Common.{◌≡◌, inl, inr, ℕ, ◌<◌, true, slice_get, Some, None, option_and_then, MatchOption, Result, Ok, Err, refl, sym, ◌∙◌, ap, subst, arith}
use Rattle.std.specs.Prelude.{MatchResult}
use Rattle.std.proofs.lemmas.Option.{slice_get_within}
use Rattle.omx_types.specs.declared.error.CallError.{CallError}
use Rattle.omx_types.specs.declared.error.CallError.TheVariants.{Omx}
use Rattle.omx_types.specs.declared.error.OmxError.{OmxError}
use Rattle.omx_types.specs.declared.handle.Handle.{Handle}
use Rattle.il_machine.specs.declared.answer.Acted.{Acted}
use Rattle.il_machine.specs.declared.answer.Acted.TheVariants.{Did}
use Rattle.il_machine.specs.declared.answer.Progress.{Progress}
use Rattle.il_machine.specs.declared.port.Port.{Port}
use Rattle.il_machine.specs.Acts.{Act as MachineAct, Reply}
use Rattle.il_machine.specs.Acts as acts
use Rattle.il_machine.specs.Answers.{Acts, component_named, plain}
use Rattle.il_machine.specs.Claims.{Claim, Claimed}
use Rattle.il_machine.specs.Commands.{RunCommand, run_front, run_idle}
use Rattle.il_machine.specs.Components.{progress_answer, progress_of}
use Rattle.il_machine.specs.Due.{ClosesTo, IsClosed}
use Rattle.il_machine.specs.Finishing.{Finish}
use Rattle.il_machine.specs.Flow as flow
use Rattle.il_machine.specs.Headers.{seen}
use Rattle.il_machine.specs.Look.{look}
use Rattle.il_machine.specs.Notes.{EndNote, TakeNote, Took}
use Rattle.il_machine.specs.Run.{Meets, Step}
use Rattle.il_machine.specs.Stepping.{WorkDone}
use Rattle.il_machine.specs.World.{Component, World, is_at, place_of, with_component}
use Rattle.il_machine.proofs.Places.{is_first_place, passes_at}
use Rattle.machine_laws.proofs.Closing.{closed_closes}
use Rattle.machine_laws.proofs.Keys.{at_there, none_or_some}
use Rattle.history_laws.proofs.WorkSteps.{back_of}
use Rattle.play_model.specs.Acts.{Act}
use Rattle.play_model.specs.Acts.Act.{HandOver, Release, Supply}
use Rattle.play_model.specs.Play.{Play, other_component, supplier}
use Rattle.play_world_laws.specs.Cast.{away_at, components_of, home_at, script_place}
use Rattle.play_world_laws.specs.Worlds.{Names}
use Rattle.play_world_laws.proofs.Lists.{resolved}
use Rattle.play_stream_laws.specs.Contents.{PlayContents}
use Rattle.play_world_laws.specs.PlayWorlds.{IsActorAt, IsPlayWorld, PlayCast}
use Rattle.play_world_laws.proofs.ChangeEnds.{actor_there}
use Rattle.play_world_laws.specs.Waiting.{IsWaiting}
use Rattle.play_world_laws.proofs.StageNotes.{take_leads}
use Rattle.play_step_laws.proofs.Claiming.{claim_taken}
use Rattle.play_stream_laws.specs.PlayStreams.{HasPlayStreams}
use Rattle.play_stream_laws.proofs.Acts.{done_or_not, world_stays}
use Rattle.play_stream_laws.proofs.Components.{claim_streams, end_streams, run_streams, take_streams}
use Rattle.play_stream_laws.proofs.Headers.{back_streams, over_streams, release_streams, supply_streams}
use Rattle.play_stream_laws.proofs.PlayStepping.{finish_streams}
use Rattle.play_world_laws.specs.Tellings.{IsTellingOf}
use Rattle.play_turn_laws.specs.Turns.{IsAct, IsBackOf, IsRunOf, IsStepOf, PlayCame}
use Rattle.play_turn_laws.proofs.Coming.{backs_come, finishes_come, overs_come, releases_come, runs_come, supplies_come, tells_come}
use Rattle.play_history_laws.specs.Following.{StreamsLead}
use Rattle.play_history_laws.specs.Histories.{IsUnasked}
use Rattle.play_history_laws.proofs.Replies.{on_port, unnamed, went}
use Rattle.play_history_laws.proofs.Keeping.{IsWorkers, workers_back, workers_run, workers_step, workers_telling}
use Rattle.play_history_laws.proofs.Moving.{IsMoved, idles, moves, stays}
use Rattle.play_history_laws.proofs.Ports.{back_end, over_end, release_end, supply_end}

-- ---- what a handle names

pub record IsNamed (x : PlayCast) (w : World) (h : Handle) : Type 0 where
  pub component : ℕ
  pub below : component < components_of x.cast
  pub named : Names x.cast w component h

pub named_at : (x : PlayCast) (recent : ℕ) (p : Play) (w : World) (h : Handle) (i : ℕ) → IsPlayWorld x recent p w → place_of h w.components ≡ Some i → IsNamed x w h
named_at x recent p w h i W e =
    let z = passes_at (is_at h) w.components i (sym (is_first_place (is_at h) w.components) ∙ e) in
    let b = slice_get_within w.components i z.0 z.1 in
    let m = W.many in
    let c = (W.cast_is).each i (omega (arith, b, m)) in
    record { component = c.0; below = c.1; named = e ∙ ap Some (sym c.2) }

-- a look leaves a closed world
pub looked_stays : {T : Type 0} (answer : Result T OmxError) (w v : World) → IsClosed w → MatchResult answer (λ _. ClosesTo w v) (λ _. v ≡ w) → v ≡ w
looked_stays (Ok y) w v Z h = closed_closes w v Z h
looked_stays (Err y) w v Z h = h

named_there : (h : Handle) (cs : World) (i : ℕ) (a : Component) (P : Component → Type 0) → place_of h cs.components ≡ Some i → slice_get cs.components i ≡ Some a → MatchOption (component_named h cs.components) ⊥ P → P a
named_there h cs i a P n e m = at_there (component_named h cs.components) P a (ap (option_and_then (slice_get cs.components)) n ∙ e) m

-- ---- the acts

abbrev pub Came : PlayCast → ℕ → Play → World → World → Type 0
Came x recent p w v = (q : Play) × IsMoved x recent p q v × StreamsLead x p w q v

module _ (x : PlayCast) (recent : ℕ) (p : Play) (w : World) (W : IsPlayWorld x recent p w) (N : IsWaiting (x.cast).layout p) (Z : IsClosed w) where
  stayed : (v : World) → v ≡ w → Came x recent p w v
  stayed v e = let M = stays x recent p w v W N Z e in (p, M, λ k H. world_stays x k recent recent p p w v W H M.play refl e)

  -- it moves, and keeps the streams
  came : (v : World) → (q : Play) × IsMoved x recent p q v → ((k : PlayContents) (q : Play) → HasPlayStreams x k p w → IsPlayWorld x recent q v → q.phase ≡ p.phase → HasPlayStreams x k q v) → Came x recent p w v
  came v T f = (T.0, T.1, λ k H. f k T.0 H (T.1).play ((T.1).keeps).phase)

  accepted : (v : World) (P : Act → Type 0) → ((a : Act) → P a → IsWorkers a) → PlayCame x recent p v true P → (q : Play) × IsMoved x recent p q v
  accepted v P workers L = moves x recent p L.0 w v W N (workers L.0 L.1) L.3 L.4

  -- ---- at a component

  module _ (h : Handle) (c : ℕ) (b : c < components_of x.cast) (M : Names x.cast w c h) where
    abbrev i : ℕ
    i = script_place x.cast c

    its : (a : Component) × (slice_get w.components i ≡ Some a) × IsActorAt x recent p w c a
    its = actor_there x recent p w c W b

    runs : (result : Result Acted OmxError) (v : World) → RunCommand w h result v → Came x recent p w v
    runs result v s =
        let a : Component = its.0 in
        let r = resolved plain w h result v (λ j y. Acts (run_idle y y.commands) result w (with_component j (run_front (look w) y.commands y) w) v) i a M its.1 s in
        elim (done_or_not (run_idle a a.commands) result w (with_component i (run_front (look w) a.commands a) w) v r) [
          | inl e ↦ stayed v e
          | inr z ↦
              let did : RunCommand w h (Ok Did) v = subst (λ (y : Result Acted OmxError). RunCommand w h y v) z.0 s in
              came v (accepted v (IsRunOf (x.cast).layout c) (workers_run (x.cast).layout c) (runs_come x recent p w c h (Ok Did) v W b M did))
              (λ k q H V e. run_streams x k recent recent p q w v W H V e c h b M (Ok Did) did)
        ]

    takes : (result : Result Took OmxError) (v : World) → TakeNote w h result v → Came x recent p w v
    takes result v s = elim (take_leads x recent p w c h result v W b M s) [
      | inl e ↦ stayed v e
      | inr L ↦ came v (p, idles x recent p w v W N Z L) (λ k q H V e. take_streams x k recent recent p q w v W H V e c h b M result s)
    ]

    ends : (v : World) → (its.0).client_out ≡ true → EndNote w h v → Came x recent p w v
    ends v o s = came v (accepted v (IsTellingOf (x.cast).layout c) (workers_telling (x.cast).layout c) (tells_come x recent p w c h v its.0 W b M its.1 o s))
        (λ k q H V e. end_streams x k recent recent p q w v W H V e c h b M s)

    claims : (result : Result Claimed OmxError) (v : World) → Claim w h result v → Came x recent p w v
    claims result v s = elim (claim_taken x recent p w c h result v W b M s) [
      | inl e ↦ stayed v e
      | inr L ↦ came v (p, idles x recent p w v W N Z L) (λ k q H V e. claim_streams x k recent recent p q w v W H V e c h b M result s)
    ]

    -- ---- at a port of it

    supplies : (port : ℕ) (result : Result Acted CallError) (v : World) → flow.Supply w h port result v → Came x recent p w v
    supplies port result v s =
        let a : Component = its.0 in
        elim (on_port Omx w h port result v (λ j d y. Acts (flow.supply_idle (look w) d y) result w (flow.with_supplied y w) v) i a M its.1 s) [
          | inl e ↦ stayed v e
          | inr r ↦
              let y : Port = r.0 in
              elim (done_or_not (flow.supply_idle (look w) a y) result w (flow.with_supplied y w) v r.2) [
                | inl e ↦ stayed v e
                | inr z ↦ elim (went (flow.supply_idle (look w) a y) result w (flow.with_supplied y w) v r.2) [
                  | inl e ↦ stayed v e
                  | inr n ↦
                      let E = supply_end x recent p w W c b a its.1 its.2 port y r.1 n in
                      let F : Names x.cast w (supplier (x.cast).layout E.link) h = subst (λ (d : ℕ). Names x.cast w d h) (sym E.its) M in
                      let did : flow.Supply w h (home_at x.cast E.link).port (Ok Did) v = subst (λ (k : ℕ). flow.Supply w h k (Ok Did) v) E.number (subst (λ (g : Result Acted CallError). flow.Supply w h port g v) z.0 s) in
                      came v (accepted v (IsAct (Supply E.link)) (λ t e. subst IsWorkers (sym e) tt) (supplies_come x recent p w E.link h (Ok Did) v W E.below F did))
                      (λ k q H V e. supply_streams x k recent recent p q w v W H V e E.link h E.below (Ok Did) F did)
                ]
              ]
        ]

    releases : (port : ℕ) (result : Result Acted OmxError) (v : World) → flow.Release w h port result v → Came x recent p w v
    releases port result v s =
        let a : Component = its.0 in
        elim (on_port plain w h port result v (λ j d y. Acts (flow.release_idle (look w) d y) result w (flow.front_unmade (flow.in_port (seen w.headers) y) w) v) i a M its.1 s) [
          | inl e ↦ stayed v e
          | inr r ↦
              let y : Port = r.0 in
              let u : World = flow.front_unmade (flow.in_port (seen w.headers) y) w in
              elim (done_or_not (flow.release_idle (look w) a y) result w u v r.2) [
                | inl e ↦ stayed v e
                | inr z ↦ elim (went (flow.release_idle (look w) a y) result w u v r.2) [
                  | inl e ↦ stayed v e
                  | inr n ↦
                      let E = release_end x recent p w W c b a its.1 its.2 port y r.1 n in
                      let F : Names x.cast w (supplier (x.cast).layout E.link) h = subst (λ (d : ℕ). Names x.cast w d h) (sym E.its) M in
                      let did : flow.Release w h (home_at x.cast E.link).port (Ok Did) v = subst (λ (k : ℕ). flow.Release w h k (Ok Did) v) E.number (subst (λ (g : Result Acted OmxError). flow.Release w h port g v) z.0 s) in
                      came v (accepted v (IsAct (Release E.link)) (λ t e. subst IsWorkers (sym e) tt) (releases_come x recent p w E.link h (Ok Did) v W E.below F did))
                      (λ k q H V e. release_streams x k recent recent p q w v W H V e E.link h E.below (Ok Did) F did)
                ]
              ]
        ]

    overs : (port : ℕ) (result : Result Acted OmxError) (v : World) → flow.HandOver w h port result v → Came x recent p w v
    overs port result v s =
        let a : Component = its.0 in
        elim (on_port plain w h port result v (λ j d y. Acts (flow.over_idle (look w) d y) result w (flow.handed_over y w) v) i a M its.1 s) [
          | inl e ↦ stayed v e
          | inr r ↦
              let y : Port = r.0 in
              elim (done_or_not (flow.over_idle (look w) a y) result w (flow.handed_over y w) v r.2) [
                | inl e ↦ stayed v e
                | inr z ↦ elim (went (flow.over_idle (look w) a y) result w (flow.handed_over y w) v r.2) [
                  | inl e ↦ stayed v e
                  | inr n ↦
                      let E = over_end x recent p w W c b a its.1 its.2 port y r.1 n in
                      let F : Names x.cast w (supplier (x.cast).layout E.link) h = subst (λ (d : ℕ). Names x.cast w d h) (sym E.its) M in
                      let did : flow.HandOver w h (home_at x.cast E.link).port (Ok Did) v = subst (λ (k : ℕ). flow.HandOver w h k (Ok Did) v) E.number (subst (λ (g : Result Acted OmxError). flow.HandOver w h port g v) z.0 s) in
                      came v (accepted v (IsAct (HandOver E.link)) (λ t e. subst IsWorkers (sym e) tt) (overs_come x recent p w E.link h (Ok Did) v W E.below F did))
                      (λ k q H V e. over_streams x k recent recent p q w v W H V e E.link h E.below (Ok Did) F did)
                ]
              ]
        ]

    backs : (port : ℕ) (result : Result Acted OmxError) (v : World) → flow.HandBack w h port result v → Came x recent p w v
    backs port result v s =
        let a : Component = its.0 in
        elim (on_port plain w h port result v (λ j d y. Acts (flow.back_idle (look w) d y) result w (flow.handed_back j d y y.state.link w) v) i a M its.1 s) [
          | inl e ↦ stayed v e
          | inr r ↦
              let y : Port = r.0 in
              elim (done_or_not (flow.back_idle (look w) a y) result w (flow.handed_back i a y y.state.link w) v r.2) [
                | inl e ↦ stayed v e
                | inr z ↦ elim (went (flow.back_idle (look w) a y) result w (flow.handed_back i a y y.state.link w) v r.2) [
                  | inl e ↦ stayed v e
                  | inr n ↦
                      let E = back_end x recent p w W c b a its.1 its.2 port y r.1 n in
                      let F : Names x.cast w (other_component (x.cast).layout E.link) h = subst (λ (d : ℕ). Names x.cast w d h) (sym E.its) M in
                      let did : flow.HandBack w h (away_at x.cast E.link).port (Ok Did) v = subst (λ (k : ℕ). flow.HandBack w h k (Ok Did) v) E.number (subst (λ (g : Result Acted OmxError). flow.HandBack w h port g v) z.0 s) in
                      came v (accepted v (IsBackOf E.link) (workers_back E.link) (backs_come x recent p w E.link h (Ok Did) v W E.below F did))
                      (λ k q H V e. back_streams x k recent recent p q w v W H V e E.link h E.below (Ok Did) F did)
                ]
              ]
        ]

  -- ---- a work comes back

  finishes : (done : WorkDone) (v : World) → done.fault ≡ None → Meets w (acts.Finish done) → Finish w done v → Came x recent p w v
  finishes done v whole M s =
      let B = back_of w done v M s in
      let D = B.3 in
      let within = slice_get_within w.components B.0 B.1 D.there in
      let m = W.many in
      let c = (W.cast_is).each B.0 (omega (arith, within, m)) in
      let at : slice_get w.components (script_place x.cast c.0) ≡ Some B.1 = ap (slice_get w.components) c.2 ∙ D.there in
      let A = W.actors c.0 B.1 c.1 at in
      let number : done.component ≡ script_place x.cast c.0 = sym D.number ∙ A.number in
      came v (accepted v (IsStepOf (x.cast).layout c.0) (workers_step (x.cast).layout c.0) (finishes_come x recent p w c.0 B.1 B.2 done v W c.1 at D.out number D.meets whole s))
      (λ k q H V e. finish_streams x k recent recent p q w v c.0 B.1 B.2 done W H V e c.1 at D.out number D.meets whole s)

  -- ---- all

  -- by what the handle names
  by_handle : (h : Handle) (v : World) → (place_of h w.components ≡ None → v ≡ w) → ((c : ℕ) → c < components_of x.cast → Names x.cast w c h → Came x recent p w v) → Came x recent p w v
  by_handle h v none some = elim (none_or_some (place_of h w.components)) [
    | inl e ↦ stayed v (none e)
    | inr z ↦ let I = named_at x recent p w h z.0 W z.1 in some I.component I.below I.named
  ]

  object_out : (h : Handle) (progress : Progress) (c : ℕ) (b : c < components_of x.cast) (M : Names x.cast w c h) → Meets w (acts.EndNote h progress) → ((its h c b M).0).client_out ≡ true
  object_out h progress c b M m = (named_there h w (script_place x.cast c) (its h c b M).0 (λ d. (d.client_out ≡ true) × (progress ≡ progress_of d w)) M (its h c b M).1 m).0

  ended : (h : Handle) (progress : Progress) (v : World) → Meets w (acts.EndNote h progress) → EndNote w h v → Came x recent p w v
  ended h progress v m s = by_handle h v (λ n. absurd (unnamed (place_of h w.components) _ n s)) (λ c b M. ends h c b M v (object_out h progress c b M m) s)

  pub unasked : (a : MachineAct) (r : Reply) (v : World) → IsUnasked a → Meets w a → Step w a r v → Came x recent p w v
  unasked (acts.RunCommand h) (acts.Acted result) v O m s = by_handle h v (λ n. (unnamed (place_of h w.components) _ n s).1) (λ c b M. runs h c b M result v s)
  unasked (acts.TakeNote h) (acts.Took result) v O m s = by_handle h v (λ n. (unnamed (place_of h w.components) _ n s).1) (λ c b M. takes h c b M result v s)
  unasked (acts.EndNote h progress) acts.Ended v O m s = ended h progress v m s
  unasked (acts.Supply h port) (acts.Supplied result) v O m s = by_handle h v (λ n. (unnamed (place_of h w.components) _ n s).1) (λ c b M. supplies h c b M port result v s)
  unasked (acts.Release h port) (acts.Acted result) v O m s = by_handle h v (λ n. (unnamed (place_of h w.components) _ n s).1) (λ c b M. releases h c b M port result v s)
  unasked (acts.HandOver h port) (acts.Acted result) v O m s = by_handle h v (λ n. (unnamed (place_of h w.components) _ n s).1) (λ c b M. overs h c b M port result v s)
  unasked (acts.HandBack h port) (acts.Acted result) v O m s = by_handle h v (λ n. (unnamed (place_of h w.components) _ n s).1) (λ c b M. backs h c b M port result v s)
  unasked (acts.Claim h) (acts.Claimed result) v O m s = by_handle h v (λ n. (unnamed (place_of h w.components) _ n s).1) (λ c b M. claims h c b M result v s)
  unasked (acts.Finish done) acts.Finished v O m s = finishes done v O m s
  unasked (acts.Progress h) (acts.Progressed result) v O m s = stayed v (looked_stays (progress_answer h w) w v Z s.1)
  unasked (acts.GetHandle name) r v O m s = absurd O
  unasked (acts.FreeHandle h) r v O m s = absurd O
  unasked (acts.Attach h file) r v O m s = absurd O
  unasked (acts.GetState h) r v O m s = absurd O
  unasked (acts.PortView h port) r v O m s = absurd O
  unasked (acts.GetParameter h key) r v O m s = absurd O
  unasked (acts.GetConfig h key) r v O m s = absurd O
  unasked (acts.SetParameter h key value) r v O m s = absurd O
  unasked (acts.SetConfig h key value) r v O m s = absurd O
  unasked (acts.SetupTunnel output input) r v O m s = absurd O
  unasked (acts.DropTunnel output input) r v O m s = absurd O
  unasked (acts.SendCommand h command) r v O m s = absurd O
  unasked (acts.AllocateBuffer h port) r v O m s = absurd O
  unasked (acts.UseBuffer h port bytes) r v O m s = absurd O
  unasked (acts.FreeBuffer h port header) r v O m s = absurd O
  unasked (acts.EmptyThisBuffer h port header) r v O m s = absurd O
  unasked (acts.FillThisBuffer h port header) r v O m s = absurd O
  unasked acts.Grant r v O m s = absurd O
  unasked acts.Preempt r v O m s = absurd O
  unasked _ _ v O m s = absurd s
