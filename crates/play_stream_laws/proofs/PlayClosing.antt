-- What the close-out keeps in a world with late sources: where no transition but that to Executing is pending, the bytes in the links, also
-- as a port's disable or enable ends.
use Rattle.std.proofs.Common.{◌≡◌, inl, inr, ℕ, zero, suc, Bool, true, false, not, List, [], ◌∷◌, set, slice_get, Option, Some, None, refl, sym, ◌∙◌, ap, subst, arith}
use Rattle.std.proofs.lemmas.Option.{slice_get_within}
use Rattle.omx_types.specs.declared.command.Event.{Event}
use Rattle.omx_types.specs.declared.state.State.{State}
use Rattle.omx_types.specs.declared.state.State.TheVariants as states
use Rattle.il_machine.specs.declared.answer.Pending.{Pending}
use Rattle.il_machine.specs.declared.port.Mode.TheVariants as modes
use Rattle.il_machine.specs.declared.port.Port.{Port}
use Rattle.il_machine.specs.declared.port.PortKey.{PortKey}
use Rattle.il_machine.specs.declared.port.PortState.{PortState}
use Rattle.il_machine.specs.Due.{Thing, Transition, Flush, PortMode, WaitingMark, Happens, HappenTimes, ClosesTo, all_told, arrived_at, at_port, completed, happened, is_transition_due, mode_completion, mode_happened, reached, reset_on, transition_happened, waits_after}
use Rattle.il_machine.specs.Headers.{Seen, seen}
use Rattle.il_machine.specs.World.{Component, World, port_of, told, with_component, with_port}
use Rattle.machine_laws.proofs.Every.{at_set}
use Rattle.machine_laws.proofs.Happening.{IsDueAt, due_where}
use Rattle.machine_laws.proofs.Keys.{none_or_some}
use Rattle.machine_laws.proofs.Lookups.{port_parts}
use Rattle.play_model.specs.Play.{Play}
use Rattle.play_world_laws.specs.Cast.{Cast}
use Rattle.play_world_laws.specs.Standing.{pending_at}
use Rattle.play_world_laws.proofs.Rooms.{port_of_state}
use Rattle.play_stream_laws.proofs.Closing.{flow_none, flow_twice, is_pending, one_flow, pending_executing}
use Rattle.play_stream_laws.proofs.Keeping.{KeepsFlow}
use Rattle.play_world_laws.specs.PlayWorlds.{IsEndAt, IsPlayWorld, PlayCast, end_of_link}
use Rattle.play_world_laws.proofs.ChangeEnds.{IsPortAt, port_end}
use Rattle.play_world_laws.proofs.Standing.{pending_is}

-- neither flushing nor with a waiting mark
abbrev pub IsCalmPort : PortState → Type 0
IsCalmPort s = (s.flushing ≡ false) × (s.waiting_mark ≡ None)

abbrev pub AreCalmPorts : List PortState → Type 0
AreCalmPorts ports = (k : ℕ) (s : PortState) → slice_get ports k ≡ Some s → IsCalmPort s

pub record IsCalmAt (a : Component) : Type 0 where
  pub ports : AreCalmPorts a.ports
  pub pending : (p : Pending) → a.pending ≡ Some p → p.target ≡ states.Executing

abbrev pub IsCalm : World → Type 0
IsCalm w = (i : ℕ) (a : Component) → slice_get w.components i ≡ Some a → IsCalmAt a

-- one component is as calm as before
pub one_calm : (w v : World) (i : ℕ) (d : Component) → v.components ≡ set w.components i d → IsCalmAt d → IsCalm w → IsCalm v
one_calm w v i d c D Q j b f = elim (at_set w.components i j d b (subst (λ (cs : List Component). slice_get cs j ≡ Some b) c f)) [
  | inl z ↦ subst IsCalmAt (sym z.1) D
  | inr z ↦ Q j b z.1
]

pub calm_same : (a d : Component) → d.ports ≡ a.ports → d.pending ≡ a.pending → IsCalmAt a → IsCalmAt d
calm_same a d e f Q = record { ports = subst AreCalmPorts (sym e) Q.ports; pending = λ p g. Q.pending p (sym f ∙ g) }

pub calm_set : (ports : List PortState) (n : ℕ) (s : PortState) → IsCalmPort s → AreCalmPorts ports → AreCalmPorts (set ports n s)
calm_set ports n s h Q k t f = elim (at_set ports n k s t f) [
  | inl z ↦ subst IsCalmPort (sym z.1) h
  | inr z ↦ Q k t z.1
]

-- a port that is there is calm
pub calm_there : (a : Component) (n : ℕ) (q : Port) → port_of a n ≡ Some q → IsCalmAt a → IsCalmPort q.state
calm_there a n q e Q = Q.ports n q.state (port_parts a n q e).state

calm_end : (x : PlayCast) (p : Play) (l : ℕ) (o : Bool) (at peer : PortKey) (q : Port) → IsEndAt x p l o at peer q → IsCalmPort q.state
calm_end x p l o at peer q E = (ap (λ (z : PortState). z.flushing) E.state, ap (λ (z : PortState). z.waiting_mark) E.state)

calm_port : (x : PlayCast) (p : Play) (c : ℕ) (q : Port) → IsPortAt x p c q → IsCalmPort q.state
calm_port x p c q P = calm_end x p P.link P.side (end_of_link x.cast P.side P.link) (end_of_link x.cast (not P.side) P.link) q P.end

pub calm_world : (x : PlayCast) (recent : ℕ) (p : Play) (w : World) → IsPlayWorld x recent p w → p.phase ≡ 2 → IsCalm w
calm_world x recent p w W two i a e =
    let m = W.many in
    let s = slice_get_within w.components i a e in
    let k = (W.cast_is).each i (omega arith) in
    let there = subst (λ (j : ℕ). slice_get w.components j ≡ Some a) (sym k.2) e in
    let A = W.actors k.0 a k.1 there in
    record {
      ports = λ j t f.
          let q = port_of_state w i j a t W.sound e f in
          let P = port_end x recent p w W k.0 a k.1 there A j q.0 q.1 in
          subst IsCalmPort q.2 (calm_port x p k.0 q.0 P);
      pending = λ o f.
          let is : a.pending ≡ pending_at 2 (p.stage k.0) = pending_is x recent p w k.0 a A ∙ ap (λ (j : ℕ). pending_at j (p.stage k.0)) two in
          pending_executing (p.stage k.0) o (sym is ∙ f);
    }

-- ---- what happens

-- what is due at a calm port is the end of its disable or enable
due_calm : (headers : Seen) (a : Component) (q : Port) (t : Thing) → IsCalmPort q.state → IsDueAt headers a q t → (n : ℕ) × (t ≡ PortMode n)
due_calm headers a q Transition s h = absurd h
due_calm headers a q (Flush n) s h = let f : false ≡ true = rw s.0 at h.1 in absurd cc
due_calm headers a q (PortMode n) s h = (n, refl)
due_calm headers a q (WaitingMark n) s h = let f : false ≡ true = rw s.1 at h.1 in absurd cc

-- what is told changes nothing else
record IsTold (a d : Component) : Type 0 where
  work : d.work ≡ a.work
  part : d.part ≡ a.part
  ports : d.ports ≡ a.ports
  pending : d.pending ≡ a.pending

told_same : (es : List Event) (a : Component) → IsTold a (all_told es a)
told_same [] a = record { work = refl; part = refl; ports = refl; pending = refl }
told_same (event ∷ es) a = let T = told_same es (told event a) in record { work = T.work; part = T.part; ports = T.ports; pending = T.pending }

module _ (x : Cast) (w : World) (Q : IsCalm w) (i : ℕ) (a : Component) (there : slice_get w.components i ≡ Some a) where
  transition_calm : is_transition_due (seen w.headers) a ≡ true → IsCalm (happened i a Transition w) × KeepsFlow x w (happened i a Transition w)
  transition_calm due =
      let A = Q i a there in
      let o = is_pending a.pending _ due in
      let p : Pending = o.0 in
      let to = A.pending p o.1 in
      let d : Component = completed states.Executing (reached p a) in
      let u : World = record (with_component i d w) { headers = w.headers; waits = w.waits } in
      let is : happened i a Transition w ≡ u =
      ap (λ (z : Option Pending). transition_happened i a z w) o.1
      ∙ ap (λ (z : State). record (with_component i (arrived_at w.waits z p a) w) { headers = reset_on a z w.headers; waits = waits_after z w.waits }) to in (
        subst IsCalm (sym is) (one_calm w u i d refl (record { ports = A.ports; pending = λ q e. absurd cc }) Q),
        subst (λ (z : World). KeepsFlow x w z) (sym is) (one_flow w u i a d there refl x refl refl refl),
      )

  mode_calm : (n : ℕ) → IsCalm (happened i a (PortMode n) w) × KeepsFlow x w (happened i a (PortMode n) w)
  mode_calm n = elim (none_or_some (port_of a n)) [
    | inl none ↦ subst (λ (u : World). IsCalm u × KeepsFlow x w u) (sym (ap (λ (o : Option Port). at_port o (mode_happened i a) w) none)) (Q, flow_none x w)
    | inr some ↦ subst (λ (u : World). IsCalm u × KeepsFlow x w u) (sym (ap (λ (o : Option Port). at_port o (mode_happened i a) w) some.1)) (by_port some.0 some.1)
  ]
    where
      by_port : (q : Port) → port_of a n ≡ Some q → IsCalm (mode_happened i a q w) × KeepsFlow x w (mode_happened i a q w)
      by_port q e =
          let A = Q i a there in
          let s : PortState = record q.state { mode = modes.Steady } in
          let b : Component = with_port q.key.port s a in
          let d : Component = all_told (mode_completion q.state.mode q.key.port) b in
          let T = told_same (mode_completion q.state.mode q.key.port) b in
          let calm = calm_there a n q e A in (
            one_calm w (with_component i d w) i d refl (calm_same b d T.ports T.pending (record { ports = calm_set a.ports q.key.port s (calm.0, calm.1) A.ports; pending = A.pending })) Q,
            one_flow w (with_component i d w) i a d there refl x refl T.work T.part,
          )

happens_calm : (x : Cast) (w v : World) → IsCalm w → Happens w v → IsCalm v × KeepsFlow x w v
happens_calm x w v Q H =
    let i : ℕ = H.place in
    let a : Component = H.component in
    let A = Q i a H.there in
    subst (λ (u : World). IsCalm u × KeepsFlow x w u) (sym H.after) (elim (due_where (seen w.headers) a H.thing H.due) [
      | inl d ↦ subst (λ (t : Thing). IsCalm (happened i a t w) × KeepsFlow x w (happened i a t w)) (sym d.0) (transition_calm x w Q i a H.there d.1)
      | inr d ↦
          let m = due_calm (seen w.headers) a d.port H.thing (A.ports d.place d.port.state (port_parts a d.place d.port d.there).state) d.due in
          subst (λ (t : Thing). IsCalm (happened i a t w) × KeepsFlow x w (happened i a t w)) (sym m.1) (mode_calm x w Q i a H.there m.0)
    ])

times_calm : (x : Cast) (n : ℕ) (w v : World) → IsCalm w → HappenTimes n w v → IsCalm v × KeepsFlow x w v
times_calm x zero w v Q h = subst (λ (u : World). IsCalm u × KeepsFlow x w u) (sym h) (Q, flow_none x w)
times_calm x (suc n) w v Q h =
    let a = times_calm x n w h.0 Q h.1 in
    let b = happens_calm x h.0 v a.0 h.2 in
    (b.0, flow_twice x w h.0 v a.1 b.1)

pub closes_calm : (x : Cast) (w v : World) → IsCalm w → ClosesTo w v → KeepsFlow x w v
closes_calm x w v Q C = (times_calm x C.steps w v Q C.by_steps).1
