-- A line whose act takes nothing of the replay's: it is answered, or it isn't.
use Rattle.std.proofs.Common.{◌≡◌, inl, ℕ, List, [], Option, Some, MatchOption, length, take, sym, subst, Bool}
use Rattle.std.proofs.Common.{find}
use Rattle.omx_types.specs.declared.handle.Handle.{Handle}
use Rattle.il_machine.specs.Whole.{Stands}
use Rattle.il_machine.specs.World.{Stream, World, is_stream_of}
use Rattle.act_text.specs.declared.text.ActText.{ActText}
use Rattle.play_forms.specs.Plans.{PlanValue}
use Rattle.play_log.specs.Lines.{LogLine}
use Rattle.play_log.specs.Saying.{SaysAct}
use Rattle.play_log.specs.Scenes.{Scene}
use Rattle.audio_parts.specs.Shown.{ShownPart}
use Rattle.graph_core.specs.Clients.{IsOut}
use Rattle.il_flow.specs.Works.{WorkOf}
use Rattle.il_graph.specs.Shown.{Shown, kept}
use Rattle.il_graph.specs.Shown as graphs
use Rattle.compared_files.specs.Comparing.{ComparingValue}
use Rattle.graph_acts.specs.declared.act.Reply.{Reply}
use Rattle.graph_acts.specs.Holding.{IsGone}
use Rattle.graph_acts.specs.Plain.{Sight}
use Rattle.audit_forms.specs.Audited.{Answers, Case, Moment}
use Rattle.run_audit.specs.Answering.{IsAnswered, IsMomentOf, IsReplyOf, IsUnanswered}
use Rattle.run_audit.specs.Leading.{IsMade, IsSince}
use Rattle.run_audit.specs.Replaying.{AreFronts, IsStanding}
use Rattle.run_audit.proofs.Plain.{meets_plain, so_plain}
use Rattle.run_audit.proofs.Quiet.{plain_none}
use Rattle.run_audit.proofs.Replied.{answered_there, stepped, a, r, u}
use Rattle.run_audit.proofs.Standing.{IsGoing}
use Rattle.run_audit.proofs.Streams.{streams_stay}

pub fronts_stay : (sinks : ℕ → Option (List ℕ)) (w v : World) → v.streams ≡ w.streams → AreFronts sinks w → AreFronts sinks v
fronts_stay sinks w v e F place text at =
    subst (λ (ss : List Stream). MatchOption (find (is_stream_of place) ss) ⊥ (λ s. (s.known ≡ Some []) × (take (length s.written) text ≡ s.written))) (sym e) (F place text at)

module _ {S C : Type 0} (see : Sight S (ComparingValue S) C) (old new : Shown S (ComparingValue S) C) (plan : PlanValue) (handles : List Handle) (works works' : List (Option (WorkOf (ShownPart S (ComparingValue S))))) (clients clients' : List (Option C))
    (said : ActText) (reply : Reply S (ComparingValue S) C) (R : IsReplyOf see old new plan.parts handles said reply) (out : (h : Handle) → IsGone new h → IsOut h (graphs.look_of new)) where
  abbrev after : (w : World) → Stands (kept see.progress old) w → World
  after w stands = (stepped see old new plan.parts handles said reply R w stands).0

  pub go : (w : World) (stands : Stands (kept see.progress old) w) → IsGoing see old new w (after w stands) R.act reply
  go w stands =
      let y = stepped see old new plan.parts handles said reply R w stands in
      let q = u see old new plan.parts handles said reply R in
      let P = plain_none see q R.act R.plain in
      record {
        moved = R.moved;
        unsaid = q;
        so = (so_plain see old R.act R.plain).1 w;
        met = meets_plain see q w R.act R.plain;
        stands = y.1;
        step = y.2;
        brings = P.brings;
        asks_none = P.asks_none;
        out = out;
      }

  -- what is held then is what the act leaves out
  abbrev pub Lifts : Type 0
  Lifts = (tells : Bool) (x : Case) (w v : World) → IsStanding see tells old plan handles works clients x w → IsGoing see old new w v R.act reply → IsStanding see tells new plan handles works' clients' x v

  -- the act is made
  made_on : (tells : Bool) (x : Case) (w : World) (I : IsStanding see tells old plan handles works clients x w) → IsMade x said.act w (after w I.stands)
  made_on tells x w I =
      let q = u see old new plan.parts handles said reply R in
      record {
        act = a see old new plan.parts handles said reply R;
        reply = r see old new plan.parts handles said reply R;
        says = subst (λ (s : Scene). SaysAct s said.act (a see old new plan.parts handles said reply R)) (sym I.scene) (R.says q);
        meets = meets_plain see q w R.act R.plain;
        step = (stepped see old new plan.parts handles said reply R w I.stands).2;
      }

  pub stands_on : Lifts → (tells : Bool) (x : Case) (w : World) → IsStanding see tells old plan handles works clients x w → (v : World) × IsStanding see tells new plan handles works' clients' x v × IsSince x said.act w v
  stands_on L tells x w I = (after w I.stands, L tells x w (after w I.stands) I (go w I.stands), inl (made_on tells x w I))

  module _ (tells : Bool) (x : Case) (at : Moment) (line : LogLine) (is : line.said ≡ said) (I : IsStanding see tells old plan handles works clients x at.world) where
    its : IsMomentOf see old plan.parts handles x at
    its = record { scene = I.scene; stands = I.stands }

    pub passes_on : Lifts → IsAnswered see old new plan.parts handles said → AreFronts x.sinks at.world → (v : World) × Answers x at line v × IsStanding see tells new plan handles works' clients' x v × AreFronts x.sinks v
    unfolding go
    passes_on L A F =
        let y = A x at line is its in
        let v = after at.world I.stands in
        let G = go at.world I.stands in
        let e : y.0 ≡ v = answered_there see old new plan.parts handles said reply R x at line is I.scene I.own I.stands y.0 y.2 in
        let P = plain_none see G.unsaid R.act R.plain in (
          v,
          subst (Answers x at line) e y.2,
          L tells x at.world v I G,
          fronts_stay x.sinks at.world v (streams_stay at.world (a see old new plan.parts handles said reply R) (r see old new plan.parts handles said reply R) v I.sound P.streams G.met G.step) F,
        )

    pub stops_on : IsUnanswered see old plan.parts handles said → (v : World) → Answers x at line v → ⊥
    stops_on U v A = U x at line is its I.own v A
