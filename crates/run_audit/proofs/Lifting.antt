-- What a line's act hands out is held then.
use Rattle.std.proofs.Common.{◌≡◌, ◌<◌, ℕ, List, Option, Some, None, IfSome, Result, Ok, Err, length, slice_get, sym, ◌∙◌, ap, subst, Bool}
use Rattle.omx_types.specs.declared.handle.Handle.{Handle}
use Rattle.il_machine.specs.World.{World}
use Rattle.act_text.specs.declared.text.ActText.{ActText}
use Rattle.play_forms.specs.Plans.{PlanValue}
use Rattle.note_queues.specs.declared.taken.Took.{Took}
use Rattle.note_queues.specs.declared.taken.Took.TheVariants as tooks
use Rattle.audio_parts.specs.Shown.{ShownPart}
use Rattle.graph_core.specs.Clients.{IsOut}
use Rattle.il_flow.specs.Works.{WorkOf}
use Rattle.il_graph.specs.Shown.{Shown}
use Rattle.il_graph.specs.Shown as graphs
use Rattle.compared_files.specs.Comparing.{ComparingValue}
use Rattle.graph_acts.specs.declared.act.Act.{Act}
use Rattle.graph_acts.specs.declared.act.Act.TheVariants as asks
use Rattle.graph_acts.specs.declared.act.Reply.{Reply}
use Rattle.graph_acts.specs.declared.act.Reply.TheVariants as replies
use Rattle.graph_acts.specs.Holding.{IsGone}
use Rattle.graph_acts.specs.Plain.{Sight}
use Rattle.audit_forms.specs.Audited.{Case}
use Rattle.run_audit.specs.Answering.{IsReplyOf}
use Rattle.run_audit.specs.Keeping.{IfCalled, IfTaken, PutsClient, claimed_in, with_thing, work_in}
use Rattle.run_audit.specs.Replaying.{IsStanding}
use Rattle.run_audit.proofs.Heard.{there_at}
use Rattle.run_audit.proofs.Asked.{Lifts, go}
use Rattle.run_audit.proofs.Quiet.{IsClaimPair, IsStill, IsTakePair}
use Rattle.run_audit.proofs.Standing.{IsGoing, claimed_free, claimed_on, still_on, taken_free, taken_on}

if_some_map : {X : Type 0} (o : Option X) (P Q : Type 0) → (P → Q) → IfSome o (λ x. P) → IfSome o (λ x. Q)
if_some_map None P Q f h = tt
if_some_map (Some x) P Q f h = f h

if_called_map : {C E : Type 0} (o : Result (Took C) E) (P Q : Type 0) → (P → Q) → IfCalled o P → IfCalled o Q
if_called_map (Ok (tooks.Call call)) P Q f h = f h
if_called_map (Ok tooks.None) P Q f h = tt
if_called_map (Ok tooks.Busy) P Q f h = tt
if_called_map (Err e) P Q f h = tt

module _ {S C : Type 0} (see : Sight S (ComparingValue S) C) (old new : Shown S (ComparingValue S) C) (plan : PlanValue) (handles : List Handle) (works works' : List (Option (WorkOf (ShownPart S (ComparingValue S))))) (clients clients' : List (Option C))
    (said : ActText) (reply : Reply S (ComparingValue S) C) (R : IsReplyOf see old new plan.parts handles said reply) (out : (h : Handle) → IsGone new h → IsOut h (graphs.look_of new)) where
  pub still_lifts : IsStill see R.act reply → works' ≡ works → clients' ≡ clients → Lifts see old new plan handles works works' clients clients' said reply R out
  still_lifts Q e f tells x w v I G =
      subst (λ (l : List (Option (WorkOf (ShownPart S (ComparingValue S))))). IsStanding see tells new plan handles l clients' x v) (sym e)
      (subst (λ (l : List (Option C)). IsStanding see tells new plan handles works l x v) (sym f) (still_on see old new plan handles works clients tells x w v I R.act reply G Q))

  module _ (place : ℕ) (h : Handle) (its : slice_get handles place ≡ Some h) where
    module _ (P : IsClaimPair see h R.act reply) where
      as_claim : (w v : World) → IsGoing see old new w v R.act reply → IsGoing see old new w v (asks.Claim h) (replies.Claim P.result)
      as_claim w v G = subst (λ (r : Reply S (ComparingValue S) C). IsGoing see old new w v (asks.Claim h) r) P.reply_is (subst (λ (a : Act S (ComparingValue S) C). IsGoing see old new w v a reply) P.act_is G)

      free_so : (tells : Bool) (x : Case) (w v : World) → IsStanding see tells old plan handles works clients x w → IsGoing see old new w v R.act reply → place < length works → IfSome (claimed_in P.result) (λ work. slice_get works place ≡ Some None)
      free_so tells x w v I G l =
          let o = there_at works place l in
          if_some_map (claimed_in P.result) (o.0 ≡ None) (slice_get works place ≡ Some None) (λ e. o.1 ∙ ap (λ (z : Option (WorkOf (ShownPart S (ComparingValue S)))). Some z) e)
          (claimed_free see old new plan handles works clients tells x w v I place h its o.0 o.1 P.result (as_claim w v G))

      -- where the work is put nothing is held
      pub claim_free : (tells : Bool) (x : Case) (w : World) → IsStanding see tells old plan handles works clients x w → place < length works → IfSome (work_in reply) (λ work. slice_get works place ≡ Some None)
      claim_free tells x w I l =
          subst (λ (r : Reply S (ComparingValue S) C). IfSome (work_in r) (λ work. slice_get works place ≡ Some None)) (sym P.reply_is)
          (free_so tells x w _ I (go see old new plan handles works works' clients clients' said reply R out w I.stands) l)

      pub claim_lifts : place < length works → works' ≡ with_thing place (work_in reply) works → clients' ≡ clients → Lifts see old new plan handles works works' clients clients' said reply R out
      claim_lifts l e f tells x w v I G =
          let is : works' ≡ with_thing place (claimed_in P.result) works = e ∙ ap (λ (r : Reply S (ComparingValue S) C). with_thing place (work_in r) works) P.reply_is in
          subst (λ (l : List (Option (WorkOf (ShownPart S (ComparingValue S))))). IsStanding see tells new plan handles l clients' x v) (sym is)
          (subst (λ (l : List (Option C)). IsStanding see tells new plan handles (with_thing place (claimed_in P.result) works) l x v) (sym f)
          (claimed_on see old new plan handles works clients tells x w v I place h its P.result (as_claim w v G) (free_so tells x w v I G l)))

    module _ (P : IsTakePair see h R.act reply) where
      as_take : (w v : World) → IsGoing see old new w v R.act reply → IsGoing see old new w v (asks.TakeNote h) (replies.TakeNote P.result)
      as_take w v G = subst (λ (r : Reply S (ComparingValue S) C). IsGoing see old new w v (asks.TakeNote h) r) P.reply_is (subst (λ (a : Act S (ComparingValue S) C). IsGoing see old new w v a reply) P.act_is G)

      empty_so : (tells : Bool) (x : Case) (w v : World) → IsStanding see tells old plan handles works clients x w → IsGoing see old new w v R.act reply → place < length clients → IfCalled P.result (slice_get clients place ≡ Some None)
      empty_so tells x w v I G l =
          let o = there_at clients place l in
          if_called_map P.result (o.0 ≡ None) (slice_get clients place ≡ Some None) (λ e. o.1 ∙ ap (λ (z : Option C). Some z) e)
          (taken_free see old new plan handles works clients tells x w v I place h its o.0 o.1 P.result (as_take w v G))

      pub take_free : (tells : Bool) (x : Case) (w : World) → IsStanding see tells old plan handles works clients x w → place < length clients → IfTaken reply (slice_get clients place ≡ Some None)
      take_free tells x w I l =
          subst (λ (r : Reply S (ComparingValue S) C). IfTaken r (slice_get clients place ≡ Some None)) (sym P.reply_is)
          (empty_so tells x w _ I (go see old new plan handles works works' clients clients' said reply R out w I.stands) l)

      pub take_lifts : place < length clients → works' ≡ works → PutsClient see.progress place clients clients' reply → Lifts see old new plan handles works works' clients clients' said reply R out
      take_lifts l e put tells x w v I G =
          subst (λ (l : List (Option (WorkOf (ShownPart S (ComparingValue S))))). IsStanding see tells new plan handles l clients' x v) (sym e)
          (taken_on see old new plan handles works clients tells x w v I place h its P.result clients' (as_take w v G) (empty_so tells x w v I G l)
          (subst (λ (r : Reply S (ComparingValue S) C). PutsClient see.progress place clients clients' r) P.reply_is put))
