-- A replay goes on standing for a world, act by act.
use Rattle.std.proofs.Common.{IsTrue, ◌≡◌, ◌≢◌, ℕ, List, Option, Some, None, IfSome, Result, Ok, Err, length, nat_eq, slice_get, slice_set, refl, sym, ◌∙◌, ap, subst, length-set, Bool}
use Rattle.omx_types.specs.declared.error.OmxError.{OmxError}
use Rattle.omx_types.specs.declared.handle.Handle.{Handle}
use Rattle.il_machine.specs.declared.answer.Progress.{Progress}
use Rattle.il_machine.specs.Components.{noted_by}
use Rattle.il_machine.specs.Run.{Meets, Step}
use Rattle.il_machine.specs.Whole.{Stands}
use Rattle.il_machine.specs.World.{World}
use Rattle.machine_laws.proofs.Steps.{sound_step}
use Rattle.play_forms.specs.Plans.{PlanValue}
use Rattle.play_log.proofs.Telling.{BringsNone, tells_on}
use Rattle.note_queues.specs.declared.taken.Took.{Took}
use Rattle.note_queues.specs.declared.taken.Took.TheVariants as tooks
use Rattle.note_queues.specs.Queues.{note_of}
use Rattle.audio_parts.specs.Shown.{ShownPart}
use Rattle.graph_core.specs.Clients.{IsOut, WasTold}
use Rattle.il_flow.specs.Works.{WorkOf}
use Rattle.il_graph.specs.Shown.{Shown, kept}
use Rattle.il_graph.specs.Shown as graphs
use Rattle.compared_files.specs.Comparing.{ComparingValue}
use Rattle.graph_acts.specs.declared.act.Act.{Act}
use Rattle.graph_acts.specs.declared.act.Act.TheVariants as asks
use Rattle.graph_acts.specs.declared.act.Reply.{Reply}
use Rattle.graph_acts.specs.declared.act.Reply.TheVariants as replies
use Rattle.graph_acts.specs.declared.claimed.LentClaim.{LentClaim}
use Rattle.graph_acts.specs.declared.claimed.LentClaim.TheVariants as claimed
use Rattle.graph_acts.specs.Holding.{IsGone, IsGoneSo, OutClient, client_in, client_out}
use Rattle.graph_acts.specs.Moving.{IsSo, Moved, MovesClients}
use Rattle.graph_acts.specs.Objects.{file_moved, files_in, with_at}
use Rattle.graph_acts.specs.Plain.{Sight, Unsaid, plain_act, plain_reply}
use Rattle.graph_acts.specs.Working.{IsWorkIn, MovesWorks, OutWork, out_of, work_back, work_given, work_number}
use Rattle.graph_acts.proofs.Worlds.{still_told}
use Rattle.audit_forms.specs.Audited.{Case}
use Rattle.run_audit.specs.Keeping.{IfCalled, PutsCalled, claimed_in, with_thing}
use Rattle.run_audit.specs.Replaying.{AreCompared, HoldsObjects, HoldsWorks, IsStanding}
use Rattle.history_laws.proofs.Clientless.{AsksNone, clientless_still}
use Rattle.run_audit.proofs.Compared.{compared_out, compared_stay}
use Rattle.run_audit.proofs.Quiet.{IsStill}
use Rattle.run_audit.proofs.Held.{AreApart, StaysTold, object_comes, object_goes, objects_stay, work_comes, works_stay}

module _ {S C : Type 0} where
  -- a step of the graph's world
  pub record IsGoing (see : Sight S (ComparingValue S) C) (old new : Shown S (ComparingValue S) C) (w v : World) (act : Act S (ComparingValue S) C) (reply : Reply S (ComparingValue S) C) : Type 0 where
    pub moved : Moved see act reply old new
    pub unsaid : Unsaid
    pub so : IsSo see old w unsaid act
    pub met : Meets w (plain_act see unsaid act)
    pub stands : Stands (kept see.progress new) v
    pub step : Step w (plain_act see unsaid act) (plain_reply unsaid reply) v
    pub brings : BringsNone (plain_act see unsaid act)
    pub asks_none : AsksNone (plain_act see unsaid act)
    pub out : (h : Handle) → IsGone new h → IsOut h (graphs.look_of new)

  module _ (see : Sight S (ComparingValue S) C) (old new : Shown S (ComparingValue S) C) (plan : PlanValue) (handles : List Handle) (works : List (Option (WorkOf (ShownPart S (ComparingValue S))))) (clients : List (Option C)) (tells : Bool) (x : Case) (w v : World) (I : IsStanding see tells old plan handles works clients x w) where
    pub apart : AreApart handles
    apart i j h k a b e = sym (I.numbers i h a) ∙ (e ∙ I.numbers j k b)

    pub standing : (act : Act S (ComparingValue S) C) (reply : Reply S (ComparingValue S) C) → IsGoing see old new w v act reply → (works' : List (Option (WorkOf (ShownPart S (ComparingValue S))))) (clients' : List (Option C)) → length works' ≡ length works → length clients' ≡ length clients
        → HoldsWorks handles works' v → HoldsObjects see handles clients' new v → (IsTrue tells → AreCompared see.reads.told x.sinks works' new) → IsStanding see tells new plan handles works' clients' x v
    standing act reply G works' clients' n m H O A =
        let a = plain_act see G.unsaid act in
        let r = plain_reply G.unsaid reply in
        record {
          plan_is = I.plan_is;
          scene = I.scene;
          own = I.own;
          numbers = I.numbers;
          many_handles = I.many_handles;
          many_works = n ∙ I.many_works;
          many_clients = m ∙ I.many_clients;
          stands = G.stands;
          sound = sound_step w v a r G.met G.step I.sound;
          telling = λ t. tells_on w a r v I.sound G.brings (I.telling t) G.met G.step;
          clientless = clientless_still w a r v I.sound I.clientless G.asks_none G.met G.step;
          works_are = H;
          objects = O;
          sinks = A;
          untold = I.untold;
        }

    pub stays_told : (act : Act S (ComparingValue S) C) (reply : Reply S (ComparingValue S) C) → IsGoing see old new w v act reply → StaysTold old new w v
    stays_told act reply G h p gone still told =
        still_told w v (plain_act see G.unsaid act) (plain_reply G.unsaid reply) h p I.sound G.met G.step ((G.moved).leaves h gone w I.stands G.unsaid) told
        (subst (IsOut h) (sym (G.stands).looks) (G.out h still))

    pub moves_works : (act : Act S (ComparingValue S) C) (reply : Reply S (ComparingValue S) C) → IsGoing see old new w v act reply → MovesWorks (work_back act) (work_given reply) w v
    moves_works act reply G = (G.moved).works w v I.sound I.stands G.stands G.unsaid G.so G.met G.step

    -- ---- nothing goes out or comes back

    same_files : (act : Act S (ComparingValue S) C) (reply : Reply S (ComparingValue S) C) → IsGoing see old new w v act reply → file_moved act reply ≡ None → (number : ℕ) → files_in new number ≡ files_in old number
    same_files act reply G e number = ((G.moved).objects).files number ∙ ap (λ m. with_at nat_eq m (files_in old) number) e

    same_works : (act : Act S (ComparingValue S) C) (reply : Reply S (ComparingValue S) C) → IsGoing see old new w v act reply → work_back act ≡ None → work_given reply ≡ None → HoldsWorks handles works v
    same_works act reply G b g =
        works_stay handles apart works w v I.works_are
        (subst (λ (o : Option (OutWork S (ComparingValue S))). MovesWorks None o w v) g (subst (λ (o : Option ℕ). MovesWorks o (work_given reply) w v) b (moves_works act reply G)))

    pub same_objects : (act : Act S (ComparingValue S) C) (reply : Reply S (ComparingValue S) C) → IsGoing see old new w v act reply → client_in act ≡ None → client_out see.progress act reply ≡ None → HoldsObjects see handles clients new v
    same_objects act reply G b g =
        objects_stay see handles apart clients old new w v I.objects (stays_told act reply G)
        (subst (λ (o : Option OutClient). MovesClients None o old new) g (subst (λ (o : Option Handle). MovesClients o (client_out see.progress act reply) old new) b (G.moved).clients))

    pub still_on : (act : Act S (ComparingValue S) C) (reply : Reply S (ComparingValue S) C) → IsGoing see old new w v act reply → IsStill see act reply → IsStanding see tells new plan handles works clients x v
    still_on act reply G Q =
        standing act reply G works clients refl refl (same_works act reply G Q.back Q.given) (same_objects act reply G Q.client Q.gone)
        (λ t. compared_stay see.reads.told x.sinks works old new (I.sinks t) (same_files act reply G Q.file))

    -- ---- a work goes out

    module _ (place : ℕ) (h : Handle) (its : slice_get handles place ≡ Some h) where
      free_work : (o : Option (WorkOf (ShownPart S (ComparingValue S)))) → slice_get works place ≡ Some o → ((y : OutWork S (ComparingValue S)) → IsWorkIn w y → work_number y ≢ h.generation) → o ≡ None
      free_work None at other = refl
      free_work (Some work) at other =
          let y = (I.works_are).out place work at in
          let e : Some work.component ≡ Some h = sym y.0 ∙ its in
          let same : work.component ≡ h = cc in
          absurd (other (out_of work) y.1 (ap (λ (k : Handle). k.generation) same))

      -- its component's place is free
      pub claimed_free : (o : Option (WorkOf (ShownPart S (ComparingValue S)))) → slice_get works place ≡ Some o → (result : Result (LentClaim S (ComparingValue S)) OmxError) → IsGoing see old new w v (asks.Claim h) (replies.Claim result) → IfSome (claimed_in result) (λ work. o ≡ None)
      claimed_free o at (Ok (claimed.Work work)) G =
          let M = moves_works (asks.Claim h) (replies.Claim (Ok (claimed.Work work))) G in
          let is = (((G.moved).objects).given).0 in
          free_work o at (λ y H e. (M.given).other y H (e ∙ ap (λ (k : Handle). k.generation) (sym is)))
      claimed_free o at (Ok claimed.Busy) G = tt
      claimed_free o at (Ok claimed.NotRunning) G = tt
      claimed_free o at (Ok claimed.Ended) G = tt
      claimed_free o at (Ok (claimed.Held port)) G = tt
      claimed_free o at (Ok (claimed.NoData port)) G = tt
      claimed_free o at (Ok (claimed.NoRoom port)) G = tt
      claimed_free o at (Ok (claimed.Events room need)) G = tt
      claimed_free o at (Err e) G = tt

      pub claimed_on : (result : Result (LentClaim S (ComparingValue S)) OmxError) → IsGoing see old new w v (asks.Claim h) (replies.Claim result) → IfSome (claimed_in result) (λ work. slice_get works place ≡ Some None)
          → IsStanding see tells new plan handles (with_thing place (claimed_in result) works) clients x v
      claimed_on (Ok (claimed.Work work)) G free =
          let act : Act S (ComparingValue S) C = asks.Claim h in
          let reply : Reply S (ComparingValue S) C = replies.Claim (Ok (claimed.Work work)) in
          let given = ((G.moved).objects).given in
          let number : h.generation ≡ place = I.numbers place h its in
          standing act reply G (slice_set works place (Some work)) clients (length-set works place (Some work)) refl
          (work_comes handles apart works w v I.works_are place work (its ∙ ap (λ (k : Handle). Some k) (sym given.0)) free (moves_works act reply G))
          (same_objects act reply G refl refl)
          (λ t. compared_out see.reads.told x.sinks works old new (I.sinks t) place work free (given.1 ∙ ap (files_in old) number)
          (λ n. ((G.moved).objects).files n ∙ ap (λ (k : ℕ). with_at nat_eq (Some (k, None)) (files_in old) n) number))
      claimed_on (Ok claimed.Busy) G free = still_on _ _ G (record { file = refl; back = refl; given = refl; client = refl; gone = refl })
      claimed_on (Ok claimed.NotRunning) G free = still_on _ _ G (record { file = refl; back = refl; given = refl; client = refl; gone = refl })
      claimed_on (Ok claimed.Ended) G free = still_on _ _ G (record { file = refl; back = refl; given = refl; client = refl; gone = refl })
      claimed_on (Ok (claimed.Held port)) G free = still_on _ _ G (record { file = refl; back = refl; given = refl; client = refl; gone = refl })
      claimed_on (Ok (claimed.NoData port)) G free = still_on _ _ G (record { file = refl; back = refl; given = refl; client = refl; gone = refl })
      claimed_on (Ok (claimed.NoRoom port)) G free = still_on _ _ G (record { file = refl; back = refl; given = refl; client = refl; gone = refl })
      claimed_on (Ok (claimed.Events room need)) G free = still_on _ _ G (record { file = refl; back = refl; given = refl; client = refl; gone = refl })
      claimed_on (Err e) G free = still_on _ _ G (record { file = refl; back = refl; given = refl; client = refl; gone = refl })

      -- ---- a client object goes out

      free_object : (o : Option C) → slice_get clients place ≡ Some o → ((y : OutClient) → IsGoneSo old y → y.handle ≢ h) → o ≡ None
      free_object None at other = refl
      free_object (Some client) at other =
          let y = (I.objects).out place client at in
          let e : Some y.0 ≡ Some h = sym y.1 ∙ its in
          let same : y.0 ≡ h = cc in
          absurd (other (record { handle = y.0; progress = see.progress client }) y.2.0 same)

      pub taken_free : (o : Option C) → slice_get clients place ≡ Some o → (result : Result (Took C) OmxError) → IsGoing see old new w v (asks.TakeNote h) (replies.TakeNote result) → IfCalled result (o ≡ None)
      taken_free o at (Ok (tooks.Call call)) G = free_object o at (λ y H e. (((G.moved).clients).given).other y H e)
      taken_free o at (Ok tooks.None) G = tt
      taken_free o at (Ok tooks.Busy) G = tt
      taken_free o at (Err e) G = tt

      at_clients : (those these : List (Option C)) → these ≡ those → IsStanding see tells new plan handles works those x v → IsStanding see tells new plan handles works these x v
      at_clients those these e s = subst (λ (l : List (Option C)). IsStanding see tells new plan handles works l x v) (sym e) s

      pub taken_on : (result : Result (Took C) OmxError) (clients' : List (Option C)) → IsGoing see old new w v (asks.TakeNote h) (replies.TakeNote result) → IfCalled result (slice_get clients place ≡ Some None)
          → PutsCalled see.progress place clients clients' result → IsStanding see tells new plan handles works clients' x v
      taken_on (Ok (tooks.Call call)) clients' G free put =
          let act : Act S (ComparingValue S) C = asks.TakeNote h in
          let reply : Reply S (ComparingValue S) C = replies.TakeNote (Ok (tooks.Call call)) in
          let client : C = put.0 in
          let T = stays_told act reply G in
          let told : WasTold h (noted_by (note_of call.taken) (see.progress call.client)) v = (G.moved).told G.unsaid w v I.stands G.stands G.met G.step in
          at_clients (slice_set clients place (Some client)) clients' put.2
          (standing act reply G works (slice_set clients place (Some client)) refl (length-set clients place (Some client)) (same_works act reply G refl refl)
          (object_comes see handles apart clients old new w v I.objects place h its client free T (subst (λ (p : Progress). WasTold h p v) (sym put.1) told)
          (subst (λ (p : Progress). MovesClients None (Some (record { handle = h; progress = p })) old new) (sym put.1) (G.moved).clients))
          (λ t. compared_stay see.reads.told x.sinks works old new (I.sinks t) (same_files act reply G refl)))
      taken_on (Ok tooks.None) clients' G free put = at_clients clients clients' put (still_on _ _ G (record { file = refl; back = refl; given = refl; client = refl; gone = refl }))
      taken_on (Ok tooks.Busy) clients' G free put = at_clients clients clients' put (still_on _ _ G (record { file = refl; back = refl; given = refl; client = refl; gone = refl }))
      taken_on (Err e) clients' G free put = at_clients clients clients' put (still_on _ _ G (record { file = refl; back = refl; given = refl; client = refl; gone = refl }))

      -- ---- it comes back

      pub ended_on : (client : C) → slice_get clients place ≡ Some (Some client) → IsGoing see old new w v (asks.EndNote h client) replies.EndNote → IsStanding see tells new plan handles works (slice_set clients place None) x v
      ended_on client held G =
          let act : Act S (ComparingValue S) C = asks.EndNote h client in
          standing act replies.EndNote G works (slice_set clients place None) refl (length-set clients place None) (same_works act replies.EndNote G refl refl)
          (object_goes see handles apart clients old new w v I.objects place h its client held (stays_told act replies.EndNote G) (G.moved).clients)
          (λ t. compared_stay see.reads.told x.sinks works old new (I.sinks t) (same_files act replies.EndNote G refl))
