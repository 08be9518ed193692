-- What comes of the act of a line that names a component, by what is known of the replay before it.
use Rattle.std.proofs.Common.{◌≡◌, ◌<◌, ℕ, Bool, List, Option, Some, None, IfSome, length, slice_get, slice_set, sym, ◌∙◌, ap, subst}
use Rattle.std.specs.Prelude.{Vec}
use Rattle.std.specs.declared.alloc.Global.{Global}
use Rattle.omx_types.specs.declared.fault.AuditWhy.TheVariants.{NotOut, OtherFile, OtherReply}
use Rattle.omx_types.specs.declared.fault.PartFault.{PartFault}
use Rattle.omx_types.specs.declared.handle.Handle.{Handle}
use Rattle.il_machine.specs.Acts.{Act}
use Rattle.il_machine.specs.Whole.{Stands}
use Rattle.il_machine.specs.World.{World}
use Rattle.act_text.specs.declared.act.TextAct.TheVariants as lines
use Rattle.act_text.specs.declared.reply.TextReply.TheVariants as texts
use Rattle.act_text.specs.declared.text.ActText.{ActText}
use Rattle.script_lang.specs.declared.play_line.PartLine.{PartLine}
use Rattle.play_log.specs.Saying.{SaysAct}
use Rattle.play_log.specs.Scenes.{IsPlayer}
use Rattle.audio_parts.specs.Shown.{ShownPart}
use Rattle.graph_core.specs.Clients.{IsOut}
use Rattle.il_flow.specs.Works.{WorkOf}
use Rattle.il_graph.specs.Shown.{TellWritten, kept}
use Rattle.il_graph.specs.Shown as graphs
use Rattle.compared_files.specs.Comparing.{ComparingValue}
use Rattle.graph_acts.specs.declared.act.Act.TheVariants as asks
use Rattle.graph_acts.specs.declared.act.Reply.{Reply}
use Rattle.graph_acts.specs.declared.act.Reply.TheVariants as replies
use Rattle.graph_acts.specs.declared.served.Served.{Served}
use Rattle.graph_acts.specs.Holding.{IsGone, IsGoneSo, given_out}
use Rattle.graph_acts.specs.Moving.{Moved}
use Rattle.graph_acts.specs.Plain.{Sight}
use Rattle.graph_acts.specs.Working.{IsWorkIn, out_of}
use Rattle.audit_acts.specs.Asking.{IsUnknown, scene_in}
use Rattle.audit_forms.specs.Audited.{Case}
use Rattle.run_audit.specs.Answering.{IsAnswered, IsReplyOf, IsUnanswered}
use Rattle.run_audit.specs.declared.replay.Passed.TheVariants.{Failed as Broken, On, Stop}
use Rattle.run_audit.specs.declared.replay.Replay.{Replay}
use Rattle.run_audit.specs.declared.returning.Back.TheVariants.{Failed, Other, OtherFile as Differs, Same}
use Rattle.run_audit.specs.Keeping.{IfTaken, IsClaim, IsQuietReply, IsTake, PutsClient, with_thing, work_in}
use Rattle.run_audit.specs.Leading.{IsQuietLine, Leads}
use Rattle.run_audit.specs.Replaying.{IsStanding}
use Rattle.run_audit.specs.Returning.{IsReturned}
use Rattle.run_audit.proofs.Asking as asking
use Rattle.run_audit.proofs.Brought.{KnowsCompared}
use Rattle.run_audit.proofs.Led.{SaysNone}
use Rattle.run_audit.proofs.LedBack as back
use Rattle.run_audit.proofs.Settled as held

-- the replay stands for a world, by lists that are the plan's components and the handles
pub record Turn {S C : Type 0} (see : Sight S (ComparingValue S) C) (old : Replay S C) (parts : List PartLine) (handles : List Handle) : Type 0 where
  pub tells : Bool
  pub case : Case
  pub world : World
  pub stands : IsStanding see tells old.served.graph old.plan old.handles.items old.works.items old.clients.items case world
  pub parts_are : parts ≡ (old.plan).parts
  pub handles_are : handles ≡ old.handles.items

pub turn : {S C : Type 0} {see : Sight S (ComparingValue S) C} {parts : List PartLine} {handles : List Handle} (old : Replay S C)
    → (tells : Bool) × (case : Case) × (world : World) × IsStanding see tells old.served.graph old.plan old.handles.items old.works.items old.clients.items case world
    → parts ≡ (old.plan).parts → handles ≡ old.handles.items → Turn see old parts handles
turn old s e f = record { tells = s.0; case = s.1; world = s.2; stands = s.3; parts_are = e; handles_are = f }

module _ {S C : Type 0} {see : Sight S (ComparingValue S) C} {old : Replay S C} {parts : List PartLine} {handles : List Handle} (T : Turn see old parts handles) where
  pub many : length handles ≡ length parts
  many = ap length T.handles_are ∙ ((T.stands).many_handles ∙ sym (ap length T.parts_are))

  at_parts : (F : List PartLine → List Handle → Type 0) → F parts handles → F (old.plan).parts old.handles.items
  at_parts F y = subst (λ (ps : List PartLine). F ps old.handles.items) T.parts_are (subst (λ (hs : List Handle). F parts hs) T.handles_are y)

  -- ---- an act that hands nothing out

  module _ (said : ActText) (quiet : IsQuietLine said.act) (served : Served S (ComparingValue S) C) where
    pub ask_unknown : served ≡ old.served → ((act : Act) → SaysAct (scene_in parts handles) said.act act → ⊥) → Leads see old (record old { served = served }) said (Stop OtherReply)
    ask_unknown e N = asking.ask_unknown see old served said quiet e (at_parts (λ ps hs. (act : Act) → SaysAct (scene_in ps hs) said.act act → ⊥) N)

    module _ (reply : Reply S (ComparingValue S) C) (R : IsReplyOf see old.served.graph served.graph parts handles said reply) where
      reply_so : IsReplyOf see old.served.graph served.graph (old.plan).parts old.handles.items said reply
      reply_so = at_parts (λ ps hs. IsReplyOf see old.served.graph served.graph ps hs said reply) R

      pub ask_quiet : IsQuietReply reply
      ask_quiet = asking.ask_quiet see old served said quiet reply reply_so

      module _ (out : (h : Handle) → IsGone served.graph h → IsOut h (graphs.look_of served.graph)) where
        pub ask_same : IsAnswered see old.served.graph served.graph parts handles said → Leads see old (record old { served = served }) said On
        ask_same A = asking.ask_same see old served said quiet reply reply_so out (at_parts (λ ps hs. IsAnswered see old.served.graph served.graph ps hs said) A)

        pub ask_other : IsUnanswered see old.served.graph parts handles said → Leads see old (record old { served = served }) said (Stop OtherReply)
        ask_other U = asking.ask_other see old served said quiet reply reply_so out (at_parts (λ ps hs. IsUnanswered see old.served.graph ps hs said) U)

  -- ---- an act of the component of the name

  module _ (said : ActText) (name : List ℕ) where
    unknown_so : IsUnknown (scene_in parts handles) name → IsUnknown (scene_in (old.plan).parts old.handles.items) name
    unknown_so U = at_parts (λ ps hs. IsUnknown (scene_in ps hs) name) U

    none_so : ((act : Act) → SaysAct (scene_in parts handles) said.act act → ⊥) → SaysNone see old said
    none_so N = at_parts (λ ps hs. (act : Act) → SaysAct (scene_in ps hs) said.act act → ⊥) N

    pub claim_nowhere : said.act ≡ lines.Claim name → IsUnknown (scene_in parts handles) name → Leads see old old said (Stop OtherReply)
    claim_nowhere says U = asking.claim_nowhere see old said name T.tells T.case T.world T.stands (unknown_so U) says

    pub take_nowhere : said.act ≡ lines.Take name → IsUnknown (scene_in parts handles) name → Leads see old old said (Stop OtherReply)
    take_nowhere says U = asking.take_nowhere see old said name T.tells T.case T.world T.stands (unknown_so U) says

    pub finish_nowhere : said.act ≡ lines.Finish name → IsUnknown (scene_in parts handles) name → Leads see old old said (Stop NotOut)
    finish_nowhere says U = back.finish_nowhere see old said name says (unknown_so U)

    pub end_nowhere : said.act ≡ lines.End name → IsUnknown (scene_in parts handles) name → Leads see old old said (Stop NotOut)
    end_nowhere says U = back.end_nowhere see old said name says (unknown_so U)

    pub claim_unknown : said.act ≡ lines.Claim name → (served : Served S (ComparingValue S) C) → served ≡ old.served → ((act : Act) → SaysAct (scene_in parts handles) said.act act → ⊥)
        → Leads see old (record old { served = served }) said (Stop OtherReply)
    claim_unknown says served e N = asking.claim_unknown see old said name T.tells T.case T.world T.stands served says e (none_so N)

    pub take_unknown : said.act ≡ lines.Take name → (served : Served S (ComparingValue S) C) → served ≡ old.served → ((act : Act) → SaysAct (scene_in parts handles) said.act act → ⊥)
        → Leads see old (record old { served = served }) said (Stop OtherReply)
    take_unknown says served e N = asking.take_unknown see old said name T.tells T.case T.world T.stands served says e (none_so N)

    module _ (place : ℕ) (h : Handle) (found : (part : PartLine) × IsPlayer (scene_in parts handles) place name part h) where
      player : IsPlayer (scene_in (old.plan).parts old.handles.items) place name found.0 h
      player = at_parts (λ ps hs. IsPlayer (scene_in ps hs) place name found.0 h) found.1

      pub work_there : (works : List (Option (WorkOf (ShownPart S (ComparingValue S))))) → works ≡ old.works.items → place < length works
      work_there works e = subst (λ (l : List (Option (WorkOf (ShownPart S (ComparingValue S))))). place < length l) (sym e) (held.held_place see old T.tells T.case T.world T.stands place name found.0 h player).0

      pub client_there : (clients : List (Option C)) → clients ≡ old.clients.items → place < length clients
      client_there clients e = subst (λ (l : List (Option C)). place < length l) (sym e) (held.held_place see old T.tells T.case T.world T.stands place name found.0 h player).1

      module _ (served : Served S (ComparingValue S) C) (out : (k : Handle) → IsGone served.graph k → IsOut k (graphs.look_of served.graph)) where
        module _ (reply : Reply S (ComparingValue S) C) (R : IsReplyOf see old.served.graph served.graph parts handles said reply) where
          so : IsReplyOf see old.served.graph served.graph (old.plan).parts old.handles.items said reply
          so = at_parts (λ ps hs. IsReplyOf see old.served.graph served.graph ps hs said reply) R

          -- ---- a claim

          module _ (says : said.act ≡ lines.Claim name) where
            pub claim_is : IsClaim reply
            claim_is = asking.claim_is see old said name T.tells T.case T.world T.stands place found.0 h player served reply so says out

            pub claim_room : (works : List (Option (WorkOf (ShownPart S (ComparingValue S))))) → works ≡ old.works.items → IfSome (work_in reply) (λ work. slice_get works place ≡ Some None)
            claim_room works e =
                subst (λ (l : List (Option (WorkOf (ShownPart S (ComparingValue S))))). IfSome (work_in reply) (λ work. slice_get l place ≡ Some None)) (sym e)
                (asking.claim_room see old said name T.tells T.case T.world T.stands place found.0 h player served reply so says out)

            module _ (works : Vec (Option (WorkOf (ShownPart S (ComparingValue S)))) Global) (e : works.items ≡ with_thing place (work_in reply) old.works.items) where
              pub claim_same : IsAnswered see old.served.graph served.graph parts handles said → Leads see old (record old { served = served; works = works }) said On
              claim_same A = asking.claim_same see old said name T.tells T.case T.world T.stands place found.0 h player served reply so says out works e (at_parts (λ ps hs. IsAnswered see old.served.graph served.graph ps hs said) A)

              pub claim_other : IsUnanswered see old.served.graph parts handles said → Leads see old (record old { served = served; works = works }) said (Stop OtherReply)
              claim_other U = asking.claim_other see old said name T.tells T.case T.world T.stands place found.0 h player served reply so says out works e (at_parts (λ ps hs. IsUnanswered see old.served.graph ps hs said) U)

          -- ---- a note that is taken

          module _ (says : said.act ≡ lines.Take name) where
            pub take_is : IsTake reply
            take_is = asking.take_is see old said name T.tells T.case T.world T.stands place found.0 h player served reply so says out

            pub take_event : given_out reply ≡ None
            take_event = asking.take_event see old said name T.tells T.case T.world T.stands place found.0 h player served reply so says out

            pub take_room : (clients : List (Option C)) → clients ≡ old.clients.items → IfTaken reply (slice_get clients place ≡ Some None)
            take_room clients e =
                subst (λ (l : List (Option C)). IfTaken reply (slice_get l place ≡ Some None)) (sym e)
                (asking.take_room see old said name T.tells T.case T.world T.stands place found.0 h player served reply so says out)

            module _ (clients : Vec (Option C) Global) (put : PutsClient see.progress place old.clients.items clients.items reply) where
              pub take_same : IsAnswered see old.served.graph served.graph parts handles said → Leads see old (record old { served = served; clients = clients }) said On
              take_same A = asking.take_same see old said name T.tells T.case T.world T.stands place found.0 h player served reply so says out clients put (at_parts (λ ps hs. IsAnswered see old.served.graph served.graph ps hs said) A)

              pub take_other : IsUnanswered see old.served.graph parts handles said → Leads see old (record old { served = served; clients = clients }) said (Stop OtherReply)
              take_other U = asking.take_other see old said name T.tells T.case T.world T.stands place found.0 h player served reply so says out clients put (at_parts (λ ps hs. IsUnanswered see old.served.graph ps hs said) U)

        -- ---- a work goes back

        module _ (says : said.act ≡ lines.Finish name) (works : Vec (Option (WorkOf (ShownPart S (ComparingValue S)))) Global) (e : works.items ≡ slice_set old.works.items place None) (work : WorkOf (ShownPart S (ComparingValue S)))
            (held : slice_get old.works.items place ≡ Some (Some work)) (Q : KnowsCompared see) (written : (w : World) → Stands (kept see.progress served.graph) w → TellWritten see.writes.told served.graph w) where
          pub finish_same : IsReturned see see.reads.told old.served.graph served.graph work said.reply Same → Leads see old (record old { served = served; works = works }) said On
          finish_same B = back.finish_same see old said name place found.0 h player says Q served works e work held out written T.tells T.case T.world T.stands B

          pub finish_differs : IsReturned see see.reads.told old.served.graph served.graph work said.reply Differs → Leads see old (record old { served = served; works = works }) said (Stop OtherFile)
          finish_differs B = back.finish_differs see old said name place found.0 h player says Q served works e work held out written T.tells T.case T.world T.stands B

          pub finish_other : IsReturned see see.reads.told old.served.graph served.graph work said.reply Other → Leads see old (record old { served = served; works = works }) said (Stop OtherReply)
          finish_other B = back.finish_other see old said name place found.0 h player says Q served works e work held out written T.tells T.case T.world T.stands B

          pub finish_failed : (fault : PartFault) → IsReturned see see.reads.told old.served.graph served.graph work said.reply (Failed fault) → Leads see old (record old { served = served; works = works }) said (Broken place fault)
          finish_failed fault B = back.finish_failed see old said name place found.0 h player says Q served works e work held out written T.tells T.case T.world T.stands fault B

        -- ---- a client object goes back

        module _ (says : said.act ≡ lines.End name) (clients : Vec (Option C) Global) (e : clients.items ≡ slice_set old.clients.items place None) (client : C) (held : slice_get old.clients.items place ≡ Some (Some client))
            (moved : Moved see (asks.EndNote h client) replies.EndNote old.served.graph served.graph) (was_out : (k : Handle) → IsGone old.served.graph k → IsOut k (graphs.look_of old.served.graph)) where
          pub end_same : said.reply ≡ texts.Done → Leads see old (record old { served = served; clients = clients }) said On
          end_same q = back.end_same see old said name place found.0 h player says served clients e client held moved was_out out q

          pub end_other : (said.reply ≡ texts.Done → ⊥) → Leads see old (record old { served = served; clients = clients }) said (Stop OtherReply)
          end_other n = back.end_other see old said name place found.0 h player says served clients e client held moved was_out out n

      pub finish_nothing : said.act ≡ lines.Finish name → (works : Vec (Option (WorkOf (ShownPart S (ComparingValue S)))) Global) → works.items ≡ slice_set old.works.items place None → slice_get old.works.items place ≡ Some None
          → Leads see old (record old { works = works }) said (Stop NotOut)
      finish_nothing says works e free = back.finish_nothing see old said name place found.0 h player says works e free

      pub end_nothing : said.act ≡ lines.End name → (clients : Vec (Option C) Global) → clients.items ≡ slice_set old.clients.items place None → slice_get old.clients.items place ≡ Some None
          → Leads see old (record old { clients = clients }) said (Stop NotOut)
      end_nothing says clients e free = back.end_nothing see old said name place found.0 h player says clients e free

      pub work_out : (work : WorkOf (ShownPart S (ComparingValue S))) → slice_get old.works.items place ≡ Some (Some work) → (w : World) × Stands (kept see.progress old.served.graph) w × IsWorkIn w (out_of work)
      work_out work there = held.work_out see old T.tells T.case T.world T.stands place work there

      pub object_gone : (client : C) → slice_get old.clients.items place ≡ Some (Some client) → IsGoneSo old.served.graph (record { handle = h; progress = see.progress client })
      object_gone client there = held.object_gone see old T.tells T.case T.world T.stands place h client player.handle there
