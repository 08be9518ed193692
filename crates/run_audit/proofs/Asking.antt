-- What comes of a line whose act hands nothing out, and of one that claims or takes a note.
use Rattle.std.proofs.Common.{◌≡◌, ◌<◌, ℕ, false, List, Option, Some, None, IfSome, Result, Ok, Err, length, slice_get, refl, sym, ◌∙◌, ap, subst, Bool}
use Rattle.std.proofs.lemmas.Option.{slice_get_within}
use Rattle.std.specs.Prelude.{Vec}
use Rattle.std.specs.declared.alloc.Global.{Global}
use Rattle.omx_types.specs.declared.fault.AuditWhy.TheVariants.{OtherReply}
use Rattle.omx_types.specs.declared.error.OmxError.{OmxError}
use Rattle.omx_types.specs.declared.handle.Handle.{Handle}
use Rattle.il_machine.specs.Acts as acts
use Rattle.il_machine.specs.World.{World}
use Rattle.history_laws.specs.ClientHeaders as machine
use Rattle.act_text.specs.declared.act.TextAct.{TextAct}
use Rattle.act_text.specs.declared.act.TextAct.TheVariants as lines
use Rattle.act_text.specs.declared.text.ActText.{ActText}
use Rattle.note_queues.specs.declared.taken.Taken.{Taken}
use Rattle.note_queues.specs.declared.taken.Taken.TheVariants as takens
use Rattle.note_queues.specs.declared.taken.Took.{Took}
use Rattle.note_queues.specs.declared.taken.Took.TheVariants as tooks
use Rattle.note_queues.specs.Queues.{taken_of}
use Rattle.script_lang.specs.declared.play_line.PartLine.{PartLine}
use Rattle.play_log.specs.Saying.{Of, SaysAct}
use Rattle.play_log.specs.Scenes.{IsPlayer, Scene}
use Rattle.play_log.proofs.Players.{one_player}
use Rattle.audio_parts.specs.Shown.{ShownPart}
use Rattle.graph_core.specs.Clients.{IsOut}
use Rattle.il_flow.specs.Works.{WorkOf}
use Rattle.il_graph.specs.Shown as graphs
use Rattle.il_graph.specs.Stood.{tookly}
use Rattle.compared_files.specs.Comparing.{ComparingValue}
use Rattle.graph_acts.specs.declared.act.Act.{Act}
use Rattle.graph_acts.specs.declared.act.Reply.{Reply}
use Rattle.graph_acts.specs.declared.served.Served.{Served}
use Rattle.graph_acts.specs.Holding.{IsGone, given_out, header_in, took_header}
use Rattle.graph_acts.specs.Plain.{Sight, Unsaid, plain_act, plain_reply}
use Rattle.audit_acts.specs.Asking.{IsSaid, IsUnknown, scene_in}
use Rattle.audit_forms.specs.Audited.{Case, IsThere}
use Rattle.run_audit.specs.Answering.{IsAnswered, IsReplyOf, IsUnanswered}
use Rattle.run_audit.specs.declared.replay.Passed.TheVariants.{On, Stop}
use Rattle.run_audit.specs.declared.replay.Replay.{Replay}
use Rattle.run_audit.specs.Files.{FilesGoOn}
use Rattle.run_audit.specs.Keeping.{IfTaken, IsClaim, IsQuietReply, IsTake, PutsClient, with_thing, work_in}
use Rattle.run_audit.specs.Leading.{IsQuietLine, Leads, MayCome, StandsIn}
use Rattle.run_audit.proofs.Asked.{Lifts, go}
use Rattle.history_laws.proofs.Clientless.{gives_none}
use Rattle.run_audit.proofs.Files.{files_same}
use Rattle.run_audit.proofs.Filing.{claim_files, still_files, take_files}
use Rattle.run_audit.proofs.Led.{IsAlwaysThere, SaysNone, leads_nowhere, leads_other, leads_same, none_of}
use Rattle.run_audit.proofs.Lifting.{claim_free, claim_lifts, still_lifts, take_free, take_lifts}
use Rattle.run_audit.proofs.Plain.{so_plain}
use Rattle.run_audit.proofs.Quiet.{IsClaimPair, IsQuietPair, IsTakePair, claim_pair, quiet_pair, quiet_said, quiet_there, take_pair}

-- ---- nothing is handed out

-- an act that may come, and neither takes anything out nor brings it back
pub quiet_else : (t : TextAct) → MayCome t → ((name : List ℕ) → t ≡ lines.Claim name → ⊥) → ((name : List ℕ) → t ≡ lines.Take name → ⊥) → ((name : List ℕ) → t ≡ lines.Finish name → ⊥) → ((name : List ℕ) → t ≡ lines.End name → ⊥)
    → IsQuietLine t
quiet_else (lines.Claim name) M claim take finish end = absurd (claim name refl)
quiet_else (lines.Take name) M claim take finish end = absurd (take name refl)
quiet_else (lines.Finish name) M claim take finish end = absurd (finish name refl)
quiet_else (lines.End name) M claim take finish end = absurd (end name refl)
quiet_else t M claim take finish end = M

pub quiet_is_said : (t : TextAct) → IsQuietLine t → IsSaid t
quiet_is_said (lines.Claim component) Q = absurd Q
quiet_is_said (lines.Take component) Q = absurd Q
quiet_is_said t Q = Q

module _ {S C : Type 0} (see : Sight S (ComparingValue S) C) (old : Replay S C) (served : Served S (ComparingValue S) C) (said : ActText) (quiet : IsQuietLine said.act) where
  always : IsAlwaysThere said.act
  always x at = quiet_there x at said.act quiet

  pub ask_unknown : served ≡ old.served → SaysNone see old said → Leads see old (record old { served = served }) said (Stop OtherReply)
  ask_unknown e N = leads_nowhere see old said served e always N

  module _ (reply : Reply S (ComparingValue S) C) (R : IsReplyOf see old.served.graph served.graph (old.plan).parts old.handles.items said reply) where
    pair : IsQuietPair see R.act reply
    pair =
        let u : Unsaid = (so_plain see old.served.graph R.act R.plain).0 in
        quiet_pair see u R.act reply R.plain (R.moved).replied (quiet_said (scene_in (old.plan).parts old.handles.items) said.act (plain_act see u R.act) quiet (R.says u))

    pub ask_quiet : IsQuietReply reply
    ask_quiet = pair.quiet

    module _ (out : (h : Handle) → IsGone served.graph h → IsOut h (graphs.look_of served.graph)) where
      lifts : Lifts see old.served.graph served.graph old.plan old.handles.items old.works.items old.works.items old.clients.items old.clients.items said reply R out
      lifts = still_lifts see old.served.graph served.graph old.plan old.handles.items old.works.items old.works.items old.clients.items old.clients.items said reply R out pair.still refl refl

      files : (tells : Bool) (x : Case) (w : World) → StandsIn see tells old x w → FilesGoOn see false old (record old { served = served })
      files tells x w I = files_same see false old (record old { served = served })
          (still_files see old.served.graph served.graph old.plan old.handles.items old.works.items old.works.items old.clients.items old.clients.items said reply R out pair.still refl)

      pub ask_same : IsAnswered see old.served.graph served.graph (old.plan).parts old.handles.items said → Leads see old (record old { served = served }) said On
      ask_same A = leads_same see old served old.works old.clients said reply R out always lifts files A

      pub ask_other : IsUnanswered see old.served.graph (old.plan).parts old.handles.items said → Leads see old (record old { served = served }) said (Stop OtherReply)
      ask_other U = leads_other see old served old.works old.clients said reply R out always lifts files U

-- ---- a work or a client object may be

-- the component of a line's name that is there has that handle
handle_named : {S K C : Type 0} (see : Sight S K C) (old : Replay S C) (name : List ℕ) (place : ℕ) (part : PartLine) (h : Handle) (a : acts.Act) (f : Handle → acts.Act) (x : Case) (w : World)
    → IsPlayer (scene_in (old.plan).parts old.handles.items) place name part h → Of (scene_in (old.plan).parts old.handles.items) name (λ part k. a ≡ f k) → ((i j : ℕ) (p q : PartLine) → slice_get (old.plan).parts i ≡ Some p → slice_get (old.plan).parts j ≡ Some q → p.name ≡ q.name → i ≡ j) → a ≡ f h
handle_named see old name place part h a f x w P O own =
    let b = one_player (scene_in (old.plan).parts old.handles.items) own name (λ q k. k ≡ h) (λ q k. a ≡ f k) (place, part, h, P, refl) O in
    b.other ∙ ap f b.one

module _ {S C : Type 0} (see : Sight S (ComparingValue S) C) (old : Replay S C) (said : ActText) (name : List ℕ) (tells : Bool) (x : Case) (w : World) (I : StandsIn see tells old x w) where
  there_at_claim : said.act ≡ lines.Claim name → IsAlwaysThere said.act
  there_at_claim says x at = subst (λ (t : TextAct). IsThere x at t) (sym says) tt

  there_at_take : said.act ≡ lines.Take name → IsAlwaysThere said.act
  there_at_take says x at = subst (λ (t : TextAct). IsThere x at t) (sym says) tt

  -- no component has the name
  line_none : IsUnknown (scene_in (old.plan).parts old.handles.items) name → (t : TextAct) (f : Handle → acts.Act) → ((s : Scene) (a : acts.Act) → SaysAct s t a → Of s name (λ part h. a ≡ f h)) → said.act ≡ t → SaysNone see old said
  line_none unknown t f o says a S =
      none_of (scene_in (old.plan).parts old.handles.items) name (λ part h. a ≡ f h) unknown
      (o (scene_in (old.plan).parts old.handles.items) a (subst (λ (k : TextAct). SaysAct (scene_in (old.plan).parts old.handles.items) k a) says S))

  pub claim_nowhere : IsUnknown (scene_in (old.plan).parts old.handles.items) name → said.act ≡ lines.Claim name → Leads see old old said (Stop OtherReply)
  claim_nowhere unknown says = leads_nowhere see old said old.served refl (there_at_claim says) (line_none unknown (lines.Claim name) (λ h. acts.Claim h) (λ s a o. o) says)

  pub take_nowhere : IsUnknown (scene_in (old.plan).parts old.handles.items) name → said.act ≡ lines.Take name → Leads see old old said (Stop OtherReply)
  take_nowhere unknown says = leads_nowhere see old said old.served refl (there_at_take says) (line_none unknown (lines.Take name) (λ h. acts.TakeNote h) (λ s a o. o) says)

  pub claim_unknown : (served : Served S (ComparingValue S) C) → said.act ≡ lines.Claim name → served ≡ old.served → SaysNone see old said → Leads see old (record old { served = served }) said (Stop OtherReply)
  claim_unknown served says e N = leads_nowhere see old said served e (there_at_claim says) N

  pub take_unknown : (served : Served S (ComparingValue S) C) → said.act ≡ lines.Take name → served ≡ old.served → SaysNone see old said → Leads see old (record old { served = served }) said (Stop OtherReply)
  take_unknown served says e N = leads_nowhere see old said served e (there_at_take says) N

  module _ (place : ℕ) (part : PartLine) (h : Handle) (P : IsPlayer (scene_in (old.plan).parts old.handles.items) place name part h) (served : Served S (ComparingValue S) C) (reply : Reply S (ComparingValue S) C)
      (R : IsReplyOf see old.served.graph served.graph (old.plan).parts old.handles.items said reply) where
    u : Unsaid
    u = (so_plain see old.served.graph R.act R.plain).0

    act_of : (t : TextAct) (f : Handle → acts.Act) → ((s : Scene) (a : acts.Act) → SaysAct s t a → Of s name (λ part h. a ≡ f h)) → said.act ≡ t → plain_act see u R.act ≡ f h
    act_of t f o says =
        handle_named see old name place part h (plain_act see u R.act) f x w P
        (o (scene_in (old.plan).parts old.handles.items) (plain_act see u R.act) (subst (λ (k : TextAct). SaysAct (scene_in (old.plan).parts old.handles.items) k (plain_act see u R.act)) says (R.says u)))
        I.own

    place_of_work : place < length old.works.items
    place_of_work = subst (λ (n : ℕ). place < n) (sym I.many_works) (slice_get_within (old.plan).parts place part P.line)

    place_of_client : place < length old.clients.items
    place_of_client = subst (λ (n : ℕ). place < n) (sym I.many_clients) (slice_get_within (old.plan).parts place part P.line)

    -- ---- a claim

    module _ (says : said.act ≡ lines.Claim name) (out : (k : Handle) → IsGone served.graph k → IsOut k (graphs.look_of served.graph)) where
      claims : IsClaimPair see h R.act reply
      claims = claim_pair see u h R.act reply R.plain (R.moved).replied (act_of (lines.Claim name) (λ k. acts.Claim k) (λ s a o. o) says)

      pub claim_is : IsClaim reply
      claim_is = subst IsClaim (sym claims.reply_is) tt

      pub claim_there : place < length old.works.items
      claim_there = place_of_work

      pub claim_room : IfSome (work_in reply) (λ work. slice_get old.works.items place ≡ Some None)
      claim_room = claim_free see old.served.graph served.graph old.plan old.handles.items old.works.items old.works.items old.clients.items old.clients.items said reply R out place h P.handle claims tells x w I place_of_work

      module _ (works : Vec (Option (WorkOf (ShownPart S (ComparingValue S)))) Global) (e : works.items ≡ with_thing place (work_in reply) old.works.items) where
        abbrev claimed : Replay S C
        claimed = record old { served = served; works = works }

        lifts_claim : Lifts see old.served.graph served.graph old.plan old.handles.items old.works.items works.items old.clients.items old.clients.items said reply R out
        lifts_claim = claim_lifts see old.served.graph served.graph old.plan old.handles.items old.works.items works.items old.clients.items old.clients.items said reply R out place h P.handle claims place_of_work e refl

        files_claim : (tells : Bool) (x : Case) (w : World) → StandsIn see tells old x w → FilesGoOn see false old claimed
        files_claim tells x w I = files_same see false old claimed
            (claim_files see old.served.graph served.graph old.plan old.handles.items old.works.items works.items old.clients.items old.clients.items said reply R out h place P.handle claims place_of_work e tells x w I)

        pub claim_same : IsAnswered see old.served.graph served.graph (old.plan).parts old.handles.items said → Leads see old claimed said On
        claim_same A = leads_same see old served works old.clients said reply R out (there_at_claim says) lifts_claim files_claim A

        pub claim_other : IsUnanswered see old.served.graph (old.plan).parts old.handles.items said → Leads see old claimed said (Stop OtherReply)
        claim_other U = leads_other see old served works old.clients said reply R out (there_at_claim says) lifts_claim files_claim U

    -- ---- a note that is taken

    module _ (says : said.act ≡ lines.Take name) (out : (k : Handle) → IsGone served.graph k → IsOut k (graphs.look_of served.graph)) where
      takes : IsTakePair see h R.act reply
      takes = take_pair see u h R.act reply R.plain (R.moved).replied (act_of (lines.Take name) (λ k. acts.TakeNote k) (λ s a o. o) says)

      pub take_is : IsTake reply
      take_is = subst IsTake (sym takes.reply_is) tt

      pub take_there : place < length old.clients.items
      take_there = place_of_client

      pub take_room : IfTaken reply (slice_get old.clients.items place ≡ Some None)
      take_room = take_free see old.served.graph served.graph old.plan old.handles.items old.works.items old.works.items old.clients.items old.clients.items said reply R out place h P.handle takes tells x w I place_of_client

      -- it has no header
      taken_none : (taken : Taken) → machine.header_in (taken_of taken) ≡ None → header_in taken ≡ None
      taken_none (takens.Told event) e = refl
      taken_none (takens.EmptyDone header) e = absurd cc
      taken_none (takens.FillDone header) e = absurd cc

      no_header : (result : Result (Took C) OmxError) → machine.given_out (acts.TakeNote h) (acts.Took (tookly result)) ≡ None → took_header result ≡ None
      no_header (Ok (tooks.Call call)) e = taken_none call.taken e
      no_header (Ok tooks.None) e = refl
      no_header (Ok tooks.Busy) e = refl
      no_header (Err error) e = refl

      pub take_event : given_out reply ≡ None
      take_event =
          let G = go see old.served.graph served.graph old.plan old.handles.items old.works.items old.works.items old.clients.items old.clients.items said reply R out w I.stands in
          let none = gives_none w (plain_act see G.unsaid R.act) (plain_reply G.unsaid reply) _ I.sound I.clientless G.asks_none G.step in
          let by_act = subst (λ (a : Act S (ComparingValue S) C). machine.given_out (plain_act see G.unsaid a) (plain_reply G.unsaid reply) ≡ None) takes.act_is none in
          let by_reply = subst (λ (r : Reply S (ComparingValue S) C). machine.given_out (acts.TakeNote h) (plain_reply G.unsaid r) ≡ None) takes.reply_is by_act in
          subst (λ (r : Reply S (ComparingValue S) C). given_out r ≡ None) (sym takes.reply_is) (no_header takes.result by_reply)

      module _ (clients : Vec (Option C) Global) (put : PutsClient see.progress place old.clients.items clients.items reply) where
        abbrev taken : Replay S C
        taken = record old { served = served; clients = clients }

        lifts_take : Lifts see old.served.graph served.graph old.plan old.handles.items old.works.items old.works.items old.clients.items clients.items said reply R out
        lifts_take = take_lifts see old.served.graph served.graph old.plan old.handles.items old.works.items old.works.items old.clients.items clients.items said reply R out place h P.handle takes place_of_client refl put

        files_take : (tells : Bool) (x : Case) (w : World) → StandsIn see tells old x w → FilesGoOn see false old taken
        files_take tells x w I = files_same see false old taken
            (take_files see old.served.graph served.graph old.plan old.handles.items old.works.items old.works.items old.clients.items clients.items said reply R out h takes refl)

        pub take_same : IsAnswered see old.served.graph served.graph (old.plan).parts old.handles.items said → Leads see old taken said On
        take_same A = leads_same see old served old.works clients said reply R out (there_at_take says) lifts_take files_take A

        pub take_other : IsUnanswered see old.served.graph (old.plan).parts old.handles.items said → Leads see old taken said (Stop OtherReply)
        take_other U = leads_other see old served old.works clients said reply R out (there_at_take says) lifts_take files_take U
