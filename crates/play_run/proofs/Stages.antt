-- A state that was begun is sent to each component.
use Rattle.std.proofs.lemmas.List.{length-map}
use Rattle.std.proofs.Common.{◌≡◌, ◌≢◌, ◌+◌, ◌<◌, ◌≤◌, ℕ, nat_eq, if◌then◌else◌, List, [], ◌∷◌, drop, map, length, slice_get, Some, option_map, Ok, Result, suc, refl, sym, ◌∙◌, ap, subst, eqb-true, eq-eqb, ne_eqb, arith}
use Rattle.omx_types.specs.declared.handle.Handle.{Handle}
use Rattle.omx_types.specs.declared.error.OmxError.{OmxError}
use Rattle.omx_types.specs.declared.state.State.{State}
use Rattle.omx_types.specs.declared.command.Command.TheVariants.{StateSet}
use Rattle.il_machine.specs.declared.answer.Progress.{Progress}
use Rattle.il_machine.specs.World.{Component, World}
use Rattle.il_machine.specs.Acts as acts
use Rattle.il_machine.specs.Commands.{SendCommand}
use Rattle.il_machine.specs.Whole.{Steps}
use Rattle.machine_laws.proofs.Finding.{either}
use Rattle.graph_core.specs.Clients.{KeepsAllClients}
use Rattle.il_graph.specs.Shown.{Shown}
use Rattle.il_graph.proofs.PartsStay.{step_stays}
use Rattle.conductor.specs.declared.phase.LateLink.{LateLink}
use Rattle.play_forms.specs.Plans.{PlanValue}
use Rattle.play_model.specs.Play.{Layout, Play}
use Rattle.play_model.specs.Acts.{Act, CanAct, CanActs, acted, all_acted}
use Rattle.play_model.specs.Acts.Act.{Begin, Send, Run, Happen, Tell, TellEnd, Supply, Release, HandOver, HandBack, HandUnused, Announce, TellSettings, Conduct, RunPort, HappenPort, TellPort, Step}
use Rattle.play_loop.specs.Turns.{HasRun}
use Rattle.play_loop.proofs.Running.{no_run, run_more}
use Rattle.play_log.specs.Kept.{LogValue}
use Rattle.play_world_laws.specs.Cast.{Cast, components_of, script_place}
use Rattle.play_world_laws.specs.Standing.{target}
use Rattle.play_world_laws.specs.Worlds.{Names}
use Rattle.play_stream_laws.specs.Contents.{PlayContents}
use Rattle.play_world_laws.specs.PlayWorlds.{IsPlayWorld, PlayCast}
use Rattle.play_world_laws.proofs.StageSends.{send_leads}
use Rattle.play_world_laws.specs.Happenings.{AreHappenings, IsHappening}
use Rattle.play_world_laws.proofs.Closing.{closes_lead}
use Rattle.play_world_laws.proofs.Waiting.{waits_on}
use Rattle.play_turn_laws.specs.Conducting.{AreCarriedOut, AreLates}
use Rattle.play_turn_laws.proofs.Keeping.{carried_kept, lates_kept}
use Rattle.play_stream_laws.specs.PlayStreams.{HasPlayStreams}
use Rattle.play_turn_laws.specs.Playing.{IsPlayConducted}
use Rattle.play_turn_laws.proofs.Playing.{still_conducting}
use Rattle.play_plan_laws.specs.Assemblies.{play_cast_of}
use Rattle.play_graph.specs.Graphs.{IsHandleAt, kept_of}
use Rattle.play_graph.proofs.Naming.{named_at}
use Rattle.play_build_laws.proofs.Places.{mapped_at}
use Rattle.play_result_laws.specs.Asked.{sending}
use Rattle.play_run.specs.Asking.{Asks, handles_of}
use Rattle.play_run.specs.Playing.{HasParts, IsStanding, PlayingValue, layout_of}
use Rattle.play_run.specs.Recording.{IsToldOf}
use Rattle.play_run.specs.Sending.{CanSend, IsSending, IsSentTo, SendsTo, SentOf}
use Rattle.play_run.proofs.Answering.{keeps_in, parts_of, stands_then, with_both}
use Rattle.play_run.proofs.Files.{told_same}
use Rattle.play_run.proofs.Asking.{asked_on}
use Rattle.play_run.proofs.Recording.{goes_on, is_player}
use Rattle.play_result_laws.proofs.ListFronts.{drop_here, none_left}
use Rattle.play_run.proofs.Streaming.{StreamsOn, streams_go}
use Rattle.play_run.proofs.Working.{still_none}

-- what a StateSet leaves of the streams, as the law of component streams has it
abbrev pub StageStreams : Type 0
StageStreams = (x : PlayCast) (k : PlayContents) (recent later : ℕ) (p q : Play) (w v : World) (c : ℕ) (h : Handle) (result : Result (Unit {0}) OmxError)
    → IsPlayWorld x recent p w → HasPlayStreams x k p w → IsPlayWorld x later q v → q.phase ≡ p.phase → c < components_of x.cast → Names x.cast w c h
    → SendCommand w h (StateSet (target p.phase)) result v → HasPlayStreams x k q v

-- ---- what happens in a close-out

-- what it leaves as it was
record IsCloseOut (x : Cast) (recent : ℕ) (p q : Play) : Type 0 where
  phase : q.phase ≡ p.phase
  sent : (c : ℕ) → p.stage c ≢ 0 → q.stage c ≢ 0
  unsent : (c : ℕ) → p.stage c ≡ 0 → q.stage c ≡ 0
  lates : (lates : List LateLink) → AreLates x recent p lates → AreLates x recent q lates
  carried : (lates : List LateLink) → AreCarriedOut x p lates → AreCarriedOut x q lates

happens_from : (c d m : ℕ) → m ≢ 0 → (if nat_eq c d then 3 else m) ≢ 0
happens_from c d m n = either (nat_eq c d) (λ t. rw t (λ e. absurd (omega (arith, e)))) (λ f. rw f n)

happens_to : (c d m : ℕ) → m ≡ 0 → (c ≡ d → m ≡ 2) → (if nat_eq c d then 3 else m) ≡ 0
happens_to c d m z two = either (nat_eq c d) (λ t. let e = two (eqb-true _ _ t) in absurd (omega (arith, e, z))) (λ f. rw f z)

one_out : (x : Cast) (recent : ℕ) (p : Play) (a : Act) → IsHappening a → CanAct x.layout p a → IsCloseOut x recent p (acted x.layout a p)
one_out x recent p (Happen d) h C = record {
  phase = refl;
  sent = λ c n. happens_from c d (p.stage c) n;
  unsent = λ c z. happens_to c d (p.stage c) z (λ e. ap p.stage e ∙ C.1);
  lates = λ ls L. lates_kept x recent p (Happen d) ls C tt L;
  carried = λ ls D. carried_kept x p (Happen d) ls C tt D;
}
one_out x recent p (HappenPort l output) h C = record {
  phase = refl;
  sent = λ c n. n;
  unsent = λ c z. z;
  lates = λ ls L. lates_kept x recent p (HappenPort l output) ls C tt L;
  carried = λ ls D. carried_kept x p (HappenPort l output) ls C tt D;
}
one_out x recent p Begin h C = absurd h
one_out x recent p (Send c) h C = absurd h
one_out x recent p (Run c) h C = absurd h
one_out x recent p (Tell c) h C = absurd h
one_out x recent p (TellEnd c) h C = absurd h
one_out x recent p (Supply l) h C = absurd h
one_out x recent p (Release l) h C = absurd h
one_out x recent p (HandOver l) h C = absurd h
one_out x recent p (HandBack l) h C = absurd h
one_out x recent p (HandUnused l) h C = absurd h
one_out x recent p (Announce l) h C = absurd h
one_out x recent p (TellSettings l) h C = absurd h
one_out x recent p (Conduct l) h C = absurd h
one_out x recent p (RunPort l output) h C = absurd h
one_out x recent p (TellPort l output) h C = absurd h
one_out x recent p (Step c n last) h C = absurd h

all_out : (x : Cast) (recent : ℕ) (p : Play) (acts : List Act) → CanActs x.layout p acts → AreHappenings acts → IsCloseOut x recent p (all_acted x.layout acts p)
all_out x recent p [] C H = record { phase = refl; sent = λ c n. n; unsent = λ c z. z; lates = λ ls L. L; carried = λ ls D. D }
all_out x recent p (a ∷ acts) C H =
    let A = one_out x recent p a H.0 C.0 in
    let B = all_out x recent (acted x.layout a p) acts C.1 H.1 in
    record {
      phase = B.phase ∙ A.phase;
      sent = λ c n. B.sent c (A.sent c n);
      unsent = λ c z. B.unsent c (A.unsent c z);
      lates = λ ls L. B.lates ls (A.lates ls L);
      carried = λ ls D. B.carried ls (A.carried ls D);
    }

-- ---- the stages

still_due : (p q : Play) (state : State) → q.phase ≡ p.phase → state ≡ target p.phase → state ≡ target q.phase
still_due p q state e is = is ∙ ap target (sym e)

unsent_else : (p : Play) (w : Layout) (c j : ℕ) → j ≢ c → p.stage j ≡ 0 → (acted w (Act.Send c) p).stage j ≡ 0
unsent_else p w c j n z = rw (ne_eqb j c n) z

-- the component of the place, too, is sent the state
one_sent : (x : Cast) (p q : Play) (place c recent : ℕ) → ((c d : ℕ) → c < components_of x → d < components_of x → script_place x c ≡ script_place x d → c ≡ d) → c < components_of x → script_place x c ≡ place
    → IsSentTo x.layout p place → IsCloseOut x recent (acted x.layout (Act.Send c) p) q → IsSentTo x.layout q (place + 1)
one_sent x p q place c recent apart b at T O = record {
  later = λ j d l. O.unsent j (unsent_else p x.layout c j (λ e. let f = ap (script_place x) e in absurd (omega (arith, f, at, l))) (T.later j d (omega (arith, l))));
  before = λ j d l. O.sent j (either (nat_eq j c)
      (λ t. rw t (λ e. absurd (omega (arith, e))))
      (λ f. rw f (λ e.
      let other : script_place x j ≢ place = λ o. let a = eq-eqb j c (apart j c d b (o ∙ sym at)) in absurd cc in
      T.before j d (omega (arith, l, other)) e)));
}

module _ {S K : Type 0} where
  pub send_begins : (x : PlayingValue S K) (state : State) → SendsTo x x state 0
  send_begins x state = λ p Y. (p, Y, no_run (layout_of x.plan) p, refl)

  module _ (y : PlayingValue S K) (g : Shown S K Progress) (log : LogValue) (state : State) (place : ℕ) (h : Handle) (r : Result (Unit {0}) OmxError) (b : place < length y.plan.parts) (H : IsHandleAt y.graph place h)
      (told : IsToldOf y.plan.parts place y.log (λ k. acts.SendCommand k (StateSet state)) (acts.Plain (Ok tt)) log)
      (keeps : KeepsAllClients y.graph.core g.core) (steps : Steps (kept_of y.graph) (kept_of g) (λ w v. SendCommand w h (StateSet state) r v)) (streams : StageStreams) where
    -- one more component has it
    one_more_sent : (p : Play) (Y : IsSending y p state place)
        → (q : Play) × (Z : IsSending (with_both y g log) q state (place + 1)) × HasRun (layout_of y.plan) p q × (Z.standing.files ≡ Y.standing.files)
    one_more_sent p Y =
        let x = play_cast_of y.plan in
        let net = layout_of y.plan in
        let Z = Y.standing in
        let w = Z.world in
        let W = (Z.conducted).play in
        let k = (W.cast_is).each place b in
        let c : ℕ = k.0 in
        let N : Names x.cast w c h = named_at w place h W.sound (H w Z.stands) ∙ ap Some (sym k.2) in
        let here : place ≤ script_place x.cast c = let e = k.2 in omega arith in
        let C : CanAct net p (Act.Send c) = (k.1, (Y.sent).later c k.1 here) in
        let v = steps w Z.stands in
        let s : SendCommand w h (StateSet (target p.phase)) r v.0 = subst (λ (a : State). SendCommand w h (StateSet a) r v.0) Y.state_is v.2 in
        let L = send_leads x Z.recent p w c h r v.0 W C N s in
        let to = L.1 in
        let m : Play = acted net (Act.Send c) p in
        let G = closes_lead x Z.recent m to.effect v.0 to.play (waits_on net p (Act.Send c) W.reached C (Z.conducted).waiting) to.closes in
        let q : Play = all_acted net G.acts m in
        let O : IsCloseOut x.cast Z.recent m q = all_out x.cast Z.recent m G.acts G.can G.happen in
        let lates = O.lates (y.conductor).lates (lates_kept x.cast Z.recent p (Act.Send c) (y.conductor).lates C tt ((Z.conducted).conducting).lates) in
        let late : IsPlayConducted x Z.recent q v.0 y.conductor = record { play = G.play; waiting = G.waiting; conducting = still_conducting x Z.recent p q y.conductor (Z.conducted).conducting O.phase lates } in
        let works = still_none w (acts.SendCommand h (StateSet state)) (acts.Plain r) v.0 W.sound tt v.2 (λ n. refl) Z.works in
        let hs = handles_of Z.opening in
        let left = drop (place + 1) (map (sending state) hs) in
        let own : slice_get hs place ≡ Some h = (is_player y p Z place h H told.name told.named).handle in
        let here : slice_get (map (sending state) hs) place ≡ Some (sending state h) = mapped_at (sending state) hs place ∙ ap (option_map (sending state)) own in
        let e : suc place ≡ place + 1 = omega arith in
        let head : Z.left ≡ sending state h ∷ left = Y.left ∙ (drop_here place (map (sending state) hs) (sending state h) here ∙ ap (λ (n : ℕ). sending state h ∷ drop n (map (sending state) hs)) e) in
        let R = goes_on y p Z place h H (Asks y.plan Z.files Z.opening Z.recent y.conductor left) v.0 (λ k. acts.SendCommand k (StateSet state)) (acts.Plain (Ok tt)) log told refl tt (subst (λ (a : Result (Unit {0}) OmxError). SendCommand w h (StateSet state) a v.0) L.0 v.2) tt (λ n. refl)
        (λ xs A. asked_on y.plan Z.files Z.opening Z.recent y.conductor (sending state h) left xs refl (subst (λ (ys : List (acts.Act × acts.Reply)). Asks y.plan Z.files Z.opening Z.recent y.conductor ys xs) head A)) in
        let F : StreamsOn x p w v.0 = λ n later u F V e. streams x n Z.recent later p u w v.0 c h r W F V e k.1 N s in
        let A = stands_then y g log p q Z.recent v.0 Z left v.1 works (keeps_in y.graph.core g.core keeps Z.clients) late R (streams_go x p Z.opening w v.0 Z.streams F Z.recent q G.play O.phase)
        (told_same Z.opening w v.0 Z.told (step_stays w W.sound (acts.SendCommand h (StateSet state)) (acts.Plain r) v.0 tt tt v.2).streams) in (
          q,
          record {
            standing = A.0;
            state_is = still_due p q state O.phase Y.state_is;
            left = A.2 ∙ ap (λ (o : World). drop (place + 1) (map (sending state) (handles_of o))) (sym A.3);
            sent = one_sent x.cast p q place c Z.recent (W.cast_is).apart k.1 k.2 Y.sent O;
            carried = O.carried (y.conductor).lates (carried_kept x.cast p (Act.Send c) (y.conductor).lates C tt Y.carried);
          },
          record { acts = Act.Send c ∷ G.acts; enabled = (C, G.can); after = refl {a = q} },
          A.1,
        )

    sends_more : (x : PlayingValue S K) → y.plan ≡ x.plan → SendsTo x y state place → SendsTo x (with_both y g log) state (place + 1)
    sends_more x same before = λ p Z.
        let t = before p Z in
        let u = one_more_sent t.0 t.1 in
        let R = subst (λ (plan : PlanValue). HasRun (layout_of plan) t.0 u.0) same u.2 in
        (u.0, u.1, run_more (layout_of x.plan) p t.0 u.0 t.2 R, u.3 ∙ t.3)

  pub sends_next : (y l x : PlayingValue S K) → y ≡ l → (g : Shown S K Progress) (log : LogValue) (state : State) (place : ℕ) (h : Handle) (r : Result (Unit {0}) OmxError) → l.plan ≡ x.plan → place < length x.plan.parts → IsHandleAt l.graph place h
      → IsToldOf y.plan.parts place y.log (λ k. acts.SendCommand k (StateSet state)) (acts.Plain (Ok tt)) log
      → KeepsAllClients y.graph.core g.core → Steps (kept_of y.graph) (kept_of g) (λ w v. SendCommand w h (StateSet state) r v) → StageStreams → SendsTo x l state place → SendsTo x (with_both y g log) state (place + 1)
  sends_next y l x is g log state place h r same b H told keeps steps streams before =
      subst (λ (z : PlayingValue S K). z.plan ≡ x.plan → IsHandleAt z.graph place h → SendsTo x z state place → SendsTo x (with_both y g log) state (place + 1)) is
      (λ same H before. sends_more y g log state place h r (subst (λ (plan : PlanValue). place < length plan.parts) (sym same) b) H told keeps steps streams x same before)
      same H before

  -- the graph stands for such a play
  pub still_parts : (x y : PlayingValue S K) (state : State) (place : ℕ) → CanSend x state → SendsTo x y state place → HasParts y
  still_parts x y state place (p, Y) sent = let t = sent p Y in parts_of y t.0 (t.1).standing

  few_left : (y : PlayingValue S K) (p : Play) (Z : IsStanding y p) (x : PlayingValue S K) → y.plan ≡ x.plan → (state : State) → length (map (sending state) (handles_of Z.opening)) ≤ length x.plan.parts
  few_left y p Z x same state =
      let a = length-map (handles_of Z.opening) (sending state) in
      let b = length-map Z.opening.components (λ (c : Component). c.handle) in
      let c = (Z.begins).opens.1.built.many in
      let d = ap (λ (plan : PlanValue). length plan.parts) same in
      omega (arith, a, b, c, d)

  -- all have it
  pub sends_all : (x y : PlayingValue S K) → y.plan ≡ x.plan → (state : State) → SendsTo x y state (length x.plan.parts) → SentOf x y state
  sends_all x y same state before = λ p Y.
      let t = before p Y in
      let Z = t.1 in
      let sent = subst (λ (plan : PlanValue). IsSentTo (layout_of y.plan) t.0 (length plan.parts)) (sym same) Z.sent in (
        t.0,
        record {
          standing = Z.standing;
          whole = Z.left ∙ none_left (length x.plan.parts) (map (sending state) (handles_of (Z.standing).opening)) (few_left y t.0 Z.standing x same state);
          sent = λ c b. sent.before c b ((((Z.standing).conducted).play).cast_is.placed c b);
          carried = Z.carried;
        },
        t.2,
        t.3,
      )
