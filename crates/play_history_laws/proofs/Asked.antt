-- An act that the conductor may ask for then leads from a world of a play to one.
use Rattle.std.proofs.Common.{◌≡◌, inl, inr, ℕ, zero, suc, ◌+◌, true, false, Option, Some, None, Result, refl, sym, ◌∙◌, subst, arith}
use Rattle.omx_types.specs.declared.command.Command.{Command}
use Rattle.omx_types.specs.declared.command.Command.TheVariants.{StateSet}
use Rattle.omx_types.specs.declared.error.OmxError.{OmxError}
use Rattle.omx_types.specs.declared.handle.Handle.{Handle}
use Rattle.omx_types.specs.declared.handle.PortId.{PortId}
use Rattle.omx_types.specs.declared.param.Param.{Param}
use Rattle.omx_types.specs.declared.param.ParamKey.{ParamKey}
use Rattle.omx_types.specs.declared.param.Param.TheVariants as params
use Rattle.omx_types.specs.declared.param.Supplier.{Supplier}
use Rattle.il_machine.specs.Acts.{Act as MachineAct, Reply}
use Rattle.il_machine.specs.Acts as acts
use Rattle.il_machine.specs.Commands.{SendCommand}
use Rattle.il_machine.specs.Parameters.{SetParameter}
use Rattle.il_machine.specs.Run.{Step}
use Rattle.il_machine.specs.Tunnels.{DropTunnel, SetupTunnel}
use Rattle.il_machine.specs.World.{World}
use Rattle.play_model.specs.Acts.{Act, CanAct, acted}
use Rattle.play_model.specs.Play.{Layout, Play}
use Rattle.play_world_laws.specs.Standing.{target}
use Rattle.play_stream_laws.specs.Contents.{PlayContents}
use Rattle.play_world_laws.specs.PlayWorlds.{IsPlayWorld, PlayCast, port_number}
use Rattle.play_world_laws.proofs.Begins.{begins}
use Rattle.play_world_laws.specs.Conducting.{definition_key, planned, port_command}
use Rattle.play_world_laws.specs.Leading.{PlayLeadsTo}
use Rattle.play_world_laws.proofs.Dropping.{drop_leads}
use Rattle.play_world_laws.proofs.Joining.{join_leads}
use Rattle.play_world_laws.proofs.Sending.{send_leads as send_port_leads}
use Rattle.play_world_laws.proofs.Setting.{set_leads}
use Rattle.play_world_laws.specs.Waiting.{IsWaiting}
use Rattle.play_world_laws.proofs.Waiting.{waits_on}
use Rattle.play_world_laws.proofs.StageSends.{send_leads}
use Rattle.play_stream_laws.specs.PlayStreams.{HasPlayStreams}
use Rattle.play_stream_laws.proofs.Beginning.{begun_streams}
use Rattle.play_stream_laws.proofs.Changing.{dropped_streams, joined_streams, sent_streams, set_streams}
use Rattle.play_stream_laws.proofs.Components.{send_streams}
use Rattle.play_history_laws.specs.Following.{Follows, GoesTo, IsPlayed, IsTurn}
use Rattle.play_history_laws.specs.Order.{Begins, Changes, ChangesOn, Cursor, GoesOn, IsAsked, IsChangeAct, one_more}
use Rattle.play_history_laws.proofs.Following.{begins_first, conducts_on, follows_on, sends_on}
use Rattle.play_history_laws.proofs.Moving.{IsMoved, closes}
use Rattle.play_history_laws.proofs.Onward.{goes_begun, goes_changed, goes_sent, goes_through, goes_unasked}
use Rattle.play_history_laws.proofs.Told.{all_told, can_begin, can_change, can_change_on, links_done}
use Rattle.play_history_laws.proofs.Coming.{HasCome}

-- ---- replies by their acts

sent_reply : (w : World) (h : Handle) (command : Command) (r : Reply) (v : World) → Step w (acts.SendCommand h command) r v → (result : Result (Unit {0}) OmxError) × SendCommand w h command result v
sent_reply w h command (acts.Plain result) v s = (result, s)
sent_reply w h command _ v s = absurd s

set_reply : (w : World) (h : Handle) (key : ParamKey) (value : Param) (r : Reply) (v : World) → Step w (acts.SetParameter h key value) r v → (result : Result (Unit {0}) OmxError) × SetParameter w h key value result v
set_reply w h key value (acts.Plain result) v s = (result, s)
set_reply w h key value _ v s = absurd s

drop_reply : (w : World) (o i : PortId) (r : Reply) (v : World) → Step w (acts.DropTunnel o i) r v → (result : Result (Unit {0}) OmxError) × DropTunnel w o i result v
drop_reply w o i (acts.Plain result) v s = (result, s)
drop_reply w o i _ v s = absurd s

join_reply : (w : World) (o i : PortId) (r : Reply) (v : World) → Step w (acts.SetupTunnel o i) r v → (result : Result Supplier OmxError) × SetupTunnel w o i result v
join_reply w o i (acts.Joined result) v s = (result, s)
join_reply w o i _ v s = absurd s

-- ---- an act of the model with its close-out

module _ (x : PlayCast) (k : Cursor) (recent : ℕ) (p : Play) (w : World) (D : IsPlayed x k recent p w) where
  abbrev net : Layout
  net = (x.cast).layout

  abbrev W : IsPlayWorld x recent p w
  W = D.play

  -- by what it leaves, where so much is asked
  arrives : (m : Play) (later : ℕ) (v : World) (j : Cursor) → IsWaiting net m → Follows x.cast j later m → GoesTo net k recent p j later m → PlayLeadsTo x later m v
      → ((c : PlayContents) (q : Play) → HasPlayStreams x c p w → IsPlayWorld x later q v → q.phase ≡ m.phase → HasPlayStreams x c q v) → HasCome x k recent p j w v
  arrives m later v j N F O L streams =
      let T = closes x later m v N L in
      let M : IsMoved x later m T.0 v = T.1 in
      record {
        recent = later;
        now = T.0;
        played = record { play = M.play; waiting = M.waiting; closed = M.closed; follows = follows_on x.cast j later m T.0 M.keeps F };
        goes = goes_through net k recent p j later m j later T.0 O (goes_unasked net j later m T.0 M.keeps M.later);
        streams = λ c H. streams c T.0 H M.play (M.keeps).phase;
      }

  -- ---- a StateSet goes on

  goes_on : (a : MachineAct) (r : Reply) (v : World) (j : Cursor) → GoesOn x.cast k w a j → Step w a r v → HasCome x k recent p j w v
  goes_on a r v j G s =
      let F = D.follows in
      let S = G.sends in
      let c : ℕ = S.component in
      let h : Handle = S.handle in
      let C : CanAct net p (Act.Send c) = (S.below, F.unsent c S.below (let e = S.there in omega (arith, e))) in
      let step : Step w (acts.SendCommand h (StateSet (target p.phase))) r v = subst (λ (n : ℕ). Step w (acts.SendCommand h (StateSet (target n))) r v) (sym F.phase) (subst (λ (b : MachineAct). Step w b r v) S.is s) in
      let R = sent_reply w h (StateSet (target p.phase)) r v step in
      let L = send_leads x recent p w c h R.0 v W C S.named R.1 in
      subst (λ (i : Cursor). HasCome x k recent p i w v) (sym G.after)
      (arrives (acted net (Act.Send c) p) recent v (record k { sent = k.sent + 1 }) (waits_on net p (Act.Send c) W.reached C D.waiting) (sends_on x.cast W.cast_is k recent p c S.below S.there F) (goes_sent net k recent p c C) L.1
      (λ y q H V e. send_streams x y recent recent p q w v W H V e c h S.below S.named R.0 R.1))

  -- ---- the next one begins

  begins_so : (a : MachineAct) (r : Reply) (v : World) (j : Cursor) → Begins x.cast k w a j → Step w a r v → HasCome x k recent p j w v
  begins_so a r v j G s =
      let F = D.follows in
      let S = G.sends in
      let c : ℕ = S.component in
      let h : Handle = S.handle in
      let B : CanAct net p Act.Begin = can_begin x recent p w W k F G.more G.done G.changed G.ends in
      let m : Play = acted net Act.Begin p in
      let U : IsPlayWorld x recent m w = begins x recent p w W B in
      let C : CanAct net m (Act.Send c) = (S.below, refl) in
      let step : Step w (acts.SendCommand h (StateSet (target m.phase))) r v = subst (λ (n : ℕ). Step w (acts.SendCommand h (StateSet (target (n + 1)))) r v) (sym F.phase) (subst (λ (b : MachineAct). Step w b r v) S.is s) in
      let R = sent_reply w h (StateSet (target m.phase)) r v step in
      let L = send_leads x recent m w c h R.0 v U C S.named R.1 in
      let N : IsWaiting net m = waits_on net p Act.Begin W.reached B D.waiting in
      subst (λ (i : Cursor). HasCome x k recent p i w v) (sym G.after)
      (arrives (acted net (Act.Send c) m) recent v (record { phase = k.phase + 1; sent = 1; made = k.made; changing = None }) (waits_on net m (Act.Send c) U.reached C N)
      (begins_first x.cast W.cast_is k recent p c S.below S.there F (links_done x recent p w W k F G.done)) (goes_begun net k recent p c C) L.1
      (λ y q H V e. send_streams x y recent recent m q w v U (begun_streams x y recent p w W B H) V e c h S.below S.named R.0 R.1))

  -- ---- an act of a change

  abbrev LeadsOn : ℕ → World → Type 0
  LeadsOn l v = PlayLeadsTo x l (acted net (Act.Conduct l) p) v × ((c : PlayContents) (q : Play) → HasPlayStreams x c p w → IsPlayWorld x l q v → q.phase ≡ p.phase → HasPlayStreams x c q v)

  conducted_at : (l n : ℕ) (a : MachineAct) (r : Reply) (v : World) → CanAct net p (Act.Conduct l) → (p.change l).step ≡ n + 2 → IsChangeAct x w l n a → Step w a r v → LeadsOn l v
  conducted_at l zero a r v C e (h, N, is) s =
      let R = sent_reply w h (port_command true (port_number x.cast true l)) r v (subst (λ (b : MachineAct). Step w b r v) is s) in
      ((send_port_leads x recent p w l true true h R.0 v W C e N R.1).1, λ y q H V f. sent_streams x y recent l p q w v W H V f l C.below true true h R.0 N R.1)
  conducted_at l (suc zero) a r v C e (h, N, is) s =
      let R = sent_reply w h (port_command true (port_number x.cast false l)) r v (subst (λ (b : MachineAct). Step w b r v) is s) in
      ((send_port_leads x recent p w l false true h R.0 v W C e N R.1).1, λ y q H V f. sent_streams x y recent l p q w v W H V f l C.below false true h R.0 N R.1)
  conducted_at l (suc (suc zero)) a r v C e (g, h, M, N, is) s =
      let R = drop_reply w (record { handle = g; index = (x.cast).output_port l }) (record { handle = h; index = (x.cast).input_port l }) r v (subst (λ (b : MachineAct). Step w b r v) is s) in
      ((drop_leads x recent p w l g h R.0 v W C e M N R.1).1, λ y q H V f. dropped_streams x y recent l p q w v W H V f l C.below g h M N R.0 R.1)
  conducted_at l (suc (suc (suc zero))) a r v C e (h, N, is) s =
      let R = set_reply w h (definition_key (port_number x.cast true l)) (params.Port (planned x true l)) r v (subst (λ (b : MachineAct). Step w b r v) is s) in
      ((set_leads x recent p w l true h R.0 v W C e N R.1).1, λ y q H V f. set_streams x y recent l p q w v W H V f l C.below C.late true h R.0 N R.1)
  conducted_at l (suc (suc (suc (suc zero)))) a r v C e (h, N, is) s =
      let R = set_reply w h (definition_key (port_number x.cast false l)) (params.Port (planned x false l)) r v (subst (λ (b : MachineAct). Step w b r v) is s) in
      ((set_leads x recent p w l false h R.0 v W C e N R.1).1, λ y q H V f. set_streams x y recent l p q w v W H V f l C.below C.late false h R.0 N R.1)
  conducted_at l (suc (suc (suc (suc (suc zero))))) a r v C e (g, h, M, N, is) s =
      let R = join_reply w (record { handle = g; index = (x.cast).output_port l }) (record { handle = h; index = (x.cast).input_port l }) r v (subst (λ (b : MachineAct). Step w b r v) is s) in
      ((join_leads x recent p w l g h R.0 v W C e M N R.1).1, λ y q H V f. joined_streams x y recent l p q w v W H V f l C.below g h M N R.0 R.1)
  conducted_at l (suc (suc (suc (suc (suc (suc zero)))))) a r v C e (h, N, is) s =
      let R = sent_reply w h (port_command false (port_number x.cast true l)) r v (subst (λ (b : MachineAct). Step w b r v) is s) in
      ((send_port_leads x recent p w l true false h R.0 v W C e N R.1).1, λ y q H V f. sent_streams x y recent l p q w v W H V f l C.below true false h R.0 N R.1)
  conducted_at l (suc (suc (suc (suc (suc (suc (suc zero))))))) a r v C e (h, N, is) s =
      let R = sent_reply w h (port_command false (port_number x.cast false l)) r v (subst (λ (b : MachineAct). Step w b r v) is s) in
      ((send_port_leads x recent p w l false false h R.0 v W C e N R.1).1, λ y q H V f. sent_streams x y recent l p q w v W H V f l C.below false false h R.0 N R.1)
  conducted_at l (suc (suc (suc (suc (suc (suc (suc (suc n)))))))) a r v C e z s = absurd z

  -- the change begins
  changes : (a : MachineAct) (r : Reply) (v : World) (j : Cursor) → Changes x k w a j → Step w a r v → HasCome x k recent p j w v
  changes a r v j G s =
      let F = D.follows in
      let l : ℕ = G.link in
      let Q = can_change x recent p w W k F l G.phase G.done G.below G.late G.unchanged G.announced in
      let L = conducted_at l 0 a r v Q.0 Q.1 G.its_act s in
      let none = G.unchanged in
      let two = G.phase in
      subst (λ (i : Cursor). HasCome x k recent p i w v) (sym G.after)
      (arrives (acted net (Act.Conduct l) p) l v (one_more l k) (waits_on net p (Act.Conduct l) W.reached Q.0 D.waiting)
      (conducts_on x.cast k recent p l G.below G.late F G.phase (let e = Q.1 in omega (arith, e, none)) (all_told x recent p w W k F (omega (arith, two)) G.done) (λ i b t n. links_done x recent p w W k F G.done i b t)) (goes_changed net k recent p l Q.0) L.0
      (λ y q H V e. L.1 y q H V e))

  -- it goes on
  changes_by : (o : Option ℕ) → k.changing ≡ o → IsTurn x.cast k recent p o → (a : MachineAct) (r : Reply) (v : World) (j : Cursor) → ChangesOn x k w a j → Step w a r v → HasCome x k recent p j w v
  changes_by None f T a r v j G s = let e : None ≡ Some G.link = sym f ∙ G.its in absurd cc
  changes_by (Some i) f T a r v j G s =
      let F = D.follows in
      let l : ℕ = G.link in
      let e : Some i ≡ Some l = sym f ∙ G.its in
      let is : i ≡ l = cc in
      let Y : IsTurn x.cast k recent p (Some l) = subst (λ (n : ℕ). IsTurn x.cast k recent p (Some n)) is T in
      let C = can_change_on x recent p w W k F l Y.2 Y.3 Y.4 G.more G.disabled in
      let step : (p.change l).step ≡ k.made l + 2 = F.some l Y.2 Y.3 Y.4 in
      let L = conducted_at l (k.made l) a r v C step G.its_act s in
      subst (λ (n : Cursor). HasCome x k recent p n w v) (sym G.after)
      (arrives (acted net (Act.Conduct l) p) l v (one_more l k) (waits_on net p (Act.Conduct l) W.reached C D.waiting)
      (conducts_on x.cast k recent p l Y.2 Y.3 F (sym F.phase ∙ Y.0) step Y.5 Y.6) (goes_changed net k recent p l C) L.0
      (λ y q H V e. L.1 y q H V e))

  pub asked : (a : MachineAct) (r : Reply) (v : World) (j : Cursor) → IsAsked x k w a j → Step w a r v → HasCome x k recent p j w v
  asked a r v j A s = elim A [
    | inl G ↦ goes_on a r v j G s
    | inr B ↦ elim B [
      | inl G ↦ begins_so a r v j G s
      | inr E ↦ elim E [
        | inl G ↦ changes a r v j G s
        | inr G ↦ changes_by k.changing refl (D.follows).turn a r v j G s
      ]
    ]
  ]
