-- What the conductor asks is accepted: it can be done, and beside the one fault of a component that may be told there is room.
use Rattle.std.proofs.Common.{◌≡◌, inl, inr, ℕ, zero, suc, ◌+◌, ◌<◌, ◌≤◌, Bool, true, false, nat_lt, List, slice_get, Option, Some, None, Result, Ok, Err, refl, sym, ◌∙◌, ap, subst, le-ltb, arith}
use Rattle.omx_types.specs.declared.command.Command.{Command}
use Rattle.omx_types.specs.declared.command.Command.TheVariants.{StateSet}
use Rattle.omx_types.specs.declared.error.OmxError.{OmxError}
use Rattle.omx_types.specs.declared.handle.Handle.{Handle}
use Rattle.omx_types.specs.declared.handle.PortId.{PortId}
use Rattle.omx_types.specs.declared.param.Param.{Param}
use Rattle.omx_types.specs.declared.param.Param.TheVariants as params
use Rattle.omx_types.specs.declared.param.ParamKey.{ParamKey}
use Rattle.omx_types.specs.declared.param.Supplier.{Supplier}
use Rattle.il_machine.specs.Acts.{Act as MachineAct, Reply}
use Rattle.il_machine.specs.Acts as acts
use Rattle.il_machine.specs.Answers.{Answers, plain}
use Rattle.il_machine.specs.Commands.{SendCommand, is_at_once, send_refusal, sent}
use Rattle.il_machine.specs.Due.{ClosesTo}
use Rattle.il_machine.specs.Look.{look}
use Rattle.il_machine.specs.Parameters.{SetParameter}
use Rattle.il_machine.specs.Room.{cost_of, room}
use Rattle.il_machine.specs.Run.{Step}
use Rattle.il_machine.specs.Tunnels.{DropTunnel, SetupTunnel}
use Rattle.il_machine.specs.World.{Component, Stream, World, place_of, with_component}
use Rattle.play_model.specs.Acts.{Act, CanAct, acted}
use Rattle.play_model.specs.Play.{Layout, Play, component_at}
use Rattle.play_world_laws.specs.Cast.{components_of, script_place, supplier_of}
use Rattle.play_world_laws.specs.Standing.{target}
use Rattle.play_world_laws.specs.Worlds.{Names}
use Rattle.play_world_laws.proofs.Begins.{begins}
use Rattle.play_world_laws.proofs.Lists.{resolved}
use Rattle.play_world_laws.proofs.Stages.{not_at_once}
use Rattle.play_world_laws.specs.PlayWorlds.{IsPlayWorld, PlayCast, port_number}
use Rattle.play_world_laws.specs.Conducting.{IsSendAt, definition_key, planned, port_command}
use Rattle.play_world_laws.proofs.Dropping.{drop_leads}
use Rattle.play_world_laws.proofs.Joining.{join_leads}
use Rattle.play_world_laws.proofs.Sending.{accepted as port_accepted}
use Rattle.play_world_laws.proofs.Setting.{set_leads}
use Rattle.play_world_laws.proofs.StageSends.{accepted as stage_accepted}
use Rattle.read_world_laws.specs.Beside.{IsDeclined}
use Rattle.read_world_laws.specs.Inside.{inside, taken_in}
use Rattle.read_world_laws.specs.Mended.{mend, mended}
use Rattle.read_world_laws.proofs.Faults.{used_more}
use Rattle.read_world_laws.proofs.Inside as ins
use Rattle.read_world_laws.proofs.Mended as mns
use Rattle.play_history_laws.specs.Following.{Follows, IsPlayed, IsTurn}
use Rattle.play_history_laws.specs.Order.{Begins, Changes, ChangesOn, Cursor, GoesOn, IsAsked, IsChangeAct}
use Rattle.play_history_laws.proofs.Taken.{component_there}
use Rattle.play_history_laws.proofs.Told.{can_begin, can_change, can_change_on}
use Rattle.play_history_laws.specs.Faults.{IsAccepted, IsFaulty}
use Rattle.play_history_laws.proofs.StreamsKept.{read_there}
use Rattle.play_history_laws.proofs.Noted.{few_faults}
use Rattle.play_history_laws.proofs.Roomy.{roomy_port, roomy_stage}

pub not_declined : (r : Reply) → IsAccepted r → IsDeclined r → ⊥
not_declined (acts.Plain (Ok y)) A D = D
not_declined (acts.Plain (Err e)) A D = absurd cc
not_declined (acts.Joined result) A D = D
not_declined _ A D = absurd A

-- where nothing is against it
taken : (r : Option OmxError) (result : Result (Unit {0}) OmxError) (w u v : World) → r ≡ None → Answers r result w v (λ _. ClosesTo u v) → result ≡ Ok tt
taken None (Ok y) w u v n h = refl
taken None (Err y) w u v n h = absurd h
taken (Some y) result w u v n h = absurd cc

port_waits : (d : Bool) (n : ℕ) → is_at_once (port_command d n) ≡ false
port_waits true n = refl
port_waits false n = refl

port_cost : (d : Bool) (n : ℕ) (c : Component) → cost_of c (port_command d n) ≡ 1
port_cost true n c = refl
port_cost false n c = refl

module _ (x : PlayCast) (k : Cursor) (recent : ℕ) (p : Play) (ss : List Stream) (w : World) (D : IsFaulty x k recent p ss w) where
  abbrev u : World
  u = inside (mend ss w)

  abbrev P : IsPlayed x k recent p u
  P = (D.taken).played

  abbrev W : IsPlayWorld x recent p u
  W = P.play

  abbrev F : Follows x.cast k recent p
  F = P.follows

  abbrev net : Layout
  net = (x.cast).layout

  -- ---- a command: what is read of the component takes it, with room for more
  module _ (h : Handle) (command : Command) (i : ℕ) (waits : is_at_once command ≡ false) (cost : (c : Component) → cost_of c command ≡ 1) (n : place_of h u.components ≡ Some i)
      (free : (a : Component) → slice_get u.components i ≡ Some a → (send_refusal (look u) a command ≡ None) × (253 ≤ room a)) where
    sends : (result : _) (v : World) → SendCommand w h command result v → result ≡ Ok tt
    sends result v s =
        let place : place_of h w.components ≡ Some i = sym (ins.place_in h (mend ss w).components ∙ mns.place_in ss h w.components) ∙ n in
        let t = component_there w h i place in
        let c : Component = t.0 in
        let f = free (taken_in (mended c)) (read_there ss w i c t.1) in
        let roomy : 253 ≤ room (mended c) = f.1 in
        let used = used_more c in
        let few = few_faults w D.noted i c t.1 in
        let fits : nat_lt (room c) (cost_of c command) ≡ false = le-ltb (room c) (cost_of c command) (let one = cost c in omega (arith, roomy, used, few, one)) in
        let none = mns.takes_back ss w c command waits fits (sym (ins.refusal_in (mend ss w) (mended c) command) ∙ f.0) in
        taken (send_refusal (look w) c command) result w (with_component i (sent command c) w) v none
        (resolved plain w h result v (λ j d. Answers (send_refusal (look w) d command) result w v (λ _. ClosesTo (with_component j (sent command d) w) v)) i c place t.1 s)

    sent_so : (r : Reply) (v : World) → Step w (acts.SendCommand h command) r v → IsAccepted r
    sent_so (acts.Plain result) v s = sends result v s
    sent_so _ v s = absurd s

  -- a StateSet, of the play in which it was begun
  stage_so : (q : Play) → IsPlayWorld x recent q u → (phase : ℕ) → q.phase ≡ phase → (c : ℕ) → c < components_of x.cast → q.stage c ≡ 0 → (h : Handle) → Names x.cast u c h → (r : Reply) (v : World)
      → Step w (acts.SendCommand h (StateSet (target phase))) r v → IsAccepted r
  stage_so q U phase e c b z h n r v s =
      sent_so h (StateSet (target phase)) (script_place x.cast c) (not_at_once phase) (λ d. refl) n
      (λ a g. (subst (λ (m : ℕ). send_refusal (look u) a (StateSet (target m)) ≡ None) e (stage_accepted x recent q u U c b z a g), roomy_stage x recent q u U c b z a g)) r v s

  goes_on : (a : MachineAct) (r : Reply) (v : World) (j : Cursor) → GoesOn x.cast k u a j → Step w a r v → IsAccepted r
  goes_on a r v j G s =
      let S = G.sends in
      stage_so p W k.phase F.phase S.component S.below (F.unsent S.component S.below (let e = S.there in omega (arith, e))) S.handle S.named r v (subst (λ (b : MachineAct). Step w b r v) S.is s)

  begins_so : (a : MachineAct) (r : Reply) (v : World) (j : Cursor) → Begins x.cast k u a j → Step w a r v → IsAccepted r
  begins_so a r v j G s =
      let S = G.sends in
      let C : CanAct net p Act.Begin = can_begin x recent p u W k F G.more G.done G.changed G.ends in
      stage_so (acted net Act.Begin p) (begins x recent p u W C) (k.phase + 1) (ap (λ (n : ℕ). n + 1) F.phase) S.component S.below refl S.handle S.named r v (subst (λ (b : MachineAct). Step w b r v) S.is s)

  -- ---- an act of a change

  port_so : (l : ℕ) → CanAct net p (Act.Conduct l) → (o disables : Bool) → IsSendAt o disables (p.change l).step → (h : Handle) → Names x.cast u (component_at net o l) h → (r : Reply) (v : World)
      → Step w (acts.SendCommand h (port_command disables (port_number x.cast o l))) r v → IsAccepted r
  port_so l C o disables e h n r v s =
      sent_so h (port_command disables (port_number x.cast o l)) (script_place x.cast (component_at net o l)) (port_waits disables (port_number x.cast o l)) (port_cost disables (port_number x.cast o l)) n
      (λ a g. (port_accepted x recent p u W l C o disables e a g, roomy_port x recent p u W l C o disables e a g)) r v s

  set_so : (h : Handle) (key : ParamKey) (value : Param) → ((result : _) (v : World) → SetParameter u h key value result v → result ≡ Ok tt) → (r : Reply) (v : World) → Step w (acts.SetParameter h key value) r v → IsAccepted r
  set_so h key value f (acts.Plain result) v s = f result (inside (mend ss v)) (ins.step_in (mend ss w) (acts.SetParameter h key value) (acts.Plain result) (mend ss v) tt (mns.sets_in ss w h key value result v s))
  set_so h key value f _ v s = absurd s

  drop_so : (o i : PortId) → ((result : _) (v : World) → DropTunnel u o i result v → result ≡ Ok tt) → (r : Reply) (v : World) → Step w (acts.DropTunnel o i) r v → IsAccepted r
  drop_so o i f (acts.Plain result) v s = f result (inside (mend ss v)) (ins.step_in (mend ss w) (acts.DropTunnel o i) (acts.Plain result) (mend ss v) tt (mns.drops_in ss w o i result v s))
  drop_so o i f _ v s = absurd s

  join_so : (o i : PortId) (supplier : Supplier) → ((result : _) (v : World) → SetupTunnel u o i result v → result ≡ Ok supplier) → (r : Reply) (v : World) → Step w (acts.SetupTunnel o i) r v → IsAccepted r
  join_so o i supplier f (acts.Joined result) v s = (supplier, f result (inside (mend ss v)) (ins.step_in (mend ss w) (acts.SetupTunnel o i) (acts.Joined result) (mend ss v) tt (mns.joins_in ss w o i result v s)))
  join_so o i supplier f _ v s = absurd s

  abbrev output_of : ℕ → Handle → PortId
  output_of l g = record { handle = g; index = (x.cast).output_port l }

  abbrev input_of : ℕ → Handle → PortId
  input_of l h = record { handle = h; index = (x.cast).input_port l }

  changed_at : (l n : ℕ) (a : MachineAct) (r : Reply) (v : World) → CanAct net p (Act.Conduct l) → (p.change l).step ≡ n + 2 → IsChangeAct x u l n a → Step w a r v → IsAccepted r
  changed_at l zero a r v C e (h, N, is) s = port_so l C true true e h N r v (subst (λ (b : MachineAct). Step w b r v) is s)
  changed_at l (suc zero) a r v C e (h, N, is) s = port_so l C false true e h N r v (subst (λ (b : MachineAct). Step w b r v) is s)
  changed_at l (suc (suc zero)) a r v C e (g, h, M, N, is) s = drop_so (output_of l g) (input_of l h) (λ result y t. (drop_leads x recent p u l g h result y W C e M N t).0) r v (subst (λ (b : MachineAct). Step w b r v) is s)
  changed_at l (suc (suc (suc zero))) a r v C e (h, N, is) s =
      set_so h (definition_key (port_number x.cast true l)) (params.Port (planned x true l)) (λ result y t. (set_leads x recent p u l true h result y W C e N t).0) r v (subst (λ (b : MachineAct). Step w b r v) is s)
  changed_at l (suc (suc (suc (suc zero)))) a r v C e (h, N, is) s =
      set_so h (definition_key (port_number x.cast false l)) (params.Port (planned x false l)) (λ result y t. (set_leads x recent p u l false h result y W C e N t).0) r v (subst (λ (b : MachineAct). Step w b r v) is s)
  changed_at l (suc (suc (suc (suc (suc zero))))) a r v C e (g, h, M, N, is) s =
      join_so (output_of l g) (input_of l h) (supplier_of x.cast l) (λ result y t. (join_leads x recent p u l g h result y W C e M N t).0) r v (subst (λ (b : MachineAct). Step w b r v) is s)
  changed_at l (suc (suc (suc (suc (suc (suc zero)))))) a r v C e (h, N, is) s = port_so l C true false e h N r v (subst (λ (b : MachineAct). Step w b r v) is s)
  changed_at l (suc (suc (suc (suc (suc (suc (suc zero))))))) a r v C e (h, N, is) s = port_so l C false false e h N r v (subst (λ (b : MachineAct). Step w b r v) is s)
  changed_at l (suc (suc (suc (suc (suc (suc (suc (suc n)))))))) a r v C e z s = absurd z

  changes : (a : MachineAct) (r : Reply) (v : World) (j : Cursor) → Changes x k u a j → Step w a r v → IsAccepted r
  changes a r v j G s =
      let Q = can_change x recent p u W k F G.link G.phase G.done G.below G.late G.unchanged G.announced in
      changed_at G.link 0 a r v Q.0 Q.1 G.its_act s

  changes_by : (o : Option ℕ) → k.changing ≡ o → IsTurn x.cast k recent p o → (a : MachineAct) (r : Reply) (v : World) (j : Cursor) → ChangesOn x k u a j → Step w a r v → IsAccepted r
  changes_by None f T a r v j G s = let e : None ≡ Some G.link = sym f ∙ G.its in absurd cc
  changes_by (Some i) f T a r v j G s =
      let e : Some i ≡ Some G.link = sym f ∙ G.its in
      let is : i ≡ G.link = cc in
      let Y : IsTurn x.cast k recent p (Some G.link) = subst (λ (n : ℕ). IsTurn x.cast k recent p (Some n)) is T in
      changed_at G.link (k.made G.link) a r v (can_change_on x recent p u W k F G.link Y.2 Y.3 Y.4 G.more G.disabled) (F.some G.link Y.2 Y.3 Y.4) G.its_act s

  pub accepts : (a : MachineAct) (r : Reply) (v : World) (j : Cursor) → Step w a r v → IsAsked x k u a j → IsAccepted r
  accepts a r v j s A = elim A [
    | inl G ↦ goes_on a r v j G s
    | inr B ↦ elim B [
      | inl G ↦ begins_so a r v j G s
      | inr E ↦ elim E [
        | inl G ↦ changes a r v j G s
        | inr G ↦ changes_by k.changing refl F.turn a r v j G s
      ]
    ]
  ]
