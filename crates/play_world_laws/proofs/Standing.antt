-- Where a component of a play stands: what the machine finds of it, by the model's phase and stage.
use Rattle.std.proofs.Common.{◌≡◌, inl, inr, ℕ, ◌≤◌, true, false, is_none, List, ◌++◌, Option, sym, ◌∙◌, ap, arith}
use Rattle.omx_types.specs.declared.command.Command.{Command}
use Rattle.il_machine.specs.States.{is_executing}
use Rattle.il_machine.specs.declared.answer.Pending.{Pending}
use Rattle.il_machine.specs.Ports.{is_at_rest}
use Rattle.il_machine.specs.World.{Component, World}
use Rattle.play_model.specs.Play.{IsRunning, Play}
use Rattle.play_world_laws.specs.Standing.{commands_at, pending_at, state_at}
use Rattle.play_world_laws.proofs.Claimable.{late_commands}
use Rattle.play_world_laws.proofs.Terms.{early_stage, at_rest_at, executes_back, late_stage, resting_back}
use Rattle.play_world_laws.specs.PlayWorlds.{IsActorAt, PlayCast, port_commands}

module _ (x : PlayCast) (recent : ℕ) (p : Play) (w : World) (c : ℕ) (a : Component) (A : IsActorAt x recent p w c a) where
  pub state_is : a.state ≡ state_at p.phase (p.stage c)
  state_is = ap (λ (y : Component). y.state) A.stands

  pub pending_is : a.pending ≡ pending_at p.phase (p.stage c)
  pending_is = ap (λ (y : Component). y.pending) A.stands

  pub commands_are : a.commands ≡ commands_at p.phase (p.stage c) ++ port_commands x.cast p c
  commands_are = ap (λ (y : Component). y.commands) A.stands

  pub no_loss : a.loss_mark ≡ false
  no_loss = ap (λ (y : Component). y.loss_mark) A.stands

  pub late_commands_are : 3 ≤ p.stage c → a.commands ≡ port_commands x.cast p c
  late_commands_are l = commands_are ∙ ap (λ (cs : List Command). cs ++ port_commands x.cast p c) (late_commands p.phase (p.stage c) l)

  pub runs : IsRunning p c → (is_executing a.state ≡ true) × (is_at_rest a ≡ true)
  runs (inl h) = let y = late_stage p.phase (p.stage c) h.0 h.1 in (ap is_executing state_is ∙ y.0, ap (λ (o : Option Pending). is_none o) pending_is ∙ y.1)
  runs (inr h) = (ap is_executing state_is ∙ early_stage p.phase (p.stage c) h.0 (omega (arith, h.1)), ap (λ (o : Option Pending). is_none o) pending_is ∙ at_rest_at p.phase (p.stage c) h.1)

  pub runs_back : is_executing a.state ≡ true → is_at_rest a ≡ true → IsRunning p c
  runs_back e r = elim (executes_back p.phase (p.stage c) (sym (ap is_executing state_is) ∙ e)) [
    | inl h ↦ inl h
    | inr h ↦ inr (h.0, resting_back p.phase (p.stage c) (sym (ap (λ (o : Option Pending). is_none o) pending_is) ∙ r) h.1)
  ]
