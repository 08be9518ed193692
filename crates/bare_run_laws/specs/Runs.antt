-- The acts that a play's log may have, and their runs, in the world and in the bare one.
use Rattle.std.specs.Prelude.{◌≡◌, List, [], ◌∷◌, Ok, Err}
use Rattle.il_machine.specs.declared.answer.Acted.TheVariants.{Did}
use Rattle.il_machine.specs.Acts.{Act, Reply}
use Rattle.il_machine.specs.Acts as acts
use Rattle.il_machine.specs.Notes.{TakenEvent, TookNote}
use Rattle.il_machine.specs.Run.{Meets, Step}
use Rattle.il_machine.specs.World.{World}
use Rattle.bare_run_laws.specs.Bare.{IsKnown, IsOwnCommand, IsUnmarked, bare, bare_handle, bare_id}

-- the acts of a play's log: accepted, or of a component at a port that isn't there
abbrev pub IsPlayAct : World → Act → Reply → Type 0
IsPlayAct w (acts.SetParameter h key value) (acts.Plain result) = IsKnown h w
IsPlayAct w (acts.SetupTunnel output input) (acts.Joined result) = IsKnown output.handle w × IsKnown input.handle w
IsPlayAct w (acts.DropTunnel output input) (acts.Plain result) = IsKnown output.handle w × IsKnown input.handle w
IsPlayAct w (acts.SendCommand h command) (acts.Plain result) = IsKnown h w × IsOwnCommand command
IsPlayAct w (acts.RunCommand h) (acts.Acted (Ok Did)) = IsKnown h w
IsPlayAct w (acts.TakeNote h) (acts.Took (Ok (TookNote (TakenEvent event)))) = IsKnown h w
IsPlayAct w (acts.EndNote h progress) acts.Ended = IsKnown h w
IsPlayAct w (acts.Supply h port) (acts.Supplied (Ok Did)) = IsKnown h w
IsPlayAct w (acts.Supply h port) (acts.Supplied (Err e)) = IsKnown h w
IsPlayAct w (acts.Release h port) (acts.Acted (Ok Did)) = IsKnown h w
IsPlayAct w (acts.Release h port) (acts.Acted (Err e)) = IsKnown h w
IsPlayAct w (acts.HandOver h port) (acts.Acted (Ok Did)) = IsKnown h w
IsPlayAct w (acts.HandOver h port) (acts.Acted (Err e)) = IsKnown h w
IsPlayAct w (acts.HandBack h port) (acts.Acted (Ok Did)) = IsKnown h w
IsPlayAct w (acts.HandBack h port) (acts.Acted (Err e)) = IsKnown h w
IsPlayAct w (acts.Claim h) (acts.Claimed result) = IsKnown h w
IsPlayAct w (acts.Finish done) acts.Finished = IsUnmarked done.headers
IsPlayAct w _ _ = ⊥

-- the act with bare handles
abbrev pub bare_act : Act → Act
bare_act (acts.SetParameter h key value) = acts.SetParameter (bare_handle h) key value
bare_act (acts.SetupTunnel output input) = acts.SetupTunnel (bare_id output) (bare_id input)
bare_act (acts.DropTunnel output input) = acts.DropTunnel (bare_id output) (bare_id input)
bare_act (acts.SendCommand h command) = acts.SendCommand (bare_handle h) command
bare_act (acts.RunCommand h) = acts.RunCommand (bare_handle h)
bare_act (acts.TakeNote h) = acts.TakeNote (bare_handle h)
bare_act (acts.EndNote h progress) = acts.EndNote (bare_handle h) progress
bare_act (acts.Supply h port) = acts.Supply (bare_handle h) port
bare_act (acts.Release h port) = acts.Release (bare_handle h) port
bare_act (acts.HandOver h port) = acts.HandOver (bare_handle h) port
bare_act (acts.HandBack h port) = acts.HandBack (bare_handle h) port
bare_act (acts.Claim h) = acts.Claim (bare_handle h)
bare_act other = other

-- with the same reply
abbrev pub bare_step : Act × Reply → Act × Reply
bare_step step = (bare_act step.0, step.1)

abbrev pub PlayRun : World → List (Act × Reply) → World → Type 0
PlayRun w [] v = v ≡ w
PlayRun w (x ∷ xs) v = (mid : World) × Meets w x.0 × Step w x.0 x.1 mid × IsPlayAct w x.0 x.1 × PlayRun mid xs v

-- It can be made in that world, by the handles that its components have there, and is answered so; what it leaves has this bare form.
pub record CanFollow (w : World) (a : Act) (r : Reply) (bare_after : World) : Type 0 where
  pub own : Act
  pub same : bare_act own ≡ bare_act a
  pub meets : Meets w own
  pub after : World
  pub step : Step w own r after
  pub is : bare after ≡ bare_after
