-- An act of a play that is none of notes and works that come back goes the same way in a world that is read otherwise, or leaves the world.
use Rattle.std.proofs.Common.{◌≡◌, ◌⊎◌, inl, inr, ℕ, false, List, Result, sym, subst}
use Rattle.omx_types.specs.declared.command.Command.{Command}
use Rattle.omx_types.specs.declared.error.CallError.{CallError}
use Rattle.omx_types.specs.declared.error.OmxError.{OmxError}
use Rattle.omx_types.specs.declared.handle.Handle.{Handle}
use Rattle.omx_types.specs.declared.handle.PortId.{PortId}
use Rattle.omx_types.specs.declared.param.Param.{Param}
use Rattle.omx_types.specs.declared.param.ParamKey.{ParamKey}
use Rattle.omx_types.specs.declared.param.Supplier.{Supplier}
use Rattle.il_machine.specs.declared.answer.Acted.{Acted}
use Rattle.il_machine.specs.Acts.{Act, Reply}
use Rattle.il_machine.specs.Acts as acts
use Rattle.il_machine.specs.Claims.{Claim, Claimed, claim_idle}
use Rattle.il_machine.specs.Commands.{RunCommand, SendCommand, is_at_once, send_refusal}
use Rattle.il_machine.specs.Flow.{HandBack, HandOver, Release, Supply}
use Rattle.il_machine.specs.Look.{look}
use Rattle.il_machine.specs.Parameters.{SetParameter}
use Rattle.il_machine.specs.Run.{Meets, Step}
use Rattle.il_machine.specs.Tunnels.{DropTunnel, SetupTunnel}
use Rattle.il_machine.specs.World.{Component, Stream, World}
use Rattle.read_world_laws.specs.Beside.{IsBeside, IsDeclined}
use Rattle.read_world_laws.proofs.Calls.{claims_as, claims_in, releases_in, runs_in, sends_as, sends_in}
use Rattle.read_world_laws.proofs.Passing.{backs_in, drops_in, joins_in, overs_in, sets_in, supplies_in}
use Rattle.read_world_laws.proofs.Reading.{IsFair, Reading, read, read_component}

-- what holds of each of the acts, from one world to another
pub record OfEach (w v : World) (P : Act → Reply → Type 0) : Type 0 where
  pub runs : (h : Handle) (result : Result Acted OmxError) → RunCommand w h result v → P (acts.RunCommand h) (acts.Acted result)
  pub sends : (h : Handle) (command : Command) (result : Result (Unit {0}) OmxError) → is_at_once command ≡ false → SendCommand w h command result v → P (acts.SendCommand h command) (acts.Plain result)
  pub supplies : (h : Handle) (port : ℕ) (result : Result Acted CallError) → Supply w h port result v → P (acts.Supply h port) (acts.Supplied result)
  pub releases : (h : Handle) (port : ℕ) (result : Result Acted OmxError) → Release w h port result v → P (acts.Release h port) (acts.Acted result)
  pub overs : (h : Handle) (port : ℕ) (result : Result Acted OmxError) → HandOver w h port result v → P (acts.HandOver h port) (acts.Acted result)
  pub backs : (h : Handle) (port : ℕ) (result : Result Acted OmxError) → HandBack w h port result v → P (acts.HandBack h port) (acts.Acted result)
  pub claims : (h : Handle) (result : Result Claimed OmxError) → Claim w h result v → P (acts.Claim h) (acts.Claimed result)
  pub sets : (h : Handle) (key : ParamKey) (value : Param) (result : Result (Unit {0}) OmxError) → SetParameter w h key value result v → P (acts.SetParameter h key value) (acts.Plain result)
  pub drops : (o n : PortId) (result : Result (Unit {0}) OmxError) → DropTunnel w o n result v → P (acts.DropTunnel o n) (acts.Plain result)
  pub joins : (o n : PortId) (result : Result Supplier OmxError) → SetupTunnel w o n result v → P (acts.SetupTunnel o n) (acts.Joined result)

pub each_beside : (w v : World) (P : Act → Reply → Type 0) → OfEach w v P → (a : Act) (r : Reply) → IsBeside a → Step w a r v → P a r
each_beside w v P E (acts.RunCommand h) (acts.Acted result) B s = E.runs h result s
each_beside w v P E (acts.SendCommand h command) (acts.Plain result) B s = E.sends h command result B s
each_beside w v P E (acts.Supply h port) (acts.Supplied result) B s = E.supplies h port result s
each_beside w v P E (acts.Release h port) (acts.Acted result) B s = E.releases h port result s
each_beside w v P E (acts.HandOver h port) (acts.Acted result) B s = E.overs h port result s
each_beside w v P E (acts.HandBack h port) (acts.Acted result) B s = E.backs h port result s
each_beside w v P E (acts.Claim h) (acts.Claimed result) B s = E.claims h result s
each_beside w v P E (acts.SetParameter h key value) (acts.Plain result) B s = E.sets h key value result s
each_beside w v P E (acts.DropTunnel output input) (acts.Plain result) B s = E.drops output input result s
each_beside w v P E (acts.SetupTunnel output input) (acts.Joined result) B s = E.joins output input result s
each_beside w v P E (acts.Finish done) r B s = absurd B
each_beside w v P E (acts.GetHandle name) r B s = absurd B
each_beside w v P E (acts.FreeHandle h) r B s = absurd B
each_beside w v P E (acts.Attach h file) r B s = absurd B
each_beside w v P E (acts.GetState h) r B s = absurd B
each_beside w v P E (acts.PortView h port) r B s = absurd B
each_beside w v P E (acts.Progress h) r B s = absurd B
each_beside w v P E (acts.GetParameter h key) r B s = absurd B
each_beside w v P E (acts.GetConfig h key) r B s = absurd B
each_beside w v P E (acts.SetConfig h key value) r B s = absurd B
each_beside w v P E (acts.AllocateBuffer h port) r B s = absurd B
each_beside w v P E (acts.UseBuffer h port bytes) r B s = absurd B
each_beside w v P E (acts.FreeBuffer h port header) r B s = absurd B
each_beside w v P E (acts.EmptyThisBuffer h port header) r B s = absurd B
each_beside w v P E (acts.FillThisBuffer h port header) r B s = absurd B
each_beside w v P E (acts.TakeNote h) r B s = absurd B
each_beside w v P E (acts.EndNote h progress) r B s = absurd B
each_beside w v P E acts.Grant r B s = absurd B
each_beside w v P E acts.Preempt r B s = absurd B
each_beside w v P E _ _ B s = absurd s

pub beside_meets : (w u : World) (a : Act) → IsBeside a → Meets w a → Meets u a
beside_meets w u (acts.RunCommand h) B M = tt
beside_meets w u (acts.SendCommand h command) B M = tt
beside_meets w u (acts.Supply h port) B M = tt
beside_meets w u (acts.Release h port) B M = tt
beside_meets w u (acts.HandOver h port) B M = tt
beside_meets w u (acts.HandBack h port) B M = tt
beside_meets w u (acts.Claim h) B M = tt
beside_meets w u (acts.SetParameter h key value) B M = tt
beside_meets w u (acts.DropTunnel output input) B M = tt
beside_meets w u (acts.SetupTunnel output input) B M = tt
beside_meets w u _ B M = absurd B

module _ (reading : Reading) (fair : IsFair reading) (streams : List Stream → List Stream) where
  abbrev twin : Component → Component
  twin c = read_component reading c

  abbrev mirror : World → World
  mirror w = read reading streams w

  -- it is done in both, or was declined
  pub step_or : (w : World) (a : Act) (r : Reply) (v : World) → IsBeside a → Step w a r v → Step (mirror w) a r (mirror v) ⊎ ((v ≡ w) × IsDeclined r)
  step_or w a r v B s = each_beside w v (λ a r. Step (mirror w) a r (mirror v) ⊎ ((v ≡ w) × IsDeclined r)) (record {
    runs = λ h result t. inl (runs_in reading fair streams w h result v t);
    sends = λ h command result o t. elim (sends_in reading fair streams w h command result v o t) [
      | inl d ↦ inl d
      | inr (e, error, f) ↦ inr (e, subst (λ (z : Result (Unit {0}) OmxError). IsDeclined (acts.Plain z)) (sym f) tt)
    ];
    supplies = λ h port result t. inl (supplies_in reading fair streams w h port result v t);
    releases = λ h port result t. inl (releases_in reading fair streams w h port result v t);
    overs = λ h port result t. inl (overs_in reading fair streams w h port result v t);
    backs = λ h port result t. inl (backs_in reading fair streams w h port result v t);
    claims = λ h result t. elim (claims_in reading fair streams w h result v t) [ inl d ↦ inl d | inr e ↦ inr (e, tt) ];
    sets = λ h key value result t. inl (sets_in reading fair streams w h key value result v t);
    drops = λ o n result t. inl (drops_in reading fair streams w o n result v t);
    joins = λ o n result t. inl (joins_in reading fair streams w o n result v t);
  }) a r B s

  -- where nothing is declined of what was done, or done of what was declined
  pub record IsExact : Type 0 where
    pub refusal : (w : World) (c : Component) (command : Command) → send_refusal (look (mirror w)) (twin c) command ≡ send_refusal (look w) c command
    pub idle : (w : World) (c : Component) → claim_idle (look (mirror w)) (twin c) ≡ claim_idle (look w) c

  pub step_as : IsExact → (w : World) (a : Act) (r : Reply) (v : World) → IsBeside a → Step w a r v → Step (mirror w) a r (mirror v)
  step_as X w a r v B s = each_beside w v (λ a r. Step (mirror w) a r (mirror v)) (record {
    runs = λ h result t. runs_in reading fair streams w h result v t;
    sends = λ h command result o t. sends_as reading fair streams X.refusal w h command result v o t;
    supplies = λ h port result t. supplies_in reading fair streams w h port result v t;
    releases = λ h port result t. releases_in reading fair streams w h port result v t;
    overs = λ h port result t. overs_in reading fair streams w h port result v t;
    backs = λ h port result t. backs_in reading fair streams w h port result v t;
    claims = λ h result t. claims_as reading fair streams X.idle w h result v t;
    sets = λ h key value result t. sets_in reading fair streams w h key value result v t;
    drops = λ o n result t. drops_in reading fair streams w o n result v t;
    joins = λ o n result t. joins_in reading fair streams w o n result v t;
  }) a r B s
