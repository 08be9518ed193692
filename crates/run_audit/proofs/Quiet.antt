-- The acts of a play that take nothing of their caller's, and hand nothing out but a work or a client object.
use Rattle.std.proofs.Common.{◌≡◌, ◌⊎◌, inl, inr, None, Result, refl, sym, ap, subst}
use Rattle.omx_types.specs.declared.error.OmxError.{OmxError}
use Rattle.il_machine.specs.Acts as acts
use Rattle.act_text.specs.declared.act.TextAct.{TextAct}
use Rattle.act_text.specs.declared.act.TextAct.TheVariants as lines
use Rattle.omx_types.specs.declared.handle.Handle.{Handle}
use Rattle.play_log.specs.Saying.{SaysAct}
use Rattle.play_log.specs.Scenes.{Scene}
use Rattle.play_log.proofs.Telling.{BringsNone}
use Rattle.graph_acts.specs.declared.act.Act.{Act}
use Rattle.graph_acts.specs.declared.act.Act.TheVariants as asks
use Rattle.graph_acts.specs.declared.act.Reply.{Reply}
use Rattle.graph_acts.specs.declared.act.Reply.TheVariants as replies
use Rattle.graph_acts.specs.declared.claimed.LentClaim.{LentClaim}
use Rattle.graph_acts.specs.Holding.{client_in, client_out}
use Rattle.graph_acts.specs.Objects.{file_moved}
use Rattle.graph_acts.specs.Plain.{Sight, Unsaid, plain_act}
use Rattle.graph_acts.specs.Replying.{IsReplyTo}
use Rattle.graph_acts.specs.Working.{work_back, work_given}
use Rattle.note_queues.specs.declared.taken.Took.{Took}
use Rattle.audit_acts.specs.Asking.{IsPlain}
use Rattle.audit_forms.specs.Audited.{Case, IsThere, Moment}
use Rattle.run_audit.specs.Keeping.{IsQuietReply}
use Rattle.run_audit.specs.Leading.{IsQuietLine}
use Rattle.history_laws.proofs.Clientless.{AsksNone}
use Rattle.run_audit.proofs.Streams.{KeepsStreams}

-- no file, no component and no header comes, and no work comes back
pub record IsPlainAct (a : acts.Act) : Type 0 where
  pub brings : BringsNone a
  pub asks_none : AsksNone a
  pub streams : KeepsStreams a

module _ {S K C : Type 0} where
  pub plain_none : (see : Sight S K C) (u : Unsaid) (act : Act S K C) → IsPlain act → IsPlainAct (plain_act see u act)
  plain_none see u (asks.SetParameter h key value) I = record { brings = tt; asks_none = tt; streams = tt }
  plain_none see u (asks.SetupTunnel output input) I = record { brings = tt; asks_none = tt; streams = tt }
  plain_none see u (asks.DropTunnel output input) I = record { brings = tt; asks_none = tt; streams = tt }
  plain_none see u (asks.SendCommand h command) I = record { brings = tt; asks_none = tt; streams = tt }
  plain_none see u (asks.RunCommand h) I = record { brings = tt; asks_none = tt; streams = tt }
  plain_none see u (asks.TakeNote h) I = record { brings = tt; asks_none = tt; streams = tt }
  plain_none see u (asks.Supply h port) I = record { brings = tt; asks_none = tt; streams = tt }
  plain_none see u (asks.Release h port) I = record { brings = tt; asks_none = tt; streams = tt }
  plain_none see u (asks.HandOver h port) I = record { brings = tt; asks_none = tt; streams = tt }
  plain_none see u (asks.HandBack h port) I = record { brings = tt; asks_none = tt; streams = tt }
  plain_none see u (asks.Claim h) I = record { brings = tt; asks_none = tt; streams = tt }
  plain_none see u act I = absurd I

-- ---- what a line says

neither : {X : Type 0} → ⊥ ⊎ ⊥ → X
neither (inl b) = absurd b
neither (inr b) = absurd b

-- nothing is handed out
abbrev pub IsQuiet : acts.Act → Type 0
IsQuiet (acts.Claim h) = ⊥
IsQuiet (acts.TakeNote h) = ⊥
IsQuiet other = Unit {0}

pub quiet_said : (s : Scene) (t : TextAct) (a : acts.Act) → IsQuietLine t → SaysAct s t a → IsQuiet a
quiet_said s (lines.SetPort port format count size) a Q x = subst IsQuiet (sym x.4) tt
quiet_said s (lines.SendState component state) a Q x = subst IsQuiet (sym x.4) tt
quiet_said s (lines.SendDisable component ports) a Q x = subst IsQuiet (sym x.4) tt
quiet_said s (lines.SendEnable component ports) a Q x = subst IsQuiet (sym x.4) tt
quiet_said s (lines.Run component) a Q x = subst IsQuiet (sym x.4) tt
quiet_said s (lines.Supply port) a Q x = subst IsQuiet (sym x.4) tt
quiet_said s (lines.Release port) a Q x = subst IsQuiet (sym x.4) tt
quiet_said s (lines.Over port) a Q x = subst IsQuiet (sym x.4) tt
quiet_said s (lines.Back port) a Q x = subst IsQuiet (sym x.4) tt
quiet_said s (lines.Tunnel first second) a Q x = subst IsQuiet (sym (x.4).4) tt
quiet_said s (lines.DropTunnel first second) a Q x = subst IsQuiet (sym (x.4).4) tt
quiet_said s (lines.Claim component) a Q x = absurd Q
quiet_said s (lines.Take component) a Q x = absurd Q
quiet_said s t a Q x = neither Q

-- it brings nothing back, and is there whatever is out
pub quiet_there : (x : Case) (at : Moment) (t : TextAct) → IsQuietLine t → IsThere x at t
quiet_there x at (lines.Finish component) Q = neither Q
quiet_there x at (lines.End component) Q = neither Q
quiet_there x at t Q = tt

-- ---- its reply

-- nothing goes out of the graph and nothing comes back, nor a file
pub record IsStill {S K C : Type 0} (see : Sight S K C) (act : Act S K C) (reply : Reply S K C) : Type 0 where
  pub file : file_moved act reply ≡ None
  pub back : work_back act ≡ None
  pub given : work_given reply ≡ None
  pub client : client_in act ≡ None
  pub gone : client_out see.progress act reply ≡ None

-- so it is, and the reply hands nothing out
pub record IsQuietPair {S K C : Type 0} (see : Sight S K C) (act : Act S K C) (reply : Reply S K C) : Type 0 where
  pub still : IsStill see act reply
  pub quiet : IsQuietReply reply

module _ {S K C : Type 0} (see : Sight S K C) where
  pub quiet_pair : (u : Unsaid) (act : Act S K C) (r : Reply S K C) → IsPlain act → IsReplyTo act r → IsQuiet (plain_act see u act) → IsQuietPair see act r
  quiet_pair u (asks.SetParameter h key value) (replies.SetParameter result) I R Q = record { still = record { file = refl; back = refl; given = refl; client = refl; gone = refl }; quiet = tt }
  quiet_pair u (asks.SetParameter h key value) r I R Q = absurd R
  quiet_pair u (asks.SetupTunnel output input) (replies.SetupTunnel result) I R Q = record { still = record { file = refl; back = refl; given = refl; client = refl; gone = refl }; quiet = tt }
  quiet_pair u (asks.SetupTunnel output input) r I R Q = absurd R
  quiet_pair u (asks.DropTunnel output input) (replies.DropTunnel result) I R Q = record { still = record { file = refl; back = refl; given = refl; client = refl; gone = refl }; quiet = tt }
  quiet_pair u (asks.DropTunnel output input) r I R Q = absurd R
  quiet_pair u (asks.SendCommand h command) (replies.SendCommand result) I R Q = record { still = record { file = refl; back = refl; given = refl; client = refl; gone = refl }; quiet = tt }
  quiet_pair u (asks.SendCommand h command) r I R Q = absurd R
  quiet_pair u (asks.RunCommand h) (replies.RunCommand result) I R Q = record { still = record { file = refl; back = refl; given = refl; client = refl; gone = refl }; quiet = tt }
  quiet_pair u (asks.RunCommand h) r I R Q = absurd R
  quiet_pair u (asks.Supply h port) (replies.Supply result) I R Q = record { still = record { file = refl; back = refl; given = refl; client = refl; gone = refl }; quiet = tt }
  quiet_pair u (asks.Supply h port) r I R Q = absurd R
  quiet_pair u (asks.Release h port) (replies.Release result) I R Q = record { still = record { file = refl; back = refl; given = refl; client = refl; gone = refl }; quiet = tt }
  quiet_pair u (asks.Release h port) r I R Q = absurd R
  quiet_pair u (asks.HandOver h port) (replies.HandOver result) I R Q = record { still = record { file = refl; back = refl; given = refl; client = refl; gone = refl }; quiet = tt }
  quiet_pair u (asks.HandOver h port) r I R Q = absurd R
  quiet_pair u (asks.HandBack h port) (replies.HandBack result) I R Q = record { still = record { file = refl; back = refl; given = refl; client = refl; gone = refl }; quiet = tt }
  quiet_pair u (asks.HandBack h port) r I R Q = absurd R
  quiet_pair u (asks.Claim h) r I R Q = absurd Q
  quiet_pair u (asks.TakeNote h) r I R Q = absurd Q
  quiet_pair u act r I R Q = absurd I

  -- ---- a claim, and a note that is taken

  -- the reply is that of a call by this handle
  pub record IsClaimPair (h : Handle) (act : Act S K C) (r : Reply S K C) : Type 0 where
    pub result : Result (LentClaim S K) OmxError
    pub act_is : act ≡ asks.Claim h
    pub reply_is : r ≡ replies.Claim result

  pub record IsTakePair (h : Handle) (act : Act S K C) (r : Reply S K C) : Type 0 where
    pub result : Result (Took C) OmxError
    pub act_is : act ≡ asks.TakeNote h
    pub reply_is : r ≡ replies.TakeNote result

  claim_reply : (k : Handle) (r : Reply S K C) → IsReplyTo (asks.Claim k) r → (result : Result (LentClaim S K) OmxError) × (r ≡ replies.Claim result)
  claim_reply k (replies.Claim result) R = (result, refl)
  claim_reply k r R = absurd R

  take_reply : (k : Handle) (r : Reply S K C) → IsReplyTo (asks.TakeNote k) r → (result : Result (Took C) OmxError) × (r ≡ replies.TakeNote result)
  take_reply k (replies.TakeNote result) R = (result, refl)
  take_reply k r R = absurd R

  pub claim_pair : (u : Unsaid) (h : Handle) (act : Act S K C) (r : Reply S K C) → IsPlain act → IsReplyTo act r → plain_act see u act ≡ acts.Claim h → IsClaimPair h act r
  claim_pair u h (asks.Claim k) r I R e = let x = claim_reply k r R in let same : k ≡ h = cc in record { result = x.0; act_is = ap (λ (j : Handle). asks.Claim j) same; reply_is = x.1 }
  claim_pair u h (asks.SetParameter k key value) r I R e = absurd cc
  claim_pair u h (asks.SetupTunnel output input) r I R e = absurd cc
  claim_pair u h (asks.DropTunnel output input) r I R e = absurd cc
  claim_pair u h (asks.SendCommand k command) r I R e = absurd cc
  claim_pair u h (asks.RunCommand k) r I R e = absurd cc
  claim_pair u h (asks.Supply k port) r I R e = absurd cc
  claim_pair u h (asks.Release k port) r I R e = absurd cc
  claim_pair u h (asks.HandOver k port) r I R e = absurd cc
  claim_pair u h (asks.HandBack k port) r I R e = absurd cc
  claim_pair u h (asks.TakeNote k) r I R e = absurd cc
  claim_pair u h act r I R e = absurd I

  pub take_pair : (u : Unsaid) (h : Handle) (act : Act S K C) (r : Reply S K C) → IsPlain act → IsReplyTo act r → plain_act see u act ≡ acts.TakeNote h → IsTakePair h act r
  take_pair u h (asks.TakeNote k) r I R e = let x = take_reply k r R in let same : k ≡ h = cc in record { result = x.0; act_is = ap (λ (j : Handle). asks.TakeNote j) same; reply_is = x.1 }
  take_pair u h (asks.SetParameter k key value) r I R e = absurd cc
  take_pair u h (asks.SetupTunnel output input) r I R e = absurd cc
  take_pair u h (asks.DropTunnel output input) r I R e = absurd cc
  take_pair u h (asks.SendCommand k command) r I R e = absurd cc
  take_pair u h (asks.RunCommand k) r I R e = absurd cc
  take_pair u h (asks.Supply k port) r I R e = absurd cc
  take_pair u h (asks.Release k port) r I R e = absurd cc
  take_pair u h (asks.HandOver k port) r I R e = absurd cc
  take_pair u h (asks.HandBack k port) r I R e = absurd cc
  take_pair u h (asks.Claim k) r I R e = absurd cc
  take_pair u h act r I R e = absurd I
