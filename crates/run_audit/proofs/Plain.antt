-- The acts of a play that take nothing of their caller's, and the replies to them.
use Rattle.std.proofs.Common.{◌≡◌, [], Some}
use Rattle.omx_types.specs.declared.handle.Handle.{Handle}
use Rattle.il_machine.specs.declared.answer.Progress.{Progress}
use Rattle.il_machine.specs.Stepping.{WorkDone}
use Rattle.il_machine.specs.World.{World}
use Rattle.il_machine.specs.Acts as acts
use Rattle.il_machine.specs.Run.{Meets}
use Rattle.il_graph.specs.Shown.{Shown}
use Rattle.il_graph.proofs.Returning.{are_terms_at, terms_at}
use Rattle.graph_core.specs.Entries.{look_of}
use Rattle.graph_acts.specs.declared.act.Act.{Act}
use Rattle.graph_acts.specs.declared.act.Act.TheVariants as asks
use Rattle.graph_acts.specs.declared.act.Reply.{Reply}
use Rattle.graph_acts.specs.declared.act.Reply.TheVariants as replies
use Rattle.graph_acts.specs.Holding.{Can}
use Rattle.graph_acts.specs.Moving.{IsSo}
use Rattle.graph_acts.specs.Plain.{Sight, Unsaid, plain_act, plain_reply}
use Rattle.graph_acts.specs.Replying.{IsReplyTo}
use Rattle.graph_acts.proofs.Comeback.{nothing_unsaid}
use Rattle.act_text.specs.declared.reply.TextReply.{TextReply}
use Rattle.play_log.specs.Naming.{IsUnbroken}
use Rattle.play_log.specs.Saying.{SaysReply, reply_said}
use Rattle.play_log.specs.Scenes.{Scene}
use Rattle.audit_acts.specs.Asking.{IsPlain, IsPlainReply}

-- the reply of a call that makes a component
abbrev pub IsGot : acts.Reply → Type 0
IsGot (acts.Got result) = Unit {0}
IsGot other = ⊥

module _ {S K C : Type 0} where
  pub can_plain : (see : Sight S K C) (g : Shown S K C) (act : Act S K C) → IsPlain act → Can see g act
  can_plain see g (asks.SetParameter h key value) I = tt
  can_plain see g (asks.SetupTunnel output input) I = tt
  can_plain see g (asks.DropTunnel output input) I = tt
  can_plain see g (asks.SendCommand h command) I = tt
  can_plain see g (asks.RunCommand h) I = tt
  can_plain see g (asks.TakeNote h) I = tt
  can_plain see g (asks.Supply h port) I = tt
  can_plain see g (asks.Release h port) I = tt
  can_plain see g (asks.HandOver h port) I = tt
  can_plain see g (asks.HandBack h port) I = tt
  can_plain see g (asks.Claim h) I = tt
  can_plain see g act I = absurd I

  pub meets_plain : (see : Sight S K C) (u : Unsaid) (w : World) (act : Act S K C) → IsPlain act → Meets w (plain_act see u act)
  meets_plain see u w (asks.SetParameter h key value) I = tt
  meets_plain see u w (asks.SetupTunnel output input) I = tt
  meets_plain see u w (asks.DropTunnel output input) I = tt
  meets_plain see u w (asks.SendCommand h command) I = tt
  meets_plain see u w (asks.RunCommand h) I = tt
  meets_plain see u w (asks.TakeNote h) I = tt
  meets_plain see u w (asks.Supply h port) I = tt
  meets_plain see u w (asks.Release h port) I = tt
  meets_plain see u w (asks.HandOver h port) I = tt
  meets_plain see u w (asks.HandBack h port) I = tt
  meets_plain see u w (asks.Claim h) I = tt
  meets_plain see u w act I = absurd I

  pub unbroken_plain : (see : Sight S K C) (u : Unsaid) (act : Act S K C) → IsPlain act → IsUnbroken (plain_act see u act)
  unbroken_plain see u (asks.SetParameter h key value) I = tt
  unbroken_plain see u (asks.SetupTunnel output input) I = tt
  unbroken_plain see u (asks.DropTunnel output input) I = tt
  unbroken_plain see u (asks.SendCommand h command) I = tt
  unbroken_plain see u (asks.RunCommand h) I = tt
  unbroken_plain see u (asks.TakeNote h) I = tt
  unbroken_plain see u (asks.Supply h port) I = tt
  unbroken_plain see u (asks.Release h port) I = tt
  unbroken_plain see u (asks.HandOver h port) I = tt
  unbroken_plain see u (asks.HandBack h port) I = tt
  unbroken_plain see u (asks.Claim h) I = tt
  unbroken_plain see u act I = absurd I

  pub so_plain : (see : Sight S K C) (g : Shown S K C) (act : Act S K C) → IsPlain act → (u : Unsaid) × ((w : World) → IsSo see g w u act)
  so_plain see g (asks.SetParameter h key value) I = (nothing_unsaid, λ w. tt)
  so_plain see g (asks.SetupTunnel output input) I = (nothing_unsaid, λ w. tt)
  so_plain see g (asks.DropTunnel output input) I = (nothing_unsaid, λ w. tt)
  so_plain see g (asks.SendCommand h command) I = (nothing_unsaid, λ w. tt)
  so_plain see g (asks.RunCommand h) I = (nothing_unsaid, λ w. tt)
  so_plain see g (asks.TakeNote h) I = (nothing_unsaid, λ w. tt)
  so_plain see g (asks.Supply h port) I = (nothing_unsaid, λ w. tt)
  so_plain see g (asks.Release h port) I = (nothing_unsaid, λ w. tt)
  so_plain see g (asks.HandOver h port) I = (nothing_unsaid, λ w. tt)
  so_plain see g (asks.HandBack h port) I = (nothing_unsaid, λ w. tt)
  so_plain see g (asks.Claim h) I = (record { took = []; terms = terms_at h (look_of g.core) }, λ w. are_terms_at h (look_of g.core))
  so_plain see g act I = absurd I

  pub replied_plain : (act : Act S K C) (r : Reply S K C) → IsPlain act → IsReplyTo act r → IsPlainReply r
  replied_plain (asks.SetParameter h key value) (replies.SetParameter result) I R = tt
  replied_plain (asks.SetParameter h key value) r I R = absurd R
  replied_plain (asks.SetupTunnel output input) (replies.SetupTunnel result) I R = tt
  replied_plain (asks.SetupTunnel output input) r I R = absurd R
  replied_plain (asks.DropTunnel output input) (replies.DropTunnel result) I R = tt
  replied_plain (asks.DropTunnel output input) r I R = absurd R
  replied_plain (asks.SendCommand h command) (replies.SendCommand result) I R = tt
  replied_plain (asks.SendCommand h command) r I R = absurd R
  replied_plain (asks.RunCommand h) (replies.RunCommand result) I R = tt
  replied_plain (asks.RunCommand h) r I R = absurd R
  replied_plain (asks.TakeNote h) (replies.TakeNote result) I R = tt
  replied_plain (asks.TakeNote h) r I R = absurd R
  replied_plain (asks.Supply h port) (replies.Supply result) I R = tt
  replied_plain (asks.Supply h port) r I R = absurd R
  replied_plain (asks.Release h port) (replies.Release result) I R = tt
  replied_plain (asks.Release h port) r I R = absurd R
  replied_plain (asks.HandOver h port) (replies.HandOver result) I R = tt
  replied_plain (asks.HandOver h port) r I R = absurd R
  replied_plain (asks.HandBack h port) (replies.HandBack result) I R = tt
  replied_plain (asks.HandBack h port) r I R = absurd R
  replied_plain (asks.Claim h) (replies.Claim result) I R = tt
  replied_plain (asks.Claim h) r I R = absurd R
  replied_plain act r I R = absurd I

  -- a reply says what its text says
  pub says_plain : (s : Scene) (said : TextReply) (a : acts.Act) (u : Unsaid) (r : Reply S K C) → IsPlainReply r → reply_said (plain_reply u r) ≡ Some said → SaysReply s said a (plain_reply u r)
  says_plain s said a u (replies.SetParameter result) I e = e
  says_plain s said a u (replies.SetupTunnel result) I e = e
  says_plain s said a u (replies.DropTunnel result) I e = e
  says_plain s said a u (replies.SendCommand result) I e = e
  says_plain s said a u (replies.RunCommand result) I e = e
  says_plain s said a u (replies.TakeNote result) I e = e
  says_plain s said a u (replies.Supply result) I e = e
  says_plain s said a u (replies.Release result) I e = e
  says_plain s said a u (replies.HandOver result) I e = e
  says_plain s said a u (replies.HandBack result) I e = e
  says_plain s said a u (replies.Claim result) I e = e
  says_plain s said a u r I e = absurd I

  pub text_plain : (s : Scene) (said : TextReply) (a : acts.Act) (u : Unsaid) (r : Reply S K C) → IsPlainReply r → SaysReply s said a (plain_reply u r) → reply_said (plain_reply u r) ≡ Some said
  text_plain s said a u (replies.SetParameter result) I e = e
  text_plain s said a u (replies.SetupTunnel result) I e = e
  text_plain s said a u (replies.DropTunnel result) I e = e
  text_plain s said a u (replies.SendCommand result) I e = e
  text_plain s said a u (replies.RunCommand result) I e = e
  text_plain s said a u (replies.TakeNote result) I e = e
  text_plain s said a u (replies.Supply result) I e = e
  text_plain s said a u (replies.Release result) I e = e
  text_plain s said a u (replies.HandOver result) I e = e
  text_plain s said a u (replies.HandBack result) I e = e
  text_plain s said a u (replies.Claim result) I e = e
  text_plain s said a u r I e = absurd I

  -- it gives no handle, and wants no memory
  pub got_plain : (u : Unsaid) (r : Reply S K C) → IsPlainReply r → IsGot (plain_reply u r) → ⊥
  got_plain u (replies.SetParameter result) I G = G
  got_plain u (replies.SetupTunnel result) I G = G
  got_plain u (replies.DropTunnel result) I G = G
  got_plain u (replies.SendCommand result) I G = G
  got_plain u (replies.RunCommand result) I G = G
  got_plain u (replies.TakeNote result) I G = G
  got_plain u (replies.Supply result) I G = G
  got_plain u (replies.Release result) I G = G
  got_plain u (replies.HandOver result) I G = G
  got_plain u (replies.HandBack result) I G = G
  got_plain u (replies.Claim result) I G = G
  got_plain u r I G = absurd I

  -- it brings no work and no client object back
  pub finish_plain : (see : Sight S K C) (u : Unsaid) (act : Act S K C) → IsPlain act → (done : WorkDone) → plain_act see u act ≡ acts.Finish done → ⊥
  finish_plain see u (asks.SetParameter h key value) I done e = cc
  finish_plain see u (asks.SetupTunnel output input) I done e = cc
  finish_plain see u (asks.DropTunnel output input) I done e = cc
  finish_plain see u (asks.SendCommand h command) I done e = cc
  finish_plain see u (asks.RunCommand h) I done e = cc
  finish_plain see u (asks.TakeNote h) I done e = cc
  finish_plain see u (asks.Supply h port) I done e = cc
  finish_plain see u (asks.Release h port) I done e = cc
  finish_plain see u (asks.HandOver h port) I done e = cc
  finish_plain see u (asks.HandBack h port) I done e = cc
  finish_plain see u (asks.Claim h) I done e = cc
  finish_plain see u act I done e = absurd I

  pub end_plain : (see : Sight S K C) (u : Unsaid) (act : Act S K C) → IsPlain act → (k : Handle) (p : Progress) → plain_act see u act ≡ acts.EndNote k p → ⊥
  end_plain see u (asks.SetParameter h key value) I k p e = cc
  end_plain see u (asks.SetupTunnel output input) I k p e = cc
  end_plain see u (asks.DropTunnel output input) I k p e = cc
  end_plain see u (asks.SendCommand h command) I k p e = cc
  end_plain see u (asks.RunCommand h) I k p e = cc
  end_plain see u (asks.TakeNote h) I k p e = cc
  end_plain see u (asks.Supply h port) I k p e = cc
  end_plain see u (asks.Release h port) I k p e = cc
  end_plain see u (asks.HandOver h port) I k p e = cc
  end_plain see u (asks.HandBack h port) I k p e = cc
  end_plain see u (asks.Claim h) I k p e = cc
  end_plain see u act I k p e = absurd I
