-- Acts by which nothing goes out of a graph and nothing in.
use Rattle.std.specs.Prelude.{◌≡◌, ℕ, List, [], ◌∷◌, All}
use Rattle.omx_types.specs.declared.param.ParamKey.{ParamKey}
use Rattle.graph_acts.specs.declared.act.Act.{Act}
use Rattle.graph_acts.specs.declared.act.Act.TheVariants as asks
use Rattle.graph_acts.specs.declared.act.Reply.{Reply}
use Rattle.graph_acts.specs.declared.act.Reply.TheVariants as replies
use Rattle.pass_book.specs.declared.quiet.QuietAct.{QuietAct}
use Rattle.pass_book.specs.declared.quiet.QuietAct.TheVariants as quiets
use Rattle.pass_book.specs.declared.quiet.QuietReply.{QuietReply}
use Rattle.pass_book.specs.declared.quiet.QuietReply.TheVariants as answers
use Rattle.work_signs.specs.declared.seat.Seat.{Seat}
use Rattle.pass_book.specs.Seats.{IsDefinition, IsPlayCommand, IsSeated, IsSeatedAt}

module _ {S K C : Type 0} where
  abbrev pub act_of : QuietAct → Act S K C
  act_of (quiets.Progress h) = asks.Progress h
  act_of (quiets.SetParameter h key value) = asks.SetParameter h key value
  act_of (quiets.SetupTunnel output input) = asks.SetupTunnel output input
  act_of (quiets.DropTunnel output input) = asks.DropTunnel output input
  act_of (quiets.SendCommand h command) = asks.SendCommand h command
  act_of (quiets.RunCommand h) = asks.RunCommand h
  act_of (quiets.Supply h port) = asks.Supply h port
  act_of (quiets.Release h port) = asks.Release h port
  act_of (quiets.HandOver h port) = asks.HandOver h port
  act_of (quiets.HandBack h port) = asks.HandBack h port

  abbrev pub reply_of : QuietReply → Reply S K C
  reply_of (answers.Progress result) = replies.Progress result
  reply_of (answers.SetParameter result) = replies.SetParameter result
  reply_of (answers.SetupTunnel result) = replies.SetupTunnel result
  reply_of (answers.DropTunnel result) = replies.DropTunnel result
  reply_of (answers.SendCommand result) = replies.SendCommand result
  reply_of (answers.RunCommand result) = replies.RunCommand result
  reply_of (answers.Supply result) = replies.Supply result
  reply_of (answers.Release result) = replies.Release result
  reply_of (answers.HandOver result) = replies.HandOver result
  reply_of (answers.HandBack result) = replies.HandBack result

-- it is of the act's kind
abbrev pub IsQuietReply : QuietAct → QuietReply → Type 0
IsQuietReply (quiets.Progress h) (answers.Progress result) = Unit {0}
IsQuietReply (quiets.SetParameter h key value) (answers.SetParameter result) = Unit {0}
IsQuietReply (quiets.SetupTunnel output input) (answers.SetupTunnel result) = Unit {0}
IsQuietReply (quiets.DropTunnel output input) (answers.DropTunnel result) = Unit {0}
IsQuietReply (quiets.SendCommand h command) (answers.SendCommand result) = Unit {0}
IsQuietReply (quiets.RunCommand h) (answers.RunCommand result) = Unit {0}
IsQuietReply (quiets.Supply h port) (answers.Supply result) = Unit {0}
IsQuietReply (quiets.Release h port) (answers.Release result) = Unit {0}
IsQuietReply (quiets.HandOver h port) (answers.HandOver result) = Unit {0}
IsQuietReply (quiets.HandBack h port) (answers.HandBack result) = Unit {0}
IsQuietReply _ _ = ⊥

-- as many replies as acts, each of its act's kind
abbrev pub AreQuietReplies : List QuietAct → List QuietReply → Type 0
AreQuietReplies [] [] = Unit {0}
AreQuietReplies (a ∷ asked) (r ∷ told) = IsQuietReply a r × AreQuietReplies asked told
AreQuietReplies _ _ = ⊥

-- `IsOfPlay` of the act
abbrev pub IsQuietOfPlay : List Seat → QuietAct → Type 0
IsQuietOfPlay seats (quiets.Progress h) = IsSeated seats h
IsQuietOfPlay seats (quiets.SetParameter h key value) = IsDefinition seats h key value
IsQuietOfPlay seats (quiets.SetupTunnel output input) = IsSeated seats output.handle × IsSeated seats input.handle
IsQuietOfPlay seats (quiets.DropTunnel output input) = IsSeated seats output.handle × IsSeated seats input.handle
IsQuietOfPlay seats (quiets.SendCommand h command) = IsSeated seats h × IsPlayCommand command
IsQuietOfPlay seats (quiets.RunCommand h) = IsSeated seats h
IsQuietOfPlay seats (quiets.Supply h port) = IsSeatedAt seats h port
IsQuietOfPlay seats (quiets.Release h port) = IsSeatedAt seats h port
IsQuietOfPlay seats (quiets.HandOver h port) = IsSeatedAt seats h port
IsQuietOfPlay seats (quiets.HandBack h port) = IsSeatedAt seats h port
