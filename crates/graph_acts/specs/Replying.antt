-- Each act is answered by a reply of its own kind, and what a refused act was to move in comes back as it was. So does the memory of a header
-- that is freed.
use Rattle.std.specs.Prelude.{◌≡◌, ℕ, List, [], ◌∷◌, Option, option_map, Result, IfErr, IfOk, Vec}
use Rattle.std.specs.declared.alloc.Global.{Global}
use Rattle.header_core.specs.BufferHeader.{BufferHeader}
use Rattle.turnstile.specs.declared.entry.Entry.{Entry}
use Rattle.graph_acts.specs.declared.act.Act.{Act}
use Rattle.graph_acts.specs.declared.act.Act.TheVariants as asks
use Rattle.graph_acts.specs.declared.act.Reply.{Reply}
use Rattle.graph_acts.specs.declared.act.Reply.TheVariants as replies

-- a refusal hands it back
abbrev pub HandsBack : {A T E : Type 0} → A → Result T (E × A) → Type 0
HandsBack it result = IfErr result (λ refused. refused.1 ≡ it)

-- the client's own memory that the header held comes back, if it held such
abbrev pub GivesMemory : {E : Type 0} → BufferHeader → Result (Option (Vec ℕ Global)) E → Type 0
GivesMemory header result = IfOk result (λ memory. option_map (λ bytes. bytes.items) memory ≡ header.held.memory)

module _ {S K C : Type 0} where
  abbrev pub IsReplyTo : Act S K C → Reply S K C → Type 0
  IsReplyTo (asks.GetHandle name client) (replies.GetHandle result) = HandsBack client result
  IsReplyTo (asks.FreeHandle a) (replies.FreeHandle result) = Unit {0}
  IsReplyTo (asks.Attach h file) (replies.Attach result) = HandsBack file result
  IsReplyTo (asks.GetState a) (replies.GetState result) = Unit {0}
  IsReplyTo (asks.PortView a b) (replies.PortView result) = Unit {0}
  IsReplyTo (asks.Progress a) (replies.Progress result) = Unit {0}
  IsReplyTo (asks.GetParameter a b) (replies.GetParameter result) = Unit {0}
  IsReplyTo (asks.GetConfig a b) (replies.GetConfig result) = Unit {0}
  IsReplyTo (asks.SetParameter a b c) (replies.SetParameter result) = Unit {0}
  IsReplyTo (asks.SetConfig a b c) (replies.SetConfig result) = Unit {0}
  IsReplyTo (asks.SetupTunnel a b) (replies.SetupTunnel result) = Unit {0}
  IsReplyTo (asks.DropTunnel a b) (replies.DropTunnel result) = Unit {0}
  IsReplyTo (asks.SendCommand a b) (replies.SendCommand result) = Unit {0}
  IsReplyTo (asks.RunCommand a) (replies.RunCommand result) = Unit {0}
  IsReplyTo (asks.AllocateBuffer a b) (replies.AllocateBuffer result) = Unit {0}
  IsReplyTo (asks.UseBuffer h port bytes) (replies.UseBuffer result) = HandsBack bytes result
  IsReplyTo (asks.FreeBuffer h port header) (replies.FreeBuffer result) = HandsBack header result × GivesMemory header result
  IsReplyTo (asks.EmptyThisBuffer h port header) (replies.EmptyThisBuffer result) = HandsBack header result
  IsReplyTo (asks.FillThisBuffer h port header) (replies.FillThisBuffer result) = HandsBack header result
  IsReplyTo (asks.TakeNote a) (replies.TakeNote result) = Unit {0}
  IsReplyTo (asks.EndNote a b) replies.EndNote = Unit {0}
  IsReplyTo (asks.Supply a b) (replies.Supply result) = Unit {0}
  IsReplyTo (asks.Release a b) (replies.Release result) = Unit {0}
  IsReplyTo (asks.HandOver a b) (replies.HandOver result) = Unit {0}
  IsReplyTo (asks.HandBack a b) (replies.HandBack result) = Unit {0}
  IsReplyTo (asks.Claim a) (replies.Claim result) = Unit {0}
  IsReplyTo (asks.Finish a) replies.Finish = Unit {0}
  IsReplyTo asks.Grant (replies.Grant answer) = Unit {0}
  IsReplyTo asks.Preempt (replies.Preempt answer) = Unit {0}
  IsReplyTo _ _ = ⊥

  abbrev pub AreReplies : List (Entry (Act S K C) (Reply S K C)) → Type 0
  AreReplies [] = Unit {0}
  AreReplies (e ∷ es) = IsReplyTo e.act e.reply × AreReplies es
