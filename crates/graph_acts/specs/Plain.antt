-- An act and its reply as the machine has them: without what moves but the progress of a client object and what is shown of a part.
use Rattle.std.specs.Prelude.{ℕ, List}
use Rattle.std.specs.String.{string_bytes}
use Rattle.outside_io.specs.declared.sink.Sink.{Ghosts as SinkGhosts}
use Rattle.outside_io.specs.declared.source.Source.{Ghosts as SourceGhosts}
use Rattle.il_machine.specs.declared.answer.Progress.{Progress as Reached}
use Rattle.il_machine.specs.Files.{Offered}
use Rattle.il_machine.specs.Acts as acts
use Rattle.part_api.specs.Terms.{Terms}
use Rattle.audio_parts.specs.declared.part_file.PartFile.{PartFile}
use Rattle.note_queues.specs.declared.client.Client.{Ghosts as ClientGhosts}
use Rattle.il_flow.specs.Works.{seen_done}
use Rattle.il_graph.specs.Shown.{offered}
use Rattle.il_graph.specs.Stood.{plainly, with_record, heldly, memory_back, tookly}
use Rattle.graph_acts.specs.declared.act.Act.{Act}
use Rattle.graph_acts.specs.declared.act.Act.TheVariants as asks
use Rattle.graph_acts.specs.declared.act.Reply.{Reply}
use Rattle.graph_acts.specs.declared.act.Reply.TheVariants as replies
use Rattle.graph_acts.specs.Lending.{claimed_as}

-- What the machine knows of what moves: the progress of a client object, and a file by its place, its size and what it tells. And all that is
-- known of files.
pub record Sight (S K C : Type 0) : Type 1 where
  pub progress : C → Reached
  pub offer : PartFile S K → Offered
  pub reads : SourceGhosts S
  pub writes : SinkGhosts K

-- What a value doesn't tell: the bytes that a part's file took in the step of a work, and what is set of the component whose work goes out.
pub record Unsaid : Type 0 where
  pub took : List ℕ
  pub terms : Terms

abbrev pub sight_of : {S K C : Type 0} → ClientGhosts C → SourceGhosts S → SinkGhosts K → Sight S K C
sight_of client reads writes = record { progress = client.progress; offer = offered reads.offset reads.size reads.told writes.told; reads = reads; writes = writes }

module _ {S K C : Type 0} where
  abbrev pub plain_act : Sight S K C → Unsaid → Act S K C → acts.Act
  plain_act see u (asks.GetHandle name client) = acts.GetHandle (string_bytes name)
  plain_act see u (asks.FreeHandle h) = acts.FreeHandle h
  plain_act see u (asks.Attach h file) = acts.Attach h (see.offer file)
  plain_act see u (asks.GetState h) = acts.GetState h
  plain_act see u (asks.PortView h port) = acts.PortView h port
  plain_act see u (asks.Progress h) = acts.Progress h
  plain_act see u (asks.GetParameter h key) = acts.GetParameter h key
  plain_act see u (asks.GetConfig h key) = acts.GetConfig h key
  plain_act see u (asks.SetParameter h key value) = acts.SetParameter h key value
  plain_act see u (asks.SetConfig h key value) = acts.SetConfig h key value
  plain_act see u (asks.SetupTunnel output input) = acts.SetupTunnel output input
  plain_act see u (asks.DropTunnel output input) = acts.DropTunnel output input
  plain_act see u (asks.SendCommand h command) = acts.SendCommand h command
  plain_act see u (asks.RunCommand h) = acts.RunCommand h
  plain_act see u (asks.AllocateBuffer h port) = acts.AllocateBuffer h port
  plain_act see u (asks.UseBuffer h port bytes) = acts.UseBuffer h port bytes.items
  plain_act see u (asks.FreeBuffer h port header) = acts.FreeBuffer h port header.held.number
  plain_act see u (asks.EmptyThisBuffer h port header) = acts.EmptyThisBuffer h port header.held
  plain_act see u (asks.FillThisBuffer h port header) = acts.FillThisBuffer h port header.held
  plain_act see u (asks.TakeNote h) = acts.TakeNote h
  plain_act see u (asks.EndNote h client) = acts.EndNote h (see.progress client)
  plain_act see u (asks.Supply h port) = acts.Supply h port
  plain_act see u (asks.Release h port) = acts.Release h port
  plain_act see u (asks.HandOver h port) = acts.HandOver h port
  plain_act see u (asks.HandBack h port) = acts.HandBack h port
  plain_act see u (asks.Claim h) = acts.Claim h
  plain_act see u (asks.Finish done) = acts.Finish (seen_done u.took done)
  plain_act see u asks.Grant = acts.Grant
  plain_act see u asks.Preempt = acts.Preempt

  abbrev pub plain_reply : Unsaid → Reply S K C → acts.Reply
  plain_reply u (replies.GetHandle result) = acts.Got (plainly result)
  plain_reply u (replies.FreeHandle result) = acts.Removed (with_record result)
  plain_reply u (replies.Attach result) = acts.Plain (plainly result)
  plain_reply u (replies.GetState result) = acts.Stated result
  plain_reply u (replies.PortView result) = acts.Viewed result
  plain_reply u (replies.Progress result) = acts.Progressed result
  plain_reply u (replies.GetParameter result) = acts.Parameter result
  plain_reply u (replies.GetConfig result) = acts.Parameter result
  plain_reply u (replies.SetParameter result) = acts.Plain result
  plain_reply u (replies.SetConfig result) = acts.Plain result
  plain_reply u (replies.SetupTunnel result) = acts.Joined result
  plain_reply u (replies.DropTunnel result) = acts.Plain result
  plain_reply u (replies.SendCommand result) = acts.Plain result
  plain_reply u (replies.RunCommand result) = acts.Acted result
  plain_reply u (replies.AllocateBuffer result) = acts.Allocated (heldly result)
  plain_reply u (replies.UseBuffer result) = acts.Used (heldly (plainly result))
  plain_reply u (replies.FreeBuffer result) = acts.Freed (memory_back (plainly result))
  plain_reply u (replies.EmptyThisBuffer result) = acts.Plain (plainly result)
  plain_reply u (replies.FillThisBuffer result) = acts.Plain (plainly result)
  plain_reply u (replies.TakeNote result) = acts.Took (tookly result)
  plain_reply u replies.EndNote = acts.Ended
  plain_reply u (replies.Supply result) = acts.Supplied result
  plain_reply u (replies.Release result) = acts.Acted result
  plain_reply u (replies.HandOver result) = acts.Acted result
  plain_reply u (replies.HandBack result) = acts.Acted result
  plain_reply u (replies.Claim result) = acts.Claimed (claimed_as u.terms result)
  plain_reply u replies.Finish = acts.Finished
  plain_reply u (replies.Grant answer) = acts.Granted answer
  plain_reply u (replies.Preempt answer) = acts.Preempted answer
