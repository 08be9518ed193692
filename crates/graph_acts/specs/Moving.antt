-- What one act makes of a graph, whatever the act: the machine's step, and what goes in and out.
use Rattle.std.specs.Prelude.{ℕ, Option, IfSome}
use Rattle.omx_types.specs.declared.handle.Handle.{Handle}
use Rattle.il_machine.specs.declared.answer.Progress.{Progress as Reached}
use Rattle.il_machine.specs.World.{World}
use Rattle.il_machine.specs.Buffers.{IsWithClient}
use Rattle.il_machine.specs.Whole.{Stands, Always, IsBack}
use Rattle.il_machine.specs.Sound.{Sound}
use Rattle.il_machine.specs.Run.{Step, Meets}
use Rattle.header_core.specs.BufferHeader.{BufferHeader, IsSized}
use Rattle.history_laws.specs.Given.{LeavesNotes}
use Rattle.graph_core.specs.Entries.{look_of}
use Rattle.il_flow.specs.Works.{seen_done}
use Rattle.il_graph.specs.Claiming.{AreTermsOf}
use Rattle.il_graph.specs.Shown.{Shown, kept, seen_of}
use Rattle.graph_core.specs.Changes.{IsHandedIn}
use Rattle.graph_core.specs.Clients.{IsOut, WasTold}
use Rattle.graph_acts.specs.declared.act.Act.{Act}
use Rattle.graph_acts.specs.declared.act.Act.TheVariants as asks
use Rattle.graph_acts.specs.declared.act.Reply.{Reply}
use Rattle.graph_acts.specs.Objects.{MovesObjects}
use Rattle.graph_acts.specs.Replying.{IsReplyTo}
use Rattle.graph_acts.specs.Plain.{Sight, Unsaid, plain_act, plain_reply}
use Rattle.graph_acts.specs.Working.{MovesWorks, work_back, work_given}
use Rattle.held_things.specs.Held.{Moves}
use Rattle.graph_acts.specs.Holding.{IsGone, IsGoneSo, OutClient, header_number, client_handle, taken_in, given_out, client_in, client_out}

module _ {S K C : Type 0} where
  abbrev pub MovesHeaders : Option ℕ → Option BufferHeader → Shown S K C → Shown S K C → Type 0
  MovesHeaders gone come old new = Moves header_number gone come (λ h. IsHandedIn h (look_of old.core)) (λ h. IsHandedIn h (look_of new.core)) (λ n. IsWithClient n (look_of old.core)) (λ n. IsWithClient n (look_of new.core))

  abbrev pub MovesClients : Option Handle → Option OutClient → Shown S K C → Shown S K C → Type 0
  MovesClients gone come old new = Moves client_handle gone come (IsGoneSo old) (IsGoneSo new) (IsGone old) (IsGone new)

module _ {S K C : Type 0} where
  abbrev pub HasSize : Act S K C → Type 0
  HasSize (asks.EmptyThisBuffer h port header) = IsSized header
  HasSize (asks.FillThisBuffer h port header) = IsSized header
  HasSize _ = Unit {0}

  -- What the act and its reply don't tell is so in the world: what is set of the component whose work goes out, and what has gone through the
  -- part of a work that comes back.
  abbrev pub IsSo : Sight S K C → Shown S K C → World → Unsaid → Act S K C → Type 0
  IsSo see g w u (asks.Claim h) = AreTermsOf h (look_of g.core) u.terms
  IsSo see g w u (asks.Finish done) = IsBack w (seen_done u.took done) (seen_of (done.part))
  IsSo see g w u _ = Unit {0}

  pub record Moved (see : Sight S K C) (act : Act S K C) (reply : Reply S K C) (old new : Shown S K C) : Type 0 where
    pub step : (w : World) → Stands (kept see.progress old) w → (u : Unsaid) → IsSo see old w u act → Meets w (plain_act see u act)
        → (v : World) × Stands (kept see.progress new) v × Step w (plain_act see u act) (plain_reply u reply) v
    pub replied : IsReplyTo act reply
    pub sized : HasSize act
    pub headers : MovesHeaders (taken_in act reply) (given_out reply) old new
    pub clients : MovesClients (client_in act) (client_out see.progress act reply) old new
    -- what goes in stands in the graph then, and what comes out is what stood in it
    pub objects : MovesObjects act reply old new
    -- the notes that were given for a component stay while its client object is out
    pub leaves : (h : Handle) → IsGone old h → (w : World) → Stands (kept see.progress old) w → (u : Unsaid) → LeavesNotes h.generation (plain_act see u act) (plain_reply u reply)
    -- a client object that goes out has then the progress of all that was given
    pub told : (u : Unsaid) → IfSome (client_out see.progress act reply) (λ x. (w v : World) → Stands (kept see.progress old) w → Stands (kept see.progress new) v → Meets w (plain_act see u act)
        → Step w (plain_act see u act) (plain_reply u reply) v → WasTold x.handle x.progress v)
    -- a work that goes out is out then as it was claimed, none is out of a component whose work came back, and all others stay as they were
    pub works : (w v : World) → Sound w → Stands (kept see.progress old) w → Stands (kept see.progress new) v → (u : Unsaid) → IsSo see old w u act → Meets w (plain_act see u act)
        → Step w (plain_act see u act) (plain_reply u reply) v → MovesWorks (work_back act) (work_given reply) w v

module _ {S K C : Type 0} where
  -- what is true of each graph
  pub record IsLawful (progress : C → Reached) (g : Shown S K C) : Type 0 where
    pub sound : Always (kept progress g) Sound
    pub out : (h : Handle) → IsGone g h → IsOut h (look_of g.core)
