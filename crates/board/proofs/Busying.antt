-- A note of a component whose client object is out is answered Busy.
use Rattle.std.proofs.Common.{◌≡◌, ℕ, ap, subst, refl, Result, Ok, Err, List}
use Rattle.il_machine.specs.World.{World}
use Rattle.il_machine.specs.Notes.{TookBusy}
use Rattle.il_machine.specs.Run.{Step}
use Rattle.note_queues.specs.declared.taken.Took.{Took}
use Rattle.note_queues.specs.declared.taken.Took.TheVariants as tooks
use Rattle.il_graph.specs.Stood.{tookly}
use Rattle.history_laws.specs.Objects.{IsObjectOut}
use Rattle.history_laws.proofs.Objects.{out_busy}
use Rattle.turnstile.specs.declared.entry.Entry.{Entry}
use Rattle.turnstile.specs.Entries.{own}
use Rattle.held_things.specs.Held.{Has}
use Rattle.graph_acts.specs.declared.act.Act.{Act}
use Rattle.graph_acts.specs.declared.act.Act.TheVariants as asks
use Rattle.graph_acts.specs.declared.act.Reply.{Reply}
use Rattle.graph_acts.specs.declared.act.Reply.TheVariants as replies
use Rattle.graph_acts.specs.Holding.{OutClient, clients_held}
use Rattle.graph_acts.specs.Plain.{Sight, Unsaid, plain_act, plain_reply}
use Rattle.graph_acts.specs.Replying.{IsReplyTo}
use Rattle.board.specs.Busy.{IsBusyWhereOut}

only_busy : {C E : Type 0} (result : Result (Took C) E) → tookly result ≡ Ok TookBusy → result ≡ Ok tooks.Busy
only_busy (Ok (tooks.Call call)) e = absurd cc
only_busy (Ok tooks.None) e = absurd cc
only_busy (Ok tooks.Busy) e = refl
only_busy (Err error) e = absurd cc

module _ {S K C : Type 0} (see : Sight S K C) (log : List (Entry (Act S K C) (Reply S K C))) (w v : World) (u : Unsaid) where
  pub busy_so : (a : Act S K C) (r : Reply S K C) → IsReplyTo a r → ((p : ℕ) (x : OutClient) → Has (clients_held see.progress (own p log)) x → IsObjectOut x.handle w) → Step w (plain_act see u a) (plain_reply u r) v → IsBusyWhereOut see log a r
  busy_so (asks.TakeNote h) (replies.TakeNote result) is out s = λ p x held same.
      let o : IsObjectOut h w = subst (λ k. IsObjectOut k w) same (out p x held) in
      ap (λ z. replies.TakeNote z) (only_busy result (out_busy w v h (tookly result) o s).0)
  busy_so (asks.TakeNote h) _ is out s = absurd is
  busy_so _ _ is out s = tt
