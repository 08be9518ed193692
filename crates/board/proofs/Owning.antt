-- An act takes in what its pass holds, and a reply is of its act's kind.
use Rattle.std.proofs.Common.{◌≡◌, ℕ, ◌∙◌, sym, ap, refl, Bool, nat_eq, eqb-true, eq-eqb, Some, Result, Ok, Err, List, [], ◌∷◌, ◌++◌}
use Rattle.il_machine.specs.World.{same_handle}
use Rattle.omx_types.specs.declared.handle.Handle.{Handle}
use Rattle.header_core.specs.BufferHeader.{BufferHeader}
use Rattle.turnstile.specs.declared.entry.Entry.{Entry}
use Rattle.held_things.specs.Held.{Has, Tells, IsOwn}
use Rattle.history_laws.proofs.Naming.{handle_is, handle_itself}
use Rattle.graph_acts.specs.declared.act.Act.{Act}
use Rattle.graph_acts.specs.declared.act.Act.TheVariants as asks
use Rattle.graph_acts.specs.declared.act.Reply.{Reply}
use Rattle.graph_acts.specs.declared.act.Reply.TheVariants as replies
use Rattle.graph_acts.specs.Replying.{IsReplyTo, AreReplies}
use Rattle.graph_acts.specs.Holding.{HoldsHeader, May, header_number, client_handle, headers_held, clients_held, works_held, taken_in, freed_in, emptied_in, filled_in, on_ok, client_in}
use Rattle.graph_acts.specs.Plain.{Sight}
use Rattle.graph_acts.specs.Working.{work_back, work_number}

pub tells_numbers : Tells nat_eq
tells_numbers = record { is = λ a b h. eqb-true a b h; itself = λ a. eq-eqb a a refl }

pub tells_handles : Tells same_handle
tells_handles = record { is = handle_is; itself = handle_itself }

ok_number : {T E : Type 0} (result : Result T E) (header : BufferHeader) (k : ℕ) → on_ok result header ≡ Some k → header.held.number ≡ k
ok_number (Ok x) header k e = cc
ok_number (Err x) header k e = absurd cc

module _ {S K C : Type 0} where
  pub replies_more : (log : List (Entry (Act S K C) (Reply S K C))) (e : Entry (Act S K C) (Reply S K C)) → AreReplies log → IsReplyTo e.act e.reply → AreReplies (log ++ e ∷ [])
  replies_more [] e a is = (is, tt)
  replies_more (x ∷ xs) e a is = (a.0, replies_more xs e a.1 is)

  pub replies_last : (log : List (Entry (Act S K C) (Reply S K C))) (e : Entry (Act S K C) (Reply S K C)) → AreReplies (log ++ e ∷ []) → IsReplyTo e.act e.reply
  replies_last [] e a = a.0
  replies_last (x ∷ xs) e a = replies_last xs e a.1

  freed_number : (header : BufferHeader) (r : Reply S K C) (k : ℕ) → freed_in header r ≡ Some k → header.held.number ≡ k
  freed_number header (replies.FreeBuffer result) k e = ok_number result header k e
  freed_number header _ k e = absurd cc

  emptied_number : (header : BufferHeader) (r : Reply S K C) (k : ℕ) → emptied_in header r ≡ Some k → header.held.number ≡ k
  emptied_number header (replies.EmptyThisBuffer result) k e = ok_number result header k e
  emptied_number header _ k e = absurd cc

  filled_number : (header : BufferHeader) (r : Reply S K C) (k : ℕ) → filled_in header r ≡ Some k → header.held.number ≡ k
  filled_number header (replies.FillThisBuffer result) k e = ok_number result header k e
  filled_number header _ k e = absurd cc

  holds : (mine : List (Entry (Act S K C) (Reply S K C))) (header : BufferHeader) (k : ℕ) → HoldsHeader mine header → header.held.number ≡ k → (x : BufferHeader) × Has (headers_held mine) x × (x.held.number ≡ k)
  holds mine header k h e = (h.0, h.1, sym h.2.number ∙ e)

  pub own_headers : (see : Sight S K C) (headers : Bool) (mine : List (Entry (Act S K C) (Reply S K C))) (a : Act S K C) (r : Reply S K C) → May see headers mine a → IsOwn header_number (headers_held mine) (taken_in a r)
  own_headers see headers mine (asks.FreeBuffer h port header) r m k e = holds mine header k m (freed_number header r k e)
  own_headers see headers mine (asks.EmptyThisBuffer h port header) r m k e = holds mine header k m (emptied_number header r k e)
  own_headers see headers mine (asks.FillThisBuffer h port header) r m k e = holds mine header k m (filled_number header r k e)
  own_headers see headers mine _ r m k e = absurd cc

  pub own_clients : (see : Sight S K C) (headers : Bool) (mine : List (Entry (Act S K C) (Reply S K C))) (a : Act S K C) → May see headers mine a → IsOwn client_handle (clients_held see.progress mine) (client_in a)
  own_clients see headers mine (asks.EndNote h client) m k e = (record { handle = h; progress = see.progress client }, m, cc)
  own_clients see headers mine _ m k e = absurd cc

  pub own_works : (see : Sight S K C) (headers : Bool) (mine : List (Entry (Act S K C) (Reply S K C))) (a : Act S K C) → May see headers mine a → IsOwn work_number (works_held mine) (work_back a)
  own_works see headers mine (asks.Finish done) m n e = let is : done.component.generation ≡ n = cc in (m.0, m.1, ap (λ (h : Handle). h.generation) (sym m.2.component) ∙ is)
  own_works see headers mine _ m n e = absurd cc
