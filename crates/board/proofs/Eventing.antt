-- No reply of a history gives a header, where no client had one at first and none may ask for one.
use Rattle.std.proofs.Common.{◌≡◌, ℕ, zero, suc, Bool, false, List, [], ◌∷◌, Some, None, Ok, Err, Result, option_map, slice_get, inl, inr, refl, sym, ◌∙◌, ap, subst}
use Rattle.omx_types.specs.declared.error.OmxError.{OmxError}
use Rattle.il_machine.specs.World.{World}
use Rattle.il_machine.specs.Headers.{state_of}
use Rattle.il_machine.specs.Acts as acts
use Rattle.il_machine.specs.Run.{Run, Step}
use Rattle.il_machine.specs.Sound.{Sound}
use Rattle.il_machine.specs.Whole.{Stands}
use Rattle.machine_laws.proofs.Every.{at_push, from_places}
use Rattle.machine_laws.proofs.Steps.{sound_step}
use Rattle.history_laws.specs.ClientHeaders as machine
use Rattle.note_queues.specs.declared.taken.Taken.{Taken}
use Rattle.note_queues.specs.declared.taken.Taken.TheVariants.{Told, EmptyDone, FillDone}
use Rattle.note_queues.specs.declared.taken.Took.{Took}
use Rattle.note_queues.specs.declared.taken.Took.TheVariants as tooks
use Rattle.il_graph.specs.Shown as graphs
use Rattle.turnstile.specs.declared.entry.Entry.{Entry}
use Rattle.turnstile.specs.Entries.{Met, none, next, own}
use Rattle.graph_acts.specs.declared.act.Act.{Act}
use Rattle.graph_acts.specs.declared.act.Act.TheVariants as asks
use Rattle.graph_acts.specs.declared.act.Reply.{Reply}
use Rattle.graph_acts.specs.declared.act.Reply.TheVariants as replies
use Rattle.graph_acts.specs.Holding.{May, given_out, header_in, took_header}
use Rattle.graph_acts.specs.Plain.{Sight, Unsaid, plain_act, plain_reply}
use Rattle.graph_acts.specs.Replying.{AreReplies, IsReplyTo}
use Rattle.board.specs.declared.asked.Asked.{Asked}
use Rattle.board.specs.declared.asked.Told.{Told as ToldBack}
use Rattle.board.specs.declared.watched.Watched.{Watched}
use Rattle.board.specs.Asking.{ArePlain, bare, bare_log}
use Rattle.board.specs.Histories.{MayAsk}
use Rattle.board.specs.Notes.{GiveNoHeaders, HasNoClientHeaders}
use Rattle.board.proofs.Bare.{bare_snoc}
use Rattle.history_laws.proofs.Clientless.{AsksNone as AsksNoHeader, HasNoClients, clientless_still, gives_none}

-- ---- an act

module _ {S K C : Type 0} where
  abbrev AsksNone : Act S K C → Type 0
  AsksNone (asks.AllocateBuffer h port) = ⊥
  AsksNone (asks.UseBuffer h port bytes) = ⊥
  AsksNone _ = Unit {0}

  may_none : (see : Sight S K C) (headers : Bool) (own : List (Entry (Act S K C) (Reply S K C))) (a : Act S K C) → headers ≡ false → May see headers own a → AsksNone a
  may_none see headers own (asks.AllocateBuffer h port) e m = cc
  may_none see headers own (asks.UseBuffer h port bytes) e m = cc
  may_none see headers own a e m = tt

  plain_none : (see : Sight S K C) (u : Unsaid) (a : Act S K C) → AsksNone a → AsksNoHeader (plain_act see u a)
  plain_none see u (asks.AllocateBuffer h port) n = n
  plain_none see u (asks.UseBuffer h port bytes) n = n
  plain_none see u a n = tt

  taken_none : (see : Sight S K C) (u : Unsaid) (h : _) (result : Result (Took C) OmxError) → machine.given_out (plain_act see u (asks.TakeNote h)) (plain_reply {S = S} {K = K} {C = C} u (replies.TakeNote result)) ≡ None → took_header result ≡ None
  taken_none see u h (Ok (tooks.Call call)) e = by_note call.taken e
    where
      by_note : (taken : Taken) → machine.given_out (plain_act see u (asks.TakeNote h)) (plain_reply {S = S} {K = K} {C = C} u (replies.TakeNote (Ok (tooks.Call (record call { taken = taken }))))) ≡ None → header_in taken ≡ None
      by_note (Told event) e = refl
      by_note (EmptyDone header) e = absurd cc
      by_note (FillDone header) e = absurd cc
  taken_none see u h (Ok tooks.None) e = refl
  taken_none see u h (Ok tooks.Busy) e = refl
  taken_none see u h (Err error) e = refl

  reply_none : (see : Sight S K C) (u : Unsaid) (a : Act S K C) (r : Reply S K C) → AsksNone a → IsReplyTo a r → machine.given_out (plain_act see u a) (plain_reply u r) ≡ None → given_out r ≡ None
  reply_none see u (asks.AllocateBuffer h port) r n is e = absurd n
  reply_none see u (asks.UseBuffer h port bytes) r n is e = absurd n
  reply_none see u (asks.TakeNote h) (replies.TakeNote result) n is e = taken_none see u h result e
  reply_none see u a (replies.AllocateBuffer result) n is e = absurd is
  reply_none see u a (replies.UseBuffer result) n is e = absurd is
  reply_none see u a (replies.TakeNote result) n is e = absurd is
  reply_none see u a r n is e = refl

  -- ---- a history

  none_given : (see : Sight S K C) (log : List (Entry (Act S K C) (Reply S K C))) (xs : List (acts.Act × acts.Reply)) (w v : World) → Sound w → HasNoClients w → ArePlain see log xs → Run w xs v → AreReplies log
      → ((i : ℕ) (e : Entry (Act S K C) (Reply S K C)) → slice_get log i ≡ Some e → AsksNone e.act) → (i : ℕ) (e : Entry (Act S K C) (Reply S K C)) → slice_get log i ≡ Some e → given_out e.reply ≡ None
  none_given see [] xs w v sound N A R are asked i e at = absurd cc
  none_given see (x ∷ log) [] w v sound N A R are asked i e at = absurd A
  none_given see (x ∷ log) (y ∷ xs) w v sound N A (mid, M, s, R) are asked zero e at =
      let is : x ≡ e = cc in
      let u = A.0.0 in
      let n = asked 0 x refl in
      let s' = subst (λ (z : acts.Act × acts.Reply). Step w z.0 z.1 mid) A.0.1 s in
      ap (λ (z : Entry (Act S K C) (Reply S K C)). given_out z.reply) (sym is)
      ∙ reply_none see u x.act x.reply n are.0 (gives_none w (plain_act see u x.act) (plain_reply u x.reply) mid sound N (plain_none see u x.act n) s')
  none_given see (x ∷ log) (y ∷ xs) w v sound N A (mid, M, s, R) are asked (suc i) e at =
      let none = subst (λ (z : acts.Act × acts.Reply). AsksNoHeader z.0) (sym A.0.1) (plain_none see A.0.0 x.act (asked 0 x refl)) in
      none_given see log xs mid v (sound_step w mid y.0 y.1 M s sound) (clientless_still w y.0 y.1 mid sound N none M s) A.1 R are.1 (λ j d bt. asked (suc j) d bt) i e at

  met_none : (see : Sight S K C) (headers : Bool) (first : Watched S K C) (log : List (Entry (Asked S K C) (ToldBack S K C))) → headers ≡ false → Met (MayAsk see headers first) log
      → (i : ℕ) (e : Entry (Act S K C) (Reply S K C)) → slice_get (bare_log log) i ≡ Some e → AsksNone e.act
  met_none see headers first _ h none i e at = absurd cc
  met_none see headers first _ h (next log x met may) i e at = elim (at_push (bare_log log) i (bare x) e (sym (ap (λ l. slice_get l i) (bare_snoc log x)) ∙ at)) [
    | inl old ↦ met_none see headers first log h met i e old
    | inr new ↦ subst (λ (z : Entry (Act S K C) (Reply S K C)). AsksNone z.act) (sym new) (may_none see headers (bare_log (own x.pass log)) x.act.act h may.0)
  ]

  no_clients : (see : Sight S K C) (g : graphs.Shown S K C) (w : World) → Stands (graphs.kept see.progress g) w → HasNoClientHeaders g → HasNoClients w
  no_clients see g w s N number r f = N number r.state (ap (λ l. l.headers.header number) (sym s.looks) ∙ ap (λ o. option_map state_of o) f)

  pub notes_of_events : (see : Sight S K C) (headers : Bool) (first : Watched S K C) (g : graphs.Shown S K C) (log : List (Entry (Asked S K C) (ToldBack S K C))) (xs : List (acts.Act × acts.Reply)) (w v : World) → headers ≡ false → HasNoClientHeaders g
      → Stands (graphs.kept see.progress g) w → Sound w → ArePlain see (bare_log log) xs → Run w xs v → AreReplies (bare_log log) → Met (MayAsk see headers first) log → GiveNoHeaders (bare_log log)
  notes_of_events see headers first g log xs w v h N s sound A R are met =
      from_places (λ (e : Entry (Act S K C) (Reply S K C)). given_out e.reply ≡ None) (bare_log log)
      (none_given see (bare_log log) xs w v sound (no_clients see g w s N) A R are (met_none see headers first log h met))
