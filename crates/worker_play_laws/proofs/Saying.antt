-- Of a play's history each entry has its line, or is one that a log leaves out: nothing that workers do wants memory, and no note has a header.
use Rattle.std.proofs.Common.{◌≡◌, inl, inr, ℕ, true, false, All, List, [], ◌∷◌, Option, Some, None, IfSome, option_map, is_err, Result, Err, sym, refl, ◌∙◌, ap, subst}
use Rattle.std.proofs.lemmas.List.Elements.{All-head, All-tail}
use Rattle.omx_types.specs.declared.error.CallError.{CallError}
use Rattle.omx_types.specs.declared.error.CallError.TheVariants.{OutOfMemory}
use Rattle.act_text.specs.declared.text.ActText.{ActText}
use Rattle.il_machine.specs.declared.answer.Acted.{Acted}
use Rattle.il_machine.specs.Acts as acts
use Rattle.turnstile.specs.declared.entry.Entry.{Entry}
use Rattle.turnstile.specs.Entries.{entry}
use Rattle.graph_acts.specs.declared.act.Act.{Act}
use Rattle.graph_acts.specs.declared.act.Act.TheVariants as asks
use Rattle.graph_acts.specs.declared.act.Reply.{Reply}
use Rattle.graph_acts.specs.declared.act.Reply.TheVariants as replies
use Rattle.graph_acts.specs.Holding.{given_out}
use Rattle.graph_acts.specs.Plain.{Sight, Unsaid, plain_act, plain_reply}
use Rattle.graph_acts.specs.Replying.{AreReplies, IsReplyTo}
use Rattle.board.specs.declared.asked.Asked.{Asked}
use Rattle.board.specs.declared.asked.Told.{Told}
use Rattle.board.specs.Asking.{ArePlain, IsPlain, bare, bare_log}
use Rattle.board.specs.Notes.{GiveNoHeaders}
use Rattle.worker_play_laws.specs.Entries.{entries_of, log_entry}
use Rattle.work_signs.specs.declared.seat.Seat.{Seat}
use Rattle.pass_book.specs.Saying.{line_by, line_of, said_of}
use Rattle.pass_book.specs.Scenes.{AreSeatsIn, HasNoText}
use Rattle.pass_book.specs.Seats.{IsOfPlay, names_of}
use Rattle.pass_book.proofs.Telling.{line_says, none_unsaid}
use Rattle.play_log.specs.Entries.{Entry as LogEntry, step_of}
use Rattle.play_log.specs.Lines.{IsLogLine}
use Rattle.play_log.specs.Scenes.{Scene}
use Rattle.play_history_laws.specs.Passes.{AreUnrefused}
use Rattle.play_history_laws.specs.Refused.{is_refused}
use Rattle.play_history_laws.specs.Requests.{is_request}
use Rattle.worker_play_laws.specs.Lines.{HaveLogLines}
use Rattle.worker_play_laws.proofs.Lining.{AreLined, IsLined}

module _ {S K C : Type 0} (see : Sight S K C) where
  abbrev E : Type 0
  E = Entry (Asked S K C) (Told S K C)

  abbrev IsAccepted : acts.Act × acts.Reply → Type 0
  IsAccepted x = is_request x ≡ false → is_refused x.1 ≡ false

  -- ---- none lacks a text

  supplies : (u : Unsaid) (act : Act S K C) (result : Result Acted CallError) → IsReplyTo act (replies.Supply result) → IsAccepted (plain_act see u act, acts.Supplied result) → result ≡ Err OutOfMemory → ⊥
  supplies u (asks.Supply h port) result is U e =
      let z : false ≡ true = sym (U refl) ∙ ap (λ (r : Result Acted CallError). is_err r) e in
      absurd cc
  supplies u _ result is U e = absurd is

  no_text : (u : Unsaid) (act : Act S K C) (reply : Reply S K C) → IsReplyTo act reply → given_out reply ≡ None → IsAccepted (plain_act see u act, plain_reply u reply) → HasNoText reply → ⊥
  no_text u act (replies.Supply result) is none U lacks = supplies u act result is U lacks
  no_text u act (replies.TakeNote result) is none U lacks = let z : None ≡ Some lacks.0 = sym none ∙ lacks.1 in absurd cc
  no_text u act _ is none U lacks = absurd lacks

  -- ---- each has its line

  module _ (scene : Scene) (seats : List Seat) (there : AreSeatsIn scene seats) where
    abbrev names : ℕ → List ℕ
    names = names_of seats

    by_said : (p : ℕ) (act : Act S K C) (reply : Reply S K C) (x : acts.Act × acts.Reply) (o : Option ActText) → said_of names act reply ≡ o → IsOfPlay seats act → IsReplyTo act reply → IfSome (option_map (line_by p) o) IsLogLine
        → given_out reply ≡ None → IsAccepted x → IsPlain see (entry p act reply) x → IsLined scene (option_map (line_by p) o) (log_entry (entry p act reply) x)
    by_said p act reply x (Some said) e of is line none U plain = let s = line_says see scene seats p act reply x said there of is e plain in (line, s.0, s.1)
    by_said p act reply x None e of is line none U plain = elim (none_unsaid see seats p act reply x of is e plain) [
      | inl left ↦ left
      | inr lacks ↦ absurd (no_text plain.0 act reply is none (subst IsAccepted plain.1 U) lacks)
    ]

    pub are_lined : (log : List E) (steps : List (acts.Act × acts.Reply)) → ArePlain see (bare_log log) steps → All (λ e. IsOfPlay seats e.act.act) log → AreReplies (bare_log log) → HaveLogLines names log
        → GiveNoHeaders (bare_log log) → AreUnrefused (entries_of (bare_log log) steps) → AreLined scene (line_of names) log (entries_of (bare_log log) steps)
    are_lined [] [] plain of are lines none U = tt
    are_lined [] (x ∷ xs) plain of are lines none U = absurd plain
    are_lined (e ∷ log) [] plain of are lines none U = absurd plain
    are_lined (e ∷ log) (x ∷ xs) plain of are lines none U = (
      by_said e.pass e.act.act e.reply.reply x (said_of names e.act.act e.reply.reply) refl
          (All-head (λ (y : E). IsOfPlay seats y.act.act) e log of) are.0 (All-head (λ (y : E). IfSome (line_of names y) IsLogLine) e log lines)
          (All-head (λ (y : Entry (Act S K C) (Reply S K C)). given_out y.reply ≡ None) (bare e) (bare_log log) none)
          (All-head (λ (y : LogEntry). is_request (step_of y) ≡ false → is_refused y.reply ≡ false) (log_entry (bare e) x) (entries_of (bare_log log) xs) U) plain.0,
      are_lined log xs plain.1
          (All-tail (λ (y : E). IsOfPlay seats y.act.act) e log of) are.1 (All-tail (λ (y : E). IfSome (line_of names y) IsLogLine) e log lines)
          (All-tail (λ (y : Entry (Act S K C) (Reply S K C)). given_out y.reply ≡ None) (bare e) (bare_log log) none)
          (All-tail (λ (y : LogEntry). is_request (step_of y) ≡ false → is_refused y.reply ≡ false) (log_entry (bare e) x) (entries_of (bare_log log) xs) U),
    )
