-- What a pass holds after its call.
use Rattle.std.proofs.Common.{◌≡◌, ℕ, ◌∙◌, ap, subst, nat_eq, Bool, [], ◌∷◌, ◌++◌}
use Rattle.il_machine.specs.World.{same_handle}
use Rattle.turnstile.specs.declared.view.View.{View}
use Rattle.turnstile.specs.Entries.{entry}
use Rattle.held_things.proofs.Lists.{held_snoc}
use Rattle.graph_acts.specs.declared.act.Act.{Act}
use Rattle.graph_acts.specs.declared.act.Reply.{Reply}
use Rattle.graph_acts.specs.Plain.{Sight}
use Rattle.graph_acts.specs.Replying.{IsReplyTo, AreReplies}
use Rattle.graph_acts.specs.Holding.{header_number, client_handle, header_given, client_gone, headers_held, clients_held, taken_in, client_out, work_come, work_gone, works_held}
use Rattle.graph_acts.specs.Working.{work_number}
use Rattle.board.specs.declared.asked.Asked.{Asked}
use Rattle.board.specs.declared.asked.Told.{Told}
use Rattle.board.specs.declared.watched.Watched.{Watched}
use Rattle.board.specs.Asking.{bare_log}
use Rattle.board.specs.Boards.{IsCalled, headers_after, clients_after, works_after}
use Rattle.board.proofs.Bare.{bare_snoc}
use Rattle.board.proofs.Owning.{replies_last}

module _ {S K C : Type 0} (see : Sight S K C) (headers : Bool) (first : Watched S K C) (v : View (Watched S K C) (Asked S K C) (Told S K C)) (act : Act S K C) (place : ℕ) (reply : Reply S K C) (w : View (Watched S K C) (Asked S K C) (Told S K C)) where
  module _ (Q : IsCalled see headers first v act place reply w) where
    added : bare_log w.mine ≡ bare_log v.mine ++ entry v.number act reply ∷ []
    added = ap bare_log Q.called.added ∙ bare_snoc v.mine (entry v.number (record { act = act; reader = Q.given }) (record { reply = reply; reader = Q.back }))

    pub headers_called : headers_held (bare_log w.mine) ≡ headers_after act reply (headers_held (bare_log v.mine))
    headers_called = ap headers_held added ∙ held_snoc header_number nat_eq taken_in header_given [] (bare_log v.mine) (entry v.number act reply)

    pub clients_called : clients_held see.progress (bare_log w.mine) ≡ clients_after see.progress act reply (clients_held see.progress (bare_log v.mine))
    clients_called = ap (clients_held see.progress) added ∙ held_snoc client_handle same_handle client_gone (client_out see.progress) [] (bare_log v.mine) (entry v.number act reply)

    pub works_called : works_held (bare_log w.mine) ≡ works_after act reply (works_held (bare_log v.mine))
    works_called = ap works_held added ∙ held_snoc work_number nat_eq work_gone work_come [] (bare_log v.mine) (entry v.number act reply)

    pub reply_called : IsReplyTo act reply
    reply_called =
        let e = entry v.number (record { act = act; reader = Q.given }) (record { reply = reply; reader = Q.back }) in
        replies_last (bare_log Q.called.before) (entry v.number act reply) (subst AreReplies (ap bare_log Q.called.is_seen ∙ bare_snoc Q.called.before e) Q.called.is_legal.replies)
