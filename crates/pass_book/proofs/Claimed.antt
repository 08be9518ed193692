-- The work that a claim gives is that of the component that was named.
use Rattle.std.proofs.Common.{◌≡◌, ℕ, Bool, List, [], ◌∷◌, ◌++◌, Option, Some, None, Ok, refl, sym, ◌∙◌, ap, subst}
use Rattle.omx_types.specs.declared.handle.Handle.{Handle}
use Rattle.il_machine.specs.Acts as acts
use Rattle.il_machine.specs.Answers.{plain}
use Rattle.il_machine.specs.Claims.{Claim, Claimed, ClaimedWork, Claims, WorkSeen, claim_idle}
use Rattle.il_machine.specs.Look.{look}
use Rattle.il_machine.specs.Run.{Step}
use Rattle.il_machine.specs.World.{Component, World, number_of}
use Rattle.history_laws.proofs.GivenHeaders.{resolved}
use Rattle.history_laws.proofs.WorkSteps.{IsIdle, claim_is_idle}
use Rattle.il_flow.specs.Works.{seen_work}
use Rattle.state_words.specs.Shown.{States}
use Rattle.turnstile.specs.declared.entry.Entry.{Entry}
use Rattle.turnstile.specs.declared.view.View.{View}
use Rattle.turnstile.specs.Entries.{entry}
use Rattle.graph_acts.specs.declared.act.Act.{Act}
use Rattle.graph_acts.specs.declared.act.Act.TheVariants as asks
use Rattle.graph_acts.specs.declared.act.Reply.{Reply}
use Rattle.graph_acts.specs.declared.act.Reply.TheVariants as replies
use Rattle.graph_acts.specs.declared.claimed.LentClaim.TheVariants as lent
use Rattle.graph_acts.specs.Plain.{Sight}
use Rattle.board.specs.declared.asked.Asked.{Asked}
use Rattle.board.specs.declared.asked.Told.{Told}
use Rattle.board.specs.declared.watched.Watched.{Watched}
use Rattle.board.specs.Asking.{ArePlain, IsPlain, bare_log}
use Rattle.board.specs.Boards.{IsCalled}
use Rattle.board.specs.Watching.{Shown, next, start}
use Rattle.board.proofs.Bare.{bare_snoc}
use Rattle.pass_book.specs.Books.{IsItsWork}

claims_number : (w : World) (i : ℕ) (c : Component) (o : Option Claimed) (x : WorkSeen) (v : World) → claim_idle (look w) c ≡ o → Claims o i c w (Ok (ClaimedWork x)) v → x.component ≡ number_of c
claims_number w i c (Some idle) x v e a =
    let b : ClaimedWork x ≡ idle = cc in
    absurd (subst IsIdle (sym b) (claim_is_idle (look w) c idle e))
claims_number w i c None x v e a = let b = a.0 in cc

claim_number : (w : World) (h : Handle) (x : WorkSeen) (v : World) → Claim w h (Ok (ClaimedWork x)) v → x.component ≡ h.generation
claim_number w h x v s =
    let y = resolved plain w v h (ClaimedWork x) (λ i c. Claims (claim_idle (look w) c) i c w (Ok (ClaimedWork x)) v) s in
    claims_number w y.0 y.1 (claim_idle (look w) y.1) x v refl y.3 ∙ (y.2).number

module _ {S K C : Type 0} (see : Sight S K C) where
  plain_last : (log : List (Entry (Act S K C) (Reply S K C))) (e : Entry (Act S K C) (Reply S K C)) (xs : List (acts.Act × acts.Reply)) (x : acts.Act × acts.Reply) → ArePlain see (log ++ e ∷ []) (xs ++ x ∷ []) → IsPlain see e x
  plain_last [] e [] x a = a.0
  plain_last [] e (y ∷ []) x a = absurd a.1
  plain_last [] e (y ∷ z ∷ ys) x a = absurd a.1
  plain_last (f ∷ []) e [] x a = absurd a.1
  plain_last (f ∷ g ∷ log) e [] x a = absurd a.1
  plain_last (f ∷ log) e (y ∷ ys) x a = plain_last log e ys x a.1

  -- the history's last entry was a step of the machine
  abbrev LastStep : Entry (Act S K C) (Reply S K C) → Type 0
  LastStep e = (x : acts.Act × acts.Reply) × IsPlain see e x × (mid : World) × (v : World) × Step mid x.0 x.1 v

  none_last : (log : List (Entry (Act S K C) (Reply S K C))) (e : Entry (Act S K C) (Reply S K C)) → ArePlain see (log ++ e ∷ []) [] → ⊥
  none_last [] e a = a
  none_last (f ∷ log) e a = a

  last_step : (handles : List Handle) (w : World) (at_first : List States) (xs : List (acts.Act × acts.Reply)) (v : World) (all : List States) (log : List (Entry (Act S K C) (Reply S K C))) (e : Entry (Act S K C) (Reply S K C))
      → Shown handles w at_first xs v all → ArePlain see (log ++ e ∷ []) xs → LastStep e
  last_step _ _ _ _ _ _ log e start a = absurd (none_last log e a)
  last_step _ _ _ _ _ _ log e (next xs mid old act reply v new before meets step seen) a = ((act, reply), plain_last log e xs (act, reply) a, mid, v, step)

  module _ (first : Watched S K C) (pass : ℕ) where
    its_work : (act : Act S K C) (reply : Reply S K C) → LastStep (entry pass act reply) → IsItsWork act reply
    its_work (asks.Claim h) (replies.Claim (Ok (lent.Work work))) s =
        let u = (s.1).0 in
        let step : Claim s.2 h (Ok (ClaimedWork (seen_work u.terms work))) s.3 = subst (λ (x : acts.Act × acts.Reply). Step s.2 x.0 x.1 s.3) (s.1).1 s.4 in
        claim_number s.2 h (seen_work u.terms work) s.3 step
    its_work _ _ s = tt

  pub called_work : (headers : Bool) (first : Watched S K C) (v : View (Watched S K C) (Asked S K C) (Told S K C)) (act : Act S K C) (place : ℕ) (reply : Reply S K C) (w : View (Watched S K C) (Asked S K C) (Told S K C))
      → IsCalled see headers first v act place reply w → IsItsWork act reply
  called_work headers first v act place reply w Q =
      let L = Q.called.is_legal in
      let e : Entry (Asked S K C) (Told S K C) = entry v.number (record { act = act; reader = Q.given }) (record { reply = reply; reader = Q.back }) in
      let R = L.worlds L.one.world L.one.stands in
      let a : ArePlain see (bare_log Q.called.before ++ entry v.number act reply ∷ []) R.acts = subst (λ l. ArePlain see l R.acts) (ap bare_log Q.called.is_seen ∙ bare_snoc Q.called.before e) R.plain in
      its_work first v.number act reply (last_step first.handles.items L.one.world _ R.acts R.world R.all (bare_log Q.called.before) (entry v.number act reply) R.shown a)
