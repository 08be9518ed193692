-- A pass has no more calls than there are places.
use Rattle.std.proofs.Common.{◌≡◌, ℕ, suc, ◌+◌, ◌^◌, ◌<◌, ◌≤◌, ◌==◌, ◌∙◌, refl, ap, Bool, true, false, List, [], ◌∷◌, ◌++◌, length, arith, length-append}
use Rattle.turnstile.specs.declared.entry.Entry.{Entry}
use Rattle.turnstile.specs.declared.view.View.{View}
use Rattle.turnstile.specs.Entries.{entry, kept, own}
use Rattle.graph_acts.specs.declared.act.Act.{Act}
use Rattle.graph_acts.specs.declared.act.Reply.{Reply}
use Rattle.graph_acts.specs.Plain.{Sight}
use Rattle.board.specs.declared.asked.Asked.{Asked}
use Rattle.board.specs.declared.asked.Told.{Told}
use Rattle.board.specs.declared.watched.Watched.{Watched}
use Rattle.board.specs.Asking.{bare_log}
use Rattle.board.specs.Boards.{IsCalled}

module _ {A R : Type 0} where
  kept_le : (b : Bool) (e : Entry A R) (es : List (Entry A R)) → length (kept b e es) ≤ length es + 1
  kept_le true e es = omega arith
  kept_le false e es = omega arith

  own_le : (p : ℕ) (log : List (Entry A R)) → length (own p log) ≤ length log
  own_le p [] = omega arith
  own_le p (e ∷ es) = let a = kept_le (e.pass == p) e (own p es) in let b = own_le p es in omega (arith, a, b)

module _ {S K C : Type 0} where
  bare_length : (log : List (Entry (Asked S K C) (Told S K C))) → length (bare_log log) ≡ length log
  bare_length [] = refl
  bare_length (x ∷ xs) = ap suc (bare_length xs)

  pub called_few : (see : Sight S K C) (headers : Bool) (first : Watched S K C) (v w : View (Watched S K C) (Asked S K C) (Told S K C)) (act : Act S K C) (place : ℕ) (reply : Reply S K C)
      → IsCalled see headers first v act place reply w → length (bare_log w.mine) ≤ 2 ^ 50
  called_few see headers first v w act place reply Q =
      let e : Entry (Asked S K C) (Told S K C) = entry v.number (record { act = act; reader = Q.given }) (record { reply = reply; reader = Q.back }) in
      let mine : length w.mine ≤ length w.seen = let a = own_le v.number w.seen in let b : length (own v.number w.seen) ≡ length w.mine = ap length (Q.called).mine in omega (arith, a, b) in
      let seen : length w.seen ≡ length (Q.called).before + 1 = ap length (Q.called).is_seen ∙ length-append (Q.called).before (e ∷ []) in
      let bare = bare_length w.mine in
      let at = (Q.called).at_place in
      let in' = (Q.called).in_time in
      omega (arith, mine, seen, bare, at, in')
