-- What a pass has seen after its call, and after two.
use Rattle.std.proofs.Common.{◌≡◌, ℕ, zero, suc, ◌<◌, ◌∙◌, sym, ap, refl, Bool, append_assoc, length, slice_get, Some, List, [], ◌∷◌, ◌++◌, arith}
use Rattle.std.proofs.lemmas.Option.{slice_get_within}
use Rattle.turnstile.specs.declared.entry.Entry.{Entry}
use Rattle.turnstile.specs.declared.view.View.{View}
use Rattle.turnstile.specs.Entries.{entry}
use Rattle.graph_acts.specs.declared.act.Act.{Act}
use Rattle.graph_acts.specs.declared.act.Reply.{Reply}
use Rattle.graph_acts.specs.Plain.{Sight}
use Rattle.board.specs.declared.asked.Asked.{Asked}
use Rattle.board.specs.declared.asked.Told.{Told}
use Rattle.board.specs.declared.watched.Watched.{Watched}
use Rattle.board.specs.declared.pass.BoardPass.{BoardPass}
use Rattle.board.specs.Asking.{bare, bare_log}
use Rattle.board.specs.Boards.{IsCalled, own_calls, pass_view}
use Rattle.board.proofs.Bare.{bare_snoc}
use Rattle.board_uses.specs.Seeing.{MadeTwo}

at_end : {X : Type 0} (xs : List X) (x : X) → slice_get (xs ++ x ∷ []) (length xs) ≡ Some x
at_end [] x = refl
at_end (y ∷ ys) x = at_end ys x

still : {X : Type 0} (xs rest : List X) (i : ℕ) (x : X) → slice_get xs i ≡ Some x → slice_get (xs ++ rest) i ≡ Some x
still [] rest i x e = absurd cc
still (y ∷ ys) rest zero x e = e
still (y ∷ ys) rest (suc i) x e = still ys rest i x e

module _ {S K C : Type 0} where
  bare_length : (log : List (Entry (Asked S K C) (Told S K C))) → length (bare_log log) ≡ length log
  bare_length [] = refl
  bare_length (x ∷ xs) = ap suc (bare_length xs)

  bare_append : (xs ys : List (Entry (Asked S K C) (Told S K C))) → bare_log (xs ++ ys) ≡ bare_log xs ++ bare_log ys
  bare_append [] ys = refl
  bare_append (x ∷ xs) ys = ap (λ l. bare x ∷ l) (bare_append xs ys)

module _ {S K C : Type 0} (see : Sight S K C) (headers : Bool) (first : Watched S K C) (v : View (Watched S K C) (Asked S K C) (Told S K C)) (act : Act S K C) (place : ℕ) (reply : Reply S K C) (w : View (Watched S K C) (Asked S K C) (Told S K C))
    (Q : IsCalled see headers first v act place reply w) where
  abbrev whole : Entry (Asked S K C) (Told S K C)
  whole = entry v.number (record { act = act; reader = Q.given }) (record { reply = reply; reader = Q.back })

  pub own_more : bare_log w.mine ≡ bare_log v.mine ++ entry v.number act reply ∷ []
  own_more = ap bare_log Q.called.added ∙ bare_snoc v.mine whole

  seen_is : bare_log w.seen ≡ bare_log Q.called.before ++ entry v.number act reply ∷ []
  seen_is = ap bare_log Q.called.is_seen ∙ bare_snoc Q.called.before whole

  before_is : bare_log Q.called.before ≡ bare_log v.seen ++ bare_log Q.called.earlier.0
  before_is = ap bare_log (sym Q.called.earlier.1) ∙ bare_append v.seen Q.called.earlier.0

  pub seen_here : slice_get (bare_log w.seen) place ≡ Some (entry v.number act reply)
  seen_here =
      let n : place ≡ length (bare_log Q.called.before) = Q.called.at_place ∙ sym (bare_length Q.called.before) in
      (λ i. slice_get (seen_is i) (n i)) ∙ at_end (bare_log Q.called.before) (entry v.number act reply)

  pub seen_still : (i : ℕ) (x : Entry (Act S K C) (Reply S K C)) → slice_get (bare_log v.seen) i ≡ Some x → slice_get (bare_log w.seen) i ≡ Some x
  seen_still i x e =
      let there : slice_get (bare_log Q.called.before) i ≡ Some x = ap (λ l. slice_get l i) before_is ∙ still (bare_log v.seen) (bare_log Q.called.earlier.0) i x e in
      ap (λ l. slice_get l i) seen_is ∙ still (bare_log Q.called.before) (entry v.number act reply ∷ []) i x there

  pub seen_later : (i : ℕ) (x : Entry (Act S K C) (Reply S K C)) → slice_get (bare_log v.seen) i ≡ Some x → i < place
  seen_later i x e =
      let there : slice_get (bare_log Q.called.before) i ≡ Some x = ap (λ l. slice_get l i) before_is ∙ still (bare_log v.seen) (bare_log Q.called.earlier.0) i x e in
      let l : i < length (bare_log Q.called.before) = slice_get_within (bare_log Q.called.before) i x there in
      omega (arith, l, Q.called.at_place, bare_length Q.called.before)

module _ {S K C : Type 0} (see : Sight S K C) (headers : Bool) (first : Watched S K C) where
  pub made_two : (p q r : BoardPass S K C) (act act' : Act S K C) (reply reply' : Reply S K C) (place place' : ℕ) → (pass_view q).number ≡ (pass_view p).number
      → IsCalled see headers first (pass_view p) act place reply (pass_view q) → IsCalled see headers first (pass_view q) act' place' reply' (pass_view r) → MadeTwo p r place act reply place' act' reply'
  made_two p q r act act' reply reply' place place' same Q R =
      let e = entry (pass_view p).number act reply in
      let is : entry (pass_view q).number act' reply' ≡ entry (pass_view p).number act' reply' = ap (λ n. entry n act' reply') same in
      let here = seen_here see headers first (pass_view p) act place reply (pass_view q) Q in
      record {
        own = own_more see headers first (pass_view q) act' place' reply' (pass_view r) R
            ∙ ((λ i. own_more see headers first (pass_view p) act place reply (pass_view q) Q i ++ is i ∷ [])
            ∙ append_assoc (own_calls p) (e ∷ []) (entry (pass_view p).number act' reply' ∷ []));
        first_at = seen_still see headers first (pass_view q) act' place' reply' (pass_view r) R place e here;
        second_at = seen_here see headers first (pass_view q) act' place' reply' (pass_view r) R ∙ ap (λ x. Some x) is;
        order = seen_later see headers first (pass_view q) act' place' reply' (pass_view r) R place e here;
      }
