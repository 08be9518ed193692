-- What a pass has made after a row of calls, and after a visit.
use Rattle.std.proofs.Common.{◌≡◌, ℕ, ◌+◌, ◌<◌, ◌∙◌, sym, ap, subst, append_assoc, Bool, List, [], ◌∷◌, ◌++◌, length, arith}
use Rattle.std.proofs.lemmas.List.{append-nil}
use Rattle.omx_types.specs.declared.handle.Handle.{Handle}
use Rattle.turnstile.specs.declared.view.View.{View}
use Rattle.turnstile.specs.Entries.{Begins, entry}
use Rattle.turnstile.specs.Passes.{IsPastPlaces}
use Rattle.turnstile.specs.Rows.{InRow, no_more, one_more}
use Rattle.graph_acts.specs.declared.act.Act.{Act}
use Rattle.graph_acts.specs.declared.act.Reply.{Reply}
use Rattle.graph_acts.specs.Plain.{Sight}
use Rattle.board.specs.declared.asked.Asked.{Asked}
use Rattle.board.specs.declared.asked.Told.{Told}
use Rattle.board.specs.declared.watched.Watched.{Watched}
use Rattle.board.specs.declared.pass.BoardPass.{BoardPass}
use Rattle.board.specs.declared.row.ActRow.{ActRow}
use Rattle.board.specs.Asking.{bare_log}
use Rattle.board.specs.Boards.{pass_view}
use Rattle.board.specs.Histories.{Legal, MayAsk}
use Rattle.board.specs.Rows as rows
use Rattle.board.specs.Rows.{entries_of, acts_of, replies_of, place_of, AreCalled, AreRepliesTo, FrontIsCalled, StandTogether}
use Rattle.board.proofs.Bare.{bare_snoc}
use Rattle.board_uses.specs.declared.visiting.Visited.{Visited}
use Rattle.board_uses.specs.Visiting.{BreaksOff, IsVisited, visit_acts, visit_replies}

module _ {S K C : Type 0} (see : Sight S K C) (headers : Bool) (first : Watched S K C) where
  abbrev W : Type 0
  W = View (Watched S K C) (Asked S K C) (Told S K C)

  row_own : (place : ℕ) (v w : W) (asked : List (Asked S K C)) (told : List (Told S K C)) → InRow (Legal see) (MayAsk see headers) first place v asked told w
      → bare_log w.mine ≡ bare_log v.mine ++ entries_of v.number (acts_of asked) (replies_of told)
  row_own _ _ _ _ _ (no_more place v w same) = ap bare_log same.2 ∙ sym (append-nil (bare_log v.mine))
  row_own _ _ _ _ _ (one_more place v u w a t asked told c s row) =
      let added = ap bare_log c.added ∙ bare_snoc v.mine (entry v.number a t) in
      row_own (place + 1) u w asked told row
      ∙ (ap (λ l. l ++ entries_of u.number (acts_of asked) (replies_of told)) added
      ∙ (append_assoc (bare_log v.mine) (entry v.number a.act t.reply ∷ []) (entries_of u.number (acts_of asked) (replies_of told))
      ∙ ap (λ n. bare_log v.mine ++ (entry v.number a.act t.reply ∷ entries_of n (acts_of asked) (replies_of told))) s.0))

  -- the pass made the calls of the row, and no other
  pub called_own : (v w : W) (acts : List (Act S K C)) (place : ℕ) (replies : List (Reply S K C)) → AreCalled see headers first v acts place replies w → bare_log w.mine ≡ bare_log v.mine ++ entries_of v.number acts replies
  called_own v w acts place replies Q =
      row_own place v w Q.asked Q.told Q.row ∙ (λ i. bare_log v.mine ++ entries_of v.number (Q.are_acts i) (Q.are_replies i))

module _ {S K C : Type 0} where
  pub visit_replied : (h : Handle) (port : ℕ) (acts : List (Act S K C)) (replies : List (Reply S K C)) → acts ≡ visit_acts h port → AreRepliesTo acts replies → AreRepliesTo (visit_acts h port) replies
  visit_replied h port acts replies a are = subst (λ (l : List (Act S K C)). AreRepliesTo l replies) a are

module _ {S K C : Type 0} (see : Sight S K C) (headers : Bool) (first : Watched S K C) (h : Handle) (port : ℕ) (old mid new : BoardPass S K C) (acts : List (Act S K C)) (same : pass_view mid ≡ pass_view old) (a : acts ≡ visit_acts h port) where
  pub visited : (result : Visited S K) (place : ℕ) (replies : List (Reply S K C)) → replies ≡ visit_replies result → result.place ≡ place → AreCalled see headers first (pass_view mid) acts place replies (pass_view new)
      → (0 < length acts → StandTogether (pass_view mid) acts place replies (pass_view new)) → IsVisited h port result old new
  visited result place replies r p Q together =
      let many : length acts ≡ 6 = ap (λ (l : List (Act S K C)). length l) a in
      let T = together (omega (arith, many)) in
      record {
        own = called_own see headers first (pass_view mid) (pass_view new) acts place replies Q ∙ (λ i. bare_log (same i).mine ++ entries_of (same i).number (a i) (r i));
        together = record {
          before = T.before;
          at_place = p ∙ T.at_place;
          earlier = subst (λ (v : View (Watched S K C) (Asked S K C) (Told S K C)). Begins (bare_log v.seen) T.before) same T.earlier;
          seen = T.seen ∙ (λ i. T.before ++ entries_of (same i).number (a i) (r i));
        };
      }

  pub breaks_off : (row : ActRow S K C) → (0 < length (rows.acts row)) × IsPastPlaces (pass_view new).ticket × FrontIsCalled see headers first (pass_view mid) acts (place_of row) (rows.replies row) (rows.acts row) (pass_view new)
      → BreaksOff see headers first h port row old new
  breaks_off row B = record {
    past = B.1;
    left = B.0;
    front = subst (λ (v : View (Watched S K C) (Asked S K C) (Told S K C)). FrontIsCalled see headers first v (visit_acts h port) (place_of row) (rows.replies row) (rows.acts row) (pass_view new)) same
        (subst (λ (l : List (Act S K C)). FrontIsCalled see headers first (pass_view mid) l (place_of row) (rows.replies row) (rows.acts row) (pass_view new)) a B.2);
  }
